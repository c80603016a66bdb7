-- The fields of a text, and of a line's text.
use Rattle.std.proofs.Common.{◌≡◌, ◌≢◌, ℕ, ◌<◌, ◌^◌, ◌==◌, Bool, true, false, not, List, [], ◌∷◌, ◌++◌, decimal, nat_le, length, Some, None, Option, Bor, refl, ap, sym, subst, ◌∙◌, arith}
use Rattle.std.specs.Prelude.{codes, MatchOption, MatchBool}
use Rattle.std.specs.Option.{is_some}
use Rattle.std.specs.List.{list_all, slice_split, onto_first, join_with_byte}
use Rattle.std.proofs.lemmas.Bool.{and_parts, and_from, ne_eqb, leb-true}
use Rattle.std.proofs.lemmas.List.Splits.{slice_split-cons_yes, slice_split-cons_no, length-slice_split, join_with_byte-slice_split}
use Rattle.satp_base.specs.Lines.{lacks}
use Rattle.satp_base.specs.Numbers.{greatest_number, is_digit}
use Rattle.satp_base.specs.Values.{name_text, amount_text, session_text}
use Rattle.satp_base.specs.declared.amount.Amount.{Amount}
use Rattle.satp_base.specs.declared.name.Name.{Name}
use Rattle.satp_base.specs.declared.session.SessionId.{SessionId}
use Rattle.satp_base.proofs.Decimals.{decimal_digits}
use Rattle.satp_base.proofs.GenesisReading.{name_lacks}
use Rattle.satp_schedule.specs.Fields.{cut_fields, fields_in}
use Rattle.satp_schedule.specs.Lines.{fields_of, has_form, is_count, line_text, side_text}
use Rattle.satp_schedule.specs.declared.line.Side.{Side}
use Rattle.satp_schedule.specs.declared.line.Side.TheVariants.{A, B}
use Rattle.satp_schedule.specs.declared.line.Line.{Line}
use Rattle.satp_schedule.specs.declared.line.Line.TheVariants.{Start, Resume, Recover, Abort, Deliver, Stop, Fail, Lose, Twice}

abbrev is_space : ℕ → Bool
is_space b = b == 32

no_space : (b : ℕ) (t : Bool) → (b == 32) ≡ t → not t ≡ true → (b == 32) ≡ false
no_space b true is h = absurd cc
no_space b false is h = is

space : (32 == 32) ≡ true
space = refl

-- the first field is cut off at the first space
split_more : (field rest : List ℕ) → lacks 32 field ≡ true → slice_split is_space (field ++ 32 ∷ rest) ≡ field ∷ slice_split is_space rest
split_more [] rest clean = slice_split-cons_yes is_space 32 rest space
split_more (b ∷ field) rest clean =
    let p = and_parts _ _ clean in
    slice_split-cons_no is_space b (field ++ 32 ∷ rest) (no_space b (b == 32) refl p.0) ∙ ap (onto_first b) (split_more field rest p.1)

split_last : (field : List ℕ) → lacks 32 field ≡ true → slice_split is_space field ≡ field ∷ []
split_last [] clean = refl
split_last (b ∷ field) clean = let p = and_parts _ _ clean in slice_split-cons_no is_space b field (no_space b (b == 32) refl p.0) ∙ ap (onto_first b) (split_last field p.1)

pub cut_more : (text field rest : List ℕ) → lacks 32 field ≡ true → text ≡ field ++ 32 ∷ rest → cut_fields text ≡ field ∷ cut_fields rest
unfolding cut_fields
cut_more text field rest clean is = ap (slice_split is_space) is ∙ split_more field rest clean

pub cut_last : (text field : List ℕ) → lacks 32 field ≡ true → text ≡ field → cut_fields text ≡ field ∷ []
unfolding cut_fields
cut_last text field clean is = ap (slice_split is_space) is ∙ split_last field clean

-- a text is its fields, joined
pub joined : (text : List ℕ) → join_with_byte 32 (cut_fields text) ≡ text
unfolding cut_fields
joined text = join_with_byte-slice_split 32 text

pub some_field : (text : List ℕ) → cut_fields text ≢ []
unfolding cut_fields
some_field text e = let long = length-slice_split is_space text in let none : length (slice_split is_space text) ≡ 0 = ap length e in absurd (omega (arith, long, none))

-- the next field, and what is left behind it
pub next_field : (fields : List (List ℕ)) (rest behind : Option (Bor (List ℕ))) (text field : Bor (List ℕ)) → fields_in rest ≡ fields → rest ≡ Some text → lacks 32 field.now ≡ true
    → MatchOption behind (text.now ≡ field.now) (λ r. text.now ≡ field.now ++ 32 ∷ r.now) → fields ≡ field.now ∷ fields_in behind
next_field fields rest None text field view some clean is = sym view ∙ ap fields_in some ∙ cut_last text.now field.now clean is
next_field fields rest (Some r) text field view some clean is = sym view ∙ ap fields_in some ∙ cut_more text.now field.now r.now clean is

pub tells_empty : (rest : Option (Bor (List ℕ))) (fields : List (List ℕ)) (b : Bool) → is_some rest ≡ not b → fields_in rest ≡ fields → MatchBool b (fields ≡ []) (fields ≢ [])
tells_empty None fields true e view = sym view
tells_empty None fields false e view = absurd (let bad : false ≡ true = e in cc)
tells_empty (Some text) fields true e view = absurd (let bad : true ≡ false = e in cc)
tells_empty (Some text) fields false e view = λ none. some_field text.now (view ∙ none)

-- ---- no field of a line has a space

abbrev are_clean : List (List ℕ) → Bool
are_clean fields = list_all (λ field. lacks 32 field) fields

-- fields without a space are those of their joined text
parted : (field : List ℕ) (fields : List (List ℕ)) → are_clean (field ∷ fields) ≡ true → cut_fields (join_with_byte 32 (field ∷ fields)) ≡ field ∷ fields
parted field [] clean = cut_last field field (and_parts _ _ clean).0 refl
parted field (next ∷ fields) clean =
    let p = and_parts _ _ clean in
    cut_more _ field (join_with_byte 32 (next ∷ fields)) p.0 refl ∙ ap (λ fs. field ∷ fs) (parted next fields p.1)

digits_lack : (bs : List ℕ) → list_all is_digit bs ≡ true → lacks 32 bs ≡ true
digits_lack [] h = refl
digits_lack (b ∷ bs) h = let p = and_parts _ _ h in and_from _ _ (ap not (ne_eqb b 32 (other b p.0))) (digits_lack bs p.1)
  where
    other : (b : ℕ) → is_digit b ≡ true → b ≡ 32 → ⊥
    other b is e = let bad : false ≡ true = subst (λ (x : ℕ). is_digit x ≡ true) e is in absurd cc

number_lacks : (n : ℕ) → n < 2 ^ 64 → lacks 32 (decimal n) ≡ true
number_lacks n small = digits_lack (decimal n) (decimal_digits n small)

pick_lacks : (n : ℕ) → nat_le n greatest_number ≡ true → lacks 32 (decimal n) ≡ true
pick_lacks n h = number_lacks n (omega (arith, leb-true n greatest_number h))

count_lacks : (n : ℕ) → is_count n ≡ true → lacks 32 (decimal n) ≡ true
count_lacks n h = pick_lacks n (and_parts _ _ h).1

side_lacks : (side : Side) → lacks 32 (side_text side) ≡ true
side_lacks A = refl
side_lacks B = refl

amount_lacks : (amount : Amount) → lacks 32 (amount_text amount) ≡ true
amount_lacks amount = number_lacks amount.number (omega (arith, amount.high))

behind_lacks : (xs ys : List ℕ) → lacks 32 xs ≡ true → lacks 32 ys ≡ true → lacks 32 (xs ++ 46 ∷ ys) ≡ true
behind_lacks [] ys h k = k
behind_lacks (x ∷ xs) ys h k = let p = and_parts _ _ h in and_from _ _ p.0 (behind_lacks xs ys p.1 k)

session_lacks : (session : SessionId) → lacks 32 (session_text session) ≡ true
session_lacks session = behind_lacks (name_text session.gateway) (decimal session.number) (name_lacks session.gateway) (number_lacks session.number (omega (arith, session.high)))

record Clean (fields : List (List ℕ)) : Type 0 where
  pub is : are_clean fields ≡ true

record CleanField (field : List ℕ) : Type 0 where
  pub is : lacks 32 field ≡ true

none : Clean []
none = record { is = refl }

behind : {field : List ℕ} {fields : List (List ℕ)} → CleanField field → Clean fields → Clean (field ∷ fields)
behind f fs = record { is = and_from _ _ f.is fs.is }

side_is : (side : Side) → CleanField (side_text side)
side_is side = record { is = side_lacks side }

count_is : (n : ℕ) → is_count n ≡ true → CleanField (decimal n)
count_is n h = record { is = count_lacks n h }

pick_is : (n : ℕ) → nat_le n greatest_number ≡ true → CleanField (decimal n)
pick_is n h = record { is = pick_lacks n h }

name_is : (name : Name) → CleanField (name_text name)
name_is name = record { is = name_lacks name }

amount_is : (amount : Amount) → CleanField (amount_text amount)
amount_is amount = record { is = amount_lacks amount }

session_is : (session : SessionId) → CleanField (session_text session)
session_is session = record { is = session_lacks session }

with_word : (word : List ℕ) (fields : List (List ℕ)) → lacks 32 word ≡ true → Clean fields → cut_fields (join_with_byte 32 (word ∷ fields)) ≡ word ∷ fields
with_word word fields clean h = parted word fields (and_from _ _ clean h.is)

-- a line's fields are those of its text
pub fields_of_line : (line : Line) → has_form line ≡ true → cut_fields (line_text line) ≡ fields_of line
fields_of_line (Start side number asset amount originator beneficiary) h =
    with_word (codes "start") _ refl (behind (side_is side) (behind (count_is number h) (behind (name_is asset) (behind (amount_is amount) (behind (name_is originator) (behind (name_is beneficiary) none))))))
fields_of_line (Resume side session) h = with_word (codes "resume") _ refl (behind (side_is side) (behind (session_is session) none))
fields_of_line (Recover side session) h = with_word (codes "recover") _ refl (behind (side_is side) (behind (session_is session) none))
fields_of_line (Abort side session) h = with_word (codes "abort") _ refl (behind (side_is side) (behind (session_is session) none))
fields_of_line (Deliver side n) h = with_word (codes "deliver") _ refl (behind (side_is side) (behind (count_is n h) none))
fields_of_line (Stop side event pick) h = let p = and_parts _ _ h in with_word (codes "stop") _ refl (behind (side_is side) (behind (count_is event p.0) (behind (pick_is pick p.1) none)))
fields_of_line (Fail side call) h = with_word (codes "fail") _ refl (behind (side_is side) (behind (count_is call h) none))
fields_of_line (Lose n) h = with_word (codes "lose") _ refl (behind (count_is n h) none)
fields_of_line (Twice n) h = with_word (codes "twice") _ refl (behind (count_is n h) none)
