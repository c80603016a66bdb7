-- A text is that of one line at most, and adds one thing at most to a schedule.
use Rattle.std.proofs.Common.{◌≡◌, ℕ, true, List, [], ◌∷◌, ◌++◌, decimal, nat_eq, nat_le, cond, refl, ap, sym, subst, ◌∙◌, arith}
use Rattle.std.specs.Prelude.{codes}
use lib.Pointwise.{pointwise}
use Rattle.std.proofs.lemmas.Bool.{and_parts, leb-true}
use Rattle.std.proofs.lemmas.Fmt.{decimal_injective}
use Rattle.satp_base.specs.Numbers.{greatest_number}
use Rattle.satp_base.specs.Values.{session_text}
use Rattle.satp_base.specs.declared.amount.Amount.{Amount}
use Rattle.satp_base.specs.declared.name.Name.{Name}
use Rattle.satp_base.specs.declared.session.SessionId.{SessionId}
use Rattle.satp_base.proofs.Exact.{same_amount_text, same_session_text, same_text}
use Rattle.satp_schedule.specs.Fields.{cut_fields}
use Rattle.satp_schedule.specs.Lines.{AddsLine, fields_of, has_form, is_count, line_text, side_text}
use Rattle.satp_schedule.specs.Verbs.{verb_of}
use Rattle.satp_schedule.specs.declared.line.Side.{Side}
use Rattle.satp_schedule.specs.declared.line.Side.TheVariants.{A, B}
use Rattle.satp_schedule.specs.declared.line.Line.{Line}
use Rattle.satp_schedule.specs.declared.line.Line.TheVariants as line
use Rattle.satp_schedule.specs.declared.verb.Verb.{Verb}
use Rattle.satp_schedule.specs.declared.verb.Verb.TheVariants.{Start, Resume, Recover, Abort, Deliver, Stop, Fail, Lose, Twice}
use Rattle.satp_schedule.proofs.FieldLemmas.{fields_of_line}
use Rattle.satp_schedule.proofs.VerbLemmas.{head_same, one_sort, tail_same}

-- ---- fields of one text are one

abbrev word_side : List ℕ → Side
word_side text = cond (pointwise nat_eq text (codes "A")) A B

word_is : (side : Side) → word_side (side_text side) ≡ side
word_is A = refl
word_is B = refl

same_side : (s t : Side) → side_text s ≡ side_text t → s ≡ t
same_side s t e = sym (word_is s) ∙ ap word_side e ∙ word_is t

same_pick : (m n : ℕ) → nat_le m greatest_number ≡ true → nat_le n greatest_number ≡ true → decimal m ≡ decimal n → m ≡ n
same_pick m n p q e = decimal_injective m n (omega (arith, leb-true m greatest_number p)) (omega (arith, leb-true n greatest_number q)) e

same_count : (m n : ℕ) → is_count m ≡ true → is_count n ≡ true → decimal m ≡ decimal n → m ≡ n
same_count m n p q e = same_pick m n (and_parts _ _ p).1 (and_parts _ _ q).1 e

-- ---- lines of one sort

-- what a line of that sort says
abbrev Said : Verb → Type 0
Said Start = Side × ℕ × Name × Amount × Name × Name
Said Resume = Side × SessionId
Said Recover = Side × SessionId
Said Abort = Side × SessionId
Said Deliver = Side × ℕ
Said Stop = Side × ℕ × ℕ
Said Fail = Side × ℕ
Said Lose = ℕ
Said Twice = ℕ

abbrev line_of : (verb : Verb) → Said verb → Line
line_of Start s = line.Start s.0 s.1 s.2 s.3 s.4 s.5
line_of Resume s = line.Resume s.0 s.1
line_of Recover s = line.Recover s.0 s.1
line_of Abort s = line.Abort s.0 s.1
line_of Deliver s = line.Deliver s.0 s.1
line_of Stop s = line.Stop s.0 s.1 s.2
line_of Fail s = line.Fail s.0 s.1
line_of Lose s = line.Lose s
line_of Twice s = line.Twice s

record Says (verb : Verb) (l : Line) : Type 0 where
  pub said : Said verb
  pub is : line_of verb said ≡ l

says : (l : Line) → Says (verb_of l) l
says (line.Start side number asset amount originator beneficiary) = record { said = (side, number, asset, amount, originator, beneficiary); is = refl }
says (line.Resume side session) = record { said = (side, session); is = refl }
says (line.Recover side session) = record { said = (side, session); is = refl }
says (line.Abort side session) = record { said = (side, session); is = refl }
says (line.Deliver side n) = record { said = (side, n); is = refl }
says (line.Stop side event pick) = record { said = (side, event, pick); is = refl }
says (line.Fail side call) = record { said = (side, call); is = refl }
says (line.Lose n) = record { said = n; is = refl }
says (line.Twice n) = record { said = n; is = refl }

one_session : (s t : Side × SessionId) (xs ys : List (List ℕ)) → side_text s.0 ∷ session_text s.1 ∷ xs ≡ side_text t.0 ∷ session_text t.1 ∷ ys → s ≡ t
one_session s t xs ys e =
    let side = same_side s.0 t.0 (head_same e) in
    let session = same_session_text s.1 t.1 (head_same (tail_same e)) in
    λ i. (side i, session i)

one_count : (s t : Side × ℕ) (xs ys : List (List ℕ)) → is_count s.1 ≡ true → is_count t.1 ≡ true → side_text s.0 ∷ decimal s.1 ∷ xs ≡ side_text t.0 ∷ decimal t.1 ∷ ys → s ≡ t
one_count s t xs ys f g e =
    let side = same_side s.0 t.0 (head_same e) in
    let n = same_count s.1 t.1 f g (head_same (tail_same e)) in
    λ i. (side i, n i)

one_said : (verb : Verb) (s t : Said verb) → has_form (line_of verb s) ≡ true → has_form (line_of verb t) ≡ true → fields_of (line_of verb s) ≡ fields_of (line_of verb t) → s ≡ t
one_said Start s t f g e =
    let rest = tail_same e in
    let first = one_count (s.0, s.1) (t.0, t.1) _ _ f g rest in
    let asset_on = tail_same (tail_same rest) in
    let amount_on = tail_same asset_on in
    let asset = same_text s.2 t.2 (head_same asset_on) in
    let amount = same_amount_text s.3 t.3 (head_same amount_on) in
    let originator = same_text s.4 t.4 (head_same (tail_same amount_on)) in
    let beneficiary = same_text s.5 t.5 (head_same (tail_same (tail_same amount_on))) in
    λ i. ((first i).0, (first i).1, asset i, amount i, originator i, beneficiary i)
one_said Resume s t f g e = one_session s t [] [] (tail_same e)
one_said Recover s t f g e = one_session s t [] [] (tail_same e)
one_said Abort s t f g e = one_session s t [] [] (tail_same e)
one_said Deliver s t f g e = one_count s t [] [] f g (tail_same e)
one_said Stop s t f g e =
    let p = and_parts _ _ f in
    let q = and_parts _ _ g in
    let rest = tail_same e in
    let first = one_count (s.0, s.1) (t.0, t.1) _ _ p.0 q.0 rest in
    let pick = same_pick s.2 t.2 p.1 q.1 (head_same (tail_same (tail_same rest))) in
    λ i. ((first i).0, (first i).1, pick i)
one_said Fail s t f g e = one_count s t [] [] f g (tail_same e)
one_said Lose s t f g e = same_count s t f g (head_same (tail_same e))
one_said Twice s t f g e = same_count s t f g (head_same (tail_same e))

-- ---- lines

one_line : (k l : Line) → has_form k ≡ true → has_form l ≡ true → line_text k ≡ line_text l → k ≡ l
one_line k l f g e =
    let fields : fields_of k ≡ fields_of l = sym (fields_of_line k f) ∙ ap cut_fields e ∙ fields_of_line l g in
    let s = says k in
    let t = subst (λ verb. Says verb l) (sym (one_sort k l fields)) (says l) in
    let formed_s = ap has_form s.is ∙ f in
    let formed_t = ap has_form t.is ∙ g in
    sym s.is ∙ ap (line_of (verb_of k)) (one_said (verb_of k) s.said t.said formed_s formed_t (ap fields_of s.is ∙ fields ∙ sym (ap fields_of t.is))) ∙ t.is

pub one_added : (before : List Line) (text : List ℕ) (a b : List Line) → AddsLine before text a → AddsLine before text b → a ≡ b
one_added before text a b p q = p.added ∙ ap (λ l. before ++ l ∷ []) (one_line p.line q.line p.formed q.formed (sym p.written ∙ q.written)) ∙ sym q.added
