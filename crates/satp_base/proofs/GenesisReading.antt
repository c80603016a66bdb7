-- What the lines of a genesis are read as.
use Rattle.std.proofs.Common.{◌≡◌, ℕ, Bool, true, false, not, List, [], ◌∷◌, ◌++◌, nat_eq, refl, ap, sym, subst, ◌∙◌}
use Rattle.std.specs.Prelude.{Option, Some, None, Result, Ok, Err, MatchOption, OnOk, codes, option_map}
use Rattle.std.specs.List.{list_all}
use Rattle.std.proofs.lemmas.Bool.{and_parts, and_from, ne_eqb}
use Rattle.satp_base.specs.Names.{is_name_byte}
use Rattle.std.proofs.lemmas.Cmp.{nat_list_eq_equiv}
use Rattle.std.specs.Cmp.Lexicographic.{same_text}
use lib.Pointwise.{pointwise}
use Rattle.satp_base.specs.GenesisText.{AcceptsLine, Adds, hold_text, line_text, part_text}
use Rattle.satp_base.specs.Founding.{Founding}
use Rattle.satp_base.specs.Lines.{lacks}
use Rattle.satp_base.specs.declared.amount.Amount.{Amount}
use Rattle.satp_base.specs.declared.genesis.Hold.{Hold}
use Rattle.satp_base.specs.declared.genesis.Line.{Line}
use Rattle.satp_base.specs.declared.genesis.Line.TheVariants as line
use Rattle.satp_base.specs.Values.{name_text}
use Rattle.satp_base.specs.declared.name.Name.{Name}
use Rattle.satp_base.proofs.Exact.{name_bytes}
use Rattle.satp_base.proofs.LineLemmas.{lacks_not, one_cut}

bytes_lack : (bs : List ℕ) → list_all is_name_byte bs ≡ true → lacks 32 bs ≡ true
bytes_lack [] h = refl
bytes_lack (b ∷ bs) h = let p = and_parts _ _ h in and_from _ _ (ap not (ne_eqb b 32 (other b p.0))) (bytes_lack bs p.1)
  where
    other : (b : ℕ) → is_name_byte b ≡ true → b ≡ 32 → ⊥
    other b is e = let bad : false ≡ true = subst (λ (x : ℕ). is_name_byte x ≡ true) e is in absurd cc

-- no space stands in a name
pub name_lacks : (name : Name) → lacks 32 (name_text name) ≡ true
name_lacks name = bytes_lack (name_text name) (name_bytes name)

-- a line that begins with a name is cut behind it
pub cut_name : (text field rest behind : List ℕ) (name : Name) → lacks 32 field ≡ true → text ≡ field ++ 32 ∷ rest → text ≡ name_text name ++ 32 ∷ behind → (field ≡ name_text name) × (rest ≡ behind)
cut_name text field rest behind name clean is e = one_cut 32 field (name_text name) rest behind clean (name_lacks name) (sym is ∙ e)

pub no_cut : (text field behind : List ℕ) (name : Name) → lacks 32 field ≡ true → text ≡ field → text ≡ name_text name ++ 32 ∷ behind → ⊥
no_cut text field behind name clean is e = lacks_not 32 (name_text name) behind (subst (λ x. lacks 32 x ≡ true) (sym is ∙ e) clean)

-- ---- what a result tells

pub on_some : {A : Type 0} (P : Type 0) (Q : A → Type 0) (o : Option A) (a : A) → o ≡ Some a → MatchOption o P Q → Q a
on_some P Q o a e h = subst (λ x. MatchOption x P Q) e h

pub not_both : {T E : Type 0} (r : Result T E) (t : T) (x : E) → r ≡ Ok t → r ≡ Err x → ⊥
not_both r t x e f = cc

pub same_ok : {T E : Type 0} (r : Result T E) (a b : T) → r ≡ Ok a → r ≡ Ok b → a ≡ b
same_ok r a b e f = cc

pub not_some : {T : Type 0} (o : Option T) (t : T) → o ≡ Some t → o ≡ None → ⊥
not_some o t e f = cc

pub same_some : {T : Type 0} (o : Option T) (a b : T) → o ≡ Some a → o ≡ Some b → a ≡ b
same_some o a b e f = cc

-- ---- lines

-- the first field of a line, and what stands behind it
abbrev pub Parts : Line → List ℕ → List ℕ → Type 0
Parts (line.Asset name cap) kind rest = (kind ≡ codes "asset") × (rest ≡ part_text (name, cap))
Parts (line.Hold hold) kind rest = (kind ≡ codes "hold") × (rest ≡ hold_text hold)

pub parts_of : (text kind rest : List ℕ) (parsed : Line) → lacks 32 kind ≡ true → text ≡ kind ++ 32 ∷ rest → text ≡ line_text parsed → Parts parsed kind rest
parts_of text kind rest (line.Asset name cap) clean is e = one_cut 32 kind (codes "asset") rest (part_text (name, cap)) clean refl (sym is ∙ e)
parts_of text kind rest (line.Hold hold) clean is e = one_cut 32 kind (codes "hold") rest (hold_text hold) clean refl (sym is ∙ e)

pub no_parts : (text kind : List ℕ) (parsed : Line) → lacks 32 kind ≡ true → text ≡ kind → text ≡ line_text parsed → ⊥
no_parts text kind (line.Asset name cap) clean is e = lacks_not 32 (codes "asset") (part_text (name, cap)) (subst (λ x. lacks 32 x ≡ true) (sym is ∙ e) clean)
no_parts text kind (line.Hold hold) clean is e = lacks_not 32 (codes "hold") (hold_text hold) (subst (λ x. lacks 32 x ≡ true) (sym is ∙ e) clean)

abbrev pub asset_of : Name × Amount → Line
asset_of part = line.Asset part.0 part.1

pub is_asset : (kind rest : List ℕ) (o : Option (Name × Amount)) (parsed : Line) → kind ≡ codes "asset" → ((part : Name × Amount) → rest ≡ part_text part → o ≡ Some part) → Parts parsed kind rest → option_map asset_of o ≡ Some parsed
is_asset kind rest o (line.Asset name cap) k complete p = ap (option_map asset_of) (complete (name, cap) p.1)
is_asset kind rest o (line.Hold hold) k complete p = absurd (hold_no_asset (sym p.0 ∙ k))
  where
    hold_no_asset : codes "hold" ≡ codes "asset" → ⊥
    hold_no_asset e = cc

pub is_hold : (kind rest : List ℕ) (o : Option Hold) (parsed : Line) → kind ≡ codes "hold" → ((hold : Hold) → rest ≡ hold_text hold → o ≡ Some hold) → Parts parsed kind rest → option_map line.Hold o ≡ Some parsed
is_hold kind rest o (line.Asset name cap) k complete p = absurd (asset_no_hold (sym p.0 ∙ k))
  where
    asset_no_hold : codes "asset" ≡ codes "hold" → ⊥
    asset_no_hold e = cc
is_hold kind rest o (line.Hold hold) k complete p = ap (option_map line.Hold) (complete hold p.1)

pub is_neither : (kind rest : List ℕ) (parsed : Line) → pointwise nat_eq kind (codes "asset") ≡ false → pointwise nat_eq kind (codes "hold") ≡ false → Parts parsed kind rest → ⊥
is_neither kind rest (line.Asset name cap) a h p = let bad : true ≡ false = sym (nat_list_eq_equiv.refl (codes "asset")) ∙ ap (λ x. pointwise nat_eq x (codes "asset")) (sym p.0) ∙ a in absurd cc
is_neither kind rest (line.Hold hold) a h p = let bad : true ≡ false = sym (nat_list_eq_equiv.refl (codes "hold")) ∙ ap (λ x. pointwise nat_eq x (codes "hold")) (sym p.0) ∙ h in absurd cc

pub same_kind : (kind word shown : List ℕ) (t : Bool) → t ≡ pointwise nat_eq kind shown → shown ≡ word → t ≡ true → kind ≡ word
same_kind kind word shown t e is h = same_text kind word (sym h ∙ e ∙ ap (pointwise nat_eq kind) is)

pub other_kind : (kind word shown : List ℕ) (t : Bool) → t ≡ pointwise nat_eq kind shown → shown ≡ word → t ≡ false → pointwise nat_eq kind word ≡ false
other_kind kind word shown t e is h = sym (ap (pointwise nat_eq kind) is) ∙ sym e ∙ h

pub on_ok : {T E : Type 0} (r : Result T E) (P Q : Type 0) → (P → Q) → OnOk r P → OnOk r Q
on_ok (Ok t) P Q f h = f h
on_ok (Err e) P Q f h = tt

-- a line that was read so is accepted where what it adds may be added, and refused where it may not
pub accepts : (old new : Founding) (text : List ℕ) (parsed shown : Line) → shown ≡ parsed → text ≡ line_text shown → Adds old parsed new → AcceptsLine old text new
accepts old new text parsed shown e is a = (parsed, is ∙ ap line_text e, a)

pub refuses : (old : Founding) (text : List ℕ) (parsed shown : Line) → shown ≡ parsed → ((other : Line) → text ≡ line_text other → Some shown ≡ Some other) → ((new : Founding) → ¬ Adds old parsed new) → (new : Founding) → ¬ AcceptsLine old text new
refuses old text parsed shown e complete never new a = never new (subst (λ x. Adds old x new) (same_some (Some shown) a.0 parsed (complete a.0 a.1) (ap Some e)) a.2)

pub refuses_all : (old : Founding) (text : List ℕ) → ((other : Line) → text ≡ line_text other → None ≡ Some other) → (new : Founding) → ¬ AcceptsLine old text new
refuses_all old text complete new a = not_some (Some a.0) a.0 refl (sym (complete a.0 a.1))
