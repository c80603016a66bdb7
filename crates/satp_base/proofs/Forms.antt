-- Texts of a few bytes of one form, and the bytes with zeros behind that hold them.
use Rattle.std.proofs.Common.{◌≡◌, ℕ, zero, suc, ◌-◌, ◌≤◌, ◌==◌, Bool, true, false, cond, nat_lt, List, [], ◌∷◌, ◌++◌, length, take, drop, Option, Some, None, option_map, IsTrue, refl, ap, sym, ◌∙◌, arith, length-append, length-drop, length-take}
use Rattle.std.specs.Prelude.{replicate}
use Rattle.std.specs.List.{list_all}
use Rattle.std.proofs.lemmas.Bool.{and_parts, and_from, le-leb, leb-true, eqb-true, eqb-false, eq-eqb, ne_eqb, le-ltb, ltb-false}
use Rattle.std.proofs.lemmas.List.{take-append-drop}
use Rattle.std.proofs.Math.Seq.{take-append_seam, drop-append_seam}
use Rattle.satp_base.specs.Numbers.{first_other}
use Rattle.satp_base.specs.Names.{is_form, holds_form}
use Rattle.satp_base.specs.Faults.{form_fault, fault_by}
use Rattle.satp_base.specs.declared.fault.NameFault.{NameFault}
use Rattle.satp_base.specs.declared.fault.NameFault.TheVariants as fault
use Rattle.satp_base.proofs.ReadLemmas.{none_other, other_none}

-- ---- a text without fault has the form, and the other way round

pub record HasForm (most : ℕ) (is_good : ℕ → Bool) (text : List ℕ) : Type 0 where
  pub some : 1 ≤ length text
  pub short : length text ≤ most
  pub bytes : list_all is_good text ≡ true

pub form_parts : (most : ℕ) (is_good : ℕ → Bool) (text : List ℕ) → is_form most is_good text ≡ true → HasForm most is_good text
form_parts most is_good text e =
    let p = and_parts _ _ e in
    let q = and_parts _ _ p.0 in
    record { some = leb-true _ _ q.0; short = leb-true _ _ q.1; bytes = p.1 }

pub form_from : (most : ℕ) (is_good : ℕ → Bool) (text : List ℕ) → HasForm most is_good text → is_form most is_good text ≡ true
form_from most is_good text h = and_from _ _ (and_from _ _ (le-leb _ _ h.some) (le-leb _ _ h.short)) h.bytes

pub no_form_fault : (most : ℕ) (is_good : ℕ → Bool) (text : List ℕ) → is_form most is_good text ≡ true → form_fault most is_good text ≡ None
no_form_fault most is_good text e =
    let h = form_parts most is_good text e in
    let some : (length text == 0) ≡ false = ne_eqb _ _ (λ e. omega (arith, h.some)) in
    rw (some, le-ltb most (length text) h.short, other_none is_good text h.bytes) refl

pub record Faultless (most count : ℕ) (other : Option ℕ) : Type 0 where
  pub some : 1 ≤ count
  pub short : count ≤ most
  pub none : other ≡ None

faultless_at : (most count : ℕ) (other : Option ℕ) (a b : Bool) → (count == 0) ≡ a → nat_lt most count ≡ b
    → cond a (Some fault.Empty) (cond b (Some (fault.Long count)) (option_map fault.BadByte other)) ≡ None → Faultless most count other
faultless_at most count other true b p q e = absurd cc
faultless_at most count other false true p q e = absurd cc
faultless_at most count None false false p q e = record { some = let ne = eqb-false _ _ p in omega arith; short = ltb-false _ _ q; none = refl }
faultless_at most count (Some at) false false p q e = absurd cc

pub faultless : (most count : ℕ) (other : Option ℕ) → fault_by most count other ≡ None → Faultless most count other
faultless most count other e = faultless_at most count other (count == 0) (nat_lt most count) refl refl e

pub form_of : (most : ℕ) (is_good : ℕ → Bool) (text : List ℕ) → form_fault most is_good text ≡ None → is_form most is_good text ≡ true
form_of most is_good text e =
    let f = faultless most (length text) (first_other is_good text) e in
    form_from most is_good text (record { some = f.some; short = f.short; bytes = none_other is_good text f.none })

-- ---- what the bytes hold

pub record Holds (most : ℕ) (is_good : ℕ → Bool) (count : ℕ) (bytes : List ℕ) : Type 0 where
  pub long : length bytes ≡ most
  pub short : count ≤ most
  pub form : is_form most is_good (take count bytes) ≡ true
  pub zeros : list_all (λ b. b == 0) (drop count bytes) ≡ true

pub held : (most : ℕ) (is_good : ℕ → Bool) (count : ℕ) (bytes : List ℕ) → IsTrue (holds_form most is_good count bytes) → Holds most is_good count bytes
held most is_good count bytes e =
    let p = and_parts _ _ e in
    let q = and_parts _ _ p.0 in
    let r = and_parts _ _ q.0 in
    record { long = eqb-true _ _ r.0; short = leb-true _ _ r.1; form = q.1; zeros = p.1 }

all_zeros : (xs : List ℕ) → list_all (λ b. b == 0) xs ≡ true → xs ≡ replicate (length xs) 0
all_zeros [] e = refl
all_zeros (x ∷ xs) e = let p = and_parts _ _ e in rw (eqb-true x 0 p.0) (ap (λ ys. 0 ∷ ys) (all_zeros xs p.1))

zeros_left : (n k : ℕ) → list_all (λ b. b == 0) (drop k (replicate n 0)) ≡ true
zeros_left zero zero = refl
zeros_left zero (suc k) = refl
zeros_left (suc n) zero = zeros_left n zero
zeros_left (suc n) (suc k) = zeros_left n k

-- a text of the form, written over zeros
pub holds_read : (most : ℕ) (is_good : ℕ → Bool) (text : List ℕ) → form_fault most is_good text ≡ None → IsTrue (holds_form most is_good (length text) (text ++ drop (length text) (replicate most 0)))
holds_read most is_good text e =
    let form = form_of most is_good text e in
    let h = form_parts most is_good text form in
    let zeros : List ℕ = replicate most 0 in
    let rest = drop (length text) zeros in
    let long : (length (text ++ rest) == most) ≡ true = eq-eqb _ _ (omega (arith, h.short, length-append text rest, length-drop (length text) zeros, length-replicate most)) in
    rw (take-append_seam text rest, drop-append_seam text rest)
    (and_from _ _ (and_from _ _ (and_from _ _ long (le-leb _ _ h.short)) form) (zeros_left most (length text)))
  where
    length-replicate : (n : ℕ) → let zeros : List ℕ = replicate n 0 in length zeros ≡ n
    length-replicate zero = refl
    length-replicate (suc n) = ap suc (length-replicate n)

-- the bytes are the text, and zeros
filled : (most : ℕ) (is_good : ℕ → Bool) (count : ℕ) (bytes : List ℕ) → Holds most is_good count bytes → bytes ≡ take count bytes ++ replicate (most - count) 0
filled most is_good count bytes h =
    let rest : length (drop count bytes) ≡ most - count = omega (arith, h.long, length-drop {A = ℕ} count bytes) in
    sym (take-append-drop count bytes) ∙ ap (λ xs. take count bytes ++ xs) (all_zeros _ h.zeros ∙ ap (λ k. replicate k 0) rest)

-- what holds the same text is the same
pub same_held : (most : ℕ) (is_good : ℕ → Bool) (m : ℕ) (xs : List ℕ) (n : ℕ) (ys : List ℕ) → Holds most is_good m xs → Holds most is_good n ys → take m xs ≡ take n ys → (xs ≡ ys) × (m ≡ n)
same_held most is_good m xs n ys h i e =
    let count : m ≡ n = omega (arith, h.long, h.short, i.long, i.short, length-take {A = ℕ} m xs, length-take {A = ℕ} n ys, ap (length {A = ℕ}) e) in
    (filled most is_good m xs h ∙ ap (λ zs. zs ++ replicate (most - m) 0) e ∙ ap (λ k. take n ys ++ replicate (most - k) 0) count ∙ sym (filled most is_good n ys i), count)

-- ---- what a reader has found

-- the fault that it computed is the text's
pub fault_found : (most : ℕ) (is_good : ℕ → Bool) (text : List ℕ) (other : Option ℕ) (r : Option NameFault) → other ≡ first_other is_good text → r ≡ fault_by most (length text) other → r ≡ form_fault most is_good text
fault_found most is_good text other r e p = p ∙ ap (fault_by most (length text)) e

pub not_form : (most : ℕ) (is_good : ℕ → Bool) (text : List ℕ) (f : NameFault) → form_fault most is_good text ≡ Some f → is_form most is_good text ≡ true → false ≡ true
not_form most is_good text f e form = let none = sym (no_form_fault most is_good text form) ∙ e in absurd cc
