-- The places of a chain, one a line.
use Rattle.std.proofs.Common.{◌≡◌, ◌∙◌, ℕ, zero, suc, ◌+◌, ◌<◌, ◌≤◌, List, [], ◌∷◌, ◌++◌, length, take, Some, None, refl, sym, ap, subst, arith, append_assoc, append-nil}
use Rattle.std.specs.Prelude.{slice_get}
use Rattle.satp_base.specs.Tales.{kind_at}
use Rattle.satp_base.specs.declared.message.Kind.{Kind}
use Rattle.satp_gateway_commands.specs.ShowLines.{place_line, place_lines}

-- the lines of a chain with one message more
pub one_more : (n place : ℕ) (tale : List Kind) (k : Kind) → slice_get tale n ≡ Some k → place_lines place (take (suc n) tale) ≡ place_lines place (take n tale) ++ place_line (place + n) k
one_more n place [] k e = absurd (cc e)
one_more zero place (j ∷ tale) k e =
    let same : j ≡ k = cc e in
    let here : place ≡ place + 0 = omega arith in
    append-nil (place_line place j) ∙ ap (λ (x : Kind). place_line place x) same ∙ ap (λ n. place_line n k) here
one_more (suc n) place (j ∷ tale) k e =
    let next : (place + 1) + n ≡ place + suc n = omega arith in
    ap (λ ls. place_line place j ++ ls) (one_more n (place + 1) tale k e ∙ ap (λ m. place_lines (place + 1) (take n tale) ++ place_line m k) next)
    ∙ sym (append_assoc (place_line place j) (place_lines (place + 1) (take n tale)) (place_line (place + suc n) k))

take_all : (n : ℕ) (tale : List Kind) → length tale ≤ n → take n tale ≡ tale
take_all zero [] h = refl
take_all (suc n) [] h = refl
take_all zero (k ∷ tale) h = absurd (omega (arith, h))
take_all (suc n) (k ∷ tale) h = let less : length tale ≤ n = omega (arith, h) in ap (λ ks. k ∷ ks) (take_all n tale less)

-- the lines so far, with the line of the next place
pub added : (start held line : List ℕ) (n : ℕ) (tale : List Kind) (k : Kind) → held ≡ start ++ place_lines 1 (take n tale) → kind_at tale (n + 1) ≡ Some k → line ≡ place_line (n + 1) k
    → held ++ line ≡ start ++ place_lines 1 (take (n + 1) tale)
added start held line n tale k h found is =
    let next : n + 1 ≡ suc n = omega arith in
    let place : n + 1 ≡ 1 + n = omega arith in
    let here : slice_get tale n ≡ Some k = subst (λ m. kind_at tale m ≡ Some k) next found in
    let more : place_lines 1 (take n tale) ++ line ≡ place_lines 1 (take (n + 1) tale) =
    ap (λ l. place_lines 1 (take n tale) ++ l) (is ∙ ap (λ m. place_line m k) place) ∙ sym (one_more n 1 tale k here) ∙ ap (λ m. place_lines 1 (take m tale)) (sym next) in
    ap (λ x. x ++ line) h ∙ append_assoc start (place_lines 1 (take n tale)) line ∙ ap (λ x. start ++ x) more

-- a place within the chain has a message
pub no_kind : (n : ℕ) (tale : List Kind) → n < length tale → kind_at tale (n + 1) ≡ None → ⊥
no_kind n tale less none = let next : n + 1 ≡ suc n = omega arith in at n tale less (subst (λ m. kind_at tale m ≡ None) next none)
  where
    at : (n : ℕ) (tale : List Kind) → n < length tale → slice_get tale n ≡ None → ⊥
    at n [] less e = omega (arith, less)
    at zero (k ∷ tale) less e = cc e
    at (suc n) (k ∷ tale) less e = let fewer : n < length tale = omega (arith, less) in at n tale fewer e

pub all_added : (start held : List ℕ) (n : ℕ) (tale : List Kind) → held ≡ start ++ place_lines 1 (take n tale) → length tale ≤ n → held ≡ start ++ place_lines 1 tale
all_added start held n tale h all = h ∙ ap (λ t. start ++ place_lines 1 t) (take_all n tale all)
