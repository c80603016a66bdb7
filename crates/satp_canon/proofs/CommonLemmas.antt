-- Where two texts part.
use Rattle.std.proofs.Common.{◌≡◌, ℕ, ◌+◌, ◌<◌, ◌≤◌, ◌==◌, Bool, false, cond, List, [], ◌∷◌, length, drop, get_or, refl, ap, ap₂, sym, ◌∙◌, arith, suc, drop-cons}
use Rattle.std.proofs.lemmas.Bool.{ne_eqb}
use Rattle.std.proofs.lemmas.List.{drop_all}
use Rattle.satp_canon.specs.FirstFault.{common}

common_nil : (xs : List ℕ) → common xs [] ≡ 0
common_nil [] = refl
common_nil (x ∷ xs) = refl

pub past_end : (xs ys : List ℕ) (i whole : ℕ) → whole ≡ i + common (drop i xs) (drop i ys) → length ys ≤ i → i ≡ whole
past_end xs ys i whole e h =
    let none : common (drop i xs) (drop i ys) ≡ 0 = ap (common (drop i xs)) (drop_all i ys h) ∙ common_nil (drop i xs) in
    omega (arith, e, none)

pub differ : (xs ys : List ℕ) (i whole : ℕ) → whole ≡ i + common (drop i xs) (drop i ys) → i < length xs → i < length ys → (get_or ys i 0 ≡ get_or xs i 0 → ⊥) → i ≡ whole
differ xs ys i whole e f g h =
    let x = get_or xs i 0 in
    let y = get_or ys i 0 in
    let apart : (x == y) ≡ false = ne_eqb x y (λ p. h (sym p)) in
    let none : common (drop i xs) (drop i ys) ≡ 0 =
    ap₂ common (drop-cons xs i 0 f) (drop-cons ys i 0 g) ∙ ap (λ (b : Bool). cond b (common (drop (suc i) xs) (drop (suc i) ys) + 1) 0) apart in
    omega (arith, e, none)
