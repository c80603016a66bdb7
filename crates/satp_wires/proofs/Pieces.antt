-- The rest of some bytes, as a slice gives it.
use Rattle.std.proofs.Common.{◌≡◌, ℕ, ◌+◌, ◌-◌, List, ◌++◌, length, take, drop, refl, ap₂, ◌∙◌, sym, arith}
use Rattle.std.proofs.lemmas.List.{take_rest, drop-take, take-append-drop}
use Rattle.std.proofs.lemmas.Grind.{common_steps}

pub piece : (n : ℕ) (bytes : List ℕ) → take (length bytes - n) (drop n bytes) ≡ drop n bytes
piece n bytes = rw take_rest refl

pub take_sum : (k n : ℕ) (xs : List ℕ) → take k xs ++ take n (drop k xs) ≡ take (k + n) xs
take_sum k n xs = ap₂ (λ (a b : List ℕ). a ++ b) (sym (take_less k n xs)) (sym (drop-take k n xs)) ∙ take-append-drop k (take (k + n) xs)
  where
    take_less : (i j : ℕ) (ys : List ℕ) → take i (take (i + j) ys) ≡ take i ys
    take_less i j ys = grind (arith, common_steps)
