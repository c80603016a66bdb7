-- Pieces joined by commas, one more at a time.
use Rattle.std.proofs.lemmas.Bool.{ne_eqb}
use Rattle.satp_canon.specs.Commas.{comma_at}
use Rattle.std.proofs.Common.{Bool, ◌≡◌, ℕ, zero, suc, ◌+◌, ◌<◌, cond, List, [], ◌∷◌, ◌++◌, length, map, take, get_or, refl, ap, sym, ◌∙◌, arith, append_assoc}
use Rattle.std.specs.List.{join_with_byte}

later : (i : ℕ) → comma_at (suc i) ≡ 44 ∷ []
later i = ap (λ (b : Bool). cond b [] (44 ∷ [])) (ne_eqb (suc i) 0 (λ e. omega (arith, e)))

module _ {A : Type 0} (f : A → List ℕ) where
  abbrev pub joined : List A → List ℕ
  joined xs = join_with_byte 44 (map f xs)

  grows : (xs : List A) (i : ℕ) (d : A) → i < length xs → joined (take (suc i) xs) ≡ joined (take i xs) ++ (comma_at i ++ f (get_or xs i d))
  grows [] i d h = absurd (omega arith)
  grows (x ∷ xs) zero d h = refl
  grows (x ∷ []) (suc i) d h = absurd (omega arith)
  grows (x ∷ y ∷ xs) (suc zero) d h = refl
  grows (x ∷ y ∷ xs) (suc (suc i)) d h =
      let front : List ℕ = joined (take (suc i) (y ∷ xs)) in
      let piece : List ℕ = f (get_or xs i d) in
      ap (λ (t : List ℕ). f x ++ 44 ∷ t) (grows (y ∷ xs) (suc i) d (omega arith) ∙ ap (λ (t : List ℕ). front ++ (t ++ piece)) (later i))
      ∙ sym (append_assoc (f x) (44 ∷ front) (44 ∷ piece)) ∙ ap (λ (t : List ℕ). (f x ++ 44 ∷ front) ++ (t ++ piece)) (sym (later (suc i)))

  -- the piece at an index goes behind the pieces before it
  pub joined_more : (old before out : List ℕ) (xs : List A) (i : ℕ) (d : A) → i < length xs → before ≡ old ++ joined (take i xs) → out ≡ before ++ (comma_at i ++ f (get_or xs i d)) → out ≡ old ++ joined (take (i + 1) xs)
  joined_more old before out xs i d h was now =
      let next : suc i ≡ i + 1 = omega arith in
      now ∙ ap (λ (t : List ℕ). t ++ (comma_at i ++ f (get_or xs i d))) was ∙ append_assoc old (joined (take i xs)) (comma_at i ++ f (get_or xs i d))
      ∙ ap (λ (t : List ℕ). old ++ t) (sym (grows xs i d h) ∙ ap (λ (k : ℕ). joined (take k xs)) next)
