-- Elements of a list by a value that they have.
use Rattle.std.proofs.Common.{◌≡◌, ◌<◌, ◌≤◌, ◌+◌, ℕ, zero, suc, List, [], ◌∷◌, ◌++◌, Contains, map, length, take, drop, get_or, Some, refl, sym, ap, subst, ◌∙◌, arith, drop-cons, take-append-drop, inl, inr}
use Rattle.std.specs.Prelude.{slice_get}
use Rattle.std.proofs.lemmas.Bool.{cases_lt}
use Rattle.std.proofs.lemmas.List.{take_more}
use Rattle.std.proofs.lemmas.Option.{get_or_from_slice_get}

module _ {A : Type 0} where
  pub get-within : (xs : List A) (i : ℕ) (x : A) → slice_get xs i ≡ Some x → i < length xs
  get-within [] i x e = absurd (cc e)
  get-within (y ∷ xs) zero x e = omega arith
  get-within (y ∷ xs) (suc i) x e = let w = get-within xs i x e in omega (arith, w)

  element-at : (xs : List A) (i : ℕ) → i < length xs → (x : A) × (slice_get xs i ≡ Some x)
  element-at [] i w = absurd (omega (arith, w))
  element-at (y ∷ xs) zero w = (y, refl)
  element-at (y ∷ xs) (suc i) w = element-at xs i (omega (arith, w))

  -- what an index gives is the element there
  pub same-element : (xs : List A) (i : ℕ) (x y : A) → slice_get xs i ≡ Some x → y ≡ get_or xs i y → y ≡ x
  same-element xs i x y e at = at ∙ get_or_from_slice_get xs i x y e

  pub cut-at : (xs : List A) (i : ℕ) (x : A) → i < length xs → x ≡ get_or xs i x → xs ≡ take i xs ++ x ∷ drop (suc i) xs
  cut-at xs i x w at = sym (take-append-drop i xs) ∙ ap (λ ys. take i xs ++ ys) (drop-cons xs i x w ∙ ap (λ y. y ∷ drop (suc i) xs) (sym at))

  pub take-next : (xs : List A) (n : ℕ) (x : A) → n < length xs → x ≡ get_or xs n x → take (n + 1) xs ≡ take n xs ++ x ∷ []
  take-next xs n x w at = take_more xs n x w ∙ ap (λ y. take n xs ++ y ∷ []) (sym at)

module _ {A B : Type 0} (f : A → B) where
  contains-at : (xs : List A) (y : B) → Contains (map f xs) y → (i : ℕ) × (x : A) × (slice_get xs i ≡ Some x) × (f x ≡ y)
  contains-at [] y (k, w, e) = absurd (omega (arith, w))
  contains-at (x ∷ xs) y (zero, w, e) = (0, x, refl, e)
  contains-at (x ∷ xs) y (suc k, w, e) = let (i, z, g, q) = contains-at xs y (k, omega (arith, w), e) in (suc i, z, g, q)

  pub at-contains : (xs : List A) (i : ℕ) (x : A) (y : B) → slice_get xs i ≡ Some x → f x ≡ y → Contains (map f xs) y
  at-contains [] i x y e q = absurd (cc e)
  at-contains (z ∷ xs) zero x y e q = (0, omega arith, let same : z ≡ x = cc e in ap f same ∙ q)
  at-contains (z ∷ xs) (suc i) x y e q = let (k, w, g) = at-contains xs i x y e q in (suc k, omega (arith, w), g)

  pub found-at : (xs : List A) (i : ℕ) (r : A) (y : B) → i < length xs → r ≡ get_or xs i r → f r ≡ y → (x : A) × (slice_get xs i ≡ Some x) × (f x ≡ y)
  found-at xs i r y w at q = let (x, e) = element-at xs i w in (x, e, ap f (sym (same-element xs i x r e at)) ∙ q)

  -- none of the first n has the value
  abbrev pub NoneBelow : List A → ℕ → B → Type 0
  NoneBelow xs n y = (i : ℕ) (x : A) → i < n → slice_get xs i ≡ Some x → f x ≡ y → ⊥

  pub none-more : (xs : List A) (n : ℕ) (r : A) (y : B) → r ≡ get_or xs n r → (f r ≡ y → ⊥) → NoneBelow xs n y → NoneBelow xs (n + 1) y
  none-more xs n r y at not none i x w e q = elim (cases_lt i n) [
    | inl lt ↦ none i x lt e q
    | inr past ↦ (
        let here : i ≡ n = omega (arith, w, past) in
        not (ap f (same-element xs n x r (subst (λ k. slice_get xs k ≡ Some x) here e) at) ∙ q))
  ]

  pub none-at : (xs : List A) (n : ℕ) (y : B) → length xs ≤ n → NoneBelow xs n y → Contains (map f xs) y → ⊥
  none-at xs n y all none c = let (i, x, e, q) = contains-at xs y c in none i x (let w = get-within xs i x e in omega (arith, w, all)) e q
