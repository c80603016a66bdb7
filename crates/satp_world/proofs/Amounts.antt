-- Amounts under keys: what holds of each key holds of all together.
use Rattle.std.proofs.Common.{◌≡◌, ℕ, zero, suc, ◌+◌, ◌-◌, ◌≤◌, ◌&&◌, ◌||◌, Bool, true, false, cond, List, [], ◌∷◌, length, map, Option, Some, None, refl, sym, ap, subst, ◌∙◌, arith, not}
use lib.Dec.{T}
use Rattle.std.specs.List.{AllByRecursion, IsDistinct, list_any, sum_by}
use Rattle.std.specs.FinMap.{FinMap, IsAntisymmetric, entries, entries_sorted, find, get, get-entries, is_sorted}
use Rattle.std.specs.FinMap.Entries.{below_all}
use Rattle.std.specs.Cmp.{IsTotalOrder}
use Rattle.std.specs.Ordering.{eq_by_cmp, is_eq, is_lt}
use Rattle.std.specs.declared.cmp.Ordering.{Ordering}
use Rattle.std.specs.declared.cmp.Ordering.TheVariants.{Less, Equal, Greater}
use Rattle.std.proofs.lemmas.List.Sums.{sum_by-cons}
use Rattle.satp_base.specs.Founding.{counted}

abbrev pub whole : {K : Type 0} → List (K × ℕ) → ℕ
whole xs = sum_by (λ e. e.1) xs

-- what stands under a key
abbrev pub of : {K : Type 0} → (K → K → Bool) → K → List (K × ℕ) → ℕ
of eq key xs = sum_by (λ e. counted (eq key e.0) e.1) xs

adds : (o w r o' w' r' n c d : ℕ) → o ≡ c + o' → w ≡ n + w' → r ≡ d + r' → c + d ≡ n → o' + r' ≡ w' → o + r ≡ w
adds o w r o' w' r' n c d e f g h i = omega arith

one-of : (b : Bool) (n : ℕ) → counted b n + counted (not b) n ≡ n
one-of true n = omega arith
one-of false n = omega arith

zero-sum : (x c r : ℕ) → x ≡ c + r → c ≡ 0 → r ≡ 0 → x ≡ 0
zero-sum x c r e f g = omega arith

same-sum : (x y c d r q : ℕ) → x ≡ c + r → y ≡ d + q → c ≡ d → r ≡ q → x ≡ y
same-sum x y c d r q e f g h = omega arith

counted-not : (b : Bool) (n : ℕ) → counted (not b) (counted b n) ≡ 0
counted-not true n = refl
counted-not false n = refl

module _ {K : Type 0} (eq : K → K → Bool) (is : (a b : K) → eq a b ≡ true → a ≡ b) (self : (a : K) → eq a a ≡ true) where
  -- the amounts under the other keys
  abbrev others : K → List (K × ℕ) → List (K × ℕ)
  others key [] = []
  others key (e ∷ es) = cond (eq key e.0) (others key es) (e ∷ others key es)

  others-step : (f : K × ℕ → ℕ) (key : K) (e : K × ℕ) (es : List (K × ℕ)) → sum_by f (others key (e ∷ es)) ≡ counted (not (eq key e.0)) (f e) + sum_by f (others key es)
  others-step f key e es = go (eq key e.0)
    where
      go : (b : Bool) → sum_by f (cond b (others key es) (e ∷ others key es)) ≡ counted (not b) (f e) + sum_by f (others key es)
      go true = omega arith
      go false = sum_by-cons f e (others key es)

  -- a key and the others
  split : (key : K) (xs : List (K × ℕ)) → of eq key xs + whole (others key xs) ≡ whole xs
  split key [] = refl
  split key (e ∷ es) =
      adds _ _ _ (of eq key es) (whole es) (whole (others key es)) e.1 (counted (eq key e.0) e.1) (counted (not (eq key e.0)) e.1)
      (sum_by-cons (λ x. counted (eq key x.0) x.1) e es) (sum_by-cons (λ x. x.1) e es) (others-step (λ x. x.1) key e es) (one-of (eq key e.0) e.1) (split key es)

  -- among the others nothing stands under the key
  none-left : (key : K) (xs : List (K × ℕ)) → of eq key (others key xs) ≡ 0
  none-left key [] = refl
  none-left key (e ∷ es) = zero-sum _ (counted (not (eq key e.0)) (counted (eq key e.0) e.1)) (of eq key (others key es)) (others-step (λ x. counted (eq key x.0) x.1) key e es) (counted-not (eq key e.0) e.1) (none-left key es)

  -- and under another key what stood there
  same-left : (key p : K) → eq p key ≡ false → (xs : List (K × ℕ)) → of eq p (others key xs) ≡ of eq p xs
  same-left key p n [] = refl
  same-left key p n (e ∷ es) =
      same-sum _ _ (counted (not (eq key e.0)) (counted (eq p e.0) e.1)) (counted (eq p e.0) e.1) (of eq p (others key es)) (of eq p es)
      (others-step (λ x. counted (eq p x.0) x.1) key e es) (sum_by-cons (λ x. counted (eq p x.0) x.1) e es)
      (apart (eq key e.0) refl) (same-left key p n es)
    where
      apart : (b : Bool) → eq key e.0 ≡ b → counted (not b) (counted (eq p e.0) e.1) ≡ counted (eq p e.0) e.1
      apart false h = refl
      apart true h = ap (λ b. counted b e.1) (sym (ap (eq p) (sym (is key e.0 h)) ∙ n))

  shorter : (key : K) (xs : List (K × ℕ)) → length (others key xs) ≤ length xs
  shorter key [] = omega arith
  shorter key (e ∷ es) = go (eq key e.0) (shorter key es)
    where
      go : (b : Bool) → length (others key es) ≤ length es → length (cond b (others key es) (e ∷ others key es)) ≤ suc (length es)
      go true h = omega (arith, h)
      go false h = omega (arith, h)

  -- ---- where each key is within what stands there

  abbrev pub Within : List (K × ℕ) → List (K × ℕ) → Type 0
  Within xs ys = (key : K) → of eq key xs ≤ of eq key ys

  left-within : (key : K) (xs ys : List (K × ℕ)) → Within xs ys → Within (others key xs) (others key ys)
  left-within key xs ys h p = go (eq p key) refl
    where
      go : (b : Bool) → eq p key ≡ b → of eq p (others key xs) ≤ of eq p (others key ys)
      go false n = let a = same-left key p n xs in let b = same-left key p n ys in let c = h p in omega (arith, a, b, c)
      go true e = let a = ap (λ q. of eq q (others key xs)) (is p key e) ∙ none-left key xs in omega (arith, a)

  first-out : (e : K × ℕ) (es : List (K × ℕ)) → others e.0 (e ∷ es) ≡ others e.0 es
  first-out e es = ap (λ b. cond b (others e.0 es) (e ∷ others e.0 es)) (self e.0)

  within-by : (n : ℕ) (xs ys : List (K × ℕ)) → length xs ≤ n → Within xs ys → whole xs ≤ whole ys
  within-by n [] ys h w = omega arith
  within-by zero (e ∷ es) ys h w = absurd (omega (arith, h))
  within-by (suc n) (e ∷ es) ys h w =
      let fewer = ap length (first-out e es) in
      let less = shorter e.0 es in
      let rest = within-by n (others e.0 (e ∷ es)) (others e.0 ys) (omega (arith, fewer, less, h)) (left-within e.0 (e ∷ es) ys w) in
      let a = split e.0 (e ∷ es) in
      let b = split e.0 ys in
      let c = w e.0 in
      omega (arith, rest, a, b, c)

  -- all together are
  pub all-within : (xs ys : List (K × ℕ)) → Within xs ys → whole xs ≤ whole ys
  all-within xs ys w = within-by (length xs) xs ys (omega arith) w

  -- ---- what is left under some keys

  abbrev pub left_at : List (K × ℕ) → List (K × ℕ) → K → ℕ
  left_at xs ys key = of eq key ys - of eq key xs

  sum-same : (f g : K → ℕ) (ks : List K) → AllByRecursion (λ p. f p ≡ g p) ks → sum_by f ks ≡ sum_by g ks
  sum-same f g [] h = refl
  sum-same f g (p ∷ ks) h = same-sum _ _ (f p) (g p) (sum_by f ks) (sum_by g ks) (sum_by-cons f p ks) (sum_by-cons g p ks) h.0 (sum-same f g ks h.1)

  flipped : (a b : K) → eq a b ≡ false → eq b a ≡ false
  flipped a b n = go (eq b a) refl
    where
      go : (x : Bool) → eq b a ≡ x → eq b a ≡ false
      go false e = e
      go true e = absurd (cc (sym (ap (eq a) (is b a e) ∙ self a), n))

  each-same : (key : K) (xs ys : List (K × ℕ)) (ks : List K) → AllByRecursion (λ p. eq key p ≡ false) ks → AllByRecursion (λ p. left_at xs ys p ≡ left_at (others key xs) (others key ys) p) ks
  each-same key xs ys [] h = tt
  each-same key xs ys (p ∷ ks) h =
      let a = same-left key p (flipped key p h.0) xs in
      let b = same-left key p (flipped key p h.0) ys in
      (omega (arith, a, b), each-same key xs ys ks h.1)

  less-by : (l s t w x y v oy ox : ℕ) → l ≡ (oy - ox) + s → s ≡ t → t + v ≤ y → ox + v ≡ w → oy + y ≡ x → ox ≤ oy → l + w ≤ x
  less-by l s t w x y v oy ox a b d e f g = omega arith

  -- each key once: what is left under them is no more than what is left in all
  pub keys-within : (ks : List K) (xs ys : List (K × ℕ)) → IsDistinct eq ks → Within xs ys → sum_by (left_at xs ys) ks + whole xs ≤ whole ys
  unfolding IsDistinct
  keys-within [] xs ys d w = let h = all-within xs ys w in omega (arith, h)
  keys-within (k ∷ ks) xs ys d w =
      let rest = keys-within ks (others k xs) (others k ys) d.1 (left-within k xs ys w) in
      let same = sum-same (left_at xs ys) (left_at (others k xs) (others k ys)) ks (each-same k xs ys ks d.0) in
      less-by (sum_by (left_at xs ys) (k ∷ ks)) (sum_by (left_at xs ys) ks) (sum_by (left_at (others k xs) (others k ys)) ks) (whole xs) (whole ys) (whole (others k ys)) (whole (others k xs)) (of eq k ys) (of eq k xs)
      (sum_by-cons (left_at xs ys) k ks) same rest (split k xs) (split k ys) (w k)

  -- under every other key nothing is left
  abbrev pub Covers : List K → List (K × ℕ) → List (K × ℕ) → Type 0
  Covers ks xs ys = (key : K) → list_any (eq key) ks ≡ false → of eq key ys ≤ of eq key xs

  covers-left : (k : K) (ks : List K) (xs ys : List (K × ℕ)) → Covers (k ∷ ks) xs ys → Covers ks (others k xs) (others k ys)
  covers-left k ks xs ys h p n = go (eq p k) refl
    where
      go : (b : Bool) → eq p k ≡ b → of eq p (others k ys) ≤ of eq p (others k xs)
      go false e = let a = same-left k p e xs in let b = same-left k p e ys in let c = h p (ap (λ b. b || list_any (eq p) ks) e ∙ n) in omega (arith, a, b, c)
      go true e = let a = ap (λ q. of eq q (others k ys)) (is p k e) ∙ none-left k ys in omega (arith, a)

  more-by : (l s t w x y v oy ox : ℕ) → l ≡ (oy - ox) + s → s ≡ t → y ≤ t + v → ox + v ≡ w → oy + y ≡ x → x ≤ l + w
  more-by l s t w x y v oy ox a b d e f = omega arith

  -- and no less, where nothing is left under any other key
  pub keys-cover : (ks : List K) (xs ys : List (K × ℕ)) → IsDistinct eq ks → Covers ks xs ys → whole ys ≤ sum_by (left_at xs ys) ks + whole xs
  unfolding IsDistinct
  keys-cover [] xs ys d w = let h = all-within ys xs (λ key. w key refl) in omega (arith, h)
  keys-cover (k ∷ ks) xs ys d w =
      let rest = keys-cover ks (others k xs) (others k ys) d.1 (covers-left k ks xs ys w) in
      let same = sum-same (left_at xs ys) (left_at (others k xs) (others k ys)) ks (each-same k xs ys ks d.0) in
      more-by (sum_by (left_at xs ys) (k ∷ ks)) (sum_by (left_at xs ys) ks) (sum_by (left_at (others k xs) (others k ys)) ks) (whole xs) (whole ys) (whole (others k ys)) (whole (others k xs)) (of eq k ys) (of eq k xs)
      (sum_by-cons (left_at xs ys) k ks) same rest (split k xs) (split k ys)

-- ---- sums as amounts under keys

-- a sum over items, each counted under its key
pub of-items : {X K : Type 0} (eq : K → K → Bool) (key : X → K) (value : X → ℕ) (k : K) (f : X → ℕ) → ((x : X) → counted (eq k (key x)) (value x) ≡ f x) → (xs : List X) → of eq k (map (λ x. (key x, value x)) xs) ≡ sum_by f xs
of-items eq key value k f h [] = refl
of-items eq key value k f h (x ∷ xs) =
    same-sum _ _ (counted (eq k (key x)) (value x)) (f x) (of eq k (map (λ x. (key x, value x)) xs)) (sum_by f xs)
    (sum_by-cons (λ e. counted (eq k e.0) e.1) (key x, value x) (map (λ x. (key x, value x)) xs)) (sum_by-cons f x xs) (h x) (of-items eq key value k f h xs)

pub whole-items : {X K : Type 0} (key : X → K) (value : X → ℕ) (xs : List X) → whole (map (λ x. (key x, value x)) xs) ≡ sum_by value xs
whole-items key value [] = refl
whole-items key value (x ∷ xs) =
    same-sum _ _ (value x) (value x) (whole (map (λ x. (key x, value x)) xs)) (sum_by value xs)
    (sum_by-cons (λ e. e.1) (key x, value x) (map (λ x. (key x, value x)) xs)) (sum_by-cons value x xs) refl (whole-items key value xs)

-- what a map's value counts for
abbrev pub worth : {X : Type 0} → (X → ℕ) → Option X → ℕ
worth f None = 0
worth f (Some v) = f v

module _ {K X : Type 0} (R : K → K → Ordering) (total : IsTotalOrder R) (exact : IsAntisymmetric R) (f : X → ℕ) where
  abbrev pub items : List (K × X) → List (K × ℕ)
  items es = map (λ (e : K × X). (e.0, f e.1)) es

  is-less : (r : Ordering) → T (is_lt r) → is_eq r ≡ false
  is-less Less h = refl
  is-less Equal h = absurd h
  is-less Greater h = absurd h

  two : (a b : Bool) → T (a && b) → T a × T b
  two true b h = (tt, h)
  two false b h = absurd h

  none-below : (k : K) (es : List (K × X)) → T (below_all R k es) → of (eq_by_cmp R) k (items es) ≡ 0
  none-below k [] h = refl
  none-below k (e ∷ es) h =
      let p = two (is_lt (R k e.0)) (below_all R k es) h in
      zero-sum _ (counted (eq_by_cmp R k e.0) (f e.1)) (of (eq_by_cmp R) k (items es)) (sum_by-cons (λ x. counted (eq_by_cmp R k x.0) x.1) (e.0, f e.1) (items es)) (ap (λ b. counted b (f e.1)) (is-less (R k e.0) p.0)) (none-below k es p.1)

  equal-key : (r : Ordering) → is_eq r ≡ true → r ≡ Equal
  equal-key Less e = absurd (cc e)
  equal-key Equal e = refl
  equal-key Greater e = absurd (cc e)

  of-sorted : (k : K) (es : List (K × X)) → T (is_sorted R es) → of (eq_by_cmp R) k (items es) ≡ worth f (find R k es)
  of-sorted k [] h = refl
  of-sorted k (e ∷ es) h = go (eq_by_cmp R k e.0) refl (of-sorted k es (two (below_all R e.0 es) (is_sorted R es) h).1)
    where
      sum : of (eq_by_cmp R) k (items (e ∷ es)) ≡ counted (eq_by_cmp R k e.0) (f e.1) + of (eq_by_cmp R) k (items es)
      sum = sum_by-cons (λ x. counted (eq_by_cmp R k x.0) x.1) (e.0, f e.1) (items es)

      go : (b : Bool) → eq_by_cmp R k e.0 ≡ b → of (eq_by_cmp R) k (items es) ≡ worth f (find R k es) → of (eq_by_cmp R) k (items (e ∷ es)) ≡ worth f (cond (eq_by_cmp R k e.0) (Some e.1) (find R k es))
      go false n rest =
          let a = ap (λ b. counted b (f e.1)) n in
          let b = ap (λ b. worth f (cond b (Some e.1) (find R k es))) n in
          omega (arith, sum, a, b, rest)
      go true y rest =
          let a = ap (λ b. counted b (f e.1)) y in
          let b = ap (λ b. worth f (cond b (Some e.1) (find R k es))) y in
          let same = exact k e.0 (equal-key (R k e.0) y) in
          let c = none-below k es (subst (λ x. T (below_all R x es)) (sym same) (two (below_all R e.0 es) (is_sorted R es) h).0) in
          omega (arith, sum, a, b, c)

  pub of-map : (m : FinMap R X) (k : K) → of (eq_by_cmp R) k (items (entries m)) ≡ worth f (get m k)
  of-map m k = of-sorted k (entries m) (entries_sorted m) ∙ ap (worth f) (sym (get-entries m k))
