-- Fronts, windows and slices of lists.
use Rattle.std.proofs.Common.{◌≡◌, ℕ, zero, suc, ◌+◌, ◌-◌, ◌<◌, ◌≤◌, List, [], ◌∷◌, ◌++◌, length, take, drop, refl, ap, ◌∙◌, sym, arith, append_assoc, slice_range}
use Rattle.std.proofs.lemmas.List.{length-append, length-take, take_all, take-append-drop, take_at, append_cancel_left}
use Rattle.std.proofs.Math.Seq.{take-append-add, drop-append_seam}

-- a text of a known length is split in one way
pub split : (a b x y : List ℕ) → length a ≡ length b → a ++ x ≡ b ++ y → (a ≡ b) × (x ≡ y)
split a b x y same e =
    let fronts : a ≡ b = sym (take_at a x (length a) refl) ∙ ap (take (length a)) e ∙ take_at b y (length a) (sym same) in
    (fronts, append_cancel_left a x y (e ∙ ap (λ (l : List ℕ). l ++ y) (sym fronts)))

-- a window past a front
pub window_of : (n : ℕ) (a y : List ℕ) → length a ≤ n → take n (a ++ y) ≡ a ++ take (n - length a) y
window_of n a y short =
    let size : n ≡ length a + (n - length a) = omega arith in
    ap (λ (k : ℕ). take k (a ++ y)) size ∙ take-append-add a y (n - length a)

-- the window of more bytes begins with that of the first
pub grown : (n : ℕ) (bytes more : List ℕ) → (extra : List ℕ) × (take n (bytes ++ more) ≡ take n bytes ++ extra)
grown zero bytes more = ([], refl)
grown (suc n) [] more = (take (suc n) more, refl)
grown (suc n) (x ∷ xs) more = let r = grown n xs more in (r.0, ap (λ l. x ∷ l) r.1)

pub take_length : (n : ℕ) (bytes : List ℕ) → n < length bytes → n ≡ length (take n bytes)
take_length n bytes long = omega (arith, length-take n bytes)

-- the window of fewer bytes is all of them
pub take_whole : (n : ℕ) (bytes : List ℕ) → length bytes ≤ n → take n bytes ≡ bytes
take_whole n bytes short = take_all n bytes short

-- what a front of the window says of all the bytes
pub whole : (n : ℕ) (bytes front : List ℕ) (start : ℕ) → take n bytes ≡ front ++ drop start (take n bytes) → start ≡ length front
    → (start ≤ n) × (start ≤ length bytes) × (bytes ≡ front ++ drop start bytes)
whole n bytes front start reads at =
    let within : start ≤ length (take n bytes) = omega (arith, at, ap length reads, length-append front (drop start (take n bytes))) in
    let all : bytes ≡ front ++ (drop start (take n bytes) ++ drop n bytes) = sym (take-append-drop n bytes) ∙ ap (λ l. l ++ drop n bytes) reads ∙ append_assoc front _ _ in
    let rest : drop start bytes ≡ drop start (take n bytes) ++ drop n bytes = ap (drop start) all ∙ ap (λ k. drop k (front ++ (drop start (take n bytes) ++ drop n bytes))) at ∙ drop-append_seam front _ in
    (omega (arith, within, length-take n bytes), omega (arith, within, length-take n bytes), all ∙ ap (λ l. front ++ l) (sym rest))

pub slice_is : (bytes : List ℕ) (start n : ℕ) → slice_range bytes start (start + n) ≡ take n (drop start bytes)
slice_is bytes start n = let e : start + n - start ≡ n = omega arith in ap (λ k. take k (drop start bytes)) e
