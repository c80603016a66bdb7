-- Lists of bytes by their places.
use Rattle.std.proofs.Common.{◌≡◌, ℕ, ◌+◌, ◌-◌, ◌<◌, ◌≤◌, ◌&&◌, Bool, List, ◌++◌, length, drop, map, replicate, get_or, slice_set, nat_eq, bit_xor, IsTrue, refl, ap, ◌∙◌, sym, arith, inl, inr}
use Rattle.std.proofs.lemmas.Bool.{and_parts, and_from, eqb-true, eq-eqb, cases_lt}
use Rattle.std.proofs.lemmas.List.{drop-replicate, get_or-map, get_or-set_same, get_or-set_other, length-map, length-set}
use Rattle.std.proofs.lemmas.Grind.{same_number_lists}

pub filled : (bytes new : List ℕ) → new ≡ bytes → new ++ drop (length bytes) (replicate 64 0) ≡ bytes ++ replicate (64 - length bytes) 0
filled bytes new e = rw (e, drop-replicate {X = ℕ} (length bytes) 64 0) refl

-- each place below this one is that of the block xor the byte
pub record Masked (byte : ℕ) (block masked : List ℕ) (i : ℕ) : Type 0 where
  pub long : length masked ≡ 64
  pub below : (k : ℕ) → k < i → get_or masked k 0 ≡ bit_xor byte (get_or block k 0)

pub masked_more : (byte i : ℕ) (block masked : List ℕ) → i < 64 → Masked byte block masked i → Masked byte block (slice_set masked i (bit_xor byte (get_or block i 0))) (i + 1)
masked_more byte i block masked fits held =
    let within : i < length masked = omega (arith, held.long) in
    record {
      long = length-set masked i (bit_xor byte (get_or block i 0)) ∙ held.long;
      below = λ k lt. elim (cases_lt k i) [
        | inl before ↦ get_or-set_other masked i k (bit_xor byte (get_or block i 0)) 0 (omega arith) ∙ held.below k before
        | inr here ↦ let e : k ≡ i = omega arith in rw e (get_or-set_same masked i (bit_xor byte (get_or block i 0)) 0 within)
      ];
    }

pub masked_all : (byte i : ℕ) (block masked : List ℕ) → length block ≡ 64 → 64 ≤ i → Masked byte block masked i → masked ≡ map (bit_xor byte) block
masked_all byte i block masked long all held =
    same_number_lists masked (map (bit_xor byte) block) (held.long ∙ sym long ∙ sym (length-map block (bit_xor byte)))
    (λ k lt. held.below k (omega (arith, held.long)) ∙ sym (get_or-map (bit_xor byte) block k 0 0 (omega (arith, held.long))))

-- whether the places looked at are the same
pub record Compared (bytes others : List ℕ) (same : Bool) (i : ℕ) : Type 0 where
  pub alike : IsTrue same → (k : ℕ) → k < i → get_or bytes k 0 ≡ get_or others k 0
  pub equal : bytes ≡ others → IsTrue same

pub compared_more : (bytes others : List ℕ) (same : Bool) (i : ℕ) → Compared bytes others same i → Compared bytes others (same && nat_eq (get_or bytes i 0) (get_or others i 0)) (i + 1)
compared_more bytes others same i held = record {
  alike = λ h k lt. let parts = and_parts same _ h in elim (cases_lt k i) [
    | inl before ↦ held.alike parts.0 k before
    | inr here ↦ let e : k ≡ i = omega arith in rw e (eqb-true _ _ parts.1)
  ];
  equal = λ e. and_from same _ (held.equal e) (eq-eqb (get_or bytes i 0) (get_or others i 0) (ap (λ (xs : List ℕ). get_or xs i 0) e));
}

pub compared_all : (bytes others : List ℕ) (same : Bool) (i : ℕ) → length bytes ≡ length others → length bytes ≡ i → Compared bytes others same i → (IsTrue same → bytes ≡ others) × (bytes ≡ others → IsTrue same)
compared_all bytes others same i long all held = (λ h. same_number_lists bytes others long (λ k lt. held.alike h k (omega arith)), held.equal)
