-- The genesis on an input, from its first bytes.
use Rattle.std.proofs.Common.{◌≡◌, ℕ, zero, suc, ◌+◌, ◌<◌, ◌≤◌, List, [], ◌∷◌, length, take, length-take, Option, Some, None, refl, ap, subst, sym, ◌∙◌, arith}
use Rattle.std.specs.Prelude.{IfSome}
use Rattle.satp_base.specs.GenesisText.{AcceptsLine, most_bytes, nothing}
use Rattle.satp_base.specs.Lines.{Fails}
use Rattle.satp_base.specs.declared.lines.LinesFault.{LinesFault}
use Rattle.satp_base.specs.declared.lines.LinesFault.TheVariants.{Line}
use Rattle.satp_app.specs.Init.{IsRefusedAt, Reads}
use Rattle.satp_outcome.specs.Outside.{ReadTo, SourceState}

take_short : (n : ℕ) (xs : List ℕ) → length xs ≤ n → take n xs ≡ xs
take_short zero [] h = refl
take_short (suc n) [] h = refl
take_short zero (x ∷ xs) h = absurd (omega arith)
take_short (suc n) (x ∷ xs) h = let less : length xs ≤ n = omega arith in ap (λ ys. x ∷ ys) (take_short n xs less)

-- what is short of the first byte past the most is all
whole : (most : ℕ) (bytes told : List ℕ) → bytes ≡ take (most + 1) told → length bytes ≤ most → bytes ≡ told
whole most bytes told is short =
    let long : length (take (most + 1) told) ≤ most = subst (λ (x : List ℕ). length x ≤ most) is short in
    is ∙ take_short (most + 1) told (omega (arith, length-take (most + 1) told, long))

module _ (P : List ℕ → Type 0) (b a : SourceState) (bytes : List ℕ) (read : ReadTo (most_bytes + 1) b a) where
  pub reads_short : IfSome b.left (λ told. bytes ≡ take (most_bytes + 1) told) → length bytes ≤ most_bytes → P bytes → Reads b a P
  reads_short held short here = by_input b.left refl held
    where
      by_input : (left : Option (List ℕ)) → b.left ≡ left → IfSome left (λ told. bytes ≡ take (most_bytes + 1) told) → Reads b a P
      by_input None e h = record { read = read; bytes = bytes; is_input = subst (λ o. IfSome o (λ told. bytes ≡ told)) (sym e) tt; holds = here }
      by_input (Some told) e h = record { read = read; bytes = bytes; is_input = subst (λ o. IfSome o (λ t. bytes ≡ t)) (sym e) (whole most_bytes bytes told h short); holds = here }

module _ (b a : SourceState) (bytes : List ℕ) (read : ReadTo (most_bytes + 1) b a) where
  pub reads_long : IfSome b.left (λ told. bytes ≡ take (most_bytes + 1) told) → most_bytes < length bytes → Reads b a (λ all. most_bytes < length all)
  reads_long held long = by_input b.left refl held
    where
      by_input : (left : Option (List ℕ)) → b.left ≡ left → IfSome left (λ told. bytes ≡ take (most_bytes + 1) told) → Reads b a (λ all. most_bytes < length all)
      by_input None e h = record { read = read; bytes = bytes; is_input = subst (λ o. IfSome o (λ told. bytes ≡ told)) (sym e) tt; holds = long }
      by_input (Some told) e h =
          let more : most_bytes < length (take (most_bytes + 1) told) = subst (λ (x : List ℕ). most_bytes < length x) h long in
          record { read = read; bytes = told; is_input = subst (λ o. IfSome o (λ t. told ≡ t)) (sym e) refl; holds = omega (arith, length-take (most_bytes + 1) told, more) }

pub refused_at : (number : ℕ) (f : LinesFault) (shown bytes : List ℕ) → shown ≡ bytes → f ≡ Line number → Fails AcceptsLine most_bytes shown nothing f → IsRefusedAt number bytes
refused_at number f shown bytes same is fails = subst (λ (x : List ℕ). Fails AcceptsLine most_bytes x nothing (Line number)) same (subst (λ y. Fails AcceptsLine most_bytes shown nothing y) is fails)
