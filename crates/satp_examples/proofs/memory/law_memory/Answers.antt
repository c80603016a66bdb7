use Rattle.std.proofs.Common.{◌≡◌, ◌≢◌, ◌<◌, ℕ, zero, suc, List, [], ◌∷◌, refl, inl, inr, arith, lit≤, lit<}
use Rattle.std.specs.Prelude.{slice_index}
use Rattle.satp_base.specs.Trail.{IsOutside}
use Rattle.satp_memory.specs.Picks.{Fills}
use Rattle.satp_examples.proofs.memory.law_memory.Goals as goal

abbrev now : List ℕ
now = 1 ∷ 9 ∷ 3 ∷ 4 ∷ []

abbrev marks : List ℕ
marks = 0 ∷ 1 ∷ 0 ∷ 1 ∷ []

abbrev image : ℕ → List ℕ
image byte = 1 ∷ byte ∷ 3 ∷ byte ∷ []

kept : (byte k : ℕ) → k < 4 → slice_index marks k ≡ 0 → slice_index (image byte) k ≡ slice_index now k
kept byte zero h e = refl
kept byte (suc zero) h e = absurd (omega (arith, e))
kept byte (suc (suc zero)) h e = refl
kept byte (suc (suc (suc zero))) h e = absurd (omega (arith, e))
kept byte (suc (suc (suc (suc k)))) h e = absurd (omega (arith, h))

filled : (byte k : ℕ) → k < 4 → slice_index marks k ≢ 0 → slice_index (image byte) k ≡ byte
filled byte zero h e = absurd (e refl)
filled byte (suc zero) h e = refl
filled byte (suc (suc zero)) h e = absurd (e refl)
filled byte (suc (suc (suc zero))) h e = refl
filled byte (suc (suc (suc (suc k)))) h e = absurd (omega (arith, h))

fills : (byte : ℕ) → Fills now marks byte (image byte)
fills byte = record { long = refl; kept = kept byte; filled = filled byte }

unlike : (x y : ℕ) → y < x → x ≢ y
unlike x y h e = omega (arith, h, e)

set : slice_index marks 1 ≢ 0
set = unlike 1 0 (lit< tt)

inside : IsOutside 1 ((1, 1) ∷ []) → ⊥
inside (inl h, rest) = omega (arith, h)
inside (inr h, rest) = omega (arith, h)

pub returns-clause-picks : goal.returns-clause-picks
returns-clause-picks c = record {
  old = record { old = λ e. refl; new = λ e. absurd (omega (arith, e)); filled = λ h. absurd (omega (arith, h)) };
  new = record { old = λ e. absurd (omega (arith, e)); new = λ e. refl; filled = λ h. absurd (omega (arith, h)) };
  filled = record { old = λ e. absurd (omega (arith, e)); new = λ e. absurd (omega (arith, e)); filled = λ h. fills 7 };
  filled_with_its_low_byte = record { old = λ e. absurd (omega (arith, e)); new = λ e. absurd (omega (arith, e)); filled = λ h. fills 1 };
  not_new_by_0 = λ p. let is = p.old refl in absurd cc;
  not_old_by_1 = λ p. let is = p.new refl in absurd cc;
  not_in_part = λ p. let is : 9 ≡ 7 = (p.filled (lit≤ tt)).filled 1 (lit< tt) set in absurd (omega (arith, is));
  not_what_was_synced = λ p. let is : 7 ≡ 1 = (p.filled (lit≤ tt)).kept 0 (lit< tt) refl in absurd (omega (arith, is));
  not_shorter = λ p. let is : 3 ≡ 4 = (p.filled (lit≤ tt)).long in absurd (omega (arith, is));
  the_old_write = record { old = λ e. refl; new = λ e. absurd (omega (arith, e)); filled = λ h. absurd (omega (arith, h)) };
  the_new_write = record { old = λ e. absurd (omega (arith, e)); new = λ e. refl; filled = λ h. absurd (omega (arith, h)) };
  not_the_old_by_1 = λ p. let is = p.new refl in absurd cc;
  not_the_written_byte = λ p. let is : 9 ≡ 7 = (p.filled (lit≤ tt)).filled 1 (lit< tt) inside in absurd (omega (arith, is));
  not_another_byte = λ p. let is : 7 ≡ 1 = (p.filled (lit≤ tt)).kept 0 (inl (lit< tt), tt) in absurd (omega (arith, is));
}
