use Rattle.std.proofs.Common.{◌≡◌, ℕ, zero, suc, List, [], ◌∷◌, Option, Some, None, refl, ap, inl, inr, arith}
use Rattle.std.specs.Option.{option_map_or}
use Rattle.satp_base.specs.Calls.{FailsAmong, FailsAt, Told, call_failed, made, risen}
use Rattle.satp_base.specs.declared.area.Area.TheVariants.{JournalA}
use Rattle.satp_base.specs.declared.area.Event.{Event}
use Rattle.satp_base.specs.declared.area.Event.TheVariants.{Synced}
use Rattle.satp_examples.specs.Calls.{FailsAfter, failed_by, frame, reading, two_calls}
use Rattle.satp_examples.proofs.calls.law_calls.Goals as goal

abbrev count : Option Told → ℕ
count o = option_map_or (λ (t : Told). t.calls) o 0

abbrev events : Option Told → List Event
events o = option_map_or (λ (t : Told). t.trail.events) o []

abbrev failure : Option Told → Option ℕ
failure o = option_map_or (λ (t : Told). t.last_failed) o None

-- a failed call counts
counts : (call : Option Event) (mid : Told) (new : Option Told) → FailsAt call (Some mid) new → count new ≡ risen mid.calls 1
counts None mid new is = ap count is
counts (Some event) mid new (added, fails, is) = ap count is

-- and is told as the last that failed
marks : (call : Option Event) (mid : Told) (new : Option Told) → FailsAt call (Some mid) new → failure new ≡ Some (risen mid.calls 1)
marks None mid new is = ap failure is
marks (Some event) mid new (added, fails, is) = ap failure is

uncounted : ¬ FailsAfter (frame ∷ Synced JournalA ∷ []) 1
uncounted (zero, None, is, e) = absurd cc
uncounted (zero, Some event, is, (added, inl none, e)) = let bad = ap events e in absurd cc
uncounted (zero, Some event, is, (added, inr (inl one), e)) = let bad = ap events e in absurd cc
uncounted (zero, Some event, is, (added, inr (inr (area, bytes, of, left)), e)) = let bad = ap events e in absurd cc
uncounted (suc zero, call, is, fails) = let bad : 3 ≡ 4 = counts call _ _ fails in absurd (omega (arith, bad))
uncounted (suc (suc zero), call, is, fails) = let bad : 3 ≡ 5 = counts call _ _ fails in absurd (omega (arith, bad))
uncounted (suc (suc (suc zero)), call, is, fails) = let bad : 3 ≡ 6 = counts call _ _ fails in absurd (omega (arith, bad))
uncounted (suc (suc (suc (suc n))), call, is, fails) = absurd cc

without_first : ¬ FailsAfter (Synced JournalA ∷ []) 2
without_first (zero, call, is, fails) = let bad : 4 ≡ 3 = counts call _ _ fails in absurd (omega (arith, bad))
without_first (suc zero, None, is, e) = absurd cc
without_first (suc zero, Some event, is, (added, fails, e)) = let bad = ap events e in absurd cc
without_first (suc (suc zero), call, is, fails) = let bad : 4 ≡ 5 = counts call _ _ fails in absurd (omega (arith, bad))
without_first (suc (suc (suc zero)), call, is, fails) = let bad : 4 ≡ 6 = counts call _ _ fails in absurd (omega (arith, bad))
without_first (suc (suc (suc (suc n))), call, is, fails) = absurd cc

as_success : ¬ FailsAmong (Some frame ∷ []) (Some two_calls) (Some (made 1 [] two_calls))
as_success (zero, call, is, fails) = let bad = marks call _ _ fails in absurd cc
as_success (suc n, call, is, fails) = absurd cc

no_calls : ¬ FailsAmong [] (Some two_calls) (Some (call_failed [] two_calls))
no_calls (zero, call, is, rest) = absurd cc
no_calls (suc n, call, is, rest) = absurd cc

pub returns-clause-among : goal.returns-clause-among
returns-clause-among c = record {
  at_the_first_call = (0, Some frame, refl, ([], inl refl, refl));
  at_the_sync = (1, Some (Synced JournalA), refl, ([], inl refl, refl));
  at_the_sync_that_happened = (1, Some (Synced JournalA), refl, (Synced JournalA ∷ [], inr (inl refl), refl));
  not_uncounted = uncounted;
  not_without_the_first = without_first;
  not_as_one_that_succeeded = as_success;
  not_of_no_calls = no_calls;
}

-- ---- a look and a read

past_the_last : ¬ FailsAmong reading (Some two_calls) (Some (failed_by 4 (Synced JournalA ∷ []) two_calls))
past_the_last (zero, call, is, fails) = let bad : 6 ≡ 3 = counts call _ _ fails in absurd (omega (arith, bad))
past_the_last (suc zero, call, is, fails) = let bad : 6 ≡ 4 = counts call _ _ fails in absurd (omega (arith, bad))
past_the_last (suc (suc zero), call, is, fails) = let bad : 6 ≡ 5 = counts call _ _ fails in absurd (omega (arith, bad))
past_the_last (suc (suc (suc n)), call, is, fails) = absurd cc

pub returns-clause-listed : goal.returns-clause-listed
returns-clause-listed c = record {
  all = refl;
  failed_look = (1, None, refl, refl);
  not_all_by_the_sync_alone = λ e. let bad : 3 ≡ 5 = ap count e in absurd (omega (arith, bad));
  not_failed_after_the_last = past_the_last;
}
