use Rattle.std.proofs.Common.{ℕ, zero, suc, List, [], ◌∷◌, refl, inl, inr}
use Rattle.satp_base.specs.declared.area.Area.TheVariants.{JournalA, JournalB}
use Rattle.satp_base.specs.declared.area.Event.TheVariants.{Left}
use Rattle.satp_examples.specs.Journals.{abc_then}
use Rattle.satp_examples.specs.Segments.{CutOfAppend, frame, gate, synced}
use Rattle.satp_examples.proofs.segments.law_segments.Goals as goal

left_first : (bytes : List ℕ) → ¬ CutOfAppend (Left JournalA bytes ∷ [])
left_first bytes (zero, inl e) = absurd cc
left_first bytes (suc n, inl e) = absurd cc
left_first bytes (zero, inr (area, left, ends, e)) = absurd cc
left_first bytes (suc n, inr (area, left, ends, e)) = absurd cc

left_elsewhere : ¬ CutOfAppend (frame ∷ Left JournalB [] ∷ [])
left_elsewhere (zero, inl e) = absurd cc
left_elsewhere (suc zero, inl e) = absurd cc
left_elsewhere (suc (suc n), inl e) = absurd cc
left_elsewhere (zero, inr (area, left, ends, e)) = absurd cc
left_elsewhere (suc zero, inr (area, left, ends, e)) = absurd cc
left_elsewhere (suc (suc n), inr (area, left, ends, e)) = absurd cc

on_after : ¬ CutOfAppend (frame ∷ Left JournalA [] ∷ synced ∷ [])
on_after (zero, inl e) = absurd cc
on_after (suc zero, inl e) = absurd cc
on_after (suc (suc n), inl e) = absurd cc
on_after (zero, inr (area, left, ends, e)) = absurd cc
on_after (suc zero, inr (area, left, ends, e)) = absurd cc
on_after (suc (suc n), inr (area, left, ends, e)) = absurd cc

without_sync : ¬ CutOfAppend (frame ∷ gate ∷ [])
without_sync (zero, inl e) = absurd cc
without_sync (suc zero, inl e) = absurd cc
without_sync (suc (suc n), inl e) = absurd cc
without_sync (zero, inr (area, left, ends, e)) = absurd cc
without_sync (suc zero, inr (area, left, ends, e)) = absurd cc
without_sync (suc (suc n), inr (area, left, ends, e)) = absurd cc

gate_first : ¬ CutOfAppend (gate ∷ [])
gate_first (zero, inl e) = absurd cc
gate_first (suc n, inl e) = absurd cc
gate_first (zero, inr (area, left, ends, e)) = absurd cc
gate_first (suc n, inr (area, left, ends, e)) = absurd cc

pub returns-clause-append : goal.returns-clause-append
returns-clause-append c = record {
  four = refl;
  none = (0, inl refl);
  the_frame = (1, inl refl);
  all = (4, inl refl);
  a_failed_sync = (2, inr (JournalA, abc_then (0 ∷ 7 ∷ []), refl, refl));
  not_left_before_a_call = left_first _;
  not_left_elsewhere = left_elsewhere;
  not_on_after_a_failure = on_after;
  not_without_the_sync = without_sync;
  not_the_gate_first = gate_first;
}
