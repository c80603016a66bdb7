use Rattle.std.proofs.Common.{◌≡◌, ◌<◌, ℕ, Some}
use Rattle.std.specs.Prelude.{◌≢◌, slice_get}
use Rattle.satp_plan.specs.declared.planning.Note.{Note}
use Rattle.satp_plan.proofs.finding.note_index.Given as goal

abbrev pub invariant-loop-index : goal.invariant-loop-index
invariant-loop-index l = (i : ℕ) (note : Note) → i < l.index → slice_get l.notes i ≡ Some note → note.rec ≢ l.rec
