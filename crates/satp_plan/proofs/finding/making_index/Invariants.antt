use Rattle.std.proofs.Common.{◌≡◌, ◌<◌, ℕ, Some}
use Rattle.std.specs.Prelude.{◌≢◌, slice_get}
use Rattle.satp_plan.specs.declared.planning.Making.{Making}
use Rattle.satp_plan.proofs.finding.making_index.Given as goal

abbrev pub invariant-loop-index : goal.invariant-loop-index
invariant-loop-index l = (i : ℕ) (making : Making) → i < l.index → slice_get l.makings i ≡ Some making → making.part ≢ l.part
