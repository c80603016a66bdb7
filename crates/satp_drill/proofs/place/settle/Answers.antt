use Rattle.std.proofs.Common.{◌≡◌, false, Some, sym, subst}
use Rattle.satp_base.specs.Calls.{Told}
use Rattle.satp_journal.specs.State.{Fits}
use Rattle.satp_points.specs.States.{is_broken}
use Rattle.satp_drill.proofs.place.settle.Goals as goal

pub invariant_of-result : goal.invariant_of-result
invariant_of-result g c = record { within = subst (λ (t : Told). is_broken c.args.place.gateway ≡ false → Fits c.args.place.gateway (Some t)) (sym c.clear.ensures.told) c.args.place.within }
