use Rattle.std.proofs.Common.{◌≡◌, drop}
use Rattle.satp_base.specs.Tales.{has}
use Rattle.satp_base.proofs.tale.Tale.has.Given as goal

abbrev pub invariant-loop-held : goal.invariant-loop-held
invariant-loop-held l = has l.kind (drop l.held-index l.held-items) ≡ has l.kind l.self
