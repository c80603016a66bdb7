use Rattle.satp_memory.proofs.Picking.{IsFilling}
use Rattle.satp_memory.proofs.pick.filled.Given as goal

abbrev pub invariant-loop-index : goal.invariant-loop-index
invariant-loop-index l = IsFilling l.now l.marks l.byte l.index l.image.items
