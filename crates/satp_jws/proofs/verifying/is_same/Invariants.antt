use Rattle.satp_jws.proofs.BlockLemmas.{Compared}
use Rattle.satp_jws.proofs.verifying.is_same.Given as goal

abbrev pub invariant-loop-index : goal.invariant-loop-index
invariant-loop-index l = Compared l.bytes l.others l.same l.index
