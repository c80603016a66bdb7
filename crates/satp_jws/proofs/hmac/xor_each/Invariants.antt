use Rattle.satp_jws.proofs.BlockLemmas.{Masked}
use Rattle.satp_jws.proofs.hmac.xor_each.Given as goal

abbrev pub invariant-loop-index : goal.invariant-loop-index
invariant-loop-index l = Masked l.byte l.block l.masked l.index
