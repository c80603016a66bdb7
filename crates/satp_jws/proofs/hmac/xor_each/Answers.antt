use Rattle.std.proofs.Common.{arith, refl}
use Rattle.satp_jws.proofs.BlockLemmas.{masked_all, masked_more}
use Rattle.satp_jws.proofs.hmac.xor_each.Goals as goal

pub loop-index-init : goal.loop-index-init
loop-index-init c = record { long = refl; below = λ k lt. absurd (omega arith) }

pub loop-index-preserved : goal.loop-index-preserved
loop-index-preserved c = masked_more c.args.byte c.loop-index.index c.args.block.now c.loop-index.masked (omega arith) c.loop-index.invariant

pub returns : goal.returns
returns c = masked_all c.args.byte c.loop-index.index c.args.block.now c.loop-index.masked (omega arith) (omega arith) c.loop-index.invariant
