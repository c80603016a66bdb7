use Rattle.std.proofs.Common.{arith, refl}
use Rattle.satp_jws.proofs.BlockLemmas.{compared_all, compared_more}
use Rattle.satp_jws.proofs.verifying.is_same.Goals as goal

pub loop-index-init : goal.loop-index-init
loop-index-init c = record { alike = λ h k lt. absurd (omega arith); equal = λ e. refl }

pub loop-index-preserved : goal.loop-index-preserved
loop-index-preserved c = compared_more c.args.bytes.now c.args.others.now c.loop-index.same c.loop-index.index c.loop-index.invariant

pub returns : goal.returns
returns c = compared_all c.args.bytes.now c.args.others.now c.loop-index.same c.loop-index.index c.if-bytes-others.false (omega arith) c.loop-index.invariant
