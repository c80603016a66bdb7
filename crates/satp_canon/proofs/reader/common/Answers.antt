use Rattle.std.proofs.Common.{arith}
use Rattle.satp_canon.proofs.CommonLemmas.{differ, past_end}
use Rattle.satp_canon.proofs.reader.common.Goals as goal
use Rattle.satp_canon.proofs.reader.common.Goals.{then-index-other-via-then-index-other, then-index-other-via-else-index-other+then-other-index}

pub returns-then-index-other : goal.returns-then-index-other
returns-then-index-other c =
    let i = c.loop-index.index in
    elim c.then-index-other.branch [
      | then-index-other-via-then-index-other w ↦ past_end c.args.text.now c.args.other.now i _ c.loop-index.invariant.0 (omega arith)
      | then-index-other-via-else-index-other+then-other-index w ↦ differ c.args.text.now c.args.other.now i _ c.loop-index.invariant.0 (omega arith) (omega arith) w.if-other-index.true
    ]
