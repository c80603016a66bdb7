use Rattle.std.proofs.Common.{[], arith}
use Rattle.satp_base.specs.Canonical.{string}
use Rattle.satp_canon.proofs.Joined.{joined_more}
use Rattle.satp_canon.proofs.writer.words_joined.Goals as goal

pub loop-index-preserved : goal.loop-index-preserved
loop-index-preserved c = joined_more string c.args.out.now c.loop-index.out c.word_at.new.out c.args.words.now c.loop-index.index [] (omega arith) c.loop-index.invariant c.in_ok-word_at.ensures
