use Rattle.std.proofs.Common.{sym, arith}
use Rattle.satp_journal.proofs.PieceLemmas.{start_is}
use Rattle.satp_journal.proofs.stock.start_of.Goals as goal

pub returns-else-index-eq0 : goal.returns-else-index-eq0
returns-else-index-eq0 c = sym (start_is 0 c.args.ends.now c.args.index (omega arith) (omega arith))
