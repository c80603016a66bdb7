use Rattle.std.proofs.Common.{length, arith}
use Rattle.satp_journal.proofs.PieceLemmas.{starts_within}
use Rattle.satp_journal.proofs.stock.bounds.Goals as goal

pub returns-clause-order : goal.returns-clause-order
returns-clause-order c = let b = starts_within 0 c.args.ends.now (length c.args.bytes.now) c.args.index c.requires.rises c.requires.there in omega (arith, b.0, c.start_of.ensures)

pub returns-clause-within : goal.returns-clause-within
returns-clause-within c = (starts_within 0 c.args.ends.now (length c.args.bytes.now) c.args.index c.requires.rises c.requires.there).1
