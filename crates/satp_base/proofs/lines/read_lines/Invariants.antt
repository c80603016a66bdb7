use Rattle.std.proofs.Common.{◌-◌, length}
use Rattle.satp_base.proofs.LineLemmas.{Reached}
use Rattle.satp_base.proofs.lines.read_lines.Given as goal

abbrev pub invariant-loop-at : goal.invariant-loop-at
invariant-loop-at g l = Reached g.R.LineReader.accepts l.text l.fn.reader l.reader l.at l.number

abbrev pub decreases-loop-at : goal.decreases-loop-at
decreases-loop-at g l = length l.text - l.at
