use Rattle.std.proofs.Common.{arith, sym}
use Rattle.std.proofs.lemmas.Option.{slice_get_past}
use Rattle.satp_journal.specs.Pieces.{pieces}
use Rattle.satp_journal.proofs.PieceLemmas.{piece_at, length-pieces}
use Rattle.satp_journal.proofs.stock.piece.Goals as goal

pub returns-then-index-ends : goal.returns-then-index-ends
returns-then-index-ends c =
    sym (slice_get_past (pieces 0 c.args.ends.now c.args.bytes.now) c.args.index (omega (arith, c.if-index-ends.true, length-pieces 0 c.args.ends.now c.args.bytes.now)))

pub returns : goal.returns
returns c =
    rw (c.bounds-start.ensures.start, c.bounds-start.ensures.end) (sym (piece_at 0 c.args.ends.now c.args.bytes.now c.args.index c.if-index-ends.false))
