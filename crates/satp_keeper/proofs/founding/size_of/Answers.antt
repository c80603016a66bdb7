use Rattle.std.proofs.Common.{◌∙◌, Some, ap, sym, arith}
use Rattle.satp_keeper.proofs.FoundLemmas.{payload_at, taken_more}
use Rattle.satp_keeper.proofs.Steps.{some_at}
use Rattle.satp_keeper.proofs.founding.size_of.Goals as goal

pub unreachable-requires : goal.unreachable-requires
unreachable-requires c =
    let there = some_at c.args.texts.now c.loop-index.index (omega (arith, c.length-index-end.ensures, c.loop-index-test.true)) in
    let both = c.in_default.ensures ∙ there.1 in cc

pub loop-index-preserved : goal.loop-index-preserved
loop-index-preserved c =
    let at = sym c.in-Some.ensures ∙ ap Some (sym c.bytes.ensures) in
    let more = taken_more c.args.texts.now c.loop-index.index c.bytes.result.now at in
    let fits = payload_at c.args.texts.now c.loop-index.index c.bytes.result.now c.requires.payloads at in
    (omega (arith, more, c.loop-index.invariant.0), omega (arith, fits.1, c.loop-index.invariant.1))
