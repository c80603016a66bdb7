use Rattle.std.proofs.Common.{◌∙◌, ◌+◌, ℕ, length, length-take, refl, ap, arith, inl, inr}
use Rattle.satp_outcome.specs.Outside.{source}
use Rattle.satp_outcome.proofs.Reading.{not_last, read_fails, read_within}
use Rattle.satp_outcome.proofs.streams.read_to.Goals as goal

pub returns-in_default-append : goal.returns-in_default-append
returns-in_default-append g c =
    let takes = c.in-Ok-read.ensures.ok in
    inr (refl, (c.in-Ok-read.ensures.kept ∙ c.loop-chunk.invariant.faults, c.in-Ok-read.ensures.over ∙ not_last _ c.in-Ok-read.more (omega (arith, c.if-more-eq0.false)), read_within (c.args.most + 1) (record { faults = g.I.Source.faults c.args.input.now; left = g.I.Source.left c.args.input.now; over = g.I.Source.is_over c.args.input.now }) (record { faults = g.I.Source.faults c.read.new.self; left = g.I.Source.left c.read.new.self; over = g.I.Source.is_over c.read.new.self }) _ c.loop-chunk.text _ c.in-Ok-read.more c.loop-chunk.invariant.told takes (omega (arith, takes.within, ap length c.bytes-in-loop-chunk.ensures, length-take {A = ℕ} c.min-room.result c.loop-chunk.chunk))))

pub returns-in_default-read : goal.returns-in_default-read
returns-in_default-read g c =
    let state = source g.I.Source.faults g.I.Source.left g.I.Source.is_over in
    let fails = c.in_default-read.ensures in
    inl (refl, read_fails (c.args.most + 1) (state c.args.input.now) (state c.loop-chunk.input) (state c.read.new.self) c.loop-chunk.text c.loop-chunk.invariant.told c.loop-chunk.invariant.within c.loop-chunk.invariant.faults fails.err fails.over fails.rose)
