use Rattle.std.proofs.Common.{ap, arith, map}
use Rattle.satp_schedule.specs.Lines.{fields_of}
use Rattle.satp_schedule.proofs.RoundLemmas.{first_round, next_round, last_round}
use Rattle.satp_schedule.proofs.generator.generate.Goals as goal

pub loop-i-init : goal.loop-i-init
loop-i-init c = first_round c.args.seed _ _ (ap (map fields_of) c.new-schedule.ensures) c.from.ensures

pub loop-i-preserved : goal.loop-i-preserved
loop-i-preserved c = next_round c.loop-i.i _ _ _ _ _ _ (omega (arith, c.loop-i-test.true)) c.in_ok-add_round.ensures c.draw_round.ensures.lines c.draw_round.ensures.state c.loop-i.invariant

pub returns : goal.returns
returns c = last_round c.loop-i.i _ _ _ c.loop-i-test.false c.loop-i.invariant
