use Rattle.std.proofs.Common.{◌∙◌, ap, arith, refl}
use Rattle.satp_schedule.proofs.RoundLemmas.{joined}
use Rattle.satp_schedule.specs.Generator.{round, start}
use Rattle.satp_schedule.proofs.generator.draw_round.Goals as goal

pub returns-clause-lines : goal.returns-clause-lines
unfolding round
returns-clause-lines c =
    joined
    (rw (c.trouble-wrong.ensures.lines, c.next-kind.ensures.drawn, c.next-kind.ensures.state, c.next.ensures.state) refl)
    (c.start.ensures.fields ∙ ap (start c.args.i) (rw (c.next.ensures.drawn, c.next.ensures.state) (omega arith)))
    (rw (c.abort-aborted.ensures.lines, c.session.ensures, c.trouble-wrong.ensures.state, c.next-kind.ensures.drawn, c.next-kind.ensures.state, c.next.ensures.state) refl)
    (rw (c.repeat-again.ensures.lines, c.abort-aborted.ensures.state, c.session.ensures, c.trouble-wrong.ensures.state, c.next-kind.ensures.drawn, c.next-kind.ensures.state, c.next.ensures.state) refl)

pub returns-clause-state : goal.returns-clause-state
unfolding round
returns-clause-state c = rw (c.repeat-again.ensures.state, c.abort-aborted.ensures.state, c.session.ensures, c.trouble-wrong.ensures.state, c.next-kind.ensures.drawn, c.next-kind.ensures.state, c.next.ensures.state) refl
