use Rattle.std.proofs.Common.{◌∙◌, ◌<◌, ℕ, List, length, subst, refl}
use Rattle.satp_drill_command.specs.Drilling.{schedule_form, schedule_says}
use Rattle.satp_outcome.specs.Outside.{sink, source, streams}
use Rattle.satp_outcome.proofs.Ends.{replied, too_long}
use Rattle.satp_drill_command.proofs.Whole.{schedule_whole}
use Rattle.satp_drill_command.proofs.command.drill_input.Goals as goal

pub returns-in-Some : goal.returns-in-Some
returns-in-Some g c =
    let before = streams (source g.I.Source.faults g.I.Source.left g.I.Source.is_over c.args.input.now) (sink g.K.Sink.faults g.K.Sink.taken g.K.Sink.has_failed c.args.out.now) in
    let after = streams (source g.I.Source.faults g.I.Source.left g.I.Source.is_over c.read_to.new.input) (sink g.K.Sink.faults g.K.Sink.taken g.K.Sink.has_failed c.conclude.new.out) in
    replied schedule_form schedule_says schedule_whole before after c.in-Ok.held c.in-Ok.ensures.0 c.in-Ok.ensures.1 (λ text bad. bad) c.in-Some.text.now (c.in-Some.ensures.0 ∙ c.bytes.ensures) c.in-Some.ensures.1 c.input_reply.result c.conclude.result c.input_reply.ensures c.conclude.ensures

pub returns-in-Ok : goal.returns-in-Ok
returns-in-Ok g c =
    let before = streams (source g.I.Source.faults g.I.Source.left g.I.Source.is_over c.args.input.now) (sink g.K.Sink.faults g.K.Sink.taken g.K.Sink.has_failed c.args.out.now) in
    let after = streams (source g.I.Source.faults g.I.Source.left g.I.Source.is_over c.read_to.new.input) (sink g.K.Sink.faults g.K.Sink.taken g.K.Sink.has_failed c.args.out.now) in
    too_long schedule_form schedule_says schedule_whole before after c.in-Ok.held c.in-Ok.ensures.0 c.in-Ok.ensures.1 refl (subst (λ (x : List ℕ). 262144 < length x) c.bytes.ensures c.in-None.ensures)
