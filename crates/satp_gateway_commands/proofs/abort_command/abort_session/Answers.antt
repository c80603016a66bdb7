use Rattle.std.proofs.Common.{◌∙◌, subst, sym}
use Rattle.satp_gateway_commands.specs.Aborting.{AbortWorks}
use Rattle.satp_outcome.specs.Outside.{outside, sink, site_state, streams}
use Rattle.satp_points.specs.Answers.{Answers}
use Rattle.satp_points.specs.States.{tells}
use Rattle.satp_sides.specs.Calls.{Aborts}
use Rattle.satp_gateway_commands.proofs.Refusing.{may_refuse}
use Rattle.satp_gateway_commands.proofs.Works.{answered_by, refused_by, refuses, turned}
use Rattle.satp_gateway_commands.proofs.abort_command.abort_session.Goals as goal

pub refused_end-requires : goal.refused_end-requires
refused_end-requires g c =
    let before = tells (g.S.Device.told c.args.site.now) (g.S.Device.book c.args.site.now) in
    let after = tells (g.S.Device.told c.abort.new.site) (g.S.Device.book c.abort.new.site) in
    let setup = c.requires.holds.0 in
    let xs = c.requires.holds.1 in
    let holds = c.requires.holds.2 in
    let call = c.in-Err.ensures.answers in
    may_refuse c.args.session c.args.gateway.now c.abort.new.self before after setup xs holds c.requires.whole c.in-Some.field-0 (sym (c.show.ensures setup xs holds) ∙ c.in-Some.is) c.in-Err.refused
    (refused_by (Answers (Aborts c.args.session) c.args.gateway.now c.abort.new.self before after) call.0 c.in-Err.refused call.1 call.2)

pub returns-in-Ok-clause-works : goal.returns-in-Ok-clause-works
returns-in-Ok-clause-works g c = λ input wire.
    let before = site_state g.S.Device.faults g.S.Device.told g.S.Device.book c.args.site.now in
    let after = site_state g.S.Device.faults g.S.Device.told g.S.Device.book c.abort.new.site in
    let call = c.in-Ok.ensures.answers in
    let answered = answered_by (Answers (Aborts c.args.session) c.args.gateway.now c.abort.new.self (tells before.told before.book) (tells after.told after.book)) call.0 call.1 call.2 in
    turned c.args.session c.args.gateway.now c.abort.new.self before after wire c.in-Some.field-0 (λ setup xs holds. sym (c.show.ensures setup xs holds) ∙ c.in-Some.is) answered.0 answered.1 c.in-Ok.ensures.kept
    input (sink g.K.Sink.faults g.K.Sink.taken g.K.Sink.has_failed c.args.out.now) (sink g.K.Sink.faults g.K.Sink.taken g.K.Sink.has_failed c.say_back.new.out) c.say_back.result c.say_back.ensures

pub returns-in-Err-clause-works : goal.returns-in-Err-clause-works
returns-in-Err-clause-works g c = λ input wire.
    let before = site_state g.S.Device.faults g.S.Device.told g.S.Device.book c.args.site.now in
    let after = site_state g.S.Device.faults g.S.Device.told g.S.Device.book c.abort.new.site in
    let said = streams input (sink g.K.Sink.faults g.K.Sink.taken g.K.Sink.has_failed c.args.out.now) in
    let call = c.in-Err.ensures.answers in
    let answers = refused_by (Answers (Aborts c.args.session) c.args.gateway.now c.abort.new.self (tells before.told before.book) (tells after.told after.book)) call.0 c.in-Err.refused call.1 call.2 in
    let setup = c.requires.holds.0 in
    let xs = c.requires.holds.1 in
    let holds = c.requires.holds.2 in
    let may = may_refuse c.args.session c.args.gateway.now c.abort.new.self (tells before.told before.book) (tells after.told after.book) setup xs holds c.requires.whole c.in-Some.field-0 (sym (c.show.ensures setup xs holds) ∙ c.in-Some.is) c.in-Err.refused answers in
    subst (AbortWorks c.args.session c.args.gateway.now (outside said before wire) (outside said after wire)) (sym c.refused_end.ensures)
    (refuses c.args.session c.args.gateway.now c.abort.new.self before after wire said c.in-Err.refused may answers c.in-Err.ensures.later c.in-Err.ensures.cause c.in-Err.ensures.still)
