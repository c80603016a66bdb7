use Rattle.std.proofs.Common.{◌∙◌, Err, Ok, Some, ap, subst, sym}
use Rattle.satp_points.specs.Answers.{Answers}
use Rattle.satp_points.specs.States.{tells}
use Rattle.satp_sides.specs.Calls.{Rescues}
use Rattle.satp_gateway.specs.Handling.{text_said}
use Rattle.satp_gateway.proofs.Calling.{carried, err-is, ready, refused, replies}
use Rattle.satp_gateway.proofs.gateway.Gateway.rescue.Goals as goal

pub returns-in_err-decision-clause-answers : goal.returns-in_err-decision-clause-answers
returns-in_err-decision-clause-answers g c =
    let site = tells (g.S.Device.told c.args.site.now) (g.S.Device.book c.args.site.now) in
    let e = c.in_err-decision.field-0.0 in
    subst (λ r. Answers (Rescues c.args.session) c.args.self.now c.args.self.now site site (text_said r)) (sym (err-is c.from_residual.result e c.from_residual.ensures))
    (subst (λ h. Answers (Rescues c.args.session) h h site site (Err e)) c.self.view_is
    (refused (Rescues c.args.session) c.self.inside.register c.log.result.now e site c.log.ensures.holds c.log.ensures.some (sym c.is_broken.ensures ∙ c.if-is_broken.false) c.in_err-decision.ensures.decides))

pub carry_out-requires-clause-ready : goal.carry_out-requires-clause-ready
carry_out-requires-clause-ready g c = ready (Rescues c.args.session) c.self.inside.register c.log.result.now c.in_ok-decision.decision c.log.ensures.holds c.in_ok-decision.ensures.decides

pub returns-in_err-text-clause-answers : goal.returns-in_err-text-clause-answers
returns-in_err-text-clause-answers g c =
    let before = tells (g.S.Device.told c.args.site.now) (g.S.Device.book c.args.site.now) in
    let site = tells (g.S.Device.told c.carry_out.new.site) (g.S.Device.book c.carry_out.new.site) in
    let e = c.in_err-text.field-0.0 in
    subst (λ r. Answers (Rescues c.args.session) c.args.self.now c.carry_out.new.self before site (text_said r)) (sym (err-is c.from_residual-in_err-text.result e c.from_residual-in_err-text.ensures))
    (subst (λ h. Answers (Rescues c.args.session) h c.carry_out.new.self before site (Err e)) c.self.view_is
    (carried (Rescues c.args.session) c.self.inside.register c.log.result.now c.in_ok-decision.decision c.log.ensures.holds c.log.ensures.some (sym c.is_broken.ensures ∙ c.if-is_broken.false) c.in_ok-decision.ensures.decides c.carry_out.new.self before site (Err e) c.in_err-text.ensures.done))

pub unreachable-requires : goal.unreachable-requires
unreachable-requires g c =
    let before = tells (g.S.Device.told c.args.site.now) (g.S.Device.book c.args.site.now) in
    let site = tells (g.S.Device.told c.carry_out.new.site) (g.S.Device.book c.carry_out.new.site) in
    replies (Rescues c.args.session) c.self.inside.register c.log.result.now c.in_ok-decision.decision c.log.ensures.holds c.log.ensures.some c.in_ok-decision.ensures.decides c.carry_out.new.self before site (Ok c.in_ok-text.field-0) tt c.in_ok-text.ensures.done (ap Ok c.in-None.is)

pub returns-clause-answers : goal.returns-clause-answers
returns-clause-answers g c =
    let before = tells (g.S.Device.told c.args.site.now) (g.S.Device.book c.args.site.now) in
    let site = tells (g.S.Device.told c.carry_out.new.site) (g.S.Device.book c.carry_out.new.site) in
    subst (λ r. Answers (Rescues c.args.session) c.args.self.now c.carry_out.new.self before site r) (ap Ok c.in-Some.is)
    (subst (λ h. Answers (Rescues c.args.session) h c.carry_out.new.self before site (Ok c.in_ok-text.field-0)) c.self.view_is
    (carried (Rescues c.args.session) c.self.inside.register c.log.result.now c.in_ok-decision.decision c.log.ensures.holds c.log.ensures.some (sym c.is_broken.ensures ∙ c.if-is_broken.false) c.in_ok-decision.ensures.decides c.carry_out.new.self before site (Ok c.in_ok-text.field-0) c.in_ok-text.ensures.done))
