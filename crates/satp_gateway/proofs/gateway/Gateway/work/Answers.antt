use Rattle.std.proofs.Common.{◌∙◌, Err, subst, sym}
use Rattle.satp_points.specs.Answers.{Answers}
use Rattle.satp_points.specs.States.{tells}
use Rattle.satp_sides.specs.Calls.{Works}
use Rattle.satp_gateway.proofs.Calling.{carried, err-is, ready, refused}
use Rattle.satp_gateway.proofs.gateway.Gateway.work.Goals as goal

pub returns-in_err-decision-clause-answers : goal.returns-in_err-decision-clause-answers
returns-in_err-decision-clause-answers g c =
    let site = tells (g.S.Device.told c.args.site.now) (g.S.Device.book c.args.site.now) in
    let e = c.in_err-decision.field-0.0 in
    subst (λ r. Answers (Works c.args.session) c.args.self.now c.args.self.now site site r) (sym (err-is c.from_residual.result e c.from_residual.ensures))
    (subst (λ h. Answers (Works c.args.session) h h site site (Err e)) c.self.view_is
    (refused (Works c.args.session) c.self.inside.register c.log.result.now e site c.log.ensures.holds c.log.ensures.some (sym c.is_broken.ensures ∙ c.if-is_broken.false) c.in_err-decision.ensures.decides))

pub carry_out-requires-clause-ready : goal.carry_out-requires-clause-ready
carry_out-requires-clause-ready g c = ready (Works c.args.session) c.self.inside.register c.log.result.now c.in_ok-decision.decision c.log.ensures.holds c.in_ok-decision.ensures.decides

pub returns-clause-answers : goal.returns-clause-answers
returns-clause-answers g c =
    let before = tells (g.S.Device.told c.args.site.now) (g.S.Device.book c.args.site.now) in
    let site = tells (g.S.Device.told c.carry_out.new.site) (g.S.Device.book c.carry_out.new.site) in
    subst (λ h. Answers (Works c.args.session) h c.carry_out.new.self before site c.carry_out.result) c.self.view_is
    (carried (Works c.args.session) c.self.inside.register c.log.result.now c.in_ok-decision.decision c.log.ensures.holds c.log.ensures.some (sym c.is_broken.ensures ∙ c.if-is_broken.false) c.in_ok-decision.ensures.decides c.carry_out.new.self before site c.carry_out.result c.carry_out.ensures.done)
