use Rattle.std.proofs.Common.{◌∙◌, Err, Ok, refl, subst, sym}
use Rattle.satp_points.specs.Answers.{Answers}
use Rattle.satp_points.specs.States.{tells}
use Rattle.satp_points.specs.declared.fault.Refused.TheVariants.{Broken}
use Rattle.satp_point_laws.proofs.DecidedLaw.{broken-answers}
use Rattle.satp_sides.specs.Calls.{Aborts}
use Rattle.satp_gateway.specs.Handling.{Forgets}
use Rattle.satp_gateway.proofs.Calling.{carried, err-is, ready, refused}
use Rattle.satp_gateway.proofs.gateway.Gateway.abort.Goals as goal

pub returns-then-is_broken-clause-answers : goal.returns-then-is_broken-clause-answers
returns-then-is_broken-clause-answers g c =
    let site = tells (g.S.Device.told c.args.site.now) (g.S.Device.book c.args.site.now) in (
      Err Broken,
      refl,
      subst (λ h. Answers (Aborts c.args.session) h h site site (Err Broken)) c.self.view_is (broken-answers (Aborts c.args.session) c.self.inside.register site (sym c.is_broken.ensures ∙ c.if-is_broken.true)),
    )

pub returns-in_err-decision-clause-answers : goal.returns-in_err-decision-clause-answers
returns-in_err-decision-clause-answers g c =
    let site = tells (g.S.Device.told c.args.site.now) (g.S.Device.book c.args.site.now) in
    let e = c.in_err-decision.field-0.0 in (
      Err e,
      subst (Forgets (Err e)) (sym (err-is c.from_residual.result e c.from_residual.ensures)) refl,
      subst (λ h. Answers (Aborts c.args.session) h h site site (Err e)) c.self.view_is
          (refused (Aborts c.args.session) c.self.inside.register c.log.result.now e site c.log.ensures.holds c.log.ensures.some (sym c.is_broken.ensures ∙ c.if-is_broken.false) c.in_err-decision.ensures.decides),
    )

pub carry_out-requires-clause-ready : goal.carry_out-requires-clause-ready
carry_out-requires-clause-ready g c = ready (Aborts c.args.session) c.self.inside.register c.log.result.now c.in_ok-decision.decision c.log.ensures.holds c.in_ok-decision.ensures.decides

pub returns-in_err-text-clause-answers : goal.returns-in_err-text-clause-answers
returns-in_err-text-clause-answers g c =
    let before = tells (g.S.Device.told c.args.site.now) (g.S.Device.book c.args.site.now) in
    let site = tells (g.S.Device.told c.carry_out.new.site) (g.S.Device.book c.carry_out.new.site) in
    let e = c.in_err-text.field-0.0 in (
      Err e,
      subst (Forgets (Err e)) (sym (err-is c.from_residual-in_err-text.result e c.from_residual-in_err-text.ensures)) refl,
      subst (λ h. Answers (Aborts c.args.session) h c.carry_out.new.self before site (Err e)) c.self.view_is
          (carried (Aborts c.args.session) c.self.inside.register c.log.result.now c.in_ok-decision.decision c.log.ensures.holds c.log.ensures.some (sym c.is_broken.ensures ∙ c.if-is_broken.false) c.in_ok-decision.ensures.decides c.carry_out.new.self before site (Err e) c.in_err-text.ensures.done),
    )

pub returns-clause-answers : goal.returns-clause-answers
returns-clause-answers g c =
    let before = tells (g.S.Device.told c.args.site.now) (g.S.Device.book c.args.site.now) in
    let site = tells (g.S.Device.told c.carry_out.new.site) (g.S.Device.book c.carry_out.new.site) in (
      Ok c.in_ok-text.text,
      tt,
      subst (λ h. Answers (Aborts c.args.session) h c.carry_out.new.self before site (Ok c.in_ok-text.text)) c.self.view_is
          (carried (Aborts c.args.session) c.self.inside.register c.log.result.now c.in_ok-decision.decision c.log.ensures.holds c.log.ensures.some (sym c.is_broken.ensures ∙ c.if-is_broken.false) c.in_ok-decision.ensures.decides c.carry_out.new.self before site (Ok c.in_ok-text.text) c.in_ok-text.ensures.done),
    )
