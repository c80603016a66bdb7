use Rattle.std.proofs.Common.{◌≡◌, ◌≤◌, ◌∙◌, Err, Ok, Some, ap, refl, subst, sym, arith}
use Rattle.satp_base.specs.declared.session.SessionId.{SessionId}
use Rattle.satp_points.specs.Answers.{Answers}
use Rattle.satp_points.specs.States.{tells}
use Rattle.satp_sides.specs.Calls.{Starts}
use Rattle.satp_gateway.specs.Handling.{text_said}
use Rattle.satp_gateway.proofs.Calling.{carried, err-is, own-name, ready, refused, replies}
use Rattle.satp_gateway.proofs.gateway.Gateway.start.Goals as goal

pub returns-in_err-decision-clause-answers : goal.returns-in_err-decision-clause-answers
returns-in_err-decision-clause-answers g c = λ s number named.
    let site = tells (g.S.Device.told c.args.site.now) (g.S.Device.book c.args.site.now) in
    let e = c.in_err-decision.field-0.0 in
    let own = own-name c.self.inside.register c.args.self.now c.log.result.now s c.self.view_is c.log.ensures.holds c.log.ensures.some named in
    subst (λ r. Answers (Starts s c.args.terms.now) c.args.self.now c.args.self.now site site (text_said r)) (sym (err-is c.from_residual.result e c.from_residual.ensures))
    (subst (λ h. Answers (Starts s c.args.terms.now) h h site site (Err e)) c.self.view_is
    (refused (Starts s c.args.terms.now) c.self.inside.register c.log.result.now e site c.log.ensures.holds c.log.ensures.some (sym c.is_broken.ensures ∙ c.if-is_broken.false) (c.in_err-decision.ensures.decides s own number)))

pub carry_out-requires-clause-ready : goal.carry_out-requires-clause-ready
carry_out-requires-clause-ready g c =
    let s : SessionId = record { gateway = c.log.result.now.setup.name; number = c.args.number; low = c.requires.number; high = omega (arith, c.ranges.number.fits) } in
    ready (Starts s c.args.terms.now) c.self.inside.register c.log.result.now c.in_ok-decision.decision c.log.ensures.holds (c.in_ok-decision.ensures.decides s refl refl)

pub returns-in_err-text-clause-answers : goal.returns-in_err-text-clause-answers
returns-in_err-text-clause-answers g c = λ s number named.
    let before = tells (g.S.Device.told c.args.site.now) (g.S.Device.book c.args.site.now) in
    let site = tells (g.S.Device.told c.carry_out.new.site) (g.S.Device.book c.carry_out.new.site) in
    let e = c.in_err-text.field-0.0 in
    let own = own-name c.self.inside.register c.args.self.now c.log.result.now s c.self.view_is c.log.ensures.holds c.log.ensures.some named in
    subst (λ r. Answers (Starts s c.args.terms.now) c.args.self.now c.carry_out.new.self before site (text_said r)) (sym (err-is c.from_residual-in_err-text.result e c.from_residual-in_err-text.ensures))
    (subst (λ h. Answers (Starts s c.args.terms.now) h c.carry_out.new.self before site (Err e)) c.self.view_is
    (carried (Starts s c.args.terms.now) c.self.inside.register c.log.result.now c.in_ok-decision.decision c.log.ensures.holds c.log.ensures.some (sym c.is_broken.ensures ∙ c.if-is_broken.false) (c.in_ok-decision.ensures.decides s own number) c.carry_out.new.self before site (Err e) c.in_err-text.ensures.done))

pub unreachable-requires : goal.unreachable-requires
unreachable-requires g c =
    let before = tells (g.S.Device.told c.args.site.now) (g.S.Device.book c.args.site.now) in
    let site = tells (g.S.Device.told c.carry_out.new.site) (g.S.Device.book c.carry_out.new.site) in
    let s : SessionId = record { gateway = c.log.result.now.setup.name; number = c.args.number; low = c.requires.number; high = omega (arith, c.ranges.number.fits) } in
    replies (Starts s c.args.terms.now) c.self.inside.register c.log.result.now c.in_ok-decision.decision c.log.ensures.holds c.log.ensures.some (c.in_ok-decision.ensures.decides s refl refl) c.carry_out.new.self before site (Ok c.in_ok-text.field-0) tt c.in_ok-text.ensures.done (ap Ok c.in-None.is)

pub returns-clause-answers : goal.returns-clause-answers
returns-clause-answers g c = λ s number named.
    let before = tells (g.S.Device.told c.args.site.now) (g.S.Device.book c.args.site.now) in
    let site = tells (g.S.Device.told c.carry_out.new.site) (g.S.Device.book c.carry_out.new.site) in
    let own = own-name c.self.inside.register c.args.self.now c.log.result.now s c.self.view_is c.log.ensures.holds c.log.ensures.some named in
    subst (λ r. Answers (Starts s c.args.terms.now) c.args.self.now c.carry_out.new.self before site r) (ap Ok c.in-Some.is)
    (subst (λ h. Answers (Starts s c.args.terms.now) h c.carry_out.new.self before site (Ok c.in_ok-text.field-0)) c.self.view_is
    (carried (Starts s c.args.terms.now) c.self.inside.register c.log.result.now c.in_ok-decision.decision c.log.ensures.holds c.log.ensures.some (sym c.is_broken.ensures ∙ c.if-is_broken.false) (c.in_ok-decision.ensures.decides s own number) c.carry_out.new.self before site (Ok c.in_ok-text.field-0) c.in_ok-text.ensures.done))
