use Rattle.std.proofs.Common.{◌∙◌, Err, Ok, arith, subst, sym}
use Rattle.satp_base.specs.declared.message.Message.{Message}
use Rattle.satp_points.specs.Answers.{Answers, Unchanged}
use Rattle.satp_points.specs.States.{Holds, tells}
use Rattle.satp_sides.specs.Calls.{Hears, IsOwn}
use Rattle.satp_gateway.specs.Handling.{HandleReads, HearsRecover, IsHeardBy, reply_of, unheard_as}
use Rattle.satp_gateway.proofs.Calling.{carried, err-is, ready, refused}
use Rattle.satp_gateway.proofs.Heard.{failed-read, heard-as, late-recover, own-at, own-of, refused-read, same-entry, unchanged-by, unheard-memory}
use Rattle.satp_gateway.proofs.gateway.Gateway.handle.Goals as goal

pub returns-in-Err-clause-answers : goal.returns-in-Err-clause-answers
returns-in-Err-clause-answers g c = λ m e by.
    let site = tells (g.S.Device.told c.args.site.now) (g.S.Device.book c.args.site.now) in
    let reg = c.self.inside.register in
    let heard = subst (λ h. IsHeardBy h c.args.body.now m e) (sym c.self.view_is) by in
    let own = subst (λ k. IsOwn k c.args.body.now m) (sym c.key.ensures) (own-of reg c.log.result.now c.args.body.now m e c.log.ensures.holds c.log.ensures.some heard) in
    subst (λ r. Answers (Hears m c.args.body.now e) c.args.self.now c.args.self.now site site (Err r)) (sym c.unheard_as.ensures)
    (subst (λ h. Answers (Hears m c.args.body.now e) h h site site (Err (unheard_as c.in-Err.fault))) c.self.view_is
    (unheard-memory m c.args.body.now e reg c.log.result.now site c.in-Err.fault c.log.ensures.holds c.log.ensures.some (sym c.is_broken.ensures ∙ c.if-is_broken.false) (c.in-Err.ensures.complete m own)))

pub message-requires-clause-own : goal.message-requires-clause-own
message-requires-clause-own g c =
    let reg = c.self.inside.register in
    heard-as reg c.log.result.now c.log-2.result.now c.in-Ok.heard c.args.body.now c.key.result.now c.log.ensures.holds c.log-2.ensures.holds c.log.ensures.some c.key.ensures c.in-Ok.ensures.own

pub message-requires-clause-holds : goal.message-requires-clause-holds
message-requires-clause-holds g c = let (setup, xs, h) = c.log-2.ensures.some in (setup, xs, (c.log-2.ensures.holds setup xs h).0)

pub returns-in_err-decision-clause-read : goal.returns-in_err-decision-clause-read
returns-in_err-decision-clause-read g c = λ setup xs h.
    let reg = c.self.inside.register in
    let own = heard-as reg c.log.result.now c.log-2.result.now c.in-Ok.heard c.args.body.now c.key.result.now c.log.ensures.holds c.log-2.ensures.holds c.log.ensures.some c.key.ensures c.in-Ok.ensures.own in
    let e = c.in_err-decision.field-0.0 in
    subst (HandleReads setup.key c.args.body.now) (sym (err-is c.from_residual.result e c.from_residual.ensures))
    (refused-read setup.key c.args.body.now e (omega (arith, c.if-body-gt-MOST_BODY.false))
    (c.in-Ok.heard.message, own-at reg c.log-2.result.now c.in-Ok.heard c.args.body.now c.log-2.ensures.holds c.log-2.ensures.some own c.in-Ok.ensures.own.1 setup xs (subst (λ k. Holds k setup xs) (sym c.self.view_is) h))
    c.in_err-decision.ensures.only)

pub returns-in_err-decision-clause-answers : goal.returns-in_err-decision-clause-answers
returns-in_err-decision-clause-answers g c = λ m e by.
    let site = tells (g.S.Device.told c.args.site.now) (g.S.Device.book c.args.site.now) in
    let reg = c.self.inside.register in
    let log = c.log-2.result.now in
    let own = heard-as reg c.log.result.now log c.in-Ok.heard c.args.body.now c.key.result.now c.log.ensures.holds c.log-2.ensures.holds c.log.ensures.some c.key.ensures c.in-Ok.ensures.own in
    let heard = subst (λ h. IsHeardBy h c.args.body.now m e) (sym c.self.view_is) by in
    let asked = subst (λ k. IsOwn k c.args.body.now m) (sym c.key.ensures) (own-of reg c.log.result.now c.args.body.now m e c.log.ensures.holds c.log.ensures.some heard) in
    let same = c.in-Ok.ensures.complete m asked in
    let entry = same-entry reg log c.in-Ok.heard c.args.body.now c.log-2.ensures.holds c.log-2.ensures.some own c.in-Ok.ensures.own.1 m e heard same in
    let r = c.in_err-decision.field-0.0 in
    subst (λ x. Answers (Hears m c.args.body.now e) c.args.self.now c.args.self.now site site (reply_of x)) (sym (err-is c.from_residual.result r c.from_residual.ensures))
    (subst (λ h. Answers (Hears m c.args.body.now e) h h site site (Err r)) c.self.view_is
    (subst (λ t. Answers (Hears m t e) reg reg site site (Err r)) c.in-Ok.ensures.own.1
    (subst (λ (n : Message). Answers (Hears n c.in-Ok.heard.text e) reg reg site site (Err r)) same
    (refused (Hears c.in-Ok.heard.message c.in-Ok.heard.text e) reg log r site c.log-2.ensures.holds c.log-2.ensures.some (sym c.is_broken.ensures ∙ c.if-is_broken.false) (c.in_err-decision.ensures.decides e entry)))))

pub carry_out-requires-clause-ready : goal.carry_out-requires-clause-ready
carry_out-requires-clause-ready g c =
    let (e, entry) = c.in_ok-decision.ensures.entry in
    ready (Hears c.in-Ok.heard.message c.in-Ok.heard.text e) c.self.inside.register c.log-2.result.now c.in_ok-decision.decision c.log-2.ensures.holds (c.in_ok-decision.ensures.decides e entry)

pub returns-in_err-text-clause-read : goal.returns-in_err-text-clause-read
returns-in_err-text-clause-read g c = λ setup xs h.
    let reg = c.self.inside.register in
    let own = heard-as reg c.log.result.now c.log-2.result.now c.in-Ok.heard c.args.body.now c.key.result.now c.log.ensures.holds c.log-2.ensures.holds c.log.ensures.some c.key.ensures c.in-Ok.ensures.own in
    let e = c.in_err-text.field-0.0 in
    subst (HandleReads setup.key c.args.body.now) (sym (err-is c.from_residual-in_err-text.result e c.from_residual-in_err-text.ensures))
    (failed-read setup.key c.args.body.now e (omega (arith, c.if-body-gt-MOST_BODY.false))
    (c.in-Ok.heard.message, own-at reg c.log-2.result.now c.in-Ok.heard c.args.body.now c.log-2.ensures.holds c.log-2.ensures.some own c.in-Ok.ensures.own.1 setup xs (subst (λ k. Holds k setup xs) (sym c.self.view_is) h))
    c.in_err-text.ensures.done.only)

pub returns-in_err-text-clause-answers : goal.returns-in_err-text-clause-answers
returns-in_err-text-clause-answers g c = λ m e by.
    let before = tells (g.S.Device.told c.args.site.now) (g.S.Device.book c.args.site.now) in
    let site = tells (g.S.Device.told c.carry_out.new.site) (g.S.Device.book c.carry_out.new.site) in
    let reg = c.self.inside.register in
    let log = c.log-2.result.now in
    let own = heard-as reg c.log.result.now log c.in-Ok.heard c.args.body.now c.key.result.now c.log.ensures.holds c.log-2.ensures.holds c.log.ensures.some c.key.ensures c.in-Ok.ensures.own in
    let heard = subst (λ h. IsHeardBy h c.args.body.now m e) (sym c.self.view_is) by in
    let asked = subst (λ k. IsOwn k c.args.body.now m) (sym c.key.ensures) (own-of reg c.log.result.now c.args.body.now m e c.log.ensures.holds c.log.ensures.some heard) in
    let same = c.in-Ok.ensures.complete m asked in
    let entry = same-entry reg log c.in-Ok.heard c.args.body.now c.log-2.ensures.holds c.log-2.ensures.some own c.in-Ok.ensures.own.1 m e heard same in
    let r = c.in_err-text.field-0.0 in
    subst (λ x. Answers (Hears m c.args.body.now e) c.args.self.now c.carry_out.new.self before site (reply_of x)) (sym (err-is c.from_residual-in_err-text.result r c.from_residual-in_err-text.ensures))
    (subst (λ h. Answers (Hears m c.args.body.now e) h c.carry_out.new.self before site (Err r)) c.self.view_is
    (subst (λ t. Answers (Hears m t e) reg c.carry_out.new.self before site (Err r)) c.in-Ok.ensures.own.1
    (subst (λ (n : Message). Answers (Hears n c.in-Ok.heard.text e) reg c.carry_out.new.self before site (Err r)) same
    (carried (Hears c.in-Ok.heard.message c.in-Ok.heard.text e) reg log c.in_ok-decision.decision c.log-2.ensures.holds c.log-2.ensures.some (sym c.is_broken.ensures ∙ c.if-is_broken.false) (c.in_ok-decision.ensures.decides e entry)
    c.carry_out.new.self before site (Err r) c.in_err-text.ensures.done))))

pub returns-in_err-text-clause-unchanged : goal.returns-in_err-text-clause-unchanged
returns-in_err-text-clause-unchanged g c =
    let before = tells (g.S.Device.told c.args.site.now) (g.S.Device.book c.args.site.now) in
    let site = tells (g.S.Device.told c.carry_out.new.site) (g.S.Device.book c.carry_out.new.site) in
    let reg = c.self.inside.register in
    let log = c.log-2.result.now in
    let own = heard-as reg c.log.result.now log c.in-Ok.heard c.args.body.now c.key.result.now c.log.ensures.holds c.log-2.ensures.holds c.log.ensures.some c.key.ensures c.in-Ok.ensures.own in
    let r = c.in_err-text.field-0.0 in
    subst (λ x. Unchanged (HearsRecover c.args.self.now c.args.body.now) c.args.self.now c.carry_out.new.self before site (reply_of x)) (sym (err-is c.from_residual-in_err-text.result r c.from_residual-in_err-text.ensures))
    (subst (λ h. Unchanged (HearsRecover h c.args.body.now) h c.carry_out.new.self before site (Err r)) c.self.view_is
    (unchanged-by _ (HearsRecover reg c.args.body.now) reg c.carry_out.new.self before site (Err r)
    (late-recover reg log c.in-Ok.heard c.args.body.now c.log-2.ensures.holds c.log-2.ensures.some own c.in-Ok.ensures.own.1 c.in_ok-decision.decision c.in_ok-decision.ensures.decides) c.in_err-text.ensures.done.unchanged))

pub returns-clause-read : goal.returns-clause-read
returns-clause-read g c = λ setup xs h.
    let reg = c.self.inside.register in
    let own = heard-as reg c.log.result.now c.log-2.result.now c.in-Ok.heard c.args.body.now c.key.result.now c.log.ensures.holds c.log-2.ensures.holds c.log.ensures.some c.key.ensures c.in-Ok.ensures.own in (
      omega (arith, c.if-body-gt-MOST_BODY.false),
      (c.in-Ok.heard.message, own-at reg c.log-2.result.now c.in-Ok.heard c.args.body.now c.log-2.ensures.holds c.log-2.ensures.some own c.in-Ok.ensures.own.1 setup xs (subst (λ k. Holds k setup xs) (sym c.self.view_is) h)),
    )

pub returns-clause-answers : goal.returns-clause-answers
returns-clause-answers g c = λ m e by.
    let before = tells (g.S.Device.told c.args.site.now) (g.S.Device.book c.args.site.now) in
    let site = tells (g.S.Device.told c.carry_out.new.site) (g.S.Device.book c.carry_out.new.site) in
    let reg = c.self.inside.register in
    let log = c.log-2.result.now in
    let own = heard-as reg c.log.result.now log c.in-Ok.heard c.args.body.now c.key.result.now c.log.ensures.holds c.log-2.ensures.holds c.log.ensures.some c.key.ensures c.in-Ok.ensures.own in
    let heard = subst (λ h. IsHeardBy h c.args.body.now m e) (sym c.self.view_is) by in
    let asked = subst (λ k. IsOwn k c.args.body.now m) (sym c.key.ensures) (own-of reg c.log.result.now c.args.body.now m e c.log.ensures.holds c.log.ensures.some heard) in
    let same = c.in-Ok.ensures.complete m asked in
    let entry = same-entry reg log c.in-Ok.heard c.args.body.now c.log-2.ensures.holds c.log-2.ensures.some own c.in-Ok.ensures.own.1 m e heard same in
    let t = c.in_ok-text.text in
    subst (λ x. Answers (Hears m c.args.body.now e) c.args.self.now c.carry_out.new.self before site (Ok x)) (sym c.as_reply.ensures)
    (subst (λ h. Answers (Hears m c.args.body.now e) h c.carry_out.new.self before site (Ok t)) c.self.view_is
    (subst (λ x. Answers (Hears m x e) reg c.carry_out.new.self before site (Ok t)) c.in-Ok.ensures.own.1
    (subst (λ (n : Message). Answers (Hears n c.in-Ok.heard.text e) reg c.carry_out.new.self before site (Ok t)) same
    (carried (Hears c.in-Ok.heard.message c.in-Ok.heard.text e) reg log c.in_ok-decision.decision c.log-2.ensures.holds c.log-2.ensures.some (sym c.is_broken.ensures ∙ c.if-is_broken.false) (c.in_ok-decision.ensures.decides e entry)
    c.carry_out.new.self before site (Ok t) c.in_ok-text.ensures.done))))
