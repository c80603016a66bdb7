use Rattle.std.proofs.Common.{false, refl, ap, subst, sym, Some}
use Rattle.satp_gateway.proofs.Calling.{err-is}
use Rattle.satp_sides.specs.Calls.{Starts}
use Rattle.satp_points.specs.States.{tells}
use Rattle.satp_drive.specs.Calling.{standing}
use Rattle.satp_drive.specs.Driving.{DriveAnswers}
use Rattle.satp_drive.specs.declared.turn.Turn.TheVariants.{Posts}
use Rattle.satp_drive.proofs.Beginning.{called_err, called_ok, whole_after}
use Rattle.satp_drive.proofs.drive.drive_start.Goals as goal

pub returns-in_err-text-clause-drives : goal.returns-in_err-text-clause-drives
returns-in_err-text-clause-drives g c =
    let S = g.S.Device in
    let b = standing c.args.gateway.now (S.told c.args.site.now) (S.book c.args.site.now) (S.faults c.args.site.now) in
    let a = standing c.start.new.self (S.told c.start.new.site) (S.book c.start.new.site) (S.faults c.start.new.site) in
    let told = g.W.Wire.told c.args.wire.now in
    let faults = g.W.Wire.faults c.args.wire.now in
    let s = c.own_session.result in
    let named = c.own_session.ensures in
    let e = c.in_err-text.field-0.0 in
    let x = c.in_err-text.ensures in (
      s,
      c.setup.result.now.at,
      named.number,
      named.gateway,
      λ setup xs holds. ap (λ s. s.at) (c.setup.ensures setup xs holds),
      subst (λ r. DriveAnswers (Starts s c.args.terms.now) c.setup.result.now.at b a told told faults faults r) (sym (err-is c.from_residual.result e c.from_residual.ensures))
          (called_err (Starts s c.args.terms.now) b a e (x.answers s named.number named.gateway) x.later x.cause x.still, refl, refl),
    )

pub dial-requires-clause-whole : goal.dial-requires-clause-whole
dial-requires-clause-whole g c =
    let S = g.S.Device in
    let s = c.own_session.result in
    let named = c.own_session.ensures in
    whole_after (Starts s c.args.terms.now) c.args.gateway.now c.start.new.self (tells (S.told c.args.site.now) (S.book c.args.site.now)) (tells (S.told c.start.new.site) (S.book c.start.new.site)) (Some c.in_ok-text.text)
    (c.in_ok-text.ensures.answers s named.number named.gateway)

pub dial-requires-clause-within : goal.dial-requires-clause-within
dial-requires-clause-within g c = c.in_ok-text.ensures.within (dial-requires-clause-whole g c)

pub returns-clause-drives : goal.returns-clause-drives
returns-clause-drives g c =
    let S = g.S.Device in
    let b = standing c.args.gateway.now (S.told c.args.site.now) (S.book c.args.site.now) (S.faults c.args.site.now) in
    let a = standing c.start.new.self (S.told c.start.new.site) (S.book c.start.new.site) (S.faults c.start.new.site) in
    let told = g.W.Wire.told c.args.wire.now in
    let faults = g.W.Wire.faults c.args.wire.now in
    let s = c.own_session.result in
    let named = c.own_session.ensures in
    let x = c.in_ok-text.ensures in (
      s,
      c.setup.result.now.at,
      named.number,
      named.gateway,
      λ setup xs holds. ap (λ s. s.at) (c.setup.ensures setup xs holds),
      record {
        reply = Some c.in_ok-text.text;
        begun = a;
        called = called_ok (Starts s c.args.terms.now) b a (Some c.in_ok-text.text) (x.answers s named.number named.gateway) x.later x.kept;
        turn = Posts c.in_ok-text.text false;
        follows = refl;
        goes = c.dial.ensures.dials;
      },
    )
