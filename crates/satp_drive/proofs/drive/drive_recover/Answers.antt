use Rattle.std.proofs.Common.{true, refl, ap, subst, sym, Some}
use Rattle.satp_gateway.proofs.Calling.{err-is}
use Rattle.satp_sides.specs.Calls.{Rescues}
use Rattle.satp_drive.specs.Calling.{standing}
use Rattle.satp_drive.specs.Driving.{DriveAnswers}
use Rattle.satp_drive.specs.declared.turn.Turn.TheVariants.{Posts}
use Rattle.satp_drive.proofs.Beginning.{called_err, called_ok}
use Rattle.satp_drive.proofs.drive.drive_recover.Goals as goal

pub returns-in_err-text-clause-drives : goal.returns-in_err-text-clause-drives
returns-in_err-text-clause-drives g c =
    let S = g.S.Device in
    let b = standing c.args.gateway.now (S.told c.args.site.now) (S.book c.args.site.now) (S.faults c.args.site.now) in
    let a = standing c.rescue.new.self (S.told c.rescue.new.site) (S.book c.rescue.new.site) (S.faults c.rescue.new.site) in
    let told = g.W.Wire.told c.args.wire.now in
    let faults = g.W.Wire.faults c.args.wire.now in
    let e = c.in_err-text.field-0.0 in
    let x = c.in_err-text.ensures in (
      c.setup.result.now.at,
      λ setup xs holds. ap (λ s. s.at) (c.setup.ensures setup xs holds),
      subst (λ r. DriveAnswers (Rescues c.args.session) c.setup.result.now.at b a told told faults faults r) (sym (err-is c.from_residual.result e c.from_residual.ensures))
          (called_err (Rescues c.args.session) b a e x.answers x.later x.cause x.still, refl, refl),
    )

pub returns-clause-drives : goal.returns-clause-drives
returns-clause-drives g c =
    let S = g.S.Device in
    let b = standing c.args.gateway.now (S.told c.args.site.now) (S.book c.args.site.now) (S.faults c.args.site.now) in
    let a = standing c.rescue.new.self (S.told c.rescue.new.site) (S.book c.rescue.new.site) (S.faults c.rescue.new.site) in
    let told = g.W.Wire.told c.args.wire.now in
    let faults = g.W.Wire.faults c.args.wire.now in
    let x = c.in_ok-text.ensures in (
      c.setup.result.now.at,
      λ setup xs holds. ap (λ s. s.at) (c.setup.ensures setup xs holds),
      record {
        reply = Some c.in_ok-text.text;
        begun = a;
        called = called_ok (Rescues c.args.session) b a (Some c.in_ok-text.text) x.answers x.later x.kept;
        turn = Posts c.in_ok-text.text true;
        follows = refl;
        goes = c.dial.ensures.dials;
      },
    )
