use Rattle.std.proofs.Common.{refl, ap, subst, sym}
use Rattle.satp_gateway.proofs.Calling.{err-is}
use Rattle.satp_sides.specs.Calls.{Works}
use Rattle.satp_drive.specs.Calling.{standing}
use Rattle.satp_drive.specs.Driving.{DriveAnswers}
use Rattle.satp_drive.specs.declared.turn.Turn.TheVariants.{Posts, Ends}
use Rattle.satp_drive.proofs.Beginning.{called_err, called_ok}
use Rattle.satp_drive.proofs.drive.drive_resume.Goals as goal

pub returns-in_err-reply-clause-drives : goal.returns-in_err-reply-clause-drives
returns-in_err-reply-clause-drives g c =
    let S = g.S.Device in
    let b = standing c.args.gateway.now (S.told c.args.site.now) (S.book c.args.site.now) (S.faults c.args.site.now) in
    let a = standing c.work.new.self (S.told c.work.new.site) (S.book c.work.new.site) (S.faults c.work.new.site) in
    let told = g.W.Wire.told c.args.wire.now in
    let faults = g.W.Wire.faults c.args.wire.now in
    let e = c.in_err-reply.field-0.0 in
    let x = c.in_err-reply.ensures in (
      c.setup.result.now.at,
      λ setup xs holds. ap (λ s. s.at) (c.setup.ensures setup xs holds),
      subst (λ r. DriveAnswers (Works c.args.session) c.setup.result.now.at b a told told faults faults r) (sym (err-is c.from_residual.result e c.from_residual.ensures))
          (called_err (Works c.args.session) b a e x.answers x.later x.cause x.still, refl, refl),
    )

pub returns-in-Posts-clause-drives : goal.returns-in-Posts-clause-drives
returns-in-Posts-clause-drives g c =
    let S = g.S.Device in
    let b = standing c.args.gateway.now (S.told c.args.site.now) (S.book c.args.site.now) (S.faults c.args.site.now) in
    let a = standing c.work.new.self (S.told c.work.new.site) (S.book c.work.new.site) (S.faults c.work.new.site) in
    let told = g.W.Wire.told c.args.wire.now in
    let faults = g.W.Wire.faults c.args.wire.now in
    let x = c.in_ok-reply.ensures in (
      c.setup.result.now.at,
      λ setup xs holds. ap (λ s. s.at) (c.setup.ensures setup xs holds),
      record {
        reply = c.in_ok-reply.reply;
        begun = a;
        called = called_ok (Works c.args.session) b a c.in_ok-reply.reply x.answers x.later x.kept;
        turn = Posts c.in-Posts.text c.in-Posts.owed;
        follows = c.in-Posts.ensures.follows;
        goes = c.dial.ensures.dials;
      },
    )

pub returns-in-Ends-clause-drives : goal.returns-in-Ends-clause-drives
returns-in-Ends-clause-drives g c =
    let S = g.S.Device in
    let b = standing c.args.gateway.now (S.told c.args.site.now) (S.book c.args.site.now) (S.faults c.args.site.now) in
    let a = standing c.work.new.self (S.told c.work.new.site) (S.book c.work.new.site) (S.faults c.work.new.site) in
    let told = g.W.Wire.told c.args.wire.now in
    let faults = g.W.Wire.faults c.args.wire.now in
    let x = c.in_ok-reply.ensures in (
      c.setup.result.now.at,
      λ setup xs holds. ap (λ s. s.at) (c.setup.ensures setup xs holds),
      record {
        reply = c.in_ok-reply.reply;
        begun = a;
        called = called_ok (Works c.args.session) b a c.in_ok-reply.reply x.answers x.later x.kept;
        turn = Ends c.in-Ends.end;
        follows = c.in-Ends.ensures.follows;
        goes = ((refl, refl {a = told}, refl {a = faults}), refl {a = a});
      },
    )
