use Rattle.std.proofs.Common.{◌∙◌, ap, refl, sym}
use Rattle.satp_records.specs.declared.stored.Setup.{Setup}
use Rattle.satp_points.specs.States.{tells}
use Rattle.satp_sides.specs.Calls.{Starts}
use Rattle.satp_peer_commands.specs.Driving.DriveWorks.{drives, refuses}
use Rattle.satp_outcome.specs.Outside.{sink, site_state, wire_state}
use Rattle.satp_peer_commands.proofs.DriveEnds.{refused_of, told_of}
use Rattle.satp_peer_commands.proofs.Refusals.{leaves, may_refuse_start}
use Rattle.satp_peer_commands.proofs.drive_commands.start_at.Goals as goal

pub outcome_of_refusal-requires : goal.outcome_of_refusal-requires
outcome_of_refusal-requires g c = may_refuse_start c.args.gateway.now c.drive_start.new.gateway (tells (g.S.Device.told c.args.site.now) (g.S.Device.book c.args.site.now)) (tells (g.S.Device.told c.drive_start.new.site) (g.S.Device.book c.drive_start.new.site)) c.requires.holds c.requires.whole c.in-Err.refused c.in-Err.ensures.drives.0 c.args.terms.now c.in-Err.ensures.drives.5.0.answers

pub returns-in-Ok-clause-works : goal.returns-in-Ok-clause-works
returns-in-Ok-clause-works g c = λ input.
    let s = c.in-Ok.ensures.drives.0 in
    let holds = c.requires.holds in
    let gateway = ap (λ (x : Setup). x.name) (c.setup.ensures holds.0 holds.1 holds.2) ∙ sym (c.in-Ok.ensures.drives.3 holds.0 holds.1 holds.2) in (
      s,
      c.in-Ok.ensures.drives.2,
      c.in-Ok.ensures.drives.3,
      drives c.in-Ok.driven (record {
        at = c.in-Ok.ensures.drives.1;
        peers = c.in-Ok.ensures.drives.4;
        after = c.drive_start.new.gateway;
        drives = c.in-Ok.ensures.drives.5;
        site_counts = c.in-Ok.ensures.site_counts;
        wire_counts = c.in-Ok.ensures.wire_counts;
        named = c.in-Ok.ensures.named;
        shut = c.drive_start.ensures.shut.0;
        listens = c.drive_start.ensures.shut.1;
        input = refl;
      }) (told_of _ s c.in-Ok.driven (sink g.K.Sink.faults g.K.Sink.taken g.K.Sink.has_failed c.args.out.now) (sink g.K.Sink.faults g.K.Sink.taken g.K.Sink.has_failed c.tell_end.new.out) c.tell_end.result c.tell_end.ensures gateway (sym c.in-Ok.ensures.drives.2)),
    )

pub returns-in-Err-clause-works : goal.returns-in-Err-clause-works
returns-in-Err-clause-works g c = λ input.
    let s = c.in-Err.ensures.drives.0 in
    let holds = c.requires.holds in
    let gateway = ap (λ (x : Setup). x.name) (c.setup.ensures holds.0 holds.1 holds.2) ∙ sym (c.in-Err.ensures.drives.3 holds.0 holds.1 holds.2) in (
      s,
      c.in-Err.ensures.drives.2,
      c.in-Err.ensures.drives.3,
      refuses c.in-Err.refused (may_refuse_start c.args.gateway.now c.drive_start.new.gateway (tells (g.S.Device.told c.args.site.now) (g.S.Device.book c.args.site.now)) (tells (g.S.Device.told c.drive_start.new.site) (g.S.Device.book c.drive_start.new.site)) c.requires.holds c.requires.whole c.in-Err.refused c.in-Err.ensures.drives.0 c.args.terms.now c.in-Err.ensures.drives.5.0.answers) (record {
        at = c.in-Err.ensures.drives.1;
        peers = c.in-Err.ensures.drives.4;
        after = c.drive_start.new.gateway;
        drives = c.in-Err.ensures.drives.5;
        site_counts = c.in-Err.ensures.site_counts;
        wire_counts = c.in-Err.ensures.wire_counts;
        named = tt;
        shut = c.drive_start.ensures.shut.0;
        listens = c.drive_start.ensures.shut.1;
        input = refl;
      })
          (leaves (Starts c.in-Err.ensures.drives.0 c.args.terms.now) c.args.gateway.now c.drive_start.new.gateway (site_state g.S.Device.faults g.S.Device.told g.S.Device.book c.args.site.now) (site_state g.S.Device.faults g.S.Device.told g.S.Device.book c.drive_start.new.site) c.in-Err.refused c.in-Err.ensures.drives.5.0.answers c.in-Err.ensures.site_counts.still) (ap (wire_state g.W.Wire.faults g.W.Wire.told g.W.Wire.listens g.W.Wire.is_open) c.in-Err.ensures.refused) refl (refused_of _ s c.in-Err.refused c.outcome_of_refusal.result c.outcome_of_refusal.ensures gateway (sym c.in-Err.ensures.drives.2)),
    )
