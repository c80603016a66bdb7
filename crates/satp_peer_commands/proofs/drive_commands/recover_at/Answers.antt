use Rattle.std.proofs.Common.{ap, refl}
use Rattle.satp_points.specs.States.{tells}
use Rattle.satp_sides.specs.Calls.{Rescues}
use Rattle.satp_peer_commands.specs.Driving.DriveWorks.{drives, refuses}
use Rattle.satp_outcome.specs.Outside.{site_state, wire_state}
use Rattle.satp_peer_commands.proofs.Refusals.{leaves, may_refuse_rescue}
use Rattle.satp_peer_commands.proofs.drive_commands.recover_at.Goals as goal

pub outcome_of_refusal-requires : goal.outcome_of_refusal-requires
outcome_of_refusal-requires g c = may_refuse_rescue c.args.gateway.now c.drive_recover.new.gateway (tells (g.S.Device.told c.args.site.now) (g.S.Device.book c.args.site.now)) (tells (g.S.Device.told c.drive_recover.new.site) (g.S.Device.book c.drive_recover.new.site)) c.requires.holds c.requires.whole c.in-Err.refused c.args.session c.in-Err.ensures.drives.2.0.answers

pub returns-in-Ok-clause-works : goal.returns-in-Ok-clause-works
returns-in-Ok-clause-works g c = λ input.
    drives c.in-Ok.driven (record {
      at = c.in-Ok.ensures.drives.0;
      peers = c.in-Ok.ensures.drives.1;
      after = c.drive_recover.new.gateway;
      drives = c.in-Ok.ensures.drives.2;
      site_counts = c.in-Ok.ensures.site_counts;
      wire_counts = c.in-Ok.ensures.wire_counts;
      named = c.in-Ok.ensures.named;
      shut = c.drive_recover.ensures.shut.0;
      listens = c.drive_recover.ensures.shut.1;
      input = refl;
    }) c.tell_end.ensures

pub returns-in-Err-clause-works : goal.returns-in-Err-clause-works
returns-in-Err-clause-works g c = λ input.
    refuses c.in-Err.refused (may_refuse_rescue c.args.gateway.now c.drive_recover.new.gateway (tells (g.S.Device.told c.args.site.now) (g.S.Device.book c.args.site.now)) (tells (g.S.Device.told c.drive_recover.new.site) (g.S.Device.book c.drive_recover.new.site)) c.requires.holds c.requires.whole c.in-Err.refused c.args.session c.in-Err.ensures.drives.2.0.answers) (record {
      at = c.in-Err.ensures.drives.0;
      peers = c.in-Err.ensures.drives.1;
      after = c.drive_recover.new.gateway;
      drives = c.in-Err.ensures.drives.2;
      site_counts = c.in-Err.ensures.site_counts;
      wire_counts = c.in-Err.ensures.wire_counts;
      named = tt;
      shut = c.drive_recover.ensures.shut.0;
      listens = c.drive_recover.ensures.shut.1;
      input = refl;
    })
    (leaves (Rescues c.args.session) c.args.gateway.now c.drive_recover.new.gateway (site_state g.S.Device.faults g.S.Device.told g.S.Device.book c.args.site.now) (site_state g.S.Device.faults g.S.Device.told g.S.Device.book c.drive_recover.new.site) c.in-Err.refused c.in-Err.ensures.drives.2.0.answers c.in-Err.ensures.site_counts.still) (ap (wire_state g.W.Wire.faults g.W.Wire.told g.W.Wire.listens g.W.Wire.is_open) c.in-Err.ensures.refused) refl c.outcome_of_refusal.ensures
