use Rattle.std.proofs.Common.{◌-◌, ◌≤◌}
use Rattle.satp_outcome.specs.Outside.{site_state, wire_state}
use Rattle.satp_serve.specs.GatewayReplies.{IsWithin}
use Rattle.satp_peer_commands.specs.Serving.{point}
use Rattle.satp_peer_commands.proofs.Turns.{Served}
use Rattle.satp_peer_commands.proofs.serving.serve_all.Given as goal

abbrev pub invariant-loop-done : goal.invariant-loop-done
invariant-loop-done g l = record {
  served : Served (point l.fn.gateway (site_state g.S.Device.faults g.S.Device.told g.S.Device.book l.fn.site) (wire_state g.W.Wire.faults g.W.Wire.told g.W.Wire.listens g.W.Wire.is_open l.fn.wire)) (point l.gateway (site_state g.S.Device.faults g.S.Device.told g.S.Device.book l.site) (wire_state g.W.Wire.faults g.W.Wire.told g.W.Wire.listens g.W.Wire.is_open l.wire)) l.done l.tally.requests l.tally.faults;
  most : l.done ≤ l.connections;
  within : IsWithin l.gateway (g.S.Device.told l.site);
  site_beside : g.S.Device.beside l.fn.site l.site;
  wire_beside : g.W.Wire.beside l.fn.wire l.wire;
}

abbrev pub decreases-loop-done : goal.decreases-loop-done
decreases-loop-done g l = l.connections - l.done
