use Rattle.std.proofs.Common.{arith}
use Rattle.satp_outcome.specs.Outside.{site_state, wire_state}
use Rattle.satp_peer_commands.specs.Serving.{point}
use Rattle.satp_peer_commands.proofs.Turns.{none, one_more}
use Rattle.satp_peer_commands.proofs.serving.serve_all.Goals as goal

pub loop-done-init : goal.loop-done-init
loop-done-init g c = record {
  served = none (point c.args.gateway.now (site_state g.S.Device.faults g.S.Device.told g.S.Device.book c.args.site.now) (wire_state g.W.Wire.faults g.W.Wire.told g.W.Wire.listens g.W.Wire.is_open c.args.wire.now)) c.requires.closed c.requires.listens;
  most = omega arith;
  within = c.requires.within;
  site_beside = g.S.Device.beside_same c.args.site.now;
  wire_beside = g.met.W.Wire.beside_same c.args.wire.now;
}

pub loop-done-preserved : goal.loop-done-preserved
loop-done-preserved g c = record {
  served =
      one_more (point c.args.gateway.now (site_state g.S.Device.faults g.S.Device.told g.S.Device.book c.args.site.now) (wire_state g.W.Wire.faults g.W.Wire.told g.W.Wire.listens g.W.Wire.is_open c.args.wire.now))
      (point c.loop-done.gateway (site_state g.S.Device.faults g.S.Device.told g.S.Device.book c.loop-done.site) (wire_state g.W.Wire.faults g.W.Wire.told g.W.Wire.listens g.W.Wire.is_open c.loop-done.wire))
      (point c.serve_next.new.gateway (site_state g.S.Device.faults g.S.Device.told g.S.Device.book c.serve_next.new.site) (wire_state g.W.Wire.faults g.W.Wire.told g.W.Wire.listens g.W.Wire.is_open c.serve_next.new.wire)) c.loop-done.done c.loop-done.tally.requests c.loop-done.tally.faults c.add.new.self.requests c.add.new.self.faults c.in_ok-connection.connection
      c.loop-done.invariant.served c.in_ok-connection.ensures.serves.0 c.in_ok-connection.ensures.serves.1 c.add.ensures.requests c.add.ensures.faults;
  most = omega (arith, c.loop-done-test.true);
  within = c.in_ok-connection.ensures.within;
  site_beside = g.S.Device.beside_then c.args.site.now c.loop-done.site c.serve_next.new.site c.loop-done.invariant.site_beside c.serve_next.ensures.site_beside;
  wire_beside = g.met.W.Wire.beside_then c.args.wire.now c.loop-done.wire c.serve_next.new.wire c.loop-done.invariant.wire_beside c.serve_next.ensures.wire_beside;
}
