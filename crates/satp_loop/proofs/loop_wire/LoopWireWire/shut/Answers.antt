use Rattle.satp_serve.specs.GatewayReplies.{RepliesAt, site_view}
use Rattle.satp_loop.specs.Peers.{PeerReplies}
use Rattle.satp_loop.proofs.Stepping.{shut_follows}
use Rattle.satp_loop.proofs.loop_wire.LoopWireWire.shut.Goals as goal

pub returns-clause-beside : goal.returns-clause-beside
returns-clause-beside g c =
    let old = c.args.self.now in
    shut_follows (PeerReplies (RepliesAt (site_view g.S.Device.told g.S.Device.book g.S.Device.faults) g.S.Device.beside)) g.S.Device.beside old.line c.shut.new.self c.shut.ensures.shut old.answering old.peer old.site (g.S.Device.beside_same old.site)
