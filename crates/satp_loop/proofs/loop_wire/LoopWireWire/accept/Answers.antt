use Rattle.satp_base.specs.declared.wire.Dial.TheVariants.{Accept}
use Rattle.satp_serve.specs.GatewayReplies.{RepliesAt, site_view}
use Rattle.satp_loop.specs.Peers.{PeerReplies}
use Rattle.satp_loop.proofs.Stepping.{opens_follows}
use Rattle.satp_loop.proofs.loop_wire.LoopWireWire.accept.Goals as goal

pub returns-clause-beside : goal.returns-clause-beside
returns-clause-beside g c =
    let old = c.args.self.now in
    let new = c.begin.new.self in
    opens_follows (PeerReplies (RepliesAt (site_view g.S.Device.told g.S.Device.book g.S.Device.faults) g.S.Device.beside)) g.S.Device.beside _ _ Accept c.begin.result old.line new.line old.answering new.answering old.peer new.peer old.site new.site
    tt (g.S.Device.beside_same old.site) c.begin.ensures.ok c.begin.ensures.err c.begin.ensures.peer
