use Rattle.satp_loop.proofs.Keeping.{fits_from}
use Rattle.satp_loop.proofs.Stepping.{place_grows}
use Rattle.satp_loop.proofs.loop_wire.LoopWire.hand_over.Goals as goal

pub invariant_of-self : goal.invariant_of-self
invariant_of-self g c = record {
  heard = place_grows c.args.self.now.line.place c.args.self.now.answering c.in-Some.answering c.hear.new.self c.hear.ensures.grows.0 c.args.self.now.heard c.in-Some.is c.hear.ensures.grows.1;
  within = fits_from c.hear.new.peer.gateway (g.S.Device.told c.hear.new.site) c.hear.ensures.within;
}
