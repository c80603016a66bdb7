use Rattle.std.proofs.Common.{◌<◌, [], false, length}
use Rattle.satp_serve.specs.Exchange.{Serves}
use Rattle.satp_serve.specs.Feeding.{standing}
use Rattle.satp_serve.proofs.listening.Listening.answer_all.Given as goal

-- what was said so far is what was asked
abbrev pub invariant-answered : goal.invariant-answered
invariant-answered g l = record {
  serves : Serves g.G.Responder.replies l.fn.self.requests l.self.requests (standing l.fn.responder l.fn.site l.fn.self.count l.fn.said false) (standing l.responder l.site l.self.count l.said false) [];
  most : l.self.count < 64;
  fits : g.G.Responder.fits l.responder l.site;
}

abbrev pub decreases-answered : goal.decreases-answered
decreases-answered g l = length l.self.requests.held
