use Rattle.std.proofs.Common.{◌≡◌, ◌<◌, ◌++◌, List, ℕ, false, length}
use Rattle.satp_http.specs.Heads.{room}
use Rattle.satp_serve.specs.Exchange.{Serves}
use Rattle.satp_serve.specs.Feeding.{standing}
use Rattle.satp_serve.proofs.listening.Listening.answer_piece.Given as goal

-- the first bytes of the piece were heard, and what was said is what they ask
abbrev pub invariant-fed : goal.invariant-fed
invariant-fed g l = record {
  front : List ℕ;
  cut : l.piece ≡ front ++ l.rest;
  serves : Serves g.G.Responder.replies l.fn.self.requests l.self.requests (standing l.fn.responder l.fn.site l.fn.self.count l.fn.said false) (standing l.responder l.site l.self.count l.said false) front;
  most : l.self.count < 64;
  fits : g.G.Responder.fits l.responder l.site;
  room : length l.self.requests.held < room;
}

abbrev pub decreases-fed : goal.decreases-fed
decreases-fed g l = length l.rest
