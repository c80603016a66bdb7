use Rattle.std.proofs.Common.{◌≡◌, ◌-◌, ◌≤◌, true, false, length}
use Rattle.satp_serve.proofs.Hearing.{AllHeard}
use Rattle.satp_serve.proofs.connection.hear.Given as goal

-- all that was heard is answered
abbrev pub invariant-loop-heard : goal.invariant-loop-heard
invariant-loop-heard g l = record {
  heard : AllHeard g.G.Responder.replies l.fn.responder l.fn.site l.served l.responder l.site (g.W.Wire.told l.fn.wire) (g.W.Wire.told l.wire) l.heard;
  within : l.heard ≤ 1048576;
  piece : length l.piece ≡ 1024;
  fits : g.G.Responder.fits l.responder l.site;
  unclosed : l.served.closed ≡ false;
  is_open : g.W.Wire.is_open l.wire ≡ true;
  listens : g.W.Wire.listens l.wire ≡ g.W.Wire.listens l.fn.wire;
  beside : g.W.Wire.beside l.fn.wire l.wire;
  faults : g.W.Wire.faults l.wire ≡ g.W.Wire.faults l.fn.wire;
}

abbrev pub decreases-loop-heard : goal.decreases-loop-heard
decreases-loop-heard g l = 1048576 - l.heard
