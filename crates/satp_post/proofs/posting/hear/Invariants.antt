use Rattle.std.proofs.Common.{◌≡◌, ◌+◌, ◌-◌, ◌*◌, true, length}
use Rattle.satp_http.specs.Heads.{room}
use Rattle.satp_post.proofs.Ends.{SoFar}
use Rattle.satp_post.proofs.posting.hear.Given as goal

abbrev pub invariant-heard : goal.invariant-heard
invariant-heard g l = record {
  heard : SoFar l.fn.responses l.responses (g.W.Wire.told l.fn.wire) (g.W.Wire.told l.wire);
  is_open : g.W.Wire.is_open l.wire ≡ true;
  listens : g.W.Wire.listens l.wire ≡ g.W.Wire.listens l.fn.wire;
  beside : g.W.Wire.beside l.fn.wire l.wire;
  faults : g.W.Wire.faults l.wire ≡ g.W.Wire.faults l.fn.wire;
}

abbrev pub decreases-heard : goal.decreases-heard
decreases-heard g l = (16 - l.responses.passed) * (room + 1) + (room - length l.responses.held)
