-- What a wire counts over its calls.
use Rattle.std.specs.Prelude.{◌≡◌, ◌≤◌, ◌⊎◌, ℕ, List, length, Result}
use Rattle.satp_base.specs.Streams.{Rose}
use Rattle.satp_serve.specs.declared.responder.Halt.{Halt}
use Rattle.satp_serve.specs.declared.responder.Replied.{Replied}
use Rattle.satp_loop.specs.Following.{Leads, Point, Step}
use Rattle.satp_loop.specs.Lines.{Lining}
use Rattle.satp_loop.specs.declared.peer.Peer.{Peer}

-- No count falls. A count of faults that rose has a cause: no memory was found, or a second connection was refused.
pub record Counts (old new : Lining) : Type 0 where
  pub dials : length old.dials ≤ length new.dials
  pub faults : old.faults ≤ new.faults
  pub wants : old.wants ≤ new.wants
  pub cause : (new.faults ≡ old.faults) ⊎ Rose old.wants new.wants ⊎ (2 ≤ length new.dials)

-- so over whatever steps
abbrev pub CountsSteps : {S : Type 0} → (Peer → S → List ℕ → Result Replied Halt → Peer → S → Type 0) → Type 0
CountsSteps {S} replies = (steps : List Step) (p q : Point S) → Leads replies steps p q → Counts p.line q.line
