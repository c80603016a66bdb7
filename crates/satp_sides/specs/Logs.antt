-- Which records a gateway may store: the same for its moves and for the journal that it is opened from.
use Rattle.std.specs.Prelude.{◌≡◌, ◌<◌, List, [], ◌∷◌, ◌++◌, Some}
use Rattle.satp_base.specs.Canonical.{part_kind}
use Rattle.satp_base.specs.Chains.{next_text}
use Rattle.satp_base.specs.Forms.{IsPart}
use Rattle.satp_base.specs.Roles.{RoleRule}
use Rattle.satp_base.specs.declared.message.Part.{Part}
use Rattle.satp_base.specs.declared.message.Part.TheVariants.{Proposal}
use Rattle.satp_base.specs.declared.message.Role.TheVariants.{Origin, Recipient}
use Rattle.satp_base.specs.declared.message.Terms.{Terms}
use Rattle.satp_base.specs.declared.record.Rec.{Rec}
use Rattle.satp_base.specs.declared.record.Rec.TheVariants.{Began, Took, Made, Did, Chose, Rescue}
use Rattle.satp_base.specs.declared.session.SessionId.{SessionId}
use Rattle.satp_base.specs.declared.view.View.{View}
use Rattle.satp_sides.specs.Points.{Party, Stored, begun, chain_in, most_sessions, recipient_at, records_of, stored, view_in}

-- a record without a message
abbrev pub IsNote : Rec → Type 0
IsNote (Did op) = Unit {0}
IsNote (Chose way) = Unit {0}
IsNote Rescue = Unit {0}
IsNote _ = ⊥

-- The record may come after these.
pub data MayCome (p : Party) (before : List Stored) : Stored → Type 0 where
  -- a session of the gateway's own name begins, with its proposal
  Starts : (s : SessionId) (terms : Terms) → s.gateway ≡ p.name → records_of s before ≡ [] → begun Origin before < most_sessions
      → MayCome p before (stored s (Began Origin terms) (next_text s p.peer p.key [] (Proposal terms)))
  -- one of its peer's name begins
  Accepts : (s : SessionId) (terms : Terms) → s.gateway ≡ p.peer → records_of s before ≡ [] → begun Recipient before < most_sessions
      → MayCome p before (stored s (Began Recipient terms) (next_text s p.name p.key [] (Proposal terms)))
  -- a message of the peer that the role's rule allows, whose text is the chain's next
  Takes : (s : SessionId) (v : View) (part : Part) → view_in s before ≡ Some v → RoleRule v.role v (Took (part_kind part)) → IsPart part
      → MayCome p before (stored s (Took (part_kind part)) (next_text s (recipient_at p v.role) p.key (chain_in s before) part))
  -- one of its own
  Makes : (s : SessionId) (v : View) (part : Part) → view_in s before ≡ Some v → RoleRule v.role v (Made (part_kind part)) → IsPart part
      → MayCome p before (stored s (Made (part_kind part)) (next_text s (recipient_at p v.role) p.key (chain_in s before) part))
  -- what is no message
  Notes : (s : SessionId) (v : View) (r : Rec) → view_in s before ≡ Some v → RoleRule v.role v r → IsNote r → MayCome p before (stored s r [])

-- each record may come after those before it
abbrev pub IsLog : Party → List Stored → Type 0
IsLog p xs = (before : List Stored) (x : Stored) (rest : List Stored) → xs ≡ before ++ x ∷ rest → MayCome p before x
