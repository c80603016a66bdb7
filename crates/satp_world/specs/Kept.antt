-- What each side of a reached world keeps: its records are a log, what was said stands in one of both, and moves lead on.
use Rattle.std.specs.Prelude.{◌≡◌, ◌⊎◌, ◌<◌, ◌≤◌, List, [], length, Some}
use Rattle.satp_base.specs.Forms.{IsMessage}
use Rattle.satp_base.specs.Founding.{Founding}
use Rattle.satp_base.specs.Signatures.{own}
use Rattle.satp_base.specs.declared.message.Body.TheVariants as body
use Rattle.satp_base.specs.declared.message.Message.{Message}
use Rattle.satp_base.specs.declared.message.Role.TheVariants.{Recipient}
use Rattle.satp_base.specs.declared.session.SessionId.{SessionId}
use Rattle.satp_base.specs.declared.view.View.{View}
use Rattle.satp_sides.specs.Logs.{IsLog}
use Rattle.satp_sides.specs.Moves.{AreMoves, Among, Delivered, said_by}
use Rattle.satp_sides.specs.Points.{Move, Text, begun, most_sessions, moved_by, records_of, view_in}
use Rattle.satp_sides.specs.Said.{WasSaid}
use Rattle.satp_world.specs.Worlds.{Gateway, Reached, Setting, World, name_at, opposite, party_at, side_at, with_side}

-- each record may come after those before it, so that no opening refuses the journal of an honest gateway
abbrev pub LogsAreKept : Type 0
LogsAreKept = (st : Setting) (a b : Founding) (w : World) → Reached st a b w → (g : Gateway) → IsLog (party_at st g) (side_at w g).records

-- every text in the bag stands in a chain of its sender, or is a recovery message of the first texts of such a chain
abbrev pub BagWasSaid : Type 0
BagWasSaid = (st : Setting) (a b : Founding) (w : World) → Reached st a b w → (t : Text) → Among t w.bag → (g : Gateway) × WasSaid (party_at st g) (side_at w g).records t

-- a list of moves of one side leads to a reached world
abbrev pub MovesReach : Type 0
MovesReach =
    (st : Setting) (a b : Founding) (w : World) → Reached st a b w → (g : Gateway) (ms : List Move) → AreMoves (party_at st g) (side_at w g) w.bag ms
    → Reached st a b (with_side w g (moved_by (side_at w g) ms) (said_by w.bag ms))

-- ---- who knows a session, and what there is room for

-- the gateway's records name the session
abbrev pub Names : World → Gateway → SessionId → Type 0
Names w g s = (v : View) × (view_in s (side_at w g).records ≡ Some v)

-- A message is from one gateway to the other, and its sender's records name its session, or it says that they don't and its receiver's do.
pub record IsKnown (st : Setting) (w : World) (m : Message) : Type 0 where
  pub by : Gateway
  pub sender : m.sender ≡ name_at st by
  pub receiver : m.receiver ≡ name_at st (opposite by)
  pub names : Names w by m.session ⊎ ((m.body ≡ body.Update 0 []) × Names w (opposite by) m.session)

abbrev pub SenderKnows : Type 0
SenderKnows = (st : Setting) (a b : Founding) (w : World) → Reached st a b w → (m : Message) → IsMessage m → Among (own st.key m) w.bag → IsKnown st w m

-- a gateway that hasn't accepted a session of its peer has room for it
abbrev pub RoomLeft : Type 0
RoomLeft =
    (st : Setting) (a b : Founding) (w : World) → Reached st a b w → (g : Gateway) (s : SessionId) → s.gateway ≡ name_at st g → Names w g s
    → records_of s (side_at w (opposite g)).records ≡ [] → begun Recipient (side_at w (opposite g)).records < most_sessions

-- no text is longer than a gateway hears, alone or as an entry of an update
abbrev pub SaidIsShort : Type 0
SaidIsShort = (st : Setting) (a b : Founding) (w : World) → Reached st a b w → (t : Text) → Delivered st.key w.bag t → length t ≤ 8192
