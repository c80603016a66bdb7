-- What stands of two sides, whatever came before: of each session with its chains as texts of parts, and of the bag.
use Rattle.std.specs.Prelude.{◌≡◌, ◌⊎◌, ℕ, ◌+◌, List, [], ◌∷◌, ◌++◌, length, Option, Some}
use Rattle.satp_base.specs.Chains.{role_at}
use Rattle.satp_base.specs.Founding.{Founding}
use Rattle.satp_base.specs.LedgerRule.{entry_of}
use Rattle.satp_base.specs.Tales.{other}
use Rattle.satp_base.specs.declared.ledger.Entry.{Entry}
use Rattle.satp_base.specs.declared.message.Part.{Part}
use Rattle.satp_base.specs.declared.message.Role.{Role}
use Rattle.satp_base.specs.declared.message.Role.TheVariants.{Origin, Recipient}
use Rattle.satp_base.specs.declared.name.Name.{Name}
use Rattle.satp_base.specs.declared.session.SessionId.{SessionId}
use Rattle.satp_base.specs.declared.view.View.{View}
use Rattle.satp_sides.specs.LogLaws.{HalfChain}
use Rattle.satp_sides.specs.Points.{Side, view_in}
use Rattle.satp_world.specs.Deal.{DealRun, untouched}
use Rattle.satp_world.specs.Sessions.{Session, SessionStands}
use Rattle.satp_world.specs.Worlds.{BagStands, DealGoesOn, EntriesStand, Gateway, Reached, Setting, World, WorldMoves, as_deal, name_at, opposite, session_in, side_at, start}

-- ---- one session

-- one list of parts is the other, or longer by one, which is then of the side whose place it is
pub data TiedParts (role : Role) (mine peer : List Part) : Type 0 where
  Same : mine ≡ peer → TiedParts role mine peer
  Mine_ahead : (p : Part) → role_at (length peer + 1) ≡ role → mine ≡ peer ++ p ∷ [] → TiedParts role mine peer
  Peer_ahead : (p : Part) → role_at (length mine + 1) ≡ other role → peer ≡ mine ++ p ∷ [] → TiedParts role mine peer

-- the session, as the side of a role and its peer see it
abbrev pub session_by : Role → Option View → Option View → Entry → Entry → Session
session_by Origin v w e f = record { a = v; b = w; a_entry = e; b_entry = f }
session_by Recipient v w e f = record { a = w; b = v; a_entry = f; b_entry = e }

abbrev pub entry_at : SessionId → Side → Entry
entry_at s side = entry_of side.book.entries s

abbrev pub session_of : Role → SessionId → Side → Side → Session
session_of role s mine peer = session_by role (view_in s mine.records) (view_in s peer.records) (entry_at s mine) (entry_at s peer)

-- what stands of the session: the joint invariant, and both chains
pub record PairStands (role : Role) (s : SessionId) (recipient : Name) (key : List ℕ) (mine peer : Side) : Type 0 where
  pub stands : SessionStands (session_of role s mine peer)
  pub my_parts : List Part
  pub peer_parts : List Part
  pub my_chain : HalfChain s recipient key mine.records my_parts
  pub peer_chain : HalfChain s recipient key peer.records peer_parts
  pub tied : TiedParts role my_parts peer_parts

-- ---- a world

-- the session is one of both gateways
abbrev pub IsNamed : Setting → Gateway → SessionId → Type 0
IsNamed st q s = (s.gateway ≡ name_at st q) ⊎ (s.gateway ≡ name_at st (opposite q))

-- of each session of each gateway's name, of the sessions that records name, of the bag, and of the terms of entries
pub record WorldStands (st : Setting) (w : World) : Type 0 where
  pub pairs : (g : Gateway) (s : SessionId) → s.gateway ≡ name_at st g → PairStands Origin s (name_at st (opposite g)) st.key (side_at w g) (side_at w (opposite g))
  pub named : (q : Gateway) (s : SessionId) (v : View) → view_in s (side_at w q).records ≡ Some v → IsNamed st q s
  pub bag : BagStands st w w.bag
  pub entries : (g : Gateway) → EntriesStand (side_at w g)

-- ---- the laws

-- Both ledgers as they were founded meet it. From any two sides that meet it each move keeps it, and the deal of each session goes on by one step or
-- not at all.
abbrev pub BeginningStands : Type 0
BeginningStands = (st : Setting) (a b : Founding) → WorldStands st (start a b)

abbrev pub MovesStand : Type 0
MovesStand =
    (st : Setting) (w v : World) → WorldStands st w → WorldMoves st w v
    → WorldStands st v × ((g : Gateway) (s : SessionId) → s.gateway ≡ name_at st g → DealGoesOn (session_in w g s) (session_in v g s))

-- moves of both sides lead from one world to another
pub data WorldRun (st : Setting) (w : World) : World → Type 0 where
  Rests : WorldRun st w w
  Goes : (u v : World) → WorldRun st w u → WorldMoves st u v → WorldRun st w v

-- Along moves the deal of a session is a run of the deal machine, and the records say each deal of it.
abbrev pub SessionsRun : Type 0
SessionsRun =
    (st : Setting) (a b : Founding) (w v : World) → Reached st a b w → WorldRun st w v → (g : Gateway) (s : SessionId) → s.gateway ≡ name_at st g
    → DealRun (as_deal w g s) (as_deal v g s)

-- from the deal of a session that nobody has begun
abbrev pub SessionsRunFromTheFirst : Type 0
SessionsRunFromTheFirst = (st : Setting) (a b : Founding) (v : World) → Reached st a b v → (g : Gateway) (s : SessionId) → s.gateway ≡ name_at st g → DealRun untouched (as_deal v g s)
