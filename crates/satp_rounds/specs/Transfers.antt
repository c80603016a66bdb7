-- A proposal that the origin alone knows, a new session, and one that is resumed, by kinds alone.
use Rattle.std.specs.Prelude.{◌≡◌, ℕ, zero, suc, ◌+◌, ◌-◌, ◌≤◌, ◌==◌, Bool, true, false, [], ◌∷◌, length, IsTrue, Option, Some, None, if◌then◌else◌}
use Rattle.satp_base.specs.Roles.{both, either}
use Rattle.satp_base.specs.Tales.{is_whole, kind_at, last_by, last_of, other}
use Rattle.satp_base.specs.Views.{begin}
use Rattle.satp_base.specs.declared.ledger.Entry.TheVariants.{Absent}
use Rattle.satp_base.specs.declared.message.Kind.{Kind}
use Rattle.satp_base.specs.declared.message.Kind.TheVariants.{TransferProposal}
use Rattle.satp_base.specs.declared.message.Role.{Role}
use Rattle.satp_base.specs.declared.message.Role.TheVariants.{Origin, Recipient}
use Rattle.satp_base.specs.declared.message.Terms.{Terms}
use Rattle.satp_base.specs.declared.view.View.{View}
use Rattle.satp_sides.specs.Halves.{Half, OriginStands, half}
use Rattle.satp_world.specs.Sessions.{Stands}
use Rattle.satp_rounds.specs.Funds.{Funds, Room, worked}
use Rattle.satp_rounds.specs.Rounds.{Pair, Passing, Settled, Settles, exchange, half_at, pair, takes, with_half}

-- ---- sides that know nothing of the session

-- the view of a session that no record names
abbrev pub unnamed_view : Role → Terms → View
unnamed_view role terms = record (begin role terms) { tale = [] }

-- a side without a record of the session, and without an entry
abbrev pub unnamed : Role → Terms → Half
unnamed role terms = half (unnamed_view role terms) Absent

-- The origin has proposed, and may have stopped or begun a round then; the proposal was lost. A round of the origin settles that too.
abbrev pub ProposalsSettle : Type 0
ProposalsSettle = (a : Half) (terms : Terms) → OriginStands a → a.view.tale ≡ TransferProposal ∷ [] → (f : Funds) → Settles Origin f (pair a (unnamed Recipient terms))

-- ---- a new session

abbrev pub proposed : Terms → Pair
proposed terms = pair (half (begin Origin terms) Absent) (unnamed Recipient terms)

-- the proposal is handed over, and each reply
abbrev pub transferred : Funds → Terms → Passing
transferred f terms = exchange 12 Origin f (Some TransferProposal) (proposed terms)

abbrev pub has_room : Room → Bool
has_room Room.Enough = true
has_room Room.Unknown = false
has_room Room.Over = false

-- both ledgers accept the amount
abbrev pub accepts : Funds → Bool
accepts f = both f.lock (has_room f.mint)

-- At most eleven texts pass, and eleven where both ledgers accept: then the session is settled by a commit, and else it is rolled back.
pub record Transfers (f : Funds) (terms : Terms) : Type 0 where
  pub short : length (transferred f terms).texts ≤ 11
  pub eleven : IsTrue (accepts f) → length (transferred f terms).texts ≡ 11
  pub settled : Settled (accepts f) (transferred f terms).after

abbrev pub TransfersSettle : Type 0
TransfersSettle = (f : Funds) (terms : Terms) → Transfers f terms

-- ---- a session that is resumed

-- a message by its place and kind
abbrev pub Placed : Type 0
Placed = ℕ × Kind

abbrev pub placed : ℕ → Option Kind → Option Placed
placed n None = None
placed n (Some k) = Some (n, k)

-- the last message of a chain
abbrev pub last_placed : Half → Option Placed
last_placed h = placed (length h.view.tale) (last_of h.view.tale)

-- this side's last message of a whole chain: the last, or the one before
abbrev pub last_of_own : Role → Half → Option Placed
last_of_own role h = if last_by role h.view.tale then last_placed h else placed (length h.view.tale - 1) (kind_at h.view.tale (length h.view.tale - 1))

-- the reply to a message that stands at this place already
abbrev pub again_reply : Role → ℕ → Half → Option Placed
again_reply role n h =
    if is_whole h.view.tale then (if n == length h.view.tale then None else last_of_own role h) else placed (n + 1) (kind_at h.view.tale (n + 1))

-- the reply to a message that was taken
abbrev pub next_reply : Role → Half → Option Placed
next_reply role h = if last_by role h.view.tale then last_placed h else None

-- how many texts have passed, and both sides after them
pub record Talk : Type 0 where
  pub texts : ℕ
  pub after : Pair

abbrev pub one_more : Talk → Talk
one_more t = record { texts = t.texts + 1; after = t.after }

-- a message is handed to a side that takes it as the next of its chain, or has it already
abbrev pub handed : Bool → Role → Funds → Placed → Half → Half
handed true role f m h = takes role f m.1 h
handed false role f m h = worked role f h

abbrev pub replied : Bool → Role → Placed → Half → Option Placed
replied true role m h = next_reply role h
replied false role m h = again_reply role m.0 h

-- a message is handed to the other side, and so is each reply, until none comes
abbrev pub talk : ℕ → Role → Funds → Option Placed → Pair → Talk
talk zero from f m s = record { texts = 0; after = s }
talk (suc n) from f None s = record { texts = 0; after = s }
talk (suc n) from f (Some m) s =
    let h = half_at (other from) s in
    let next = m.0 == length h.view.tale + 1 in
    let new = handed next (other from) f m h in
    one_more (talk n (other from) f (replied next (other from) m new) (with_half (other from) new s))

abbrev pub resumed_by : Bool → Role → Funds → Half → Pair → Talk
resumed_by true role f h s = record { texts = 0; after = with_half role h s }
resumed_by false role f h s = talk 12 role f (last_placed h) (with_half role h s)

-- The side does its due work and hands over its chain's last message; nothing where its chain is whole then.
abbrev pub resumed : Role → Funds → Pair → Talk
resumed role f s = let h = worked role f (half_at role s) in resumed_by (is_whole h.view.tale) role f h s

-- It hands over a message of its own, or none. Its own chain is whole after at most eleven texts. Of the peer nothing is said: it may lack the last message
-- until a round.
pub record Resumes (role : Role) (f : Funds) (s : Pair) : Type 0 where
  pub own : IsTrue (either (is_whole (worked role f (half_at role s)).view.tale) (last_by role (worked role f (half_at role s)).view.tale))
  pub short : (resumed role f s).texts ≤ 11
  pub whole : IsTrue (is_whole (half_at role (resumed role f s).after).view.tale)

abbrev pub ResumesEnd : Type 0
ResumesEnd = (a b : Half) → Stands a b → (role : Role) (f : Funds) → Resumes role f (pair a b)

-- so it is of a session that the origin alone knows
abbrev pub ProposalsEnd : Type 0
ProposalsEnd = (a : Half) (terms : Terms) → OriginStands a → a.view.tale ≡ TransferProposal ∷ [] → (f : Funds) → Resumes Origin f (pair a (unnamed Recipient terms))
