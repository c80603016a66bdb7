-- One session on both sides: what stands, how it moves, and what always holds.
use Rattle.std.specs.Prelude.{◌≡◌, ◌≢◌, ◌⊎◌, true, false, List, [], ◌∷◌, ◌++◌, IsTrue, Option, Some, None}
use Rattle.satp_base.specs.declared.message.Kind.{Kind}
use Rattle.satp_base.specs.declared.message.Kind.TheVariants.{TransferProposal, CommitReady}
use Rattle.satp_base.specs.declared.message.Role.{Role}
use Rattle.satp_base.specs.declared.message.Terms.{Terms}
use Rattle.satp_base.specs.declared.message.Role.TheVariants.{Origin, Recipient}
use Rattle.satp_base.specs.declared.ledger.LedgerOp.{LedgerOp}
use Rattle.satp_base.specs.declared.record.Way.{Way}
use Rattle.satp_base.specs.declared.ledger.Entry.{Entry}
use Rattle.satp_base.specs.declared.ledger.Entry.TheVariants.{Absent, Burnt, Assigned, Released}
use Rattle.satp_base.specs.declared.ledger.Answer.{Answer}
use Rattle.satp_base.specs.declared.record.Rec.{Rec}
use Rattle.satp_base.specs.declared.record.Rec.TheVariants.{Took}
use Rattle.satp_base.specs.declared.record.Next.TheVariants.{Append, Act}
use Rattle.satp_base.specs.Tales.{has, is_committed, is_rolled_back, is_whole, maker, other}
use Rattle.satp_base.specs.declared.view.View.{View}
use Rattle.satp_base.specs.Views.{begin}
use Rattle.satp_base.specs.Roles.{either, no_way, is_commit, is_back, next_of, After, Other}
use Rattle.satp_sides.specs.Halves.{Agrees, Half, OriginStands, RecipientStands, after_record, half, with_entry}
use Rattle.satp_sides.specs.Points.{tale_of}
use Rattle.satp_world.specs.Deal.{Deal, Decision, DealStep, IsFreeAtOrigin, IsFreeAtRecipient, IsFreeOnOne}

-- A move of one side of a session, while the other side's tale is `peer`.
pub data Moves (role : Role) (h : Half) (peer : List Kind) : Half → Type 0 where
  -- the record that the table makes due
  Appends : (r : Rec) → next_of role h.view ≡ Append r → Moves role h peer (after_record h r)
  -- the record behind the ledger's answer: asked now, the ledger gives it and changes nothing
  Learns : (op : LedgerOp) (answer : Answer) (r : Rec) → next_of role h.view ≡ Act op → Agrees op h.entry answer h.entry → After op answer r → Moves role h peer (after_record h r)
  -- a message of the peer, the next one that stands in the peer's chain
  Takes : (kind : Kind) → h.view.tale ++ kind ∷ [] ≡ peer → maker kind ≡ Some (other role) → Moves role h peer (after_record h (Took kind))
  -- a record beside the table: an abort or a rescue
  Decides : (r : Rec) → Other role h.view r → ((kind : Kind) → r ≢ Took kind) → Moves role h peer (after_record h r)
  -- the operation that the table makes due takes effect, learnt or not
  Acts : (op : LedgerOp) (answer : Answer) (new : Entry) → next_of role h.view ≡ Act op → Agrees op h.entry answer new → Moves role h peer (with_entry h new)

-- One tale is a prefix of the other, and the lengths differ by at most one, the longer one ending with its owner's kind.
pub data Tied (a b : List Kind) : Type 0 where
  Same : a ≡ b → Tied a b
  Origin_ahead : (kind : Kind) → maker kind ≡ Some Origin → b ++ kind ∷ [] ≡ a → Tied a b
  Recipient_ahead : (kind : Kind) → maker kind ≡ Some Recipient → a ++ kind ∷ [] ≡ b → Tied a b

-- the joint invariant of a session that both sides' records name
pub record Stands (a b : Half) : Type 0 where
  pub origin : OriginStands a
  pub recipient : RecipientStands b
  pub tied : Tied a.view.tale b.view.tale
  pub roles : (a.view.role ≡ Origin) × (b.view.role ≡ Recipient)
  pub terms : a.view.terms ≡ b.view.terms

-- ---- a session on both sides

-- what stands of a session: the views of both sides' records, none where no record names the session, and both entries
pub record Session : Type 0 where
  pub a : Option View
  pub b : Option View
  pub a_entry : Entry
  pub b_entry : Entry

-- nobody has begun the session
abbrev pub unbegun : Session
unbegun = record { a = None; b = None; a_entry = Absent; b_entry = Absent }

abbrev pub way_of : Option View → Option Way
way_of None = None
way_of (Some v) = v.way

-- Commit where the origin chose it, else Back where either side chose one, else Open
abbrev pub decision_of : Option Way → Option Way → Decision
decision_of a b = elim (is_commit a) [ true ↦ Decision.Commit | false ↦ elim (either (is_back a) (is_back b)) [ true ↦ Decision.Back | false ↦ Decision.Open ] ]

-- where the deal is
abbrev pub deal_of : Session → Deal
deal_of s = record { a = s.a_entry; b = s.b_entry; v = decision_of (way_of s.a) (way_of s.b); ready = has CommitReady (tale_of s.b) }

-- the deal is as before, or one step of this side further
abbrev pub GoesOn : Role → Deal → Deal → Type 0
GoesOn role d c = (c ≡ d) ⊎ DealStep d role c

-- a move of a session, and the side that makes it
pub data SessionMoves (s : Session) : Role → Session → Type 0 where
  -- the origin begins it, with terms of its choice
  Proposes : (terms : Terms) → s.a ≡ None → SessionMoves s Origin (record s { a = Some (begin Origin terms) })
  -- the recipient takes the proposal that stands in the origin's chain, with its terms
  Accepts : (v : View) → s.a ≡ Some v → s.b ≡ None → SessionMoves s Recipient (record s { b = Some (begin Recipient v.terms) })
  Origin_moves : (v : View) (new : Half) → s.a ≡ Some v → Moves Origin (half v s.a_entry) (tale_of s.b) new → SessionMoves s Origin (record s { a = Some new.view; a_entry = new.entry })
  Recipient_moves : (v : View) (new : Half) → s.b ≡ Some v → Moves Recipient (half v s.b_entry) (tale_of s.a) new → SessionMoves s Recipient (record s { b = Some new.view; b_entry = new.entry })

-- what holds of both sides together, by which of them have begun
abbrev pub StandsAt : Option View → Option View → Entry → Entry → Type 0
StandsAt None None ea eb = (ea ≡ Absent) × (eb ≡ Absent)
StandsAt (Some a) None ea eb = OriginStands (half a ea) × (a.tale ≡ TransferProposal ∷ []) × (a.role ≡ Origin) × (eb ≡ Absent)
StandsAt (Some a) (Some b) ea eb = Stands (half a ea) (half b eb)
StandsAt None (Some b) ea eb = ⊥

-- the joint invariant of a session
abbrev pub SessionStands : Session → Type 0
SessionStands s = StandsAt s.a s.b s.a_entry s.b_entry

-- A move keeps what stands, and is a step of the deal or leaves it as it is.
abbrev pub LawStep : Type 0
LawStep = (s new : Session) (role : Role) → SessionStands s → SessionMoves s role new → SessionStands new × GoesOn role (deal_of s) (deal_of new)

-- ---- runs

-- every state that moves of both sides lead to, from a session that nobody has begun
pub data Reaches : Session → Type 0 where
  Begins : Reaches unbegun
  Goes : (s new : Session) (role : Role) → Reaches s → SessionMoves s role new → Reaches new

-- the session is settled: both entries are those of a commit, or those of a rollback
abbrev pub IsSettled : Session → Type 0
IsSettled s =
    (IsTrue (is_committed (tale_of s.a)) × (s.a_entry ≡ Burnt) × (s.b_entry ≡ Assigned))
    ⊎ (IsTrue (is_rolled_back (tale_of s.a)) × (s.a_entry ≡ Released) × ((s.b_entry ≡ Absent) ⊎ (s.b_entry ≡ Released)))

-- both sides hold the same whole tale
abbrev pub IsWhole : Session → Type 0
IsWhole s = (tale_of s.a ≡ tale_of s.b) × IsTrue (is_whole (tale_of s.a))

-- the mint is recorded, and the recipient has said that it is ready
abbrev pub HasMint : Option View → Type 0
HasMint None = ⊥
HasMint (Some v) = IsTrue v.done.mint × IsTrue (has CommitReady v.tale)

-- commit-ready stands in both chains, and the recipient has chosen no way, so that its abort is too late for good
abbrev pub IsReady : Session → Type 0
IsReady s = IsTrue (has CommitReady (tale_of s.a)) × IsTrue (has CommitReady (tale_of s.b)) × IsTrue (no_way (way_of s.b))

-- What holds of every session that moves lead to.
pub record IsSafe (s : Session) : Type 0 where
  pub never_free_on_both : ¬ (IsFreeAtOrigin (deal_of s) × IsFreeAtRecipient (deal_of s))
  pub burnt_behind_the_mint : s.a_entry ≡ Burnt → HasMint s.b
  pub assigned_behind_the_burn : s.b_entry ≡ Assigned → s.a_entry ≡ Burnt
  pub burnt_by_a_commit : s.a_entry ≡ Burnt → (deal_of s).v ≡ Decision.Commit
  pub released_by_a_back : (s.a_entry ≡ Released) ⊎ (s.b_entry ≡ Released) → (deal_of s).v ≡ Decision.Back
  pub committed_when_ready : IsTrue (is_commit (way_of s.a)) → IsReady s
  pub settled : IsWhole s → IsSettled s
  -- a settled session leaves the asset free on exactly one ledger
  pub free_on_one : IsSettled s → IsFreeOnOne (deal_of s)

abbrev pub LawSessions : Type 0
LawSessions = (s : Session) → Reaches s → SessionStands s × IsSafe s
