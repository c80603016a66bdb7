-- Whole sessions as lists of moves from the beginning: each ending can be reached, over texts and ledgers.
use Rattle.std.specs.Prelude.{◌≢◌, IsTrue, ◌≡◌, ℕ, ◌<◌, List, [], ◌∷◌, ◌+◌, ◌++◌, take, length, Some, None}
use Rattle.std.specs.FinMap as map_of
use Rattle.satp_base.specs.Founding.{Founding}
use Rattle.satp_base.specs.Money.{Book, cap_of, free_of, total_of}
use Rattle.satp_base.specs.LedgerRule.{Allows}
use Rattle.satp_base.specs.Tales.{eleven}
use Rattle.satp_base.specs.declared.ledger.Entry.{Entry}
use Rattle.satp_base.specs.declared.ledger.Entry.TheVariants.{Absent, Burnt, Assigned, Released}
use Rattle.satp_base.specs.declared.ledger.LedgerOp.TheVariants.{Lock, Mint}
use Rattle.satp_base.specs.declared.message.Kind.{Kind}
use Rattle.satp_base.specs.declared.message.Kind.TheVariants.{Reject, Rollback, RollbackAck}
use Rattle.satp_base.specs.declared.message.Link.{Link}
use Rattle.satp_base.specs.declared.message.Terms.{Terms}
use Rattle.satp_base.specs.declared.message.Body.{Body}
use Rattle.satp_base.specs.declared.message.Body.TheVariants as body
use Rattle.satp_base.specs.declared.session.SessionId.{SessionId}
use Rattle.satp_base.specs.Signatures.{own}
use Rattle.satp_sides.specs.Moves.{Among, message_from}
use Rattle.satp_sides.specs.Points.{tale_of, Text}
use Rattle.satp_world.specs.Worlds.{opposite, IsSettledAt, Reached, Setting, World, party_at, session_in}
use Rattle.satp_base.specs.declared.record.Cause.TheVariants.{Aborted}
use Rattle.satp_base.specs.declared.record.Way.TheVariants.{Back}
use Rattle.satp_base.specs.declared.view.View.{View}
use Rattle.satp_sides.specs.Points.{view_in}
use Rattle.satp_world.specs.Totals.{AllSettled}
use Rattle.satp_world.specs.Worlds.Gateway.{A, B}
use Rattle.satp_world.specs.Worlds.{Gateway}

-- a ledger as it was founded
abbrev pub first_book : Founding → Book
first_book f = record { genesis = f; entries = map_of.empty }

-- Moves lead to a world in which the session has this tale on both sides and is settled with these entries.
pub record Ends (st : Setting) (a b : Founding) (s : SessionId) (tale : List Kind) (mine peer : Entry) (world : World) : Type 0 where
  pub reached : Reached st a b world
  pub origin_tale : tale_of (session_in world A s).a ≡ tale
  pub recipient_tale : tale_of (session_in world A s).b ≡ tale
  pub settled : IsSettledAt world A s
  pub all_settled : AllSettled st world
  pub origin_entry : (session_in world A s).a_entry ≡ mine
  pub recipient_entry : (session_in world A s).b_entry ≡ peer

abbrev pub CanEnd : Setting → Founding → Founding → SessionId → List Kind → Entry → Entry → Type 0
CanEnd st a b s tale mine peer = (world : World) × Ends st a b s tale mine peer world

-- the gateway has said this of the session
abbrev pub HasSaid : Setting → Gateway → SessionId → Body → List Text → Type 0
HasSaid st g s b bag = Among (own st.key (message_from (party_at st g) s b)) bag

-- the recovery messages of a round that this gateway has started, `entries` those of the answer
pub record HasRound (st : Setting) (starter : Gateway) (s : SessionId) (entries : ℕ) (bag : List Text) : Type 0 where
  pub asked : ℕ
  pub asked_last : Link
  pub recover : HasSaid st starter s (body.Recover asked asked_last) bag
  pub answered : ℕ
  pub carried : List Text
  pub update : HasSaid st (opposite starter) s (body.Update answered carried) bag
  pub carries : length carried ≡ entries
  pub ended : ℕ
  pub ended_last : Link
  pub success : HasSaid st starter s (body.Success ended ended_last) bag

-- the same where a message was lost and a gateway stopped, and a round that it started went on from there
abbrev pub CanRecover : Setting → Founding → Founding → Gateway → SessionId → ℕ → List Kind → Entry → Entry → Type 0
CanRecover st a b starter s entries tale mine peer = (world : World) × Ends st a b s tale mine peer world × HasRound st starter s entries world.bag

-- the same where the origin has turned back after its lock was made
abbrev pub CanTurn : Setting → Founding → Founding → SessionId → List Kind → Entry → Entry → Type 0
CanTurn st a b s tale mine peer =
    (world : World) × Ends st a b s tale mine peer world
    × ((v : View) × (view_in s world.a.records ≡ Some v) × (v.way ≡ Some (Back Aborted)) × IsTrue v.done.lock)

-- both sides have begun two sessions, one of the first gateway's name and one of this gateway's
pub record Beside (st : Setting) (a b : Founding) (s : SessionId) (g : Gateway) (t : SessionId) (world : World) : Type 0 where
  pub reached : Reached st a b world
  pub first : (tale_of (session_in world A s).a ≡ take 1 eleven) × (tale_of (session_in world A s).b ≡ take 1 eleven)
  pub second : (tale_of (session_in world g t).a ≡ take 1 eleven) × (tale_of (session_in world g t).b ≡ take 1 eleven)

-- the recipient has said an update with so many messages
pub record SaysSo (st : Setting) (a b : Founding) (s : SessionId) (entries : ℕ) (world : World) : Type 0 where
  pub reached : Reached st a b world
  pub answered : ℕ
  pub carried : List Text
  pub update : HasSaid st B s (body.Update answered carried) world.bag
  pub carries : length carried ≡ entries

abbrev pub rolled_back : List Kind
rolled_back = Rollback ∷ RollbackAck ∷ []

abbrev pub rejected : List Kind
rejected = Reject ∷ Rollback ∷ RollbackAck ∷ []

-- Each ending of a session of the first gateway's name, from ledgers whose amounts allow it.
pub record Endings (st : Setting) (a b : Founding) (s : SessionId) (terms : Terms) : Type 0 where
  -- eleven messages, with a lock, a mint, a burn and an assignment
  pub commits : Allows (first_book a) Lock terms → Allows (first_book b) Mint terms → CanEnd st a b s eleven Burnt Assigned
  -- the origin aborts before anything is locked
  pub aborts : CanEnd st a b s (take 2 eleven ++ rolled_back) Released Absent
  -- the origin's ledger refuses the lock
  pub lacks_funds : free_of (first_book a) terms.asset terms.originator < terms.amount.number → CanEnd st a b s (take 4 eleven ++ rolled_back) Released Absent
  -- the recipient's ledger refuses the mint, since it doesn't know the asset
  pub rejects : Allows (first_book a) Lock terms → cap_of b terms.asset ≡ None → CanEnd st a b s (take 7 eleven ++ rejected) Released Absent
  -- or since it would pass the asset's cap
  pub passes_the_cap : Allows (first_book a) Lock terms → (cap : ℕ) → cap_of b terms.asset ≡ Some cap → cap < total_of (first_book b) terms.asset + terms.amount.number → CanEnd st a b s (take 7 eleven ++ rejected) Released Absent
  -- the recipient aborts as soon as it has the proposal
  pub declines : CanEnd st a b s (take 1 eleven ++ rejected) Released Absent
  -- the recipient aborts behind its mint
  pub recipient_aborts : Allows (first_book a) Lock terms → Allows (first_book b) Mint terms → CanEnd st a b s (take 7 eleven ++ rejected) Released Released
  -- or at the places between: after transfer-commence, and after lock-assert
  pub declines_the_transfer : CanEnd st a b s (take 3 eleven ++ rejected) Released Absent
  pub declines_the_lock : Allows (first_book a) Lock terms → CanEnd st a b s (take 5 eleven ++ rejected) Released Absent
  -- the origin aborts after its lock was made
  pub aborts_locked : Allows (first_book a) Lock terms → CanTurn st a b s (take 4 eleven ++ rolled_back) Released Absent
  -- or after commit-ready: what was locked and what was minted are released
  pub aborts_ready : Allows (first_book a) Lock terms → Allows (first_book b) Mint terms → CanEnd st a b s (take 8 eleven ++ rolled_back) Released Released
  -- an update has two messages
  pub says_two : (world : World) × SaysSo st a b s 2 world
  -- a session of the second gateway's name stands beside it, or another one of the first's
  pub beside : (t : SessionId) → t.gateway ≡ st.b → (world : World) × Beside st a b s B t world
  pub second : (t : SessionId) → t.gateway ≡ st.a → t ≢ s → (world : World) × Beside st a b s A t world
  -- the proposal is lost and the origin stops: the recipient knows nothing of it, it is said again, and the session is rolled back
  pub proposes_again : CanRecover st a b A s 0 (take 2 eleven ++ rolled_back) Released Absent
  -- commit-prepare is lost and the origin stops: it is said again in the round, and the session commits
  pub says_again : Allows (first_book a) Lock terms → Allows (first_book b) Mint terms → CanRecover st a b A s 0 eleven Burnt Assigned
  -- commit-ready is lost and the origin stops: it finds it in the answer, and the session commits
  pub finds_again : Allows (first_book a) Lock terms → Allows (first_book b) Mint terms → CanRecover st a b A s 1 eleven Burnt Assigned
  -- commit-ready is lost and the recipient stops: it says it again in a round of its own, and the session commits
  pub recipient_says_again : Allows (first_book a) Lock terms → Allows (first_book b) Mint terms → CanRecover st a b B s 0 eleven Burnt Assigned
  -- lock-receipt is lost and the origin stops: it finds it in the answer, and the session is rolled back, since it isn't ready
  pub rescues : Allows (first_book a) Lock terms → CanRecover st a b A s 1 (take 6 eleven ++ rolled_back) Released Absent

-- gateways, ledgers, a session and terms that meet both conditions
pub record Case : Type 0 where
  pub st : Setting
  pub a : Founding
  pub b : Founding
  pub s : SessionId
  pub terms : Terms
  pub named : s.gateway ≡ st.a
  pub can_lock : Allows (first_book a) Lock terms
  pub can_mint : Allows (first_book b) Mint terms

-- every ending can be reached, and there are such ledgers
abbrev pub LawEndings : Type 0
LawEndings = ((st : Setting) (a b : Founding) (s : SessionId) (terms : Terms) → s.gateway ≡ st.a → Endings st a b s terms) × Case
