-- A gateway between two calls: what it keeps, the moves that change it, and what its records say of one session.
use Rattle.std.specs.Prelude.{ℕ, Bool, true, false, List, [], ◌∷◌, ◌++◌, map, filter, length, Option, Some, None, option_map}
use Rattle.std.specs.List.{flat_map}
use Rattle.std.specs.Ordering.{eq_by_cmp}
use Rattle.satp_base.specs.Keys.{session_cmp}
use Rattle.satp_base.specs.LedgerRule.{operation}
use Rattle.satp_base.specs.Money.{Book}
use Rattle.satp_base.specs.Views.{push, view_of}
use Rattle.satp_base.specs.declared.name.Name.{Name}
use Rattle.satp_base.specs.declared.session.SessionId.{SessionId}
use Rattle.satp_base.specs.declared.message.Kind.{Kind}
use Rattle.satp_base.specs.declared.message.Role.{Role}
use Rattle.satp_base.specs.declared.message.Role.TheVariants.{Origin, Recipient}
use Rattle.satp_base.specs.declared.message.Terms.{Terms}
use Rattle.satp_base.specs.declared.ledger.LedgerOp.{LedgerOp}
use Rattle.satp_base.specs.declared.record.Rec.{Rec}
use Rattle.satp_base.specs.declared.record.Rec.TheVariants.{Began, Took, Made, Did, Chose, Rescue}
use Rattle.satp_base.specs.declared.view.View.{View}

-- ---- who a gateway is, and what it keeps

abbrev pub Text : Type 0
Text = List ℕ

-- its name, its peer's, and the key that both sign with
pub record Party : Type 0 where
  pub name : Name
  pub peer : Name
  pub key : List ℕ

-- the name of the recipient of a session in which the gateway has this role
abbrev pub recipient_at : Party → Role → Name
recipient_at p Origin = p.peer
recipient_at p Recipient = p.name

-- a record of a session, with the text of its message where it has one
pub record Stored : Type 0 where
  pub session : SessionId
  pub rec : Rec
  pub text : Text

abbrev pub stored : SessionId → Rec → Text → Stored
stored s r t = record { session = s; rec = r; text = t }

-- its records, and its ledger
pub record Side : Type 0 where
  pub records : List Stored
  pub book : Book

-- one record more
abbrev pub with_record : Side → SessionId → Rec → Text → Side
with_record side s r t = record { records = side.records ++ stored s r t ∷ []; book = side.book }

-- ---- one session in a list of records

abbrev pub is_session : SessionId → SessionId → Bool
is_session s t = eq_by_cmp session_cmp s t

abbrev pub records_of : SessionId → List Stored → List Stored
records_of s xs = filter (λ x. is_session s x.session) xs

-- what the records say; none where no record names the session
abbrev pub view_in : SessionId → List Stored → Option View
view_in s xs = view_of (map (λ x. x.rec) (records_of s xs))

-- the kinds of its chain's messages
abbrev pub tale_of : Option View → List Kind
tale_of None = []
tale_of (Some v) = v.tale

abbrev pub texts_in_record : Stored → List Text
texts_in_record x = elim x.rec [ Began role terms ↦ x.text ∷ [] | Took kind ↦ x.text ∷ [] | Made kind ↦ x.text ∷ [] | Did op ↦ [] | Chose way ↦ [] | Rescue ↦ [] ]

-- the texts of its chain
abbrev pub chain_in : SessionId → List Stored → List Text
chain_in s xs = flat_map texts_in_record (records_of s xs)

-- what records say of one session: its view, and the texts of its chain
pub record Slot : Type 0 where
  pub view : View
  pub texts : List Text

abbrev pub slot : View → List Text → Slot
slot v texts = record { view = v; texts = texts }

-- none where no record names the session
abbrev pub slot_in : SessionId → List Stored → Option Slot
slot_in s xs = option_map (λ v. slot v (chain_in s xs)) (view_in s xs)

-- the session with one record more
abbrev pub noted : Slot → SessionId → Rec → Text → Slot
noted l s r t = slot (push l.view r) (l.texts ++ texts_in_record (stored s r t))

-- ---- how many sessions

abbrev pub began_as : Role → Rec → Bool
began_as Origin (Began Origin terms) = true
began_as Recipient (Began Recipient terms) = true
began_as _ _ = false

-- how many sessions the records begin in a role
abbrev pub begun : Role → List Stored → ℕ
begun role xs = length (filter (λ x. began_as role x.rec) xs)

-- the most sessions that a gateway begins in each role
abbrev pub most_sessions : ℕ
most_sessions = 2048

-- ---- moves

-- a record is stored, the ledger is asked for an operation of a session, or a text is said
pub data Move : Type 0 where
  Appends : Stored → Move
  Acts : SessionId → LedgerOp → Terms → Move
  Says : Text → Move

-- what the gateway keeps after a move
abbrev pub moved : Side → Move → Side
moved side (Appends x) = with_record side x.session x.rec x.text
moved side (Acts s op terms) = record { records = side.records; book = (operation side.book op s terms).after }
moved side (Says t) = side

-- and after moves in their order
abbrev pub moved_by : Side → List Move → Side
moved_by side [] = side
moved_by side (m ∷ ms) = moved_by (moved side m) ms
