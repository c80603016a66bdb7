-- The journal of a ledger: its records, and the book that its operations leave.
use Rattle.std.specs.Prelude.{◌≡◌, ◌⊎◌, ℕ, ◌+◌, ◌<◌, List, [], ◌∷◌, ◌++◌, length, take, map}
use Rattle.satp_base.specs.Acts.{founded}
use Rattle.satp_base.specs.Founding.{Founding}
use Rattle.satp_base.specs.Genesis.{IsGenesis}
use Rattle.satp_base.specs.LedgerRule.{LedgerRule}
use Rattle.satp_base.specs.Money.{Book}
use Rattle.satp_base.specs.declared.genesis.Asset.{Asset}
use Rattle.satp_base.specs.declared.genesis.Hold.{Hold}
use Rattle.satp_base.specs.declared.ledger.Answer.TheVariants.{Done}
use Rattle.satp_base.specs.declared.ledger.LedgerKind.{LedgerKind}
use Rattle.satp_base.specs.declared.ledger.LedgerOp.{LedgerOp}
use Rattle.satp_base.specs.declared.message.Terms.{Terms}
use Rattle.satp_base.specs.declared.session.SessionId.{SessionId}
use Rattle.satp_records.specs.Formats.{payload_of}
use Rattle.satp_records.specs.declared.stored.Stored.{Stored}
use Rattle.satp_records.specs.declared.stored.Stored.TheVariants as stored

-- an operation that was asked of a ledger
pub record Operated : Type 0 where
  pub op : LedgerOp
  pub session : SessionId
  pub terms : Terms

-- ---- the records

abbrev pub asset_record : Asset → Stored
asset_record a = stored.Asset a.name a.cap.number

abbrev pub hold_record : Hold → Stored
hold_record h = stored.Hold h.asset h.owner h.amount

abbrev pub act_record : Operated → Stored
act_record a = stored.Act a.op a.session a.terms

-- the kind, then the assets, then the first holdings, each in the order of the genesis, and then the operations
abbrev pub ledger_records : LedgerKind → Founding → List Operated → List Stored
ledger_records kind genesis acts = stored.Kind kind ∷ (map asset_record genesis.assets ++ (map hold_record genesis.holds ++ map act_record acts))

abbrev pub ledger_payloads : LedgerKind → Founding → List Operated → List (List ℕ)
ledger_payloads kind genesis acts = map payload_of (ledger_records kind genesis acts)

-- ---- the book

-- The rule answers each of these operations with Done, one behind the other, and this book is what they leave.
abbrev pub Runs : Book → List Operated → Book → Type 0
Runs b [] new = new ≡ b
Runs b (a ∷ acts) new = (next : Book) × LedgerRule b a.op a.session a.terms Done next × Runs next acts new

-- These payloads are the journal of a ledger that was founded with this genesis, and whose operations since have left this book.
pub record IsLedger (kind : LedgerKind) (payloads : List (List ℕ)) (genesis : Founding) (acts : List Operated) (book : Book) : Type 0 where
  pub valid : IsGenesis genesis
  pub runs : Runs (founded genesis) acts book
  pub list : payloads ≡ ledger_payloads kind genesis acts

-- the same, of some genesis and some operations
abbrev pub Leaves : LedgerKind → List (List ℕ) → Book → Type 0
Leaves kind payloads book = (genesis : Founding) × (acts : List Operated) × IsLedger kind payloads genesis acts book

-- the payloads are a ledger's journal
abbrev pub IsJournal : LedgerKind → List (List ℕ) → Type 0
IsJournal kind payloads = (book : Book) × Leaves kind payloads book

-- The payload at this index is the first that may not stand there: those before it are none, or a ledger's journal, and with it they are not.
pub record IsFirstRefused (kind : LedgerKind) (payloads : List (List ℕ)) (index : ℕ) : Type 0 where
  pub within : index < length payloads
  pub before : (index ≡ 0) ⊎ IsJournal kind (take index payloads)
  pub refused : IsJournal kind (take (index + 1) payloads) → ⊥

-- ---- what follows

-- a journal leaves one book
abbrev pub OneBook : Type 0
OneBook = (kind : LedgerKind) (payloads : List (List ℕ)) (a b : Book) → Leaves kind payloads a → Leaves kind payloads b → a ≡ b

-- of a ledger's journal no payload is refused, and there is at least one
abbrev pub NoneRefused : Type 0
NoneRefused = (kind : LedgerKind) (payloads : List (List ℕ)) → IsJournal kind payloads → (payloads ≡ [] → ⊥) × ((index : ℕ) → IsFirstRefused kind payloads index → ⊥)

-- an operation that is Done may stand behind the others
abbrev pub GoesOn : Type 0
GoesOn =
    (kind : LedgerKind) (payloads : List (List ℕ)) (b new : Book) (op : LedgerOp) (session : SessionId) (terms : Terms) → Leaves kind payloads b
    → LedgerRule b op session terms Done new → Leaves kind (payloads ++ payload_of (stored.Act op session terms) ∷ []) new
