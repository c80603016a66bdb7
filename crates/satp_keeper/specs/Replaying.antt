-- How one record of a ledger's journal follows those before it.
use Rattle.std.specs.Prelude.{◌≡◌, ◌≢◌, ℕ, Bool, true, false, List, [], ◌∷◌, Option, Some, None, slice_get, Result, Ok, Err}
use Rattle.satp_base.specs.Acts.{founded}
use Rattle.satp_base.specs.Founding.{Founding}
use Rattle.satp_base.specs.Genesis.{AddsAsset, AddsHold}
use Rattle.satp_base.specs.LedgerRule.{LedgerRule}
use Rattle.satp_base.specs.Money.{Book}
use Rattle.satp_base.specs.declared.amount.Amount.{Amount}
use Rattle.satp_base.specs.declared.ledger.Answer.TheVariants.{Done}
use Rattle.satp_base.specs.declared.ledger.LedgerKind.{LedgerKind}
use Rattle.satp_base.specs.declared.ledger.LedgerOp.{LedgerOp}
use Rattle.satp_base.specs.declared.message.Terms.{Terms}
use Rattle.satp_base.specs.declared.session.SessionId.{SessionId}
use Rattle.satp_base.specs.declared.text.Memory.{Memory}
use Rattle.satp_records.specs.Formats.{IsFormed, payload_of}
use Rattle.satp_records.specs.declared.stored.Stored.{Stored}
use Rattle.satp_records.specs.declared.stored.Stored.TheVariants as stored
use Rattle.satp_keeper.specs.Books.{IsLedger, Operated}

-- what the records so far say: the genesis, whether an operation stands behind it, and the book
pub record ReplayState : Type 0 where
  pub genesis : Founding
  pub begun : Bool
  pub book : Book

abbrev pub replay_state : {C : Type 0} → (C → Book) → Founding → Option C → ReplayState
replay_state book genesis None = record { genesis = genesis; begun = false; book = founded genesis }
replay_state book genesis (Some core) = record { genesis = genesis; begun = true; book = book core }

-- nothing but the kind of the ledger was said
abbrev pub start : ReplayState
start = let g : Founding = record { assets = []; holds = [] } in record { genesis = g; begun = false; book = founded g }

-- An asset stands before all holdings and operations, a holding before all operations; the genesis takes each of them, and the rule answers each operation with Done.
abbrev pub RecordFollows : ReplayState → Stored → ReplayState → Type 0
RecordFollows f (stored.Asset name units) g =
    (cap : Amount) × (cap.number ≡ units) × (f.begun ≡ false) × (f.genesis.holds ≡ []) × AddsAsset f.genesis (record { name = name; cap = cap }) g.genesis
    × (g.begun ≡ false) × (g.book ≡ founded g.genesis)
RecordFollows f (stored.Hold asset owner amount) g =
    (f.begun ≡ false) × AddsHold f.genesis (record { asset = asset; owner = owner; amount = amount }) g.genesis × (g.begun ≡ false) × (g.book ≡ founded g.genesis)
RecordFollows f (stored.Act op session terms) g = LedgerRule f.book op session terms Done g.book × (g.genesis ≡ f.genesis) × (g.begun ≡ true)
RecordFollows f (stored.Kind kind) g = ⊥
RecordFollows f (stored.Setup setup) g = ⊥
RecordFollows f (stored.Session session rec text) g = ⊥

-- whether a record follows
abbrev pub FollowAnswers : ReplayState → Stored → ReplayState → Result Bool Memory → Type 0
FollowAnswers f s g (Ok true) = RecordFollows f s g
FollowAnswers f s g (Ok false) = (h : ReplayState) → RecordFollows f s h → ⊥
FollowAnswers f s g (Err memory) = Unit {0}

-- whether the rule answers an operation with Done
abbrev pub DoneAnswers : LedgerOp → SessionId → Terms → Book → Book → Result Bool Memory → Type 0
DoneAnswers op session terms b new (Ok true) = LedgerRule b op session terms Done new
DoneAnswers op session terms b new (Ok false) = (other : Book) → LedgerRule b op session terms Done other → ⊥
DoneAnswers op session terms b new (Err memory) = Unit {0}

-- whether an operation stands among the records
abbrev pub begun_by : List Operated → Bool
begun_by [] = false
begun_by (a ∷ acts) = true

-- these payloads are a ledger's journal that says so
pub record ReadsTo (kind : LedgerKind) (payloads : List (List ℕ)) (f : ReplayState) : Type 0 where
  pub acts : List Operated
  pub ledger : IsLedger kind payloads f.genesis acts f.book
  pub begun : f.begun ≡ begun_by acts

-- the record that stands at an index
pub record IsRecordAt (payloads : List (List ℕ)) (index : ℕ) (s : Stored) : Type 0 where
  pub formed : IsFormed s
  pub there : slice_get payloads index ≡ Some (payload_of s)

-- no record stands there
abbrev pub NoRecordAt : List (List ℕ) → ℕ → Type 0
NoRecordAt payloads index = (s : Stored) → IsFormed s → slice_get payloads index ≢ Some (payload_of s)
