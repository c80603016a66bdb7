-- Journals of ledgers, and operations on a ledger that is kept in one.
use Rattle.std.proofs.Common.{lit≤}
use Rattle.std.specs.Prelude.{◌≡◌, ℕ, List, [], ◌∷◌, Some, Result, Ok, Err, true, false}
use Rattle.satp_base.specs.Acts.{founded}
use Rattle.satp_base.specs.Calls.{Told, made}
use Rattle.satp_base.specs.Money.{Book}
use Rattle.satp_base.specs.declared.area.Area.TheVariants.{Ledger}
use Rattle.satp_base.specs.declared.ledger.Answer.{Answer}
use Rattle.satp_base.specs.declared.ledger.Answer.TheVariants.{Done}
use Rattle.satp_base.specs.declared.ledger.Entry.TheVariants.{Absent, Locked}
use Rattle.satp_base.specs.declared.ledger.LedgerKind.TheVariants.{Accounts}
use Rattle.satp_base.specs.declared.ledger.LedgerOp.TheVariants.{Lock, Burn}
use Rattle.satp_journal.specs.Appending.{events_of}
use Rattle.satp_journal.specs.State.{Held}
use Rattle.satp_records.specs.Formats.{payload_of}
use Rattle.satp_records.specs.declared.stored.Stored.TheVariants as stored
use Rattle.satp_keeper.specs.Books.{IsFirstRefused, IsJournal, IsLedger, Operated, Runs, ledger_payloads}
use Rattle.satp_keeper.specs.Operating.{KeepAnswers, faults_after, wants_after}
use Rattle.satp_keeper.specs.Replaying.{RecordFollows, ReplayState, start}
use Rattle.satp_keeper.specs.declared.fault.KeeperFault.{KeeperFault}
use Rattle.satp_keeper.specs.declared.fault.KeeperFault.TheVariants as keeper
use Rattle.satp_examples.specs.Acts.{locked}
use Rattle.satp_examples.specs.Appending.{at_rest}
use Rattle.satp_examples.specs.Genesis.{gold_1000}
use Rattle.satp_examples.specs.Ledgers.{book_with, new_book, with_gold}
use Rattle.satp_examples.specs.Samples.{alpha_1, ann, bob, gold, quarter, salt, units}

-- ---- journals

abbrev pub lock : Operated
lock = record { op = Lock; session = alpha_1; terms = quarter }

abbrev pub burn : Operated
burn = record { op = Burn; session = alpha_1; terms = quarter }

-- of a ledger of accounts, and of one of outputs
abbrev pub accounts : List ℕ
accounts = 16 ∷ 1 ∷ []

abbrev pub outputs : List ℕ
outputs = 16 ∷ 2 ∷ []

-- these payloads, of a ledger of gold and one lock
abbrev pub LeavesBy : List Operated → Book → Type 0
LeavesBy acts book = IsLedger Accounts (ledger_payloads Accounts with_gold acts) with_gold (lock ∷ []) book

pub record JournalsOfLedgers : Type 0 where
  pub in_their_order : ledger_payloads Accounts with_gold (lock ∷ [])
      ≡ accounts ∷ payload_of (stored.Asset gold 1000) ∷ payload_of (stored.Hold gold ann (units 500 (lit≤ tt) (lit≤ tt))) ∷ payload_of (stored.Act Lock alpha_1 quarter) ∷ []
  pub of_one_lock : LeavesBy (lock ∷ []) locked
  pub not_another_book : ¬ LeavesBy (lock ∷ []) new_book
  pub not_without_its_record : ¬ LeavesBy [] locked
  pub no_operation_out_of_order : (book : Book) → ¬ Runs new_book (burn ∷ []) book
  pub the_kind_alone : IsJournal Accounts (accounts ∷ [])
  pub not_another_kind : ¬ IsJournal Accounts (outputs ∷ [])
  pub not_nothing : ¬ IsJournal Accounts []
  pub first_refused : IsFirstRefused Accounts (outputs ∷ []) 0
  pub second_refused : IsFirstRefused Accounts (accounts ∷ accounts ∷ []) 1
  pub not_a_good_one : ¬ IsFirstRefused Accounts (accounts ∷ []) 0
  pub not_a_later_one : ¬ IsFirstRefused Accounts (outputs ∷ accounts ∷ []) 1

-- ---- operations

-- its journal holds the kind alone
abbrev pub kept : Held
kept = record { area = Ledger; payloads = accounts ∷ []; broken = false }

abbrev pub lock_payload : List ℕ
lock_payload = payload_of (stored.Act Lock alpha_1 quarter)

abbrev pub with_lock : Held
with_lock = record kept { payloads = accounts ∷ lock_payload ∷ [] }

abbrev pub stored_lock : Told
stored_lock = made 4 (events_of kept lock_payload) at_rest

-- a lock of a book, which leaves this book and journal, tells this, and is answered so
abbrev pub Locks : Book → Book → Held → Told → Result Answer KeeperFault → Type 0
Locks old new held told result = KeepAnswers Lock alpha_1 quarter old new kept held (Some at_rest) (Some told) result

pub record OperationsThatAreKept : Type 0 where
  pub done : Locks new_book locked with_lock stored_lock (Ok Done)
  pub done_before : Locks (book_with Locked) (book_with Locked) kept at_rest (Ok Done)
  pub no_memory : Locks new_book new_book kept at_rest (Err keeper.Memory)
  pub not_done_and_not_stored : ¬ Locks new_book locked kept at_rest (Ok Done)
  pub not_stored_twice : ¬ Locks (book_with Locked) (book_with Locked) with_lock stored_lock (Ok Done)
  pub not_out_of_order : ¬ Locks new_book new_book kept at_rest (Err (keeper.OutOfOrder Absent))
  pub not_failed_where_nothing_changes : (held : Held) (told : Told) → ¬ Locks (book_with Locked) (book_with Locked) held told (Err keeper.Disk)
  pub not_broken_at_once : ¬ Locks new_book new_book kept at_rest (Err keeper.Broken)
  -- a fault of the disk is counted by the disk
  pub counted : (faults_after 3 keeper.Broken ≡ 4) × (faults_after 3 keeper.Memory ≡ 4)
  pub not_counted : faults_after 3 keeper.Disk ≡ 3
  pub wanted : wants_after 3 keeper.Memory ≡ 4
  pub not_wanted : wants_after 3 keeper.Broken ≡ 3

-- ---- the order of records

-- one asset; and with a holding, and with an operation behind it
abbrev pub with_asset : ReplayState
with_asset = record { genesis = record { assets = gold_1000 ∷ []; holds = [] }; begun = false; book = founded (record { assets = gold_1000 ∷ []; holds = [] }) }

abbrev pub with_hold : ReplayState
with_hold = record { genesis = with_gold; begun = false; book = new_book }

abbrev pub with_operation : ReplayState
with_operation = record { genesis = with_gold; begun = true; book = locked }

pub record RecordsInOrder : Type 0 where
  pub an_asset : RecordFollows start (stored.Asset gold 1000) with_asset
  pub a_hold : RecordFollows with_asset (stored.Hold gold ann (units 500 (lit≤ tt) (lit≤ tt))) with_hold
  pub an_operation : RecordFollows with_hold (stored.Act Lock alpha_1 quarter) with_operation
  pub no_asset_behind_a_hold : (new : ReplayState) → ¬ RecordFollows with_hold (stored.Asset salt 20) new
  pub no_hold_behind_an_operation : (new : ReplayState) → ¬ RecordFollows with_operation (stored.Hold gold bob (units 1 (lit≤ tt) (lit≤ tt))) new
  pub no_second_kind : (new : ReplayState) → ¬ RecordFollows start (stored.Kind Accounts) new
  pub no_operation_out_of_order : (new : ReplayState) → ¬ RecordFollows with_hold (stored.Act Burn alpha_1 quarter) new
