-- What an opening of a kept ledger answers.
use Rattle.std.specs.Prelude.{◌≡◌, ◌⊎◌, ℕ, ◌+◌, List, [], take, Option, Result, Ok, Err}
use Rattle.satp_base.specs.declared.area.Area.TheVariants.{Ledger}
use Rattle.satp_base.specs.declared.ledger.LedgerKind.{LedgerKind}
use Rattle.satp_base.specs.Calls.{Told}
use Rattle.satp_journal.specs.Opening.{OpenAnswers}
use Rattle.satp_journal.specs.State.{JournalState}
use Rattle.satp_journal.specs.declared.fault.JournalFault.{JournalFault}
use Rattle.satp_journal.specs.declared.fault.JournalFault.TheVariants as journal
use Rattle.satp_keeper.specs.Books.{IsJournal, IsFirstRefused}
use Rattle.satp_keeper.specs.Replaying.{NoRecordAt, ReadsTo, ReplayState}
use Rattle.satp_keeper.specs.declared.fault.KeeperFault.{KeeperFault}
use Rattle.satp_keeper.specs.declared.fault.KeeperFault.TheVariants.{OutOfOrder, Empty, Damaged, Record, Disk, Broken, Memory}

-- why no record is found at an index
abbrev pub IsRecordFault : List (List ℕ) → ℕ → KeeperFault → Type 0
IsRecordFault payloads index (Record at) = (at ≡ index) × NoRecordAt payloads index
IsRecordFault payloads index Memory = Unit {0}
IsRecordFault payloads index _ = ⊥

-- A record goes on from what those before it say, or with it they are no ledger's journal.
abbrev pub StepAnswers : List (List ℕ) → ℕ → ReplayState → ReplayState → Result (Unit {0}) KeeperFault → Type 0
StepAnswers payloads index f g (Ok done) = (kind : LedgerKind) → ReadsTo kind (take index payloads) f → ReadsTo kind (take (index + 1) payloads) g
StepAnswers payloads index f g (Err (Record at)) = (at ≡ index) × ((kind : LedgerKind) → ReadsTo kind (take index payloads) f → IsJournal kind (take (index + 1) payloads) → ⊥)
StepAnswers payloads index f g (Err Memory) = Unit {0}
StepAnswers payloads index f g (Err _) = ⊥

-- why payloads are no ledger's journal
abbrev pub IsReplayFault : LedgerKind → List (List ℕ) → KeeperFault → Type 0
IsReplayFault kind payloads Empty = payloads ≡ []
IsReplayFault kind payloads (Record index) = IsFirstRefused kind payloads index
IsReplayFault kind payloads Memory = Unit {0}
IsReplayFault kind payloads _ = ⊥

-- the journal was opened, and this is its list
abbrev pub Opened : Option Told → Option Told → List (List ℕ) → Type 0
Opened old new payloads = (j : JournalState) × OpenAnswers Ledger old new (Ok j) × (j.held.payloads ≡ payloads)

-- Why a ledger isn't opened. Damaged: as the journal's opening answers it. Empty and Record: by the list that was found.
abbrev pub UnopenedBy : LedgerKind → Option Told → Option Told → KeeperFault → Type 0
UnopenedBy kind old new Empty = Opened old new []
UnopenedBy kind old new (Record index) = (payloads : List (List ℕ)) × Opened old new payloads × IsFirstRefused kind payloads index
UnopenedBy kind old new (Damaged at) = OpenAnswers Ledger old new (Err (journal.Damaged at))
UnopenedBy kind old new Disk = OpenAnswers Ledger old new (Err journal.Disk)
UnopenedBy kind old new Memory = OpenAnswers Ledger old new (Err journal.Memory) ⊎ ((payloads : List (List ℕ)) × Opened old new payloads)
UnopenedBy kind old new Broken = ⊥
UnopenedBy kind old new (OutOfOrder entry) = ⊥

-- a fault of the journal's opening, as the keeper answers it
abbrev pub fault_of : JournalFault → KeeperFault
fault_of journal.Disk = Disk
fault_of (journal.Damaged at) = Damaged at
fault_of journal.Memory = Memory
fault_of journal.Broken = Broken
