-- A kept ledger of either kind, how it is founded and opened, and what its operations do.
use Rattle.std.specs.Prelude.{◌≡◌, ◌≢◌, ◌⊎◌, ℕ, [], false, Option, IfSome, Result, Ok}
use Rattle.satp_base.specs.declared.area.Area.TheVariants.{Ledger}
use Rattle.satp_base.specs.declared.ledger.ActFault.{ActFault}
use Rattle.satp_base.specs.declared.ledger.Answer.{Answer}
use Rattle.satp_base.specs.declared.ledger.Entry.{Entry}
use Rattle.satp_base.specs.declared.ledger.LedgerKind.{LedgerKind}
use Rattle.satp_base.specs.declared.ledger.LedgerKind.TheVariants.{Accounts, Outputs}
use Rattle.satp_base.specs.declared.ledger.LedgerOp.{LedgerOp}
use Rattle.satp_base.specs.declared.message.Terms.{Terms}
use Rattle.satp_base.specs.declared.session.SessionId.{SessionId}
use Rattle.satp_base.specs.Acts.{founded}
use Rattle.satp_base.specs.Calls.{Told, Makes}
use Rattle.satp_base.specs.Founding.{Founding}
use Rattle.satp_base.specs.LedgerRule.{entry_of}
use Rattle.satp_base.specs.Money.{Book}
use Rattle.satp_base.specs.Streams.{Rose}
use Rattle.satp_journal.specs.Opening.{OpenAnswers, Rests}
use Rattle.satp_journal.specs.State.{JournalState}
use Rattle.satp_keeper.specs.Books.{Leaves, ledger_payloads}
use Rattle.satp_keeper.specs.Founding.{found_calls}
use Rattle.satp_keeper.specs.Opening.{UnopenedBy}
use Rattle.satp_keeper.specs.Operating.{KeepAnswers, act_answer, count_behind, faults_after, looked, shown, wants_after}
use Rattle.satp_keeper.specs.declared.fault.KeeperFault.{KeeperFault}
use Rattle.satp_keeper.specs.declared.fault.KeeperFault.TheVariants.{Disk, Record}

-- A kept ledger: its kind, the book that its operations so far leave, its journal, and what its disk tells.
pub record KeptState : Type 0 where
  pub kind : LedgerKind
  pub book : Book
  pub journal : JournalState
  pub told : Option Told
  -- how often the disk has failed, how many faults were the keeper's own, and how many of these were want of memory
  pub disk_faults : ℕ
  pub own_faults : ℕ
  pub wants : ℕ

-- ---- how it comes to be

-- It was just founded with this genesis on a disk that told this, by the calls of a founding alone. Where its disk tells, the journal has the first
-- records of such a ledger, and no operation.
pub record IsFounded (asked : LedgerKind) (genesis : Founding) (told : Option Told) (s : KeptState) : Type 0 where
  pub kind : s.kind ≡ asked
  pub calls : Makes (found_calls (ledger_payloads asked genesis [])) told s.told
  pub book : s.book ≡ founded genesis
  pub whole : s.journal.held.broken ≡ false
  pub payloads : IfSome s.told (λ t. s.journal.held.payloads ≡ ledger_payloads asked genesis [])
  pub leaves : IfSome s.told (λ t. Leaves asked s.journal.held.payloads s.book)
  pub rests : Rests s.told s.journal.held
  pub own_faults : s.own_faults ≡ 0
  pub wants : s.wants ≡ 0

-- The keeper of this kind opened it on a disk that told this: its book is what the journal's operations leave.
pub record IsOpened (keeper : LedgerKind) (told : Option Told) (s : KeptState) : Type 0 where
  pub kind : s.kind ≡ keeper
  pub opened : OpenAnswers Ledger told s.told (Ok s.journal)
  pub leaves : Leaves keeper s.journal.held.payloads s.book
  pub whole : s.journal.held.broken ≡ false
  pub rests : Rests s.told s.journal.held
  pub own_faults : s.own_faults ≡ 0
  pub wants : s.wants ≡ 0

-- the keeper of accounts refused the first record, which names the kind
abbrev pub AreNoAccounts : Option Told → Option Told → Type 0
AreNoAccounts old new = UnopenedBy Accounts old new (Record 0)

-- A ledger that stands on a disk is of the kind that its first record names.
abbrev pub IsRaised : Option Told → KeptState → Type 0
IsRaised told s = IsOpened Accounts told s ⊎ ((between : Option Told) × AreNoAccounts told between × IsOpened Outputs between s)

-- Why no ledger was opened: the keeper of accounts gave up on something other than the first record, or it refused that and the keeper of outputs gave up.
abbrev pub IsUnraised : Option Told → Option Told → KeeperFault → Type 0
IsUnraised old new fault = ((fault ≢ Record 0) × UnopenedBy Accounts old new fault) ⊎ ((between : Option Told) × AreNoAccounts old between × UnopenedBy Outputs between new fault)

-- Why the keeper gave up, by the disk's count of faults: that rose where the disk failed, and stood still otherwise.
pub record HasFailed (fault : KeeperFault) (before after : ℕ) : Type 0 where
  pub rose : fault ≡ Disk → Rose before after
  pub still : fault ≢ Disk → after ≡ before

-- ---- what is done to it

-- It answers an operation as its keeper does, and stays of its kind.
pub record KeptActs (op : LedgerOp) (session : SessionId) (terms : Terms) (old : KeptState) (result : Result Answer ActFault) (new : KeptState) : Type 0 where
  pub inner : Result Answer KeeperFault
  pub answer : result ≡ act_answer inner
  pub kind : new.kind ≡ old.kind
  pub keeps : KeepAnswers op session terms old.book new.book old.journal.held new.journal.held old.told new.told inner
  pub own_faults : new.own_faults ≡ count_behind faults_after old.own_faults inner
  pub wants : new.wants ≡ count_behind wants_after old.wants inner

-- It shows the entry of its book, or none where it is broken, which is one more fault.
pub record KeptLooks (session : SessionId) (old : KeptState) (result : Result Entry ActFault) (new : KeptState) : Type 0 where
  pub answer : result ≡ shown old.journal.held.broken (entry_of old.book.entries session)
  pub same : new ≡ record old { own_faults = looked old.journal.held.broken old.own_faults }
