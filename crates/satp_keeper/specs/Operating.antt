-- What an operation on a kept ledger answers, and what it leaves.
use Rattle.std.specs.Prelude.{◌≡◌, ◌⊎◌, ℕ, Bool, true, false, List, [], ◌∷◌, ◌++◌, Option, Result, Ok, Err}
use Rattle.satp_base.specs.declared.ledger.ActFault.{ActFault}
use Rattle.satp_base.specs.declared.ledger.ActFault.TheVariants as act
use Rattle.satp_base.specs.declared.ledger.Answer.{Answer}
use Rattle.satp_base.specs.declared.ledger.Entry.{Entry}
use Rattle.satp_base.specs.declared.ledger.LedgerOp.{LedgerOp}
use Rattle.satp_base.specs.declared.message.Terms.{Terms}
use Rattle.satp_base.specs.declared.session.SessionId.{SessionId}
use Rattle.satp_base.specs.Calls.{Told, FailsAmong, Makes, risen}
use Rattle.satp_base.specs.LedgerRule.{IsOutOfOrder, LedgerRule, operation}
use Rattle.satp_base.specs.Money.{Book}
use Rattle.satp_journal.specs.Appending.{append_calls}
use Rattle.satp_journal.specs.State.{Held}
use Rattle.satp_records.specs.Formats.{payload_of}
use Rattle.satp_records.specs.declared.stored.Stored.TheVariants as stored
use Rattle.satp_keeper.specs.declared.fault.KeeperFault.{KeeperFault}
use Rattle.satp_keeper.specs.declared.fault.KeeperFault.TheVariants.{OutOfOrder, Empty, Damaged, Record, Disk, Broken, Memory}

-- The four calls of one append, and its payload after the others; or nothing.
abbrev pub Stores : Bool → List ℕ → Held → Held → Option Told → Option Told → Type 0
Stores true q old new told_old told_new = (new ≡ record old { payloads = old.payloads ++ q ∷ [] }) × Makes (append_calls old q) told_old told_new
Stores false q old new told_old told_new = (new ≡ old) × (told_new ≡ told_old)

-- nothing has changed
abbrev pub IsUnchanged : Book → Book → Held → Held → Option Told → Option Told → Type 0
IsUnchanged b c old new told_old told_new = (c ≡ b) × (new ≡ old) × (told_new ≡ told_old)

-- Ok: the rule's answer, stored by one append where an entry changes. Disk: an entry changes, some calls of the append succeeded, and the next one failed; the ledger has the operation or not.
-- Every other fault leaves all as it was.
abbrev pub KeepAnswers : LedgerOp → SessionId → Terms → Book → Book → Held → Held → Option Told → Option Told → Result Answer KeeperFault → Type 0
KeepAnswers op session terms b c old new told_old told_new (Ok answer) =
    (old.broken ≡ false) × LedgerRule b op session terms answer c × Stores (operation b op session terms).changes (payload_of (stored.Act op session terms)) old new told_old told_new
KeepAnswers op session terms b c old new told_old told_new (Err (OutOfOrder entry)) = (old.broken ≡ false) × IsOutOfOrder b op session entry × IsUnchanged b c old new told_old told_new
KeepAnswers op session terms b c old new told_old told_new (Err Memory) = (old.broken ≡ false) × IsUnchanged b c old new told_old told_new
KeepAnswers op session terms b c old new told_old told_new (Err Disk) =
    (old.broken ≡ false) × ((operation b op session terms).changes ≡ true) × (new ≡ record old { broken = true })
    × FailsAmong (append_calls old (payload_of (stored.Act op session terms))) told_old told_new × ((c ≡ b) ⊎ (c ≡ (operation b op session terms).after))
KeepAnswers op session terms b c old new told_old told_new (Err Broken) = (old.broken ≡ true) × IsUnchanged b c old new told_old told_new
KeepAnswers op session terms b c old new told_old told_new (Err Empty) = ⊥
KeepAnswers op session terms b c old new told_old told_new (Err (Damaged at)) = ⊥
KeepAnswers op session terms b c old new told_old told_new (Err (Record index)) = ⊥

-- the count of the keeper's own faults behind one: it goes up by one where the fault is its own
abbrev pub faults_after : ℕ → KeeperFault → ℕ
faults_after count (OutOfOrder entry) = risen count 1
faults_after count Broken = risen count 1
faults_after count Memory = risen count 1
faults_after count _ = count

-- and of those for which no memory was found
abbrev pub wants_after : ℕ → KeeperFault → ℕ
wants_after count Memory = risen count 1
wants_after count _ = count

-- a count behind an answer
abbrev pub count_behind : (ℕ → KeeperFault → ℕ) → ℕ → Result Answer KeeperFault → ℕ
count_behind after count (Ok answer) = count
count_behind after count (Err fault) = after count fault

-- what a ledger answers, and whether that changes an entry
abbrev pub ApplyAnswers : LedgerOp → SessionId → Terms → Book → Book → Result (Answer × Bool) KeeperFault → Type 0
ApplyAnswers op session terms b c (Ok x) = LedgerRule b op session terms x.0 c × (x.1 ≡ (operation b op session terms).changes)
ApplyAnswers op session terms b c (Err (OutOfOrder entry)) = IsOutOfOrder b op session entry × (c ≡ b)
ApplyAnswers op session terms b c (Err Memory) = c ≡ b
ApplyAnswers op session terms b c (Err _) = ⊥

-- ---- the same as a ledger

-- a fault of the keeper, as a ledger answers it
abbrev pub act_fault : KeeperFault → ActFault
act_fault (OutOfOrder entry) = act.OutOfOrder entry
act_fault _ = act.Failed

abbrev pub act_answer : Result Answer KeeperFault → Result Answer ActFault
act_answer (Ok answer) = Ok answer
act_answer (Err fault) = Err (act_fault fault)

-- an entry is shown where the keeper isn't broken
abbrev pub shown : Bool → Entry → Result Entry ActFault
shown true entry = Err act.Failed
shown false entry = Ok entry

-- a count of the keeper's own faults behind a look: a broken keeper answers no look
abbrev pub looked : Bool → ℕ → ℕ
looked true count = risen count 1
looked false count = count
