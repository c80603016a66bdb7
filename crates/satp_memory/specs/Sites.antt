-- How a call on a site in memory ends, and how its ledger agrees with the trail.
use Rattle.std.specs.Prelude.{◌≡◌, ◌⊎◌, Bool, true, false, ◌||◌, not, List, IfSome, if◌then◌else◌, Option, Some, None, Result, Ok, Err}
use Rattle.satp_base.specs.Ledgers.{Entries}
use Rattle.satp_base.specs.Money.{Book}
use Rattle.satp_base.specs.declared.ledger.ActFault.{ActFault}
use Rattle.satp_base.specs.declared.ledger.ActFault.TheVariants.{Failed, OutOfOrder}
use Rattle.satp_base.specs.Acts.{ActsOn, Asks, MayAdd, MayAnswer}
use Rattle.satp_base.specs.Calls.{Told}
use Rattle.satp_base.specs.declared.area.Event.{Event}
use Rattle.satp_base.specs.declared.area.Event.TheVariants.{Acted}
use Rattle.satp_base.specs.declared.ledger.CoreFault.{CoreFault}
use Rattle.satp_base.specs.declared.ledger.CoreFault.TheVariants as core
use Rattle.satp_base.specs.declared.ledger.LedgerCall.TheVariants.{Act}
use Rattle.satp_base.specs.LedgerRule.{IsOutOfOrder, leads, operation}
use Rattle.satp_base.specs.declared.ledger.Answer.{Answer}
use Rattle.satp_base.specs.declared.ledger.Answer.TheVariants.{Done}
use Rattle.satp_base.specs.declared.ledger.Entry.{Entry}
use Rattle.satp_base.specs.declared.ledger.LedgerKind.{LedgerKind}
use Rattle.satp_base.specs.declared.ledger.LedgerKind.TheVariants.{Accounts, Outputs}
use Rattle.satp_base.specs.declared.ledger.LedgerOp.{LedgerOp}
use Rattle.satp_base.specs.declared.message.Terms.{Terms}
use Rattle.satp_base.specs.declared.session.SessionId.{SessionId}
use Rattle.satp_memory.specs.declared.operate.Halt.{Halt}
use Rattle.satp_memory.specs.declared.operate.Halt.TheVariants as halt
use Rattle.satp_memory.specs.declared.operate.Halt.TheVariants.{Unfounded}
use Rattle.satp_memory.specs.declared.operate.Operated.{Operated}
use Rattle.satp_memory.specs.Calling.{Calling, failed, succeeded, wanting}

-- the entries of a book that is told, or these
abbrev pub entries_or : Option Book → Entries → Entries
entries_or None entries = entries
entries_or (Some b) entries = b.entries

abbrev pub same_kind : LedgerKind → LedgerKind → Bool
same_kind Accounts Accounts = true
same_kind Outputs Outputs = true
same_kind _ _ = false

-- A call on the ledger fails where it is to fail, where it doesn't fit the ledger that is there, and else only where no memory was found.
abbrev pub LedgerFails : (refused fits : Bool) → Calling → Calling → Type 0
LedgerFails refused fits old new =
    ((refused ≡ true) × (new ≡ failed old))
    ⊎ ((refused ≡ false) × (fits ≡ false) × (new ≡ failed old))
    ⊎ (new ≡ wanting (if refused || not fits then failed old else succeeded old))

abbrev pub LedgerEnds : {T E : Type 0} → (refused fits : Bool) → Calling → Calling → Result T E → Type 0
LedgerEnds refused fits old new (Ok done) = (refused ≡ false) × (fits ≡ true) × (new ≡ succeeded old)
LedgerEnds refused fits old new (Err fault) = LedgerFails refused fits old new

-- An operation out of order is a fault of its own.
abbrev pub ActEnds : {T : Type 0} → (refused fits : Bool) → Calling → Calling → Result T ActFault → Type 0
ActEnds refused fits old new (Ok answer) = (refused ≡ false) × (fits ≡ true) × (new ≡ succeeded old)
ActEnds refused fits old new (Err Failed) = LedgerFails refused fits old new
ActEnds refused fits old new (Err (OutOfOrder entry)) = (refused ≡ false) × (fits ≡ true) × (new ≡ failed old)

-- ---- an operation

-- the operation was done now, and not before
abbrev pub is_change : LedgerOp → Entry → Answer → Bool
is_change op entry Done = leads op entry
is_change op entry _ = false

-- why an operation isn't answered
abbrev pub halt_of : CoreFault → Halt
halt_of (core.OutOfOrder entry) = halt.OutOfOrder entry
halt_of core.Memory = halt.Memory

-- what an operation on a ledger in memory tells, and what it does to the book
abbrev pub ActTells : LedgerOp → SessionId → Terms → Option Book → Result Answer ActFault → Option Book → Told → Told → Type 0
ActTells op session terms b0 result b1 t0 t1 =
    (events : List Event) × MayAdd (Acted op session terms) result events
    × IfSome b0 (λ b. ActsOn op session terms b result events b1)
    × Asks (Act op session terms) events result (Some t0) (Some t1)

-- what an operation answers, whether it changed an entry, and what it does to the book that is told
abbrev pub OperatesOn : LedgerOp → SessionId → Terms → Option Book → Result Operated Halt → Option Book → Type 0
OperatesOn op session terms old (Ok done) new =
    (b : Book) × (old ≡ Some b) × ((operation b op session terms).answer ≡ Some done.answer) × (new ≡ Some (operation b op session terms).after)
    × (done.changed ≡ (operation b op session terms).changes) × MayAnswer op done.answer × (done.changed ≡ true → done.answer ≡ Done)
OperatesOn op session terms old (Err Unfounded) new = (old ≡ None) × (new ≡ None)
OperatesOn op session terms old (Err (halt.OutOfOrder entry)) new = (b : Book) × (old ≡ Some b) × IsOutOfOrder b op session entry × (new ≡ old)
OperatesOn op session terms old (Err halt.Memory) new = new ≡ old
