-- What an operation does to the entry of a session, and what a ledger answers to it.
use Rattle.std.specs.Prelude.{◌≡◌, ◌≢◌, ◌⊎◌, ℕ, ◌+◌, ◌<◌, ◌≤◌, nat_le, Bool, true, false, if◌then◌else◌, Option, Some, None}
use Rattle.std.specs.Option.{option_map_or}
use Rattle.std.specs.FinMap as map
use Rattle.satp_base.specs.Ledgers.{Entries}
use Rattle.satp_base.specs.Money.{Book, cap_of, free_of, total_of}
use Rattle.satp_base.specs.declared.ledger.Answer.{Answer}
use Rattle.satp_base.specs.declared.ledger.Answer.TheVariants.{Done, NoFunds, UnknownAsset, Capped, Taken}
use Rattle.satp_base.specs.declared.ledger.Entry.{Entry}
use Rattle.satp_base.specs.declared.ledger.Entry.TheVariants.{Absent, Locked, Burnt, Minted, Assigned, Released}
use Rattle.satp_base.specs.declared.ledger.LedgerEntry.{LedgerEntry}
use Rattle.satp_base.specs.declared.ledger.LedgerOp.{LedgerOp}
use Rattle.satp_base.specs.declared.ledger.LedgerOp.TheVariants.{Lock, Burn, Mint, Assign, Release}
use Rattle.satp_base.specs.declared.message.Terms.{Terms}
use Rattle.satp_base.specs.declared.session.SessionId.{SessionId}

abbrev pub entry_of : Entries → SessionId → Entry
entry_of entries session = option_map_or (λ (k : LedgerEntry). k.entry) (map.get entries session) Absent

-- the terms of an entry: those that are given where there is none yet, else those that it keeps
abbrev terms_under : Entry → Terms → Terms → Terms
terms_under Absent kept given = given
terms_under _ kept given = kept

abbrev pub terms_of : Entries → SessionId → Terms → Terms
terms_of entries session terms = terms_under (entry_of entries session) (option_map_or (λ (k : LedgerEntry). k.terms) (map.get entries session) terms) terms

abbrev pub result_of : LedgerOp → Entry
result_of Lock = Locked
result_of Burn = Burnt
result_of Mint = Minted
result_of Assign = Assigned
result_of Release = Released

-- the lines of the table: the operation moves this entry to its result
abbrev pub leads : LedgerOp → Entry → Bool
leads Lock Absent = true
leads Burn Locked = true
leads Mint Absent = true
leads Assign Minted = true
leads Release Absent = true
leads Release Locked = true
leads Release Minted = true
leads _ _ = false

-- the entries after an operation that moved one
abbrev pub moved_entries : Entries → LedgerOp → SessionId → Terms → Entries
moved_entries entries op session terms = map.insert entries session (record { entry = result_of op; terms = terms_of entries session terms })

abbrev pub moved : Book → LedgerOp → SessionId → Terms → Book
moved b op session terms = record b { entries = moved_entries b.entries op session terms }

-- ---- the rule, by its answers

-- what the amounts have to be for an operation to move an entry
abbrev pub Allows : Book → LedgerOp → Terms → Type 0
Allows b Lock terms = terms.amount.number ≤ free_of b terms.asset terms.originator
Allows b Mint terms = (cap : ℕ) × (cap_of b.genesis terms.asset ≡ Some cap) × (total_of b terms.asset + terms.amount.number ≤ cap)
Allows b Burn terms = Unit {0}
Allows b Assign terms = Unit {0}
Allows b Release terms = Unit {0}

-- the answer to an operation on an entry, and the ledger behind it
abbrev pub RuleOn : Book → Entry → LedgerOp → SessionId → Terms → Answer → Book → Type 0
RuleOn b entry op session terms Done new =
    ((entry ≡ result_of op) × (new ≡ b))
    ⊎ ((leads op entry ≡ true) × Allows b op terms × (new ≡ moved b op session terms))
RuleOn b entry Lock session terms (Taken shown) new = (entry ≢ Absent) × (entry ≢ Locked) × (shown ≡ entry) × (new ≡ b)
RuleOn b entry Lock session terms (NoFunds free) new =
    (entry ≡ Absent) × (free ≡ free_of b terms.asset terms.originator) × (free < terms.amount.number) × (new ≡ b)
RuleOn b entry Mint session terms (Taken shown) new = (entry ≢ Absent) × (entry ≢ Minted) × (shown ≡ entry) × (new ≡ b)
RuleOn b entry Mint session terms UnknownAsset new = (entry ≡ Absent) × (cap_of b.genesis terms.asset ≡ None) × (new ≡ b)
RuleOn b entry Mint session terms (Capped total) new =
    (entry ≡ Absent) × (total ≡ total_of b terms.asset)
    × ((cap : ℕ) × (cap_of b.genesis terms.asset ≡ Some cap) × (cap < total + terms.amount.number)) × (new ≡ b)
RuleOn b entry _ session terms _ new = ⊥

-- the answer to an operation on a session, and the ledger behind it
abbrev pub LedgerRule : Book → LedgerOp → SessionId → Terms → Answer → Book → Type 0
LedgerRule b op session terms answer new = RuleOn b (entry_of b.entries session) op session terms answer new

-- the operation isn't one of those that may be asked of every entry, and no line has it
abbrev pub is_always_answered : LedgerOp → Bool
is_always_answered Lock = true
is_always_answered Mint = true
is_always_answered _ = false

pub record IsOutOfOrder (b : Book) (op : LedgerOp) (session : SessionId) (entry : Entry) : Type 0 where
  pub found : entry ≡ entry_of b.entries session
  pub bound : is_always_answered op ≡ false
  pub other : entry ≢ result_of op
  pub no_line : leads op entry ≡ false

-- ---- the same as a function

-- the answer (none where the operation is out of order), whether it moves an entry, and the ledger behind it
pub record Operation : Type 0 where
  pub answer : Option Answer
  pub changes : Bool
  pub after : Book

abbrev pub stays : Book → Option Answer → Operation
stays b answer = record { answer = answer; changes = false; after = b }

abbrev pub moves : Book → LedgerOp → SessionId → Terms → Operation
moves b op session terms = record { answer = Some Done; changes = true; after = moved b op session terms }

abbrev pub lock_on : Book → SessionId → Terms → ℕ → Operation
lock_on b session terms free = if nat_le terms.amount.number free then moves b Lock session terms else stays b (Some (NoFunds free))

abbrev pub mint_on : Book → SessionId → Terms → ℕ → Option ℕ → Operation
mint_on b session terms total None = stays b (Some UnknownAsset)
mint_on b session terms total (Some cap) = if nat_le (total + terms.amount.number) cap then moves b Mint session terms else stays b (Some (Capped total))

abbrev pub operation_on : Book → LedgerOp → SessionId → Terms → Entry → Operation
operation_on b Lock session terms Absent = lock_on b session terms (free_of b terms.asset terms.originator)
operation_on b Lock session terms Locked = stays b (Some Done)
operation_on b Lock session terms entry = stays b (Some (Taken entry))
operation_on b Burn session terms Locked = moves b Burn session terms
operation_on b Burn session terms Burnt = stays b (Some Done)
operation_on b Burn session terms entry = stays b None
operation_on b Mint session terms Absent = mint_on b session terms (total_of b terms.asset) (cap_of b.genesis terms.asset)
operation_on b Mint session terms Minted = stays b (Some Done)
operation_on b Mint session terms entry = stays b (Some (Taken entry))
operation_on b Assign session terms Minted = moves b Assign session terms
operation_on b Assign session terms Assigned = stays b (Some Done)
operation_on b Assign session terms entry = stays b None
operation_on b Release session terms Absent = moves b Release session terms
operation_on b Release session terms Locked = moves b Release session terms
operation_on b Release session terms Minted = moves b Release session terms
operation_on b Release session terms Released = stays b (Some Done)
operation_on b Release session terms entry = stays b None

unfoldable pub operation : Book → LedgerOp → SessionId → Terms → Operation
operation b op session terms = operation_on b op session terms (entry_of b.entries session)
