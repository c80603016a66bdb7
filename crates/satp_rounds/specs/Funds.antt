-- What the ledgers answer now to a session's operations, and due work under these answers, by kinds alone.
use Rattle.std.specs.Prelude.{ℕ, zero, suc, Bool, true, false, Option, Some, None}
use Rattle.satp_base.specs.LedgerRule.{result_of}
use Rattle.satp_base.specs.Roles.{after_of, next_of}
use Rattle.satp_base.specs.declared.ledger.Answer.{Answer}
use Rattle.satp_base.specs.declared.ledger.Answer.TheVariants as answer
use Rattle.satp_base.specs.declared.ledger.Entry.{Entry}
use Rattle.satp_base.specs.declared.ledger.Entry.TheVariants.{Absent, Locked, Minted}
use Rattle.satp_base.specs.declared.ledger.LedgerOp.{LedgerOp}
use Rattle.satp_base.specs.declared.ledger.LedgerOp.TheVariants.{Lock, Burn, Mint, Assign, Release}
use Rattle.satp_base.specs.declared.message.Role.{Role}
use Rattle.satp_base.specs.declared.record.Next.{Next}
use Rattle.satp_base.specs.declared.record.Next.TheVariants.{Append, Act, Wait, Ended}
use Rattle.satp_sides.specs.Due.{most_turns}
use Rattle.satp_sides.specs.Halves.{Half, after_record, can_do, with_entry}

-- ---- what the ledgers answer

-- what the recipient's ledger says of the session's amount: there is room under its cap, it doesn't know the asset, or the cap would be passed
pub data Room : Type 0 where
  Enough : Room
  Unknown : Room
  Over : Room

-- whether the originator has the amount free, and what the recipient's ledger says of it
pub record Funds : Type 0 where
  pub lock : Bool
  pub mint : Room

-- The amounts that an answer shows are left out: no record depends on them.
abbrev pub lock_answer : Bool → Answer
lock_answer true = answer.Done
lock_answer false = answer.NoFunds 0

abbrev pub mint_answer : Room → Answer
mint_answer Enough = answer.Done
mint_answer Unknown = answer.UnknownAsset
mint_answer Over = answer.Capped 0

abbrev pub in_order : Bool → Option Answer
in_order true = Some answer.Done
in_order false = None

-- the answer on an entry, none where the operation is out of order; amounts matter only where there is no entry yet
abbrev pub answer_now : Funds → LedgerOp → Entry → Option Answer
answer_now f Lock Absent = Some (lock_answer f.lock)
answer_now f Lock Locked = Some answer.Done
answer_now f Lock e = Some (answer.Taken e)
answer_now f Mint Absent = Some (mint_answer f.mint)
answer_now f Mint Minted = Some answer.Done
answer_now f Mint e = Some (answer.Taken e)
answer_now f Burn e = in_order (can_do Burn e)
answer_now f Assign e = in_order (can_do Assign e)
answer_now f Release e = in_order (can_do Release e)

-- the entry after an answer: only an operation that is done leaves its result
abbrev pub entry_after : LedgerOp → Entry → Answer → Entry
entry_after op e answer.Done = result_of op
entry_after op e a = e

-- ---- due work

abbrev pub worked_on : (Half → Half) → Half → LedgerOp → Option Answer → Half
worked_on rest h op (Some a) = rest (after_record (with_entry h (entry_after op h.entry a)) (after_of op a))
worked_on rest h op None = h

abbrev pub worked_by : (Half → Half) → Funds → Half → Next → Half
worked_by rest f h (Append r) = rest (after_record h r)
worked_by rest f h (Act op) = worked_on rest h op (answer_now f op h.entry)
worked_by rest f h Wait = h
worked_by rest f h Ended = h

-- within a number of turns
abbrev pub worked_within : ℕ → Role → Funds → Half → Half
worked_within zero role f h = h
worked_within (suc n) role f h = worked_by (worked_within n role f) f h (next_of role h.view)

-- one side of a session after its due work
abbrev pub worked : Role → Funds → Half → Half
worked role f h = worked_within most_turns role f h
