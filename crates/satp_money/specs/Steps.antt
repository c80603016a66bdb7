-- How an operation that locks or mints nothing ends.
use Rattle.std.specs.Prelude.{◌≡◌, ◌≢◌, ◌⊎◌, ◌+◌, ◌≤◌, Bool, true, false, Result, Ok, Err, unwrap_or}
use Rattle.std.specs.FinMap as map
use Rattle.satp_base.specs.LedgerRule.{leads, result_of}
use Rattle.satp_base.specs.Money.{Book, cap_of, total_of}
use Rattle.satp_base.specs.declared.ledger.Answer.{Answer}
use Rattle.satp_base.specs.declared.ledger.Answer.TheVariants.{Done}
use Rattle.satp_base.specs.declared.ledger.CoreFault.{CoreFault}
use Rattle.satp_base.specs.declared.ledger.CoreFault.TheVariants as core
use Rattle.satp_base.specs.declared.ledger.Entry.{Entry}
use Rattle.satp_base.specs.declared.ledger.Entry.TheVariants.{Absent, Locked, Minted}
use Rattle.satp_base.specs.declared.ledger.LedgerOp.{LedgerOp}
use Rattle.satp_base.specs.declared.ledger.LedgerOp.TheVariants.{Burn, Mint, Assign, Release}
use Rattle.satp_base.specs.declared.message.Terms.{Terms}
use Rattle.satp_base.specs.declared.session.SessionId.{SessionId}
use Rattle.satp_money.specs.declared.owned.Owned.{Owned}

-- the book with the operation's result as the session's entry, under these terms
abbrev pub with_result : Book → LedgerOp → SessionId → Terms → Book
with_result b op session terms = record b { entries = map.insert b.entries session (record { entry = result_of op; terms = terms }) }

-- the lines of the table that leave what owners are free to use
abbrev pub is_still : LedgerOp → Entry → Bool
is_still Burn Locked = true
is_still Mint Absent = true
is_still Release Absent = true
is_still Release Minted = true
is_still _ _ = false

-- the lines of the table by which an amount comes to an owner
abbrev pub is_giving : LedgerOp → Entry → Bool
is_giving Assign Minted = true
is_giving Release Locked = true
is_giving _ _ = false

abbrev pub is_mint : LedgerOp → Bool
is_mint Mint = true
is_mint _ = false

-- whose amount rises when it comes back, or comes to the other side
abbrev pub receiver : LedgerOp → Terms → Owned
receiver Assign terms = record { asset = terms.asset; owner = terms.beneficiary }
receiver _ terms = record { asset = terms.asset; owner = terms.originator }

-- where it is a mint, it stays within the cap
abbrev pub FitsCap : Book → LedgerOp → Terms → Type 0
FitsCap b op terms = is_mint op ≡ true → total_of b terms.asset + terms.amount.number ≤ unwrap_or (cap_of b.genesis terms.asset) 0

-- an operation on an entry under the terms that hold for it
abbrev pub Ends : Book → Entry → LedgerOp → SessionId → Terms → Result Answer CoreFault → Book → Type 0
Ends b entry op session terms (Ok Done) new = ((entry ≡ result_of op) × (new ≡ b)) ⊎ ((leads op entry ≡ true) × (new ≡ with_result b op session terms))
Ends b entry op session terms (Ok _) new = ⊥
Ends b entry op session terms (Err (core.OutOfOrder shown)) new = (shown ≡ entry) × (entry ≢ result_of op) × (leads op entry ≡ false) × (new ≡ b)
Ends b entry op session terms (Err core.Memory) new = new ≡ b
