-- What two ledgers have of a session's amount, and that they answer as these funds say.
use Rattle.std.specs.Prelude.{◌≡◌, ℕ, ◌+◌, nat_le, Bool, true, false, Option, Some, None, option_map, if◌then◌else◌}
use Rattle.satp_base.specs.LedgerRule.{entry_of, operation}
use Rattle.satp_base.specs.Money.{Book, cap_of, free_of, total_of}
use Rattle.satp_base.specs.declared.ledger.Answer.{Answer}
use Rattle.satp_base.specs.declared.ledger.Answer.TheVariants as answer
use Rattle.satp_base.specs.declared.ledger.LedgerOp.{LedgerOp}
use Rattle.satp_base.specs.declared.ledger.LedgerOp.TheVariants.{Lock, Mint}
use Rattle.satp_base.specs.declared.message.Role.{Role}
use Rattle.satp_base.specs.declared.message.Role.TheVariants.{Origin, Recipient}
use Rattle.satp_base.specs.declared.message.Terms.{Terms}
use Rattle.satp_base.specs.declared.session.SessionId.{SessionId}
use Rattle.satp_rounds.specs.Funds.{Funds, Room, Enough, Unknown, Over, answer_now}

-- the originator has the amount free
abbrev pub lock_now : Book → Terms → Bool
lock_now b terms = nat_le terms.amount.number (free_of b terms.asset terms.originator)

abbrev pub room_by : ℕ → ℕ → Option ℕ → Room
room_by total amount None = Unknown
room_by total amount (Some cap) = if nat_le (total + amount) cap then Enough else Over

-- the amount stays within the asset's cap
abbrev pub room_now : Book → Terms → Room
room_now b terms = room_by (total_of b terms.asset) terms.amount.number (cap_of b.genesis terms.asset)

-- of the origin's ledger and the recipient's
abbrev pub funds_of : Book → Book → Terms → Funds
funds_of a b terms = record { lock = lock_now a terms; mint = room_now b terms }

abbrev pub book_of : Role → Book → Book → Book
book_of Origin a b = a
book_of Recipient a b = b

-- the origin's ledger is asked for no mint, and the recipient's for no lock
abbrev pub is_own_op : Role → LedgerOp → Bool
is_own_op Origin Mint = false
is_own_op Recipient Lock = false
is_own_op role op = true

-- the answer without the amounts that it shows
abbrev pub plain : Answer → Answer
plain answer.Done = answer.Done
plain (answer.NoFunds free) = answer.NoFunds 0
plain answer.UnknownAsset = answer.UnknownAsset
plain (answer.Capped total) = answer.Capped 0
plain (answer.Taken entry) = answer.Taken entry

-- Each ledger answers what its funds say of the entry, but for the amounts that an answer shows.
abbrev pub LedgersAnswerSo : Type 0
LedgersAnswerSo =
    (role : Role) (a b : Book) (s : SessionId) (terms : Terms) (op : LedgerOp) → is_own_op role op ≡ true
    → option_map plain (operation (book_of role a b) op s terms).answer ≡ answer_now (funds_of a b terms) op (entry_of (book_of role a b).entries s)
