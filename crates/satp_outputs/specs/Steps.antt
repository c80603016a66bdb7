-- What a call leaves of the outputs, where a taking ends, and how many outputs there may be.
use Rattle.std.specs.Prelude.{◌≡◌, ℕ, ◌+◌, ◌<◌, ◌||◌, not, nat_lt, suc, List, Option, Some, None, Result, Ok, Err}
use Rattle.std.specs.List.{filter}
use Rattle.satp_base.specs.declared.amount.Amount.{Amount}
use Rattle.satp_base.specs.declared.ledger.Answer.{Answer}
use Rattle.satp_base.specs.declared.ledger.Answer.TheVariants.{Done}
use Rattle.satp_base.specs.declared.ledger.CoreFault.{CoreFault}
use Rattle.satp_base.specs.declared.ledger.Entry.{Entry}
use Rattle.satp_base.specs.declared.ledger.Entry.TheVariants.{Absent, Locked, Burnt, Minted, Assigned, Released}
use Rattle.satp_base.specs.declared.ledger.LedgerEntry.{LedgerEntry}
use Rattle.satp_base.specs.declared.ledger.LedgerOp.{LedgerOp}
use Rattle.satp_base.specs.declared.message.Terms.{Terms}
use Rattle.satp_base.specs.declared.name.Name.{Name}
use Rattle.satp_outputs.specs.Unspent.{Numbered, Unspent, is_own, own_below, stepped, with_output}

-- what an operation leaves of the outputs where it found this entry of the session under these terms
abbrev pub Leaves : LedgerOp → Entry → Terms → Unspent → Result Answer CoreFault → Unspent → Type 0
Leaves op found t old (Ok Done) new = new ≡ stepped op found t old
Leaves op found t old (Ok answer) new = new ≡ old
Leaves op found t old (Err fault) new = new ≡ old

-- a holding as one more output, if there is one
abbrev pub with_hold : Unspent → Option (Name × Name × Amount) → Unspent
with_hold u None = u
with_hold u (Some p) = with_output u (record { asset = p.0; owner = p.1; amount = p.2.number })

-- ---- where a taking ends

-- The outputs of the owner below this number don't suffice for the amount, and those up to it come to `rest` more.
pub record EndsAt (outputs : List Numbered) (asset owner : Name) (amount last rest : ℕ) : Type 0 where
  pub needed : own_below outputs asset owner last < amount
  pub enough : own_below outputs asset owner (suc last) ≡ amount + rest

-- the outputs but the owner's up to this number
abbrev pub above : Unspent → Name → Name → ℕ → Unspent
above u asset owner last = record u { outputs = filter (λ (e : Numbered). nat_lt last e.0 || not (is_own asset owner e.1)) u.outputs }

-- ---- how many outputs there may be

-- the outputs that the operations on an entry have made, at most
abbrev pub most_made_by : Entry → ℕ
most_made_by Absent = 0
most_made_by Locked = 1
most_made_by Burnt = 1
most_made_by Minted = 0
most_made_by Assigned = 1
most_made_by Released = 2

abbrev pub most_made : LedgerEntry → ℕ
most_made k = most_made_by k.entry
