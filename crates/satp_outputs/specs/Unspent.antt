-- The outputs of a ledger: those of its founding, and what each operation that moves an entry does to them.
use Rattle.std.specs.Prelude.{ℕ, zero, suc, ◌+◌, ◌-◌, ◌&&◌, ◌==◌, Bool, not, nat_lt, List, [], ◌∷◌, ◌++◌, length, Option}
use Rattle.std.specs.List.{filter, fold, sum_by}
use Rattle.std.specs.Map.{lookup}
use Rattle.satp_base.specs.Founding.{counted, equal_names}
use Rattle.satp_base.specs.declared.genesis.Hold.{Hold}
use Rattle.satp_base.specs.declared.ledger.Entry.{Entry}
use Rattle.satp_base.specs.declared.ledger.Entry.TheVariants.{Absent, Locked, Minted}
use Rattle.satp_base.specs.declared.ledger.LedgerOp.{LedgerOp}
use Rattle.satp_base.specs.declared.ledger.LedgerOp.TheVariants.{Lock, Assign, Release}
use Rattle.satp_base.specs.declared.message.Terms.{Terms}
use Rattle.satp_base.specs.declared.name.Name.{Name}
use Rattle.satp_outputs.specs.declared.output.Output.{Output}

-- an output under its number
abbrev pub Numbered : Type 0
Numbered = ℕ × Output

-- the outputs that stand, by their numbers, and the number that the next one takes
pub record Unspent : Type 0 where
  pub outputs : List Numbered
  pub next : ℕ

-- ---- the founding

abbrev pub hold_output : Hold → Output
hold_output h = record { asset = h.asset; owner = h.owner; amount = h.amount.number }

-- one output for each holding, from a number on
abbrev pub numbered : ℕ → List Hold → List Numbered
numbered number [] = []
numbered number (h ∷ holds) = (number, hold_output h) ∷ numbered (number + 1) holds

abbrev pub first_unspent : List Hold → Unspent
first_unspent holds = record { outputs = numbered 1 holds; next = 1 + length holds }

-- ---- sums

abbrev pub is_own : Name → Name → Output → Bool
is_own asset owner o = equal_names asset o.asset && equal_names owner o.owner

-- what an owner's outputs of an asset come to
abbrev pub own_sum : List Numbered → Name → Name → ℕ
own_sum outputs asset owner = sum_by (λ (e : Numbered). counted (is_own asset owner e.1) e.1.amount) outputs

-- the same of those below a number
abbrev pub own_below : List Numbered → Name → Name → ℕ → ℕ
own_below outputs asset owner number = sum_by (λ (e : Numbered). counted (nat_lt e.0 number && is_own asset owner e.1) e.1.amount) outputs

-- what all owners' outputs of an asset come to
abbrev pub asset_sum : List Numbered → Name → ℕ
asset_sum outputs asset = sum_by (λ (e : Numbered). counted (equal_names asset e.1.asset) e.1.amount) outputs

-- ---- a lock

-- An amount takes the originator's outputs of the asset in ascending order until they suffice: each such that those below it don't.
abbrev pub is_taken : List Numbered → Terms → Numbered → Bool
is_taken outputs t e = is_own t.asset t.originator e.1 && nat_lt (own_below outputs t.asset t.originator e.0) t.amount.number

-- what the taken outputs come to beyond the amount
abbrev pub rest_of : List Numbered → Terms → ℕ
rest_of outputs t = sum_by (λ (e : Numbered). counted (is_taken outputs t e) e.1.amount) outputs - t.amount.number

-- one more output, under the next number
abbrev pub with_output : Unspent → Output → Unspent
with_output u o = record { outputs = u.outputs ++ (u.next, o) ∷ []; next = u.next + 1 }

-- the change, where it isn't 0
abbrev pub with_change : Unspent → Name → Name → ℕ → Unspent
with_change u asset owner zero = u
with_change u asset owner (suc rest) = with_output u (record { asset = asset; owner = owner; amount = suc rest })

abbrev pub untaken : Unspent → Terms → Unspent
untaken u t = record u { outputs = filter (λ (e : Numbered). not (is_taken u.outputs t e)) u.outputs }

abbrev pub after_lock : Unspent → Terms → Unspent
after_lock u t = with_change (untaken u t) t.asset t.originator (rest_of u.outputs t)

-- ---- operations

-- what an operation leaves of the outputs where it found this entry of the session under these terms, and moved it
abbrev pub stepped : LedgerOp → Entry → Terms → Unspent → Unspent
stepped Lock Absent t u = after_lock u t
stepped Assign Minted t u = with_output u (record { asset = t.asset; owner = t.beneficiary; amount = t.amount.number })
stepped Release Locked t u = with_output u (record { asset = t.asset; owner = t.originator; amount = t.amount.number })
stepped _ _ t u = u

-- an operation that moved an entry, with the entry that it found and the terms that held
pub record Move : Type 0 where
  pub op : LedgerOp
  pub found : Entry
  pub terms : Terms

-- the outputs after a founding and these operations
abbrev pub unspent_after : List Hold → List Move → Unspent
unspent_after holds moves = fold (λ (u : Unspent) (m : Move). stepped m.op m.found m.terms u) (first_unspent holds) moves

-- the output of a number
abbrev pub output_at : Unspent → ℕ → Option Output
output_at u number = lookup (λ (n : ℕ). n == number) u.outputs
