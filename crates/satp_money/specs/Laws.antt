-- Laws of the rule: by cases and as a function, who has what there is, and what can still change.
use Rattle.std.specs.Prelude.{◌≡◌, ◌≢◌, ◌↔◌, ℕ, ◌+◌, ◌&&◌, Bool, true, false, List, Some, None}
use Rattle.std.specs.List.{AllByRecursion, IsDistinct, fold, list_any, sum_by}
use Rattle.std.specs.FinMap as map
use Rattle.satp_base.specs.Founding.{counted, equal_names}
use Rattle.satp_base.specs.LedgerRule.{IsOutOfOrder, LedgerRule, entry_of, operation, terms_of}
use Rattle.satp_base.specs.Money.{Book, free_of, free_sum_of, pledged, sum_entries, total_of}
use Rattle.satp_base.specs.Soundness.{IsSound}
use Rattle.satp_base.specs.declared.genesis.Hold.{Hold}
use Rattle.satp_base.specs.declared.ledger.Answer.{Answer}
use Rattle.satp_base.specs.declared.ledger.Entry.{Entry}
use Rattle.satp_base.specs.declared.ledger.Entry.TheVariants.{Locked, Burnt, Minted, Assigned, Released}
use Rattle.satp_base.specs.declared.ledger.LedgerEntry.{LedgerEntry}
use Rattle.satp_base.specs.declared.ledger.LedgerOp.{LedgerOp}
use Rattle.satp_base.specs.declared.ledger.LedgerOp.TheVariants.{Lock, Burn, Mint, Assign, Release}
use Rattle.satp_base.specs.declared.message.Terms.{Terms}
use Rattle.satp_base.specs.declared.name.Name.{Name}
use Rattle.satp_base.specs.declared.session.SessionId.{SessionId}

-- ---- the rule by cases and the function

-- an answer and a book are those of the rule exactly where the function gives them
abbrev pub RuleIsFunction : Type 0
RuleIsFunction =
    (b : Book) (op : LedgerOp) (s : SessionId) (t : Terms) (answer : Answer) (new : Book)
    → LedgerRule b op s t answer new ↔ (((operation b op s t).answer ≡ Some answer) × (new ≡ (operation b op s t).after))

-- an operation is out of order exactly where the function has no answer, and then shows the entry that stands
abbrev pub OutOfOrderIsNoAnswer : Type 0
OutOfOrderIsNoAnswer =
    (b : Book) (op : LedgerOp) (s : SessionId) (t : Terms) (entry : Entry)
    → IsOutOfOrder b op s entry ↔ ((entry ≡ entry_of b.entries s) × ((operation b op s t).answer ≡ None))

-- ---- lists of operations

pub record Act : Type 0 where
  pub op : LedgerOp
  pub session : SessionId
  pub terms : Terms

-- the book after these operations, whatever was answered to each
abbrev pub book_after : Book → List Act → Book
book_after b acts = fold (λ (x : Book) (a : Act). (operation x a.op a.session a.terms).after) b acts

-- the table has no line from here
abbrev pub is_finished : Entry → Bool
is_finished Burnt = true
is_finished Assigned = true
is_finished Released = true
is_finished _ = false

-- an entry that is finished stays, with its terms, under every list of operations
abbrev pub FinishedStays : Type 0
FinishedStays =
    (b : Book) (acts : List Act) (s : SessionId) → is_finished (entry_of b.entries s) ≡ true
    → map.get (book_after b acts).entries s ≡ map.get b.entries s

-- an entry stays under every list of operations on other sessions
abbrev pub OthersStay : Type 0
OthersStay =
    (b : Book) (acts : List Act) (s : SessionId) → AllByRecursion (λ (a : Act). a.session ≢ s) acts
    → map.get (book_after b acts).entries s ≡ map.get b.entries s

-- ---- who has what there is

-- the owner is one of these
abbrev pub IsOneOf : List Name → Name → Type 0
IsOneOf owners owner = list_any (equal_names owner) owners ≡ true

-- whoever a holding or an entry names is one of these owners, each counted once
pub record AreOwners (b : Book) (owners : List Name) : Type 0 where
  pub distinct : IsDistinct equal_names owners
  pub holders : AllByRecursion (λ (h : Hold). IsOneOf owners h.owner) b.genesis.holds
  pub parties : AllByRecursion (λ (e : SessionId × LedgerEntry). IsOneOf owners e.1.terms.originator × IsOneOf owners e.1.terms.beneficiary) (map.entries b.entries)

-- what the owners are free to use comes to the free sum, and with what is locked or minted to the total
abbrev pub OwnersHaveAll : Type 0
OwnersHaveAll =
    (b : Book) (owners : List Name) (asset : Name) → IsSound b → AreOwners b owners
    → (sum_by (free_of b asset) owners ≡ free_sum_of b asset) × (sum_by (free_of b asset) owners + sum_entries (pledged asset) b.entries ≡ total_of b asset)

-- ---- what a step makes and takes away

-- the units of an asset that an operation makes where it moves an entry
abbrev pub made_by : LedgerOp → Terms → Name → ℕ
made_by Mint t asset = counted (equal_names asset t.asset) t.amount.number
made_by _ t asset = 0

-- the units that it takes away
abbrev pub lost_by : LedgerOp → Entry → Terms → Name → ℕ
lost_by Burn entry t asset = counted (equal_names asset t.asset) t.amount.number
lost_by Release Minted t asset = counted (equal_names asset t.asset) t.amount.number
lost_by _ entry t asset = 0

-- Where an operation moves an entry the totals change by what it makes and takes away; else nothing changes.
abbrev pub TotalsMove : Type 0
TotalsMove =
    (b : Book) (op : LedgerOp) (s : SessionId) (t : Terms) (asset : Name) → IsSound b → (operation b op s t).changes ≡ true
    → total_of (operation b op s t).after asset + lost_by op (entry_of b.entries s) (terms_of b.entries s t) asset ≡ total_of b asset + made_by op (terms_of b.entries s t) asset

abbrev pub ElseStays : Type 0
ElseStays = (b : Book) (op : LedgerOp) (s : SessionId) (t : Terms) → (operation b op s t).changes ≡ false → (operation b op s t).after ≡ b

-- ---- what a step does to what an owner is free to use

-- what an owner loses where the operation moves an entry
abbrev pub falls_by : LedgerOp → Terms → Name → Name → ℕ
falls_by Lock t asset owner = counted (equal_names asset t.asset && equal_names owner t.originator) t.amount.number
falls_by _ t asset owner = 0

-- what an owner gains
abbrev pub rises_by : LedgerOp → Entry → Terms → Name → Name → ℕ
rises_by Assign entry t asset owner = counted (equal_names asset t.asset && equal_names owner t.beneficiary) t.amount.number
rises_by Release Locked t asset owner = counted (equal_names asset t.asset && equal_names owner t.originator) t.amount.number
rises_by _ entry t asset owner = 0

-- Where an operation moves an entry, what each owner is free to use falls and rises by these.
abbrev pub FreeMoves : Type 0
FreeMoves =
    (b : Book) (op : LedgerOp) (s : SessionId) (t : Terms) (asset owner : Name) → IsSound b → (operation b op s t).changes ≡ true
    → free_of (operation b op s t).after asset owner + falls_by op (terms_of b.entries s t) asset owner ≡ free_of b asset owner + rises_by op (entry_of b.entries s) (terms_of b.entries s t) asset owner
