-- What each owner has of an asset, and how much there is of it: sums over the first holdings and the entries of sessions.
use Rattle.std.specs.Prelude.{ℕ, ◌+◌, ◌-◌, ◌&&◌, Bool, true, false, Option}
use Rattle.std.specs.List.{sum_by}
use Rattle.std.specs.FinMap as map
use Rattle.satp_base.specs.Founding.{Founding, cap_among, counted, equal_names, held_among}
use Rattle.satp_base.specs.Ledgers.{Entries}
use Rattle.satp_base.specs.declared.ledger.Entry.{Entry}
use Rattle.satp_base.specs.declared.ledger.Entry.TheVariants.{Locked, Burnt, Minted, Assigned}
use Rattle.satp_base.specs.declared.ledger.LedgerEntry.{LedgerEntry}
use Rattle.satp_base.specs.declared.name.Name.{Name}

-- what a ledger tells: what it was founded with, and the entries since
pub record Book : Type 0 where
  pub genesis : Founding
  pub entries : Entries

abbrev pub sum_entries : (LedgerEntry → ℕ) → Entries → ℕ
sum_entries f entries = sum_by (λ e. f e.1) (map.entries entries)

-- ---- which entries count

-- the amount has left its originator
abbrev pub is_taken : Entry → Bool
is_taken Locked = true
is_taken Burnt = true
is_taken _ = false

-- the amount has come to its beneficiary
abbrev pub is_given : Entry → Bool
is_given Assigned = true
is_given _ = false

-- the amount is there and no owner is free to use it
abbrev pub is_pledged : Entry → Bool
is_pledged Locked = true
is_pledged Minted = true
is_pledged _ = false

-- ---- of one owner

abbrev pub held : Founding → Name → Name → ℕ
held g asset owner = sum_by (λ h. counted (equal_names asset h.asset && equal_names owner h.owner) h.amount.number) g.holds

abbrev pub taken : Name → Name → LedgerEntry → ℕ
taken asset owner k = counted (is_taken k.entry && (equal_names asset k.terms.asset && equal_names owner k.terms.originator)) k.terms.amount.number

abbrev pub given : Name → Name → LedgerEntry → ℕ
given asset owner k = counted (is_given k.entry && (equal_names asset k.terms.asset && equal_names owner k.terms.beneficiary)) k.terms.amount.number

-- what an owner is free to use
abbrev pub free_of : Book → Name → Name → ℕ
free_of b asset owner = (held b.genesis asset owner + sum_entries (given asset owner) b.entries) - sum_entries (taken asset owner) b.entries

-- ---- of all owners

abbrev pub held_of_all : Founding → Name → ℕ
held_of_all g asset = held_among g.holds asset

abbrev pub taken_of_all : Name → LedgerEntry → ℕ
taken_of_all asset k = counted (is_taken k.entry && equal_names asset k.terms.asset) k.terms.amount.number

abbrev pub given_to_all : Name → LedgerEntry → ℕ
given_to_all asset k = counted (is_given k.entry && equal_names asset k.terms.asset) k.terms.amount.number

abbrev pub pledged : Name → LedgerEntry → ℕ
pledged asset k = counted (is_pledged k.entry && equal_names asset k.terms.asset) k.terms.amount.number

abbrev pub free_sum_of : Book → Name → ℕ
free_sum_of b asset = (held_of_all b.genesis asset + sum_entries (given_to_all asset) b.entries) - sum_entries (taken_of_all asset) b.entries

-- how much there is: what is free, and what is locked or minted
abbrev pub total_of : Book → Name → ℕ
total_of b asset = free_sum_of b asset + sum_entries (pledged asset) b.entries

-- the most that there may be, of an asset that the ledger has
abbrev pub cap_of : Founding → Name → Option ℕ
cap_of g asset = cap_among g.assets asset
