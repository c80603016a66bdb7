-- The sums over the entries after one is put.
use Rattle.std.proofs.Common.{◌≡◌, ℕ, ◌+◌, ◌&&◌, Bool, true, false, Option, Some, None, refl, ap, sym, ◌∙◌}
use Rattle.std.specs.Option.{option_map_or}
use Rattle.std.specs.FinMap.{get, insert}
use Rattle.satp_base.specs.Founding.{counted}
use Rattle.satp_base.specs.Ledgers.{Entries}
use Rattle.satp_base.specs.LedgerRule.{entry_of, moved_entries, result_of, terms_of}
use Rattle.satp_base.specs.Money.{sum_entries}
use Rattle.satp_base.specs.declared.ledger.Entry.{Entry}
use Rattle.satp_base.specs.declared.ledger.Entry.TheVariants.{Absent}
use Rattle.satp_base.specs.declared.ledger.LedgerEntry.{LedgerEntry}
use Rattle.satp_base.specs.declared.ledger.LedgerOp.{LedgerOp}
use Rattle.satp_base.specs.declared.message.Terms.{Terms}
use Rattle.satp_base.specs.declared.session.SessionId.{SessionId}
use Rattle.satp_base.proofs.SessionLemmas.{exact_sessions, sessions_total}
use Rattle.satp_money.proofs.Sums.{counts, sum_insert}

before : (LedgerEntry → ℕ) → Option LedgerEntry → ℕ
before f None = 0
before f (Some k) = f k

before_is : (f : LedgerEntry → ℕ) (s : SessionId) (o : Option LedgerEntry) → counts (λ (e : SessionId × LedgerEntry). f e.1) s o ≡ before f o
unfolding before
before_is f s None = refl
before_is f s (Some k) = refl

entries_sum : (f : LedgerEntry → ℕ) (m : Entries) (s : SessionId) (k : LedgerEntry) → sum_entries f (insert m s k) + before f (get m s) ≡ sum_entries f m + f k
entries_sum f m s k = ap (λ x. sum_entries f (insert m s k) + x) (sym (before_is f s (get m s))) ∙ sum_insert sessions_total exact_sessions (λ e. f e.1) m s k

-- the terms that hold for a session, by what it has
abbrev pub under : Entry → Terms → Terms → Terms
under Absent kept given = given
under _ kept given = kept

abbrev pub standing_at : Option LedgerEntry → Terms → LedgerEntry
standing_at o t = record {
  entry = option_map_or (λ (k : LedgerEntry). k.entry) o Absent;
  terms = under (option_map_or (λ (k : LedgerEntry). k.entry) o Absent) (option_map_or (λ (k : LedgerEntry). k.terms) o t) t;
}

-- the entry of a session, under the terms that hold for it
abbrev pub standing : Entries → SessionId → Terms → LedgerEntry
standing m s t = record { entry = entry_of m s; terms = terms_of m s t }

-- the same after an operation moved it
abbrev pub reached : Entries → LedgerOp → SessionId → Terms → LedgerEntry
reached m op s t = record { entry = result_of op; terms = terms_of m s t }

module _ (is : Entry → Bool) (test : Terms → Bool) (none : is Absent ≡ false) where
  -- what an entry counts for
  abbrev pub part : LedgerEntry → ℕ
  part k = counted (is k.entry && test k.terms) k.terms.amount.number

  counts_none : (b c : Bool) (n : ℕ) → b ≡ false → 0 ≡ counted (b && c) n
  counts_none true c n e = absurd cc
  counts_none false c n e = refl

  part_standing : (entry : Entry) (kept given : Terms) → part (record { entry = entry; terms = kept }) ≡ part (record { entry = entry; terms = under entry kept given })
  part_standing Absent kept given = sym (counts_none (is Absent) (test kept) kept.amount.number none) ∙ counts_none (is Absent) (test given) given.amount.number none
  part_standing _ kept given = refl

  before_standing : (o : Option LedgerEntry) (t : Terms) → before part o ≡ part (standing_at o t)
  unfolding before
  before_standing None t = counts_none (is Absent) (test t) t.amount.number none
  before_standing (Some k) t = part_standing k.entry k.terms t

  -- the sum after an operation moved an entry
  pub sum_moved : (m : Entries) (op : LedgerOp) (s : SessionId) (t : Terms) → sum_entries part (moved_entries m op s t) + part (standing m s t) ≡ sum_entries part m + part (reached m op s t)
  sum_moved m op s t = ap (λ x. sum_entries part (moved_entries m op s t) + x) (sym (before_standing (get m s) t)) ∙ entries_sum part m s (reached m op s t)

-- ---- sums by how far an entry has come

module _ (w : Entry → ℕ) (none : w Absent ≡ 0) where
  before_entry : (o : Option LedgerEntry) → before (λ k. w k.entry) o ≡ w (option_map_or (λ (k : LedgerEntry). k.entry) o Absent)
  unfolding before
  before_entry None = sym none
  before_entry (Some k) = refl

  -- the sum after an entry is put
  pub sum_put_entry : (m : Entries) (s : SessionId) (k : LedgerEntry) → sum_entries (λ x. w x.entry) (insert m s k) + w (entry_of m s) ≡ sum_entries (λ x. w x.entry) m + w k.entry
  sum_put_entry m s k = ap (λ x. sum_entries (λ y. w y.entry) (insert m s k) + x) (sym (before_entry (get m s))) ∙ entries_sum (λ y. w y.entry) m s k
