-- Two proofs that two lists of entries are equal are one proof, since entries can be told apart by numbers.
use Rattle.std.specs.Prelude.{◌≡◌, ◌==◌, ℕ, if◌then◌else◌}
use Rattle.std.specs.Coded.{Coded, coded_ℕ, coded×, code_by}
use Rattle.std.specs.FinMap as map
use mathlib.Core.Path.{refl}
use Rattle.satp_base.specs.Keys.{coded_amount, coded_name, coded_session}
use Rattle.satp_base.specs.Ledgers.{Entries}
use Rattle.satp_base.specs.declared.amount.Amount.{Amount}
use Rattle.satp_base.specs.declared.ledger.Entry.{Entry}
use Rattle.satp_base.specs.declared.ledger.Entry.TheVariants.{Absent, Locked, Burnt, Minted, Assigned, Released}
use Rattle.satp_base.specs.declared.ledger.LedgerEntry.{LedgerEntry}
use Rattle.satp_base.specs.declared.message.Terms.{Terms}
use Rattle.satp_base.specs.declared.name.Name.{Name}

abbrev number_of : Entry → ℕ
number_of Absent = 0
number_of Locked = 1
number_of Burnt = 2
number_of Minted = 3
number_of Assigned = 4
number_of Released = 5

abbrev entry_at : ℕ → Entry
entry_at n =
    if n == 0 then Absent else if n == 1 then Locked else if n == 2 then Burnt else if n == 3 then Minted
    else if n == 4 then Assigned else Released

entry_back : (e : Entry) → entry_at (number_of e) ≡ e
entry_back Absent = refl
entry_back Locked = refl
entry_back Burnt = refl
entry_back Minted = refl
entry_back Assigned = refl
entry_back Released = refl

abbrev coded_entry : Coded Entry
coded_entry = code_by ℕ coded_ℕ number_of entry_at entry_back

abbrev coded_terms : Coded Terms
coded_terms = code_by (Amount × (Name × (Name × Name))) (coded× coded_amount (coded× coded_name (coded× coded_name coded_name)))
    (λ t. (t.amount, (t.asset, (t.beneficiary, t.originator)))) (λ p. record { amount = p.0; asset = p.1.0; beneficiary = p.1.1.0; originator = p.1.1.1 }) (λ _. refl)

abbrev coded_kept : Coded LedgerEntry
coded_kept = code_by (Entry × Terms) (coded× coded_entry coded_terms) (λ k. (k.entry, k.terms)) (λ p. record { entry = p.0; terms = p.1 }) (λ _. refl)

pub coded_entries : Coded Entries
coded_entries = map.code coded_session coded_kept
