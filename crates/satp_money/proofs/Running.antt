-- Sums that are made entry by entry.
use Rattle.std.proofs.Common.{◌≡◌, ℕ, ◌+◌, ◌≤◌, List, [], ◌∷◌, ap, sym, ◌∙◌, arith}
use Rattle.std.specs.List.{sum_by}
use Rattle.std.specs.List.Sorted.{IsStrictlySortedBy}
use Rattle.std.specs.FinMap.{from_entries}
use Rattle.std.specs.Map.{keys_of}
use Rattle.std.proofs.lemmas.List.Sums.{sum_by-cons}
use Rattle.satp_base.specs.Keys.{session_cmp}
use Rattle.satp_base.specs.Money.{pledged, sum_entries}
use Rattle.satp_base.specs.Numbers.{greatest_amount}
use Rattle.satp_base.specs.declared.ledger.LedgerEntry.{LedgerEntry}
use Rattle.satp_base.specs.declared.name.Name.{Name}
use Rattle.satp_base.specs.declared.session.SessionId.{SessionId}
use Rattle.satp_base.proofs.SessionLemmas.{exact_sessions, sessions_total}
use Rattle.satp_money.proofs.Maps.{sorted_entries}

module _ {X : Type 0} (f : X → ℕ) where
  -- the next item is within the whole
  pub part_within : (es rest next : List X) (x : X) (sum : ℕ) → rest ≡ x ∷ next → sum + sum_by f rest ≡ sum_by f es → sum + f x ≤ sum_by f es
  part_within es rest next x sum e h = within _ _ _ _ _ (ap (sum_by f) e ∙ sum_by-cons f x next) h
    where
      within : (s r n y t : ℕ) → r ≡ y + n → s + r ≡ t → s + y ≤ t
      within s r n y t p q = omega arith

  pub whole : (es rest : List X) (sum : ℕ) → rest ≡ [] → sum + sum_by f rest ≡ sum_by f es → sum ≡ sum_by f es
  whole es rest sum e h = all _ _ _ (ap (sum_by f) e) h
    where
      all : (s r t : ℕ) → r ≡ 0 → s + r ≡ t → s ≡ t
      all s r t p q = omega arith

abbrev entry_part : Name → SessionId × LedgerEntry → ℕ
entry_part asset e = pledged asset e.1

sum_pledged_is : (es : List (SessionId × LedgerEntry)) (asset : Name) → IsStrictlySortedBy session_cmp (keys_of es) → sum_by (entry_part asset) es ≡ sum_entries (pledged asset) (from_entries es)
sum_pledged_is es asset h = ap (sum_by (entry_part asset)) (sym (sorted_entries session_cmp sessions_total exact_sessions es h))

pub pledged_is : (es rest : List (SessionId × LedgerEntry)) (asset : Name) (sum : ℕ) → IsStrictlySortedBy session_cmp (keys_of es)
    → rest ≡ [] → sum + sum_by (entry_part asset) rest ≡ sum_by (entry_part asset) es → sum ≡ sum_entries (pledged asset) (from_entries es)
pledged_is es rest asset sum sorted e s = whole (entry_part asset) es rest sum e s ∙ sum_pledged_is es asset sorted

pub pledged_fits : (es rest next : List (SessionId × LedgerEntry)) (asset : Name) (x : SessionId × LedgerEntry) (sum : ℕ) → sum_entries (pledged asset) (from_entries es) ≤ greatest_amount → IsStrictlySortedBy session_cmp (keys_of es)
    → rest ≡ x ∷ next → sum + sum_by (entry_part asset) rest ≡ sum_by (entry_part asset) es → sum + pledged asset x.1 ≤ greatest_amount
pledged_fits es rest next asset x sum most sorted e s =
    fits _ _ _ _ (part_within (entry_part asset) es rest next x sum e s) (sum_pledged_is es asset sorted) most
  where
    fits : (a v whole at : ℕ) {most : ℕ} → a + v ≤ whole → whole ≡ at → at ≤ most → a + v ≤ most
    fits a v whole at l e m = omega arith
