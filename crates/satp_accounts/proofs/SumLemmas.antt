-- Sums that are made amount by amount.
use Rattle.std.proofs.Common.{◌≡◌, ℕ, ◌+◌, ◌≤◌, true, List, [], ◌∷◌, ap, sym, ◌∙◌, arith}
use Rattle.std.specs.List.{sum_by}
use Rattle.std.specs.List.Sorted.{IsStrictlySortedBy}
use Rattle.std.specs.FinMap.{from_entries}
use Rattle.std.specs.Map.{keys_of}
use Rattle.satp_base.specs.Founding.{counted, equal_names}
use Rattle.satp_base.specs.Money.{Book, free_sum_of, pledged, sum_entries}
use Rattle.satp_base.specs.Numbers.{greatest_amount}
use Rattle.satp_base.specs.declared.name.Name.{Name}
use Rattle.satp_money.specs.Amounts.{Agrees}
use Rattle.satp_money.specs.declared.owned.Owned.{Owned}
use Rattle.satp_money.proofs.Maps.{sorted_entries}
use Rattle.satp_money.proofs.Moves.{all_is}
use Rattle.satp_money.proofs.Running.{part_within, whole}
use Rattle.satp_money.proofs.Steps.{sum_most}
use Rattle.satp_accounts.specs.Owners.{amount_at, owned_cmp, sum_at}
use Rattle.satp_accounts.proofs.OwnerLemmas.{exact_owned, owned_total}

abbrev free_part : Name → Owned × ℕ → ℕ
free_part asset e = counted (equal_names asset e.0.asset) e.1

sum_at_is : (es : List (Owned × ℕ)) (asset : Name) → IsStrictlySortedBy owned_cmp (keys_of es) → sum_by (free_part asset) es ≡ sum_at (from_entries es) asset
sum_at_is es asset h = ap (sum_by (free_part asset)) (sym (sorted_entries owned_cmp owned_total exact_owned es h))

pub free_fits : (b : Book) (es rest next : List (Owned × ℕ)) (asset : Name) (o : Owned) (v sum : ℕ) → Agrees b (amount_at (from_entries es)) (sum_at (from_entries es)) → IsStrictlySortedBy owned_cmp (keys_of es)
    → rest ≡ (o, v) ∷ next → sum + sum_by (free_part asset) rest ≡ sum_by (free_part asset) es → equal_names asset o.asset ≡ true → sum + v ≤ greatest_amount
free_fits b es rest next asset o v sum h sorted e s same =
    fits _ _ _ _ _ (part_within (free_part asset) es rest next (o, v) sum e s) (sum_at_is es asset sorted) (ap (λ c. counted c v) same) (sum_most b _ (sum_at (from_entries es)) asset h)
  where
    fits : (a v' all at p : ℕ) {v most : ℕ} → a + v' ≤ all → all ≡ at → v' ≡ v → at + p ≤ most → a + v ≤ most
    fits a v' all at p l e s m = omega arith

pub free_is : (b : Book) (es rest : List (Owned × ℕ)) (asset : Name) (sum : ℕ) → Agrees b (amount_at (from_entries es)) (sum_at (from_entries es)) → IsStrictlySortedBy owned_cmp (keys_of es)
    → rest ≡ [] → sum + sum_by (free_part asset) rest ≡ sum_by (free_part asset) es → sum ≡ free_sum_of b asset
free_is b es rest asset sum h sorted e s = whole (free_part asset) es rest sum e s ∙ sum_at_is es asset sorted ∙ all_is b _ (sum_at (from_entries es)) h asset

-- what is locked or minted is in range too
pub pledged_within : (b : Book) (es : List (Owned × ℕ)) (asset : Name) → Agrees b (amount_at (from_entries es)) (sum_at (from_entries es)) → sum_entries (pledged asset) b.entries ≤ greatest_amount
pledged_within b es asset h = omega (arith, sum_most b _ (sum_at (from_entries es)) asset h)
