-- Owners' amounts in an ordered map.
use Rattle.std.proofs.Common.{◌≡◌, ℕ, ◌+◌, ◌≤◌, ◌&&◌, Bool, true, false, cond, Option, Some, None, refl, ap, sym, subst, ◌∙◌, arith}
use Rattle.std.specs.Prelude.{unwrap_or}
use Rattle.std.specs.Ordering.{eq_by_cmp, is_eq, ordering_then}
use Rattle.std.specs.Cmp.{IsTotalOrder}
use Rattle.std.specs.FinMap.{IsAntisymmetric, get, get-insert, insert}
use Rattle.std.specs.declared.cmp.Ordering.{Ordering}
use Rattle.std.specs.declared.cmp.Ordering.TheVariants.{Less, Equal, Greater}
use Rattle.std.proofs.lemmas.Cmp.{then_total, on_total}
use Rattle.std.proofs.lemmas.Map.Lookups.{exact_pairs}
use Rattle.satp_base.specs.Founding.{counted, equal_names}
use Rattle.satp_base.specs.Keys.{name_cmp}
use Rattle.satp_base.specs.declared.name.Name.{Name}
use Rattle.satp_base.proofs.GenesisLemmas.{names_total, names_refl}
use Rattle.satp_base.proofs.SessionLemmas.{exact_names}
use Rattle.satp_money.proofs.Sums.{counts, sum_insert}
use Rattle.satp_accounts.specs.Owners.{Amounts, amount_at, owned_cmp, sum_at}
use Rattle.satp_money.specs.declared.owned.Owned.{Owned}

pub owned_total : IsTotalOrder owned_cmp
owned_total = then_total (on_total (λ o. o.asset) names_total) (on_total (λ o. o.owner) names_total)

pub exact_owned : IsAntisymmetric owned_cmp
exact_owned a b h =
    let p = exact_pairs name_cmp name_cmp exact_names exact_names (a.asset, a.owner) (b.asset, b.owner) h in
    λ i. record { asset = (p i).0; owner = (p i).1 }

-- two owners' parts are one where both names are
both_names : (p q : Ordering) → is_eq (ordering_then p q) ≡ (is_eq p && is_eq q)
both_names Less q = refl
both_names Equal q = refl
both_names Greater q = refl

part_is : (a : Name) (o : Owned) (x : Option ℕ) → counts (λ (e : Owned × ℕ). counted (equal_names a e.0.asset) e.1) o x ≡ counted (equal_names a o.asset) (unwrap_or x 0)
part_is a o None = zero_counted (equal_names a o.asset)
  where
    zero_counted : (b : Bool) → 0 ≡ counted b 0
    zero_counted true = refl
    zero_counted false = refl
part_is a o (Some x) = refl

-- an asset's sum after an amount is put
pub sum_changed : (n : Amounts) (o : Owned) (x : ℕ) (a : Name) → sum_at (insert n o x) a + counted (equal_names a o.asset) (amount_at n o.asset o.owner) ≡ sum_at n a + counted (equal_names a o.asset) x
sum_changed n o x a = ap (λ y. sum_at (insert n o x) a + y) (sym (part_is a o (get n o))) ∙ sum_insert owned_total exact_owned (λ e. counted (equal_names a e.0.asset) e.1) n o x

one_changed : (b : Bool) (o p : ℕ) (x : ℕ) → (b ≡ true → o ≡ p) → cond b x o + counted b p ≡ o + counted b x
one_changed true o p x e = omega (arith, e refl)
one_changed false o p x e = refl

-- an owner's amount after one is put
pub amount_changed : (n : Amounts) (o : Owned) (x : ℕ) (a q : Name) → amount_at (insert n o x) a q + counted (equal_names a o.asset && equal_names q o.owner) (amount_at n o.asset o.owner) ≡ amount_at n a q + counted (equal_names a o.asset && equal_names q o.owner) x
amount_changed n o x a q =
    subst (λ b. amount_at (insert n o x) a q + counted b (amount_at n o.asset o.owner) ≡ amount_at n a q + counted b x) (both_names (name_cmp a o.asset) (name_cmp q o.owner))
    (ap (λ y. y + counted same (amount_at n o.asset o.owner)) at_insert ∙ one_changed same (amount_at n a q) (amount_at n o.asset o.owner) x (λ e. ap (λ (p : Owned). unwrap_or (get n p) 0) (exact_owned p o (equal e))))
  where
    p : Owned
    p = record { asset = a; owner = q }

    same : Bool
    same = eq_by_cmp owned_cmp p o

    at_insert : amount_at (insert n o x) a q ≡ cond same x (amount_at n a q)
    at_insert = ap (λ y. unwrap_or y 0) (get-insert owned_total n o x p) ∙ pushed same
      where
        pushed : (b : Bool) → unwrap_or (cond b (Some x) (get n p)) 0 ≡ cond b x (unwrap_or (get n p) 0)
        pushed true = refl
        pushed false = refl

    equal : same ≡ true → owned_cmp p o ≡ Equal
    equal e = is_equal (owned_cmp p o) e
      where
        is_equal : (r : Ordering) → is_eq r ≡ true → r ≡ Equal
        is_equal Less e = absurd cc
        is_equal Equal e = refl
        is_equal Greater e = absurd cc

-- an owner's amount is within the asset's sum
pub amount_within : (n : Amounts) (a o : Name) → amount_at n a o ≤ sum_at n a
amount_within n a o = within (equal_names a a) (amount_at n a o) _ _ (names_refl a) (sum_changed n (record { asset = a; owner = o }) 0 a)
  where
    within : (b : Bool) (x s s' : ℕ) → b ≡ true → s' + counted b x ≡ s + counted b 0 → x ≤ s
    within true x s s' t e = omega arith
    within false x s s' t e = absurd cc
