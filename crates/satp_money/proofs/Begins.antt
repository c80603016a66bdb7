-- The book of a ledger at its beginning.
use Rattle.std.proofs.Common.{◌≡◌, ℕ, zero, suc, ◌+◌, ◌≤◌, List, [], ◌∷◌, ◌++◌, length, take, Option, Some, None, refl, ap, ◌∙◌, arith}
use Rattle.std.specs.Prelude.{slice_get}
use Rattle.std.specs.List.{sum_by}
use Rattle.std.specs.FinMap.{from_entries}
use Rattle.std.proofs.lemmas.Grind.{common_steps}
use Rattle.satp_base.specs.Founding.{Founding}
use Rattle.satp_base.specs.Genesis.{IsGenesis}
use Rattle.satp_base.specs.Keys.{session_cmp}
use Rattle.satp_base.specs.Money.{held, held_of_all, sum_entries}
use Rattle.satp_base.specs.declared.ledger.LedgerEntry.{LedgerEntry}
use Rattle.satp_base.specs.declared.name.Name.{Name}
use Rattle.satp_base.specs.declared.session.SessionId.{SessionId}
use Rattle.satp_base.proofs.SessionLemmas.{exact_sessions, sessions_total}
use Rattle.satp_money.specs.Amounts.{Agrees}
use Rattle.satp_money.proofs.Maps.{entries_empty}

-- ---- the front of a list, one element longer

module _ {X : Type 0} where
  abbrev pub one : Option X → List X
  one None = []
  one (Some x) = x ∷ []

  pub take_get : (xs : List X) (i : ℕ) → take (suc i) xs ≡ take i xs ++ one (slice_get xs i)
  take_get [] zero = refl
  take_get [] (suc i) = refl
  take_get (x ∷ xs) zero = refl
  take_get (x ∷ xs) (suc i) = ap (λ ys. x ∷ ys) (take_get xs i)

  pub take_whole : (xs : List X) (i : ℕ) → length xs ≤ i → take i xs ≡ xs
  take_whole xs i h = grind (arith, common_steps)

-- ---- the beginning

pub no_entries : (es : List (SessionId × LedgerEntry)) (f : LedgerEntry → ℕ) → es ≡ [] → sum_entries f (from_entries {R = session_cmp} es) ≡ 0
no_entries es f e = ap (λ x. sum_entries f (from_entries x)) e ∙ ap (sum_by (λ (x : SessionId × LedgerEntry). f x.1)) (entries_empty session_cmp sessions_total exact_sessions)

same : (x t h g : ℕ) → t ≡ 0 → g ≡ 0 → x ≡ h → x + t ≡ h + g
same x t h g p q e = omega arith

-- amounts that are those of the first holdings agree with the book without entries
pub begun : (g : Founding) (es : List (SessionId × LedgerEntry)) (amount : Name → Name → ℕ) (sum : Name → ℕ) → IsGenesis g → es ≡ [] → ((a o : Name) → amount a o ≡ held g a o) → ((a : Name) → sum a ≡ held_of_all g a)
    → Agrees (record { genesis = g; entries = from_entries es }) amount sum
begun g es amount sum is none each all = record {
  each = λ asset owner. same _ _ _ _ (no_entries es _ none) (no_entries es _ none) (each asset owner);
  all = λ asset. same _ _ _ _ (no_entries es _ none) (no_entries es _ none) (all asset);
  capped = λ asset. fits _ _ _ _ (all asset) (no_entries es _ none) (is.capped asset);
}
  where
    fits : (s p h cap : ℕ) → s ≡ h → p ≡ 0 → h ≤ cap → s + p ≤ cap
    fits s p h cap e z l = omega arith
