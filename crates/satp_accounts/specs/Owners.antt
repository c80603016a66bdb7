-- What is kept as free of each owner, and its sum over an asset's owners.
use Rattle.std.specs.Prelude.{◌≡◌, ℕ, ◌+◌, ◌≤◌, ◌&&◌, List, Option, Some, None, unwrap_or}
use Rattle.std.specs.List.{sum_by}
use Rattle.std.specs.FinMap as map
use Rattle.std.specs.Ordering.{ordering_then}
use Rattle.std.specs.declared.cmp.Ordering.{Ordering}
use Rattle.satp_base.specs.Founding.{counted, equal_names, held_among}
use Rattle.satp_base.specs.Keys.{name_cmp}
use Rattle.satp_base.specs.Numbers.{greatest_amount}
use Rattle.satp_base.specs.declared.amount.Amount.{Amount}
use Rattle.satp_base.specs.declared.genesis.Hold.{Hold}
use Rattle.satp_base.specs.declared.name.Name.{Name}
use Rattle.satp_money.specs.declared.owned.Owned.{Owned}

-- by asset, and then by owner
abbrev pub owned_cmp : Owned → Owned → Ordering
owned_cmp a b = ordering_then (name_cmp a.asset b.asset) (name_cmp a.owner b.owner)

abbrev pub Amounts : Type 0
Amounts = map.FinMap owned_cmp ℕ

abbrev pub amount_at : Amounts → Name → Name → ℕ
amount_at amounts asset owner = unwrap_or (map.get amounts (record { asset = asset; owner = owner })) 0

abbrev pub sum_at : Amounts → Name → ℕ
sum_at amounts asset = sum_by (λ e. counted (equal_names asset e.0.asset) e.1) (map.entries amounts)

-- these are the amounts of the first holdings
pub record IsHeld (holds : List Hold) (amounts : Amounts) : Type 0 where
  pub each : (asset owner : Name) → amount_at amounts asset owner ≡ sum_by (λ (h : Hold). counted (equal_names asset h.asset && equal_names owner h.owner) h.amount.number) holds
  pub all : (asset : Name) → sum_at amounts asset ≡ held_among holds asset

abbrev owned_by : Name × Name × Amount → Owned
owned_by h = record { asset = h.0; owner = h.1 }

-- a holding, if there is one, leaves its owner's amount in range
abbrev pub HoldFits : Amounts → Option (Name × Name × Amount) → Type 0
HoldFits amounts None = Unit {0}
HoldFits amounts (Some h) = amount_at amounts h.0 h.1 + h.2.number ≤ greatest_amount

-- the amounts behind a holding, if there is one
abbrev pub HoldAdds : Amounts → Option (Name × Name × Amount) → Amounts → Type 0
HoldAdds old None new = new ≡ old
HoldAdds old (Some h) new = new ≡ map.insert old (owned_by h) (amount_at old h.0 h.1 + h.2.number)
