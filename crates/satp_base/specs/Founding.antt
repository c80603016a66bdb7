-- What a ledger is founded with: its assets and first holdings, in order.
use Rattle.std.specs.Prelude.{ℕ, Bool, List, if◌then◌else◌, Option, find, option_map}
use Rattle.std.specs.List.{sum_by}
use Rattle.std.specs.Ordering.{eq_by_cmp}
use Rattle.std.specs.Coded.{Coded, coded_list, coded×}
use Rattle.satp_base.specs.Keys.{coded_name, coded_amount, name_cmp}
use Rattle.satp_base.specs.declared.amount.Amount.{Amount}
use Rattle.satp_base.specs.declared.name.Name.{Name}
use Rattle.satp_base.specs.declared.genesis.Asset.{Asset}
use Rattle.satp_base.specs.declared.genesis.Hold.{Hold}

pub record Founding : Type 0 where
  pub assets : List Asset
  pub holds : List Hold

abbrev pub most_assets : ℕ
most_assets = 16

abbrev pub most_holds : ℕ
most_holds = 256

abbrev pub equal_names : Name → Name → Bool
equal_names a b = eq_by_cmp name_cmp a b

abbrev pub counted : Bool → ℕ → ℕ
counted b n = if b then n else 0

abbrev pub amount_number : Amount → ℕ
amount_number a = a.number

-- the cap of the first asset of a name
abbrev pub cap_among : List Asset → Name → Option ℕ
cap_among assets asset = option_map (λ (a : Asset). a.cap.number) (find (λ (a : Asset). equal_names asset a.name) assets)

-- the sum of an asset's holdings
abbrev pub held_among : List Hold → Name → ℕ
held_among holds asset = sum_by (λ (h : Hold). counted (equal_names asset h.asset) h.amount.number) holds

abbrev asset_pair : Coded (Name × Amount)
asset_pair = coded× coded_name coded_amount

unfoldable pub coded_asset : Coded Asset
coded_asset = record {
  code = λ a. asset_pair.code (a.name, a.cap);
  inj = λ a b e. let p = asset_pair.inj (a.name, a.cap) (b.name, b.cap) e in λ i. record { name = (p i).0; cap = (p i).1 };
}

abbrev hold_triple : Coded (Name × (Name × Amount))
hold_triple = coded× coded_name (coded× coded_name coded_amount)

unfoldable pub coded_hold : Coded Hold
coded_hold = record {
  code = λ h. hold_triple.code (h.asset, (h.owner, h.amount));
  inj = λ a b e. let p = hold_triple.inj (a.asset, (a.owner, a.amount)) (b.asset, (b.owner, b.amount)) e in λ i. record { asset = (p i).0; owner = (p i).1.0; amount = (p i).1.1 };
}

abbrev founding_pair : Coded (List Asset × List Hold)
founding_pair = coded× (coded_list coded_asset) (coded_list coded_hold)

unfoldable pub coded_founding : Coded Founding
coded_founding = record {
  code = λ f. founding_pair.code (f.assets, f.holds);
  inj = λ a b e. let p = founding_pair.inj (a.assets, a.holds) (b.assets, b.holds) e in λ i. record { assets = (p i).0; holds = (p i).1 };
}
