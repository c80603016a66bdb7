-- What a ledger may be founded with.
use Rattle.std.specs.Prelude.{◌≡◌, ℕ, ◌+◌, ◌<◌, ◌≤◌, List, [], ◌∷◌, ◌++◌, length, Some, None, unwrap_or}
use Rattle.satp_base.specs.Founding.{Founding, cap_among, held_among, most_assets, most_holds}
use Rattle.satp_base.specs.declared.amount.Amount.{Amount}
use Rattle.satp_base.specs.declared.genesis.Asset.{Asset}
use Rattle.satp_base.specs.declared.genesis.Hold.{Hold}
use Rattle.satp_base.specs.declared.name.Name.{Name}

-- no two assets have one name
abbrev pub AreApart : List Asset → Type 0
AreApart [] = Unit {0}
AreApart (a ∷ assets) = (cap_among assets a.name ≡ None) × AreApart assets

-- the holdings of each asset are within its cap, and there is no holding of another asset
pub record IsGenesis (g : Founding) : Type 0 where
  pub few_assets : length g.assets ≤ most_assets
  pub few_holds : length g.holds ≤ most_holds
  pub apart : AreApart g.assets
  pub capped : (asset : Name) → held_among g.holds asset ≤ unwrap_or (cap_among g.assets asset) 0

-- an asset may stand behind those that are there
pub record AddsAsset (old : Founding) (asset : Asset) (new : Founding) : Type 0 where
  pub few : length old.assets < most_assets
  pub unknown : cap_among old.assets asset.name ≡ None
  pub added : new ≡ record old { assets = old.assets ++ asset ∷ [] }

-- a holding may stand behind what is there
pub record AddsHold (old : Founding) (hold : Hold) (new : Founding) : Type 0 where
  pub few : length old.holds < most_holds
  pub cap : ℕ
  pub known : cap_among old.assets hold.asset ≡ Some cap
  pub fits : held_among old.holds hold.asset + hold.amount.number ≤ cap
  pub added : new ≡ record old { holds = old.holds ++ hold ∷ [] }

abbrev pub asset_pair : Asset → Name × Amount
asset_pair a = (a.name, a.cap)

abbrev pub hold_triple : Hold → Name × Name × Amount
hold_triple h = (h.asset, h.owner, h.amount)
