-- The sums over all sessions of both directions: what both ledgers leave free of an asset.
use Rattle.std.specs.Prelude.{◌≡◌, ℕ, ◌+◌, ◌≤◌, false, List, Some}
use Rattle.std.specs.List.{IsDistinct, list_any, sum_by}
use Rattle.satp_base.specs.Founding.{Founding, equal_names}
use Rattle.satp_base.specs.Money.{free_of, free_sum_of, held_of_all}
use Rattle.satp_base.specs.declared.name.Name.{Name}
use Rattle.satp_base.specs.declared.session.SessionId.{SessionId}
use Rattle.satp_base.specs.declared.view.View.{View}
use Rattle.satp_sides.specs.Points.{view_in}
use Rattle.satp_world.specs.Worlds.{Gateway, IsSettledAt, Reached, Setting, World, name_at, side_at}

-- every session that a gateway has begun is settled
abbrev pub AllSettled : Setting → World → Type 0
AllSettled st w = (g : Gateway) (s : SessionId) (v : View) → s.gateway ≡ name_at st g → view_in s (side_at w g).records ≡ Some v → IsSettledAt w g s

-- what these owners are free to use of an asset, on both ledgers
abbrev pub free_to : World → Name → List Name → ℕ
free_to w asset owners = sum_by (free_of w.a.book asset) owners + sum_by (free_of w.b.book asset) owners

-- what is free of an asset on both ledgers, whoever owns it
abbrev pub free_in : World → Name → ℕ
free_in w asset = free_sum_of w.a.book asset + free_sum_of w.b.book asset

-- what both ledgers were founded with
abbrev pub founded_with : Founding → Founding → Name → ℕ
founded_with a b asset = held_of_all a asset + held_of_all b asset

-- no other owner is free to use anything of the asset
abbrev pub AreAllOwners : World → Name → List Name → Type 0
AreAllOwners w asset owners = (owner : Name) → list_any (equal_names owner) owners ≡ false → (free_of w.a.book asset owner ≡ 0) × (free_of w.b.book asset owner ≡ 0)

-- What holds of the sums in a world that moves lead to from these foundings.
pub record IsTotal (st : Setting) (a b : Founding) (w : World) (asset : Name) : Type 0 where
  -- the ledgers' sums never pass what they were founded with
  pub never_more : free_in w asset ≤ founded_with a b asset
  -- and are just that where every begun session is settled
  pub settled : AllSettled st w → free_in w asset ≡ founded_with a b asset
  -- the same summed owner by owner: whoever is counted, once each
  pub owners_never_more : (owners : List Name) → IsDistinct equal_names owners → free_to w asset owners ≤ founded_with a b asset
  -- and where all are counted
  pub owners_settled : AllSettled st w → (owners : List Name) → IsDistinct equal_names owners → AreAllOwners w asset owners → free_to w asset owners ≡ founded_with a b asset

abbrev pub LawTotal : Type 0
LawTotal = (st : Setting) (a b : Founding) (w : World) → Reached st a b w → (asset : Name) → IsTotal st a b w asset
