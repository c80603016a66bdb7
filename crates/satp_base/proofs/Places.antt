-- Odd places of a tale are the origin's, even ones the recipient's.
use Rattle.std.proofs.Common.{◌≡◌, ◌+◌, Bool, true, List, [], ◌∷◌, ◌++◌, length, Some, refl}
use Rattle.satp_base.specs.declared.message.Kind.{Kind}
use Rattle.satp_base.specs.Tales.{IsTale, comes_behind, is_role, last_of, maker}
use Rattle.satp_base.specs.Chains.{role_at}
use Rattle.satp_base.proofs.Finite.{all_of, implies, all_of-at, implies-use}
use Rattle.satp_base.proofs.TaleTable.{all_kinds, tales, in_all_kinds, tale-in, extends-by}
use Rattle.satp_base.proofs.RoleLemmas.{makes-is}

abbrev placed : List Kind → Kind → Bool
placed t k = implies (comes_behind (last_of t) k) (is_role (role_at (length t + 1)) (maker k))

all_placed : all_of (λ t. all_of (placed t) all_kinds) tales ≡ true
all_placed = refl

-- the next message of a tale is made by the side whose place it is
pub maker-at : (t : List Kind) (k : Kind) → IsTale t → IsTale (t ++ k ∷ []) → maker k ≡ Some (role_at (length t + 1))
maker-at t k h g = makes-is (role_at (length t + 1)) k (implies-use _ _ (all_of-at (placed t) (in_all_kinds k) (all_of-at (λ t. all_of (placed t) all_kinds) (tale-in t h) all_placed)) (extends-by t k h g))
