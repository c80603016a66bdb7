-- The first of several faults.
use Rattle.std.proofs.Common.{◌≡◌, List, [], ◌∷◌, ◌++◌, Option, Some, None, refl}
use Rattle.satp_canon.specs.FirstFault.{first_of}
use Rattle.satp_canon.specs.declared.fault.CanonFault.{CanonFault}

-- what comes behind those in front
pub behind : (front others : List (Option CanonFault)) → None ≡ first_of front → first_of (front ++ others) ≡ first_of others
behind [] others e = refl
behind (None ∷ front) others e = behind front others e
behind (Some f ∷ front) others e = absurd cc

pub in_front : (front others : List (Option CanonFault)) (f : CanonFault) → Some f ≡ first_of front → first_of (front ++ others) ≡ Some f
in_front [] others f e = absurd cc
in_front (None ∷ front) others f e = in_front front others f e
in_front (Some g ∷ front) others f e = same f g e
  where
    same : (f g : CanonFault) → Some f ≡ Some g → Some g ≡ Some f
    same f g h = cc
