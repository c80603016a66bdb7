-- Events without a `Left` keep the disk model.
use Rattle.std.specs.Prelude.{◌≡◌, true, List, [], ◌∷◌, Some}
use Rattle.std.proofs.Common.{subst}
use Rattle.satp_base.specs.declared.area.Area.{Area}
use Rattle.satp_base.specs.declared.area.Event.{Event}
use Rattle.satp_base.specs.declared.area.Event.TheVariants.{Wrote, Cut, Synced, Left, Founded, Acted}
use Rattle.satp_base.specs.Trail.{Standing, KeepsFrom, KeepsModel, next, settled}
use Rattle.satp_base.specs.Calls.{Told}
use Rattle.satp_memory.specs.Disk.{is_plain}

pub plain_keeps : (area : Area) (s : Standing) (es : List Event) → is_plain es ≡ true → KeepsFrom area s es
plain_keeps area s [] p = tt
plain_keeps area s (Wrote a at bytes ∷ es) p = (tt, plain_keeps area (next area s (Wrote a at bytes)) es p)
plain_keeps area s (Cut a n ∷ es) p = (tt, plain_keeps area (next area s (Cut a n)) es p)
plain_keeps area s (Synced a ∷ es) p = (tt, plain_keeps area (next area s (Synced a)) es p)
plain_keeps area s (Left a bytes ∷ es) p = cc
plain_keeps area s (Founded ∷ es) p = (tt, plain_keeps area s es p)
plain_keeps area s (Acted op session terms ∷ es) p = (tt, plain_keeps area s es p)

pub told_keeps : (here t : Told) → is_plain here.trail.events ≡ true → Some here ≡ Some t → KeepsModel t.trail
told_keeps here t p is = let same : here ≡ t = cc in subst (λ (x : Told). KeepsModel x.trail) same (λ area. plain_keeps area (settled (here.trail.start area)) here.trail.events p)
