-- What lies within the area of an open gateway stays there where the trail of its site stays.
use Rattle.std.proofs.Common.{◌≡◌, ◌<◌, length, Bool, false, ℕ, Option, Some, sym, ◌∙◌, ap, subst, refl}
use Rattle.satp_base.specs.Calls.{Told}
use Rattle.satp_base.specs.Trail.{Trail, seen}
use Rattle.satp_journal.specs.State.{Fits, gate_of}
use Rattle.satp_memory.specs.Steps.{SameDisk, told_of, trail_of}
use Rattle.satp_memory.specs.declared.disk.MemDisk.{MemDisk}
use Rattle.satp_points.specs.States.{GateWithin, GatewayState, is_broken}

pub within_from : (g : GatewayState) (told : Option Told) → (is_broken g ≡ false → Fits g told) → is_broken g ≡ false → GateWithin g told
unfolding GateWithin
within_from g told fits whole = fits whole

pub fits_from : (g : GatewayState) (told : Option Told) → (is_broken g ≡ false → GateWithin g told) → is_broken g ≡ false → Fits g told
unfolding GateWithin
fits_from g told within whole = within whole

pub told_fits : (g : GatewayState) (a b : Told) → b.trail ≡ a.trail → Fits g (Some a) → Fits g (Some b)
told_fits g a b e fits u is =
    let same : b ≡ u = cc in
    subst (λ (trail : Trail). gate_of g < length (seen trail g.area)) (sym e ∙ ap (λ (t : Told). t.trail) same) (fits a refl)

pub same_trail : (a b : MemDisk) → SameDisk a b → trail_of b ≡ trail_of a
same_trail a b same = cc
