-- What lies within the area of an open gateway, in two words.
use Rattle.std.proofs.Common.{◌≡◌, false, Option}
use Rattle.satp_base.specs.Calls.{Told}
use Rattle.satp_journal.specs.State.{Fits}
use Rattle.satp_points.specs.States.{GateWithin, GatewayState, is_broken}

pub within_from : (g : GatewayState) (told : Option Told) → (is_broken g ≡ false → Fits g told) → is_broken g ≡ false → GateWithin g told
unfolding GateWithin
within_from g told fits whole = fits whole

pub fits_from : (g : GatewayState) (told : Option Told) → (is_broken g ≡ false → GateWithin g told) → is_broken g ≡ false → Fits g told
unfolding GateWithin
fits_from g told within whole = within whole
