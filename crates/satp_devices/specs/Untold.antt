-- Devices that tell nothing: what is said of those that tell holds of them.
use Rattle.std.specs.Prelude.{◌≡◌, ◌≢◌, [], None, Some}
use Rattle.satp_base.specs.Calls.{Told}
use Rattle.satp_base.specs.Trail.{KeepsModel}
use Rattle.satp_base.specs.Wires.{Traffic}

-- there is no trail that could break the disk model
pub untold_keeps : (t : Told) → None ≡ Some t → KeepsModel t.trail
untold_keeps t is = cc

-- there is no traffic that could lack the open connection
pub untold_is_open : (t : Traffic) → None ≡ Some t → t.conversations ≢ []
untold_is_open t is = cc
