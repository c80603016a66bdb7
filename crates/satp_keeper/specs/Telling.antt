-- A kept ledger tells no trail.
use Rattle.std.specs.Prelude.{◌≡◌, Option, Some, None}
use Rattle.satp_base.specs.Calls.{Told}
use Rattle.satp_base.specs.Trail.{KeepsModel}

-- what isn't told keeps the disk model
pub untold_keeps : (t : Told) → ◌≡◌ {A = Option Told} None (Some t) → KeepsModel t.trail
untold_keeps t is = cc
