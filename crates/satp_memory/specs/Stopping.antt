-- A stop that a disk in memory comes to.
use Rattle.std.specs.Prelude.{ℕ, ◌+◌, ◌-◌, ◌^◌, min, nat_le, Bool, false, if◌then◌else◌, Option, Some, None}
use Rattle.satp_memory.specs.declared.stop.Stop.{Stop}

-- a stop so many events behind those that are there
abbrev pub stop_after : ℕ → ℕ → ℕ → Stop
stop_after here more pick = record { at = min (here + more) (2 ^ 64 - 1); pick = pick }

-- so many events are there, and the stop comes before the next one
abbrev pub is_reached : Option Stop → ℕ → Bool
is_reached None here = false
is_reached (Some stop) here = nat_le stop.at here

-- a stop that was reached stays
abbrev pub reached_alone : Option Stop → ℕ → Option Stop
reached_alone stop here = if is_reached stop here then stop else None

-- the pick of a restart: the new bytes where no stop stands
abbrev pub pick_of : Option Stop → ℕ
pick_of None = 1
pick_of (Some stop) = stop.pick
