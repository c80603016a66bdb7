-- How faults are counted.
use Rattle.std.specs.Prelude.{◌≡◌, ℕ, ◌+◌, ◌-◌, ◌^◌, min, Result, Ok, Err}

-- A fault raises the count by one, up to the last number that it can hold, and nothing else raises it.
abbrev pub Counts : {T E : Type 0} → ℕ → ℕ → Result T E → Type 0
Counts before after (Ok value) = after ≡ before
Counts before after (Err fault) = after ≡ min (before + 1) (2 ^ 64 - 1)
