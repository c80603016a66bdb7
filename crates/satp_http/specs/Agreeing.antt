-- `agreed`, one value at a time.
use Rattle.std.specs.Prelude.{ℕ, List, Option, Some, None, if◌then◌else◌}
use Rattle.std.specs.List.{list_all}
use Rattle.std.specs.Str.Parse.{digits_value}
use Rattle.satp_http.specs.Lines.{agreed, writes, is_length}

-- where a number was found before
abbrev pub agrees_on : Option ℕ → List (List ℕ) → Option ℕ
agrees_on None values = agreed values
agrees_on (Some n) values = if list_all (writes n) values then Some n else None

-- one more value
abbrev pub agreed_with : Option ℕ → List ℕ → Option ℕ
agreed_with None value = if is_length value then Some (digits_value 10 value) else None
agreed_with (Some n) value = if writes n value then Some n else None
