-- A journal as its callers see it.
use Rattle.std.specs.Prelude.{◌<◌, ℕ, Bool, List, length, Option}
use Rattle.std.specs.Option.{ForSome}
use Rattle.satp_base.specs.declared.area.Area.{Area}
use Rattle.satp_base.specs.Calls.{Told}
use Rattle.satp_base.specs.Format.{records}
use Rattle.satp_base.specs.Trail.{seen}

-- where it is kept, its list, and whether a call on the disk has failed since it was opened
pub record Held : Type 0 where
  pub area : Area
  pub payloads : List (List ℕ)
  pub broken : Bool

-- with the room for further records, and for the bytes of their payloads, that no call has to find memory for
pub record JournalState : Type 0 where
  pub held : Held
  pub spare_records : ℕ
  pub spare_bytes : ℕ

-- the place of the closed gate behind the list
abbrev pub gate_of : Held → ℕ
gate_of held = length (records held.payloads)

-- where the disk tells, the closed gate lies within the area
abbrev pub Fits : Held → Option Told → Type 0
Fits held told = ForSome told (λ t. gate_of held < length (seen t.trail held.area))
