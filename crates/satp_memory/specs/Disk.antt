-- What a disk in memory keeps, and what it tells.
use Rattle.std.specs.Prelude.{◌≡◌, ◌<◌, ℕ, ◌+◌, ◌==◌, ◌&&◌, ◌||◌, nat_lt, nat_le, Bool, true, false, List, [], ◌∷◌, length, slice_index}
use Rattle.std.specs.FinMap.{empty}
use Rattle.satp_base.specs.declared.area.Area.{Area}
use Rattle.satp_base.specs.declared.area.Event.{Event}
use Rattle.satp_base.specs.declared.area.Event.TheVariants.{Left}
use Rattle.satp_base.specs.Trail.{Trail, Standing, standing}
use Rattle.satp_memory.specs.declared.areas.Areas.{Areas}
use Rattle.satp_memory.specs.Areas.{bytes_in}

abbrev pub trail_from : Areas → List Event → Trail
trail_from start events = record { start = bytes_in start; entries = empty; events = events }

-- no failed call leaves other bytes
abbrev pub is_plain : List Event → Bool
is_plain [] = true
is_plain (Left area bytes ∷ es) = false
is_plain (e ∷ es) = is_plain es

-- the place is in none of these ranges
abbrev pub is_outside : ℕ → List (ℕ × ℕ) → Bool
is_outside k [] = true
is_outside k (w ∷ ws) = (nat_lt k w.0 || nat_le (w.0 + w.1) k) && is_outside k ws

-- a mark for each place, which is 0 exactly where nothing was written since the last sync
pub record Marks (writes : List (ℕ × ℕ)) (marks : List ℕ) (size : ℕ) : Type 0 where
  pub long : length marks ≡ size
  pub value : (k : ℕ) → k < size → (slice_index marks k == 0) ≡ is_outside k writes

-- the bytes now, those of the last sync, and the marks are those that an area's events give
pub record Holds (s : Standing) (now base marks : List ℕ) : Type 0 where
  pub now_is : s.now ≡ now
  pub base_is : s.base ≡ base
  pub marked : Marks s.writes marks (length now)

-- so it is of each area
abbrev pub Tracks : Areas → List Event → Areas → Areas → Areas → Type 0
Tracks start events current base marks = (a : Area) → Holds (standing (trail_from start events) a) (bytes_in current a) (bytes_in base a) (bytes_in marks a)
