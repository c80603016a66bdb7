-- The events of an append and of an opening, and the cuts that a failure or a stop leaves of such lists.
use Rattle.std.specs.Prelude.{◌≡◌, ◌⊎◌, ◌||◌, ◌==◌, not, Bool, if◌then◌else◌, ℕ, ◌+◌, List, [], ◌∷◌, ◌++◌, length, take, slice_index, Option, Some, None}
use Rattle.satp_base.specs.declared.area.Area.{Area}
use Rattle.satp_base.specs.declared.area.Event.{Event}
use Rattle.satp_base.specs.declared.area.Event.TheVariants.{Wrote, Synced, Left}
use Rattle.satp_base.specs.Format.{counted}
use Rattle.satp_base.specs.Trail.{changed_area}

-- a frame is written after the closed gate and synced, and then the gate is opened and synced
abbrev pub frame_events : Area → ℕ → List ℕ → List Event
frame_events area gate frame = Wrote area (gate + 1) frame ∷ Synced area ∷ Wrote area gate (1 ∷ []) ∷ Synced area ∷ []

-- the four events of an append of a payload at a gate
abbrev pub append_events : Area → ℕ → List ℕ → List Event
append_events area gate q = frame_events area gate (counted q ++ 0 ∷ [])

-- a closed gate is written and synced
abbrev pub shut_events : Area → ℕ → List Event
shut_events area gate = Wrote area gate (0 ∷ []) ∷ Synced area ∷ []

-- the area is empty, or the gate at this place isn't 0
abbrev pub wants_gate : List ℕ → ℕ → Bool
wants_gate image gate = (length image == 0) || not (slice_index image gate == 0)

abbrev pub mend_events : Area → List ℕ → ℕ → List Event
mend_events area image gate = if wants_gate image gate then shut_events area gate else []

-- the events of an opening of an image whose list ends at this gate
abbrev pub open_events : Area → List ℕ → ℕ → List Event
open_events area image gate = Synced area ∷ mend_events area image gate

-- the area of the last of the events, where that is a write, a cut or a sync
abbrev pub last_area : List Event → Option Area
last_area [] = None
last_area (e ∷ []) = changed_area e
last_area (e ∷ f ∷ es) = last_area (f ∷ es)

-- A prefix of these events. Right after its last event, where that is a write, a cut or a sync, a `Left` of the same area may stand.
abbrev pub IsCut : List Event → List Event → Type 0
IsCut whole events = (n : ℕ) × ((events ≡ take n whole) ⊎ ((area : Area) × (bytes : List ℕ) × (last_area (take n whole) ≡ Some area) × (events ≡ take n whole ++ Left area bytes ∷ [])))
