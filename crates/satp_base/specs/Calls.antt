-- What a device tells, and what a call adds to it.
use Rattle.std.specs.Prelude.{◌≡◌, ◌⊎◌, ℕ, ◌+◌, ◌-◌, ◌^◌, min, max, Bool, true, false, List, [], ◌∷◌, ◌++◌, length, take, drop, map, slice_get, Option, Some, None, option_map}
use Rattle.satp_base.specs.declared.area.Area.{Area}
use Rattle.satp_base.specs.declared.area.Event.{Event}
use Rattle.satp_base.specs.declared.area.Event.TheVariants.{Left}
use Rattle.satp_base.specs.declared.ledger.LedgerCall.{LedgerCall}
use Rattle.satp_base.specs.Trail.{Trail, changed_area, extended}

-- a directory that was asked for: how many calls came before, and whether it was entered
pub record Entering : Type 0 where
  pub dir : List ℕ
  pub before : ℕ
  pub succeeded : Bool

-- a call on the ledger: how many calls came before, and whether it succeeded
pub record Ask : Type 0 where
  pub call : LedgerCall
  pub before : ℕ
  pub succeeded : Bool

-- the trail, the directories that were asked for, the number of all calls, that of the last one that failed, and the calls on the ledger
pub record Told : Type 0 where
  pub trail : Trail
  pub dirs : List Entering
  pub calls : ℕ
  pub last_failed : Option ℕ
  pub asks : List Ask

-- a count after so many more, which stands still at the end of its type
abbrev pub risen : ℕ → ℕ → ℕ
risen count more = max count (min (count + more) (2 ^ 64 - 1))

-- after so many further calls that succeeded, which made these events
abbrev pub made : ℕ → List Event → Told → Told
made calls events t = record t { trail = extended t.trail events; calls = risen t.calls calls }

-- after one further call that failed, which made these events
abbrev pub call_failed : List Event → Told → Told
call_failed events t = record t { trail = extended t.trail events; calls = risen t.calls 1; last_failed = Some (risen t.calls 1) }

-- after a call on the ledger that succeeded, or failed, which made these events
abbrev pub asked : LedgerCall → List Event → Told → Told
asked call events t = record (made 1 events t) { asks = t.asks ++ record { call = call; before = t.calls; succeeded = true } ∷ [] }

abbrev pub ask_failed : LedgerCall → List Event → Told → Told
ask_failed call events t = record (call_failed events t) { asks = t.asks ++ record { call = call; before = t.calls; succeeded = false } ∷ [] }

-- after a directory was entered, or was asked for in vain
abbrev pub entered : List ℕ → Told → Told
entered dir t = record (made 1 [] t) { dirs = t.dirs ++ record { dir = dir; before = t.calls; succeeded = true } ∷ [] }

abbrev pub enter_failed : List ℕ → Told → Told
enter_failed dir t = record (call_failed [] t) { dirs = t.dirs ++ record { dir = dir; before = t.calls; succeeded = false } ∷ [] }

-- A failed call is told by name, or it is only counted where no memory was found to note it.
abbrev pub MayMiss : (Told → Told) → List Event → Option Told → Option Told → Type 0
MayMiss call events old new = (new ≡ option_map call old) ⊎ (new ≡ option_map (call_failed events) old)

-- the events of a failed write, cut or sync: its event or none, and where its area then reads otherwise all that this reads
abbrev pub IsFailure : Event → List Event → Type 0
IsFailure event events =
    (events ≡ []) ⊎ (events ≡ event ∷ [])
    ⊎ ((area : Area) × (bytes : List ℕ) × (changed_area event ≡ Some area) × (events ≡ event ∷ Left area bytes ∷ []))

-- what a failed write, cut or sync does to what is told
abbrev pub Fails : Event → Option Told → Option Told → Type 0
Fails event old new = (events : List Event) × IsFailure event events × (new ≡ option_map (call_failed events) old)

-- ---- lists of calls

-- Calls are listed by their events. A call without an event, such as a look at the length or a read, is None.
-- One call for each of these events.
abbrev pub calls_of : List Event → List (Option Event)
calls_of events = map Some events

-- the events of these calls
abbrev pub events_in : List (Option Event) → List Event
events_in [] = []
events_in (None ∷ calls) = events_in calls
events_in (Some event ∷ calls) = event ∷ events_in calls

-- all of these calls succeeded
abbrev pub Makes : List (Option Event) → Option Told → Option Told → Type 0
Makes calls old new = new ≡ option_map (made (length calls) (events_in calls)) old

-- this call failed; one without an event is counted alone
abbrev pub FailsAt : Option Event → Option Told → Option Told → Type 0
FailsAt None old new = new ≡ option_map (call_failed []) old
FailsAt (Some event) old new = Fails event old new

-- Of these calls the first n succeeded, and the next one failed.
abbrev pub FailsAmong : List (Option Event) → Option Told → Option Told → Type 0
FailsAmong calls old new =
    (n : ℕ) × (call : Option Event) × (slice_get calls n ≡ Some call)
    × FailsAt call (option_map (made (length (take n calls)) (events_in (take n calls))) old) new

-- the front of the buffer holds the area's bytes from a place on, and fewer than it has room for only where the area ends
pub record Reads (area_bytes : List ℕ) (at : ℕ) (into : List ℕ) (count : ℕ) : Type 0 where
  pub count_is : count ≡ min (length into) (length area_bytes - at)
  pub bytes : take count into ≡ take count (drop at area_bytes)
