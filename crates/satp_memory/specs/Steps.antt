-- What a call on a disk in memory does to it, when it fails, and what a restart leaves.
use Rattle.std.specs.Prelude.{◌≡◌, ◌≤◌, ◌<◌, ◌⊎◌, ℕ, ◌%◌, Bool, true, false, ◌||◌, not, List, [], ◌∷◌, ◌++◌, length, slice_index, None, Result, Ok, Err}
use Rattle.std.specs.FinMap as map
use Rattle.satp_base.specs.declared.area.Area.{Area}
use Rattle.satp_base.specs.declared.area.Event.{Event}
use Rattle.satp_base.specs.declared.area.Event.TheVariants.{Acted, Founded}
use Rattle.satp_base.specs.LedgerAt.{ledger_at}
use Rattle.satp_base.specs.Ledgers.{Entries}
use Rattle.satp_base.specs.declared.ledger.LedgerCall.{LedgerCall}
use Rattle.satp_base.specs.Streams.{Rose}
use Rattle.satp_base.specs.Trail.{IsImage, IsOutside, Standing, Trail, extended, standing}
use Rattle.satp_memory.specs.declared.disk.MemDisk.{MemDisk}
use Rattle.satp_memory.specs.Areas.{bytes_in}
use Rattle.satp_memory.specs.Disk.{trail_from}
use Rattle.satp_base.specs.Calls.{Ask, Entering, Told, risen}
use Rattle.satp_memory.specs.Calling.{begun, failed, is_due, is_refused, succeeded, wanting}
use Rattle.satp_memory.specs.Stopping.{is_reached, pick_of}

-- the entries that the ledger had when the trail began: those of the events before
abbrev pub entries_before : MemDisk → Entries
entries_before disk = ledger_at map.empty disk.past.items

abbrev pub trail_of : MemDisk → Trail
trail_of disk = record (trail_from disk.start disk.events.items) { entries = entries_before disk }

-- all that a disk tells
abbrev pub told_of : MemDisk → Told
told_of disk = record { trail = trail_of disk; dirs = disk.dirs.items; calls = disk.calls.count; last_failed = disk.calls.last_failed; asks = disk.asks.items }

-- one call more, which neither failed nor did anything yet
abbrev pub counted : Told → Told
counted t = record t { calls = risen t.calls 1 }

-- what is noted of a directory that was asked for, and of a call on the ledger
abbrev pub entering : List ℕ → MemDisk → Bool → Entering
entering dir old succeeded = record { dir = dir; before = old.calls.count; succeeded = succeeded }

abbrev pub asking : LedgerCall → MemDisk → Bool → Ask
asking call old succeeded = record { call = call; before = old.calls.count; succeeded = succeeded }

-- with further events, and no further call
abbrev pub adding : List Event → Told → Told
adding events t = record t { trail = extended t.trail events }

-- with the note of a call on the ledger
abbrev pub noting : Ask → Told → Told
noting ask t = record t { asks = t.asks ++ ask ∷ [] }

-- the entries now
abbrev pub entries_of : MemDisk → Entries
entries_of disk = ledger_at (entries_before disk) disk.events.items

abbrev pub is_stopped : MemDisk → Bool
is_stopped disk = is_reached disk.stop (length disk.events.items)

-- all is as before, but for the counts of calls
pub record SameDisk (old new : MemDisk) : Type 0 where
  pub start : new.start ≡ old.start
  pub past : new.past.items ≡ old.past.items
  pub events : new.events.items ≡ old.events.items
  pub current : (a : Area) → bytes_in new.current a ≡ bytes_in old.current a
  pub dirs : new.dirs.items ≡ old.dirs.items
  pub asks : new.asks.items ≡ old.asks.items
  pub stop : new.stop ≡ old.stop

-- one event more, and no call counted
pub record Does (event : Event) (old new : MemDisk) : Type 0 where
  pub start : new.start ≡ old.start
  pub past : new.past.items ≡ old.past.items
  pub events : new.events.items ≡ old.events.items ++ event ∷ []
  pub dirs : new.dirs.items ≡ old.dirs.items
  pub asks : new.asks.items ≡ old.asks.items
  pub stop : new.stop ≡ old.stop
  pub calls : new.calls ≡ old.calls

-- an event of the ledger, not of an area
abbrev pub IsOfLedger : Event → Type 0
IsOfLedger Founded = Unit {0}
IsOfLedger (Acted op session terms) = Unit {0}
IsOfLedger _ = ⊥

-- nothing has happened
pub record IsFresh (disk : MemDisk) : Type 0 where
  pub start : (a : Area) → bytes_in disk.start a ≡ []
  pub past : disk.past.items ≡ []
  pub events : disk.events.items ≡ []
  pub dirs : disk.dirs.items ≡ []
  pub asks : disk.asks.items ≡ []
  pub stop : disk.stop ≡ None

-- ---- when a call fails

-- A call that takes no memory fails exactly where it was named or the stop was reached.
abbrev pub Ends : {T E : Type 0} → MemDisk → MemDisk → Result T E → Type 0
Ends old new (Ok done) = (is_refused (is_stopped old) old.calls ≡ false) × (new.calls ≡ succeeded old.calls)
Ends old new (Err fault) = (is_refused (is_stopped old) old.calls ≡ true) × (new.calls ≡ failed old.calls)

-- One that takes memory may fail too where none was found. After a stop it never looks for any.
abbrev pub EndsOrWants : {T E : Type 0} → MemDisk → MemDisk → Result T E → Type 0
EndsOrWants old new (Ok done) = (is_refused (is_stopped old) old.calls ≡ false) × (new.calls ≡ succeeded old.calls)
EndsOrWants old new (Err fault) =
    ((is_refused (is_stopped old) old.calls ≡ true) × (new.calls ≡ failed old.calls))
    ⊎ ((is_stopped old ≡ false) × (new.calls ≡ wanting (begun false old.calls)))

-- One that notes a directory always looks for memory. It is noted, also by a call that fails, unless none was found, which is counted.
abbrev pub EntersOrWants : {T E : Type 0} → List ℕ → MemDisk → MemDisk → Result T E → Type 0
EntersOrWants dir old new (Ok done) =
    (is_refused (is_stopped old) old.calls ≡ false) × (new.calls ≡ succeeded old.calls) × (new.dirs.items ≡ old.dirs.items ++ entering dir old true ∷ [])
EntersOrWants dir old new (Err fault) =
    ((is_refused (is_stopped old) old.calls ≡ true) × (new.calls ≡ failed old.calls) × (new.dirs.items ≡ old.dirs.items ++ entering dir old false ∷ []))
    ⊎ (new.calls ≡ wanting (begun (is_stopped old) old.calls))

-- A call on the ledger is told by name, also one that fails, unless no memory was found, which is counted.
abbrev pub Notes : {T E : Type 0} → LedgerCall → MemDisk → MemDisk → Result T E → Type 0
Notes call old new (Ok done) = new.asks.items ≡ old.asks.items ++ asking call old true ∷ []
Notes call old new (Err fault) =
    (new.asks.items ≡ old.asks.items ++ asking call old false ∷ [])
    ⊎ (Rose old.calls.wants new.calls.wants × (new.asks.items ≡ old.asks.items))

-- A call on the ledger that fails before the ledger is asked: it was to fail or doesn't fit the ledger, and is noted; or no memory was found, and it isn't.
abbrev pub AskFails : LedgerCall → (fits : Bool) → MemDisk → MemDisk → Type 0
AskFails call fits old new =
    (((is_refused (is_stopped old) old.calls || not fits) ≡ true) × (new.calls ≡ failed old.calls) × (new.asks.items ≡ old.asks.items ++ asking call old false ∷ []))
    ⊎ (((new.calls ≡ wanting (succeeded old.calls)) ⊎ (new.calls ≡ wanting (failed old.calls))) × (new.asks.items ≡ old.asks.items))

-- the events that a call adds: one where it succeeds, none after a stop or where no memory was found, and else those of a named one
abbrev pub Adds : {T E : Type 0} → Event → List Event → MemDisk → MemDisk → Result T E → Type 0
Adds event named old new (Ok done) = new.events.items ≡ old.events.items ++ event ∷ []
Adds event named old new (Err fault) =
    ((is_stopped old ≡ true) × (new.events.items ≡ old.events.items))
    ⊎ ((is_stopped old ≡ false) × (new.calls ≡ wanting (begun false old.calls)) × (new.events.items ≡ old.events.items))
    ⊎ ((is_stopped old ≡ false) × (is_due old.calls ≡ true) × (new.events.items ≡ old.events.items ++ named))

-- ---- a restart

-- the bytes of now, with every byte that was written since the sync equal to a pick
pub record IsFilled (s : Standing) (pick : ℕ) (image : List ℕ) : Type 0 where
  pub long : length image ≡ length s.now
  pub kept : (k : ℕ) → IsOutside k s.writes → slice_index image k ≡ slice_index s.now k
  pub filled : (k : ℕ) → k < length image → (IsOutside k s.writes → ⊥) → slice_index image k ≡ pick

-- Pick 0 is the bytes of the last sync, pick 1 those of now, and any other pick fills what was written since.
pub record IsPicked (s : Standing) (pick : ℕ) (image : List ℕ) : Type 0 where
  pub old : pick ≡ 0 → image ≡ s.base
  pub new : pick ≡ 1 → image ≡ s.now
  pub filled : 2 ≤ pick → IsFilled s (pick % 256) image

-- the trail begins anew, with a picked image of each area, which is one that a stop may leave
pub record Restarts (old new : MemDisk) : Type 0 where
  pub events : new.events.items ≡ []
  pub picked : (a : Area) → IsPicked (standing (trail_of old) a) (pick_of old.stop) (bytes_in new.start a)
  pub images : (a : Area) → IsImage (trail_of old) a (bytes_in new.start a)
  pub entries : entries_before new ≡ entries_of old
  pub stop : new.stop ≡ None
  pub calls : new.calls ≡ old.calls
  pub dirs : new.dirs.items ≡ old.dirs.items
  pub asks : new.asks.items ≡ old.asks.items
