-- What happened to the areas of a site, and what a stop may leave of each.
use Rattle.std.specs.Prelude.{◌≡◌, ◌<◌, ◌≤◌, ◌⊎◌, ℕ, ◌+◌, min, max, Bool, true, false, List, [], ◌∷◌, ◌++◌, length, take, drop, slice_index, if◌then◌else◌, Option, Some, None}
use Rattle.std.specs.List.{fold}
use Rattle.satp_base.specs.Ledgers.{Entries}
use Rattle.satp_base.specs.declared.area.Area.{Area}
use Rattle.satp_base.specs.declared.area.Area.TheVariants.{JournalA, JournalB, Ledger}
use Rattle.satp_base.specs.declared.area.Event.{Event}
use Rattle.satp_base.specs.declared.area.Event.TheVariants.{Wrote, Cut, Synced, Left, Founded, Acted}

-- the bytes of each area and the entries of the ledger at the start, and the events since, the first of them first
pub record Trail : Type 0 where
  pub start : Area → List ℕ
  pub entries : Entries
  pub events : List Event

abbrev pub same_area : Area → Area → Bool
same_area JournalA JournalA = true
same_area JournalB JournalB = true
same_area Ledger Ledger = true
same_area _ _ = false

-- the area that a write, a cut or a sync is of
abbrev pub changed_area : Event → Option Area
changed_area (Wrote a at bytes) = Some a
changed_area (Cut a n) = Some a
changed_area (Synced a) = Some a
changed_area (Left a bytes) = None
changed_area Founded = None
changed_area (Acted op session terms) = None

-- How an area stands: its bytes at the last sync, its bytes now, and since that sync the least and the greatest
-- length that it had and the ranges that were written (place and number of bytes).
pub record Standing : Type 0 where
  pub base : List ℕ
  pub now : List ℕ
  pub least : ℕ
  pub greatest : ℕ
  pub writes : List (ℕ × ℕ)

-- all of these bytes are on the disk
abbrev pub settled : List ℕ → Standing
settled bytes = record { base = bytes; now = bytes; least = length bytes; greatest = length bytes; writes = [] }

-- other bytes take the place of the present ones, before any sync
abbrev pub changed : Standing → List ℕ → List (ℕ × ℕ) → Standing
changed s now writes = record { base = s.base; now = now; least = min s.least (length now); greatest = max s.greatest (length now); writes = writes ++ s.writes }

-- these bytes laid over those from a place on
abbrev pub overlaid : List ℕ → ℕ → List ℕ → List ℕ
overlaid old at bytes = take at old ++ bytes ++ drop (at + length bytes) old

abbrev pub wrote : Standing → ℕ → List ℕ → Standing
wrote s at bytes = changed s (overlaid s.now at bytes) ((at, length bytes) ∷ [])

abbrev pub next : Area → Standing → Event → Standing
next area s (Wrote a at bytes) = if same_area a area then wrote s at bytes else s
next area s (Cut a n) = if same_area a area then changed s (take n s.now) [] else s
next area s (Synced a) = if same_area a area then settled s.now else s
next area s (Left a bytes) = if same_area a area then changed s bytes [] else s
next area s Founded = s
next area s (Acted op session terms) = s

abbrev pub standing : Trail → Area → Standing
standing t area = fold (next area) (settled (t.start area)) t.events

-- what a read gives
abbrev pub seen : Trail → Area → List ℕ
seen t area = (standing t area).now

-- the place is in none of these ranges
abbrev pub IsOutside : ℕ → List (ℕ × ℕ) → Type 0
IsOutside k [] = Unit {0}
IsOutside k (w ∷ ws) = ((k < w.0) ⊎ (w.0 + w.1 ≤ k)) × IsOutside k ws

-- What a stop may leave: some length that the area has had since its last sync. Each place below the least such
-- length that was not written since holds its byte of that sync. All other bytes are free.
pub record Leaves (s : Standing) (image : List ℕ) : Type 0 where
  pub no_shorter : s.least ≤ length image
  pub no_longer : length image ≤ s.greatest
  pub kept : (k : ℕ) → k < s.least → IsOutside k s.writes → slice_index image k ≡ slice_index s.base k

abbrev pub IsImage : Trail → Area → List ℕ → Type 0
IsImage t area image = Leaves (standing t area) image

-- the trail with further events
abbrev pub extended : Trail → List Event → Trail
extended t events = record t { events = t.events ++ events }

-- what a failed call left is what a stop could have left
abbrev pub IsFit : Area → Standing → Event → Type 0
IsFit area s (Left a bytes) = same_area a area ≡ true → Leaves s bytes
IsFit area s (Wrote a at bytes) = Unit {0}
IsFit area s (Cut a n) = Unit {0}
IsFit area s (Synced a) = Unit {0}
IsFit area s Founded = Unit {0}
IsFit area s (Acted op session terms) = Unit {0}

abbrev pub KeepsFrom : Area → Standing → List Event → Type 0
KeepsFrom area s [] = Unit {0}
KeepsFrom area s (e ∷ es) = IsFit area s e × KeepsFrom area (next area s e) es

-- the disk model: each `Left` is what a stop could have left there
abbrev pub KeepsModel : Trail → Type 0
KeepsModel t = (area : Area) → KeepsFrom area (settled (t.start area)) t.events
