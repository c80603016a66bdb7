-- What an opening answers, and what a stop leaves of it.
use Rattle.std.specs.Prelude.{◌≡◌, ◌≤◌, ◌⊎◌, ℕ, false, List, [], ◌∷◌, ◌++◌, length, take, Option, Some, None, IfSome, Result, Ok, Err}
use Rattle.satp_base.specs.declared.area.Area.{Area}
use Rattle.satp_base.specs.declared.area.Event.{Event}
use Rattle.satp_base.specs.declared.area.Event.TheVariants.{Synced}
use Rattle.satp_base.specs.Calls.{Told, Makes, FailsAmong, calls_of}
use Rattle.satp_base.specs.Format.{IsPayload, Stands, Damage, IsMendable}
use Rattle.satp_base.specs.Laws.{AllInAppend, IsInAppend, IsInMend, RestsAt}
use Rattle.satp_base.specs.Segments.{IsCut, mend_events}
use Rattle.satp_base.specs.Trail.{Trail, IsImage, seen}
use Rattle.satp_journal.specs.Appending.{AtEach}
use Rattle.satp_journal.specs.State.{Held, JournalState, gate_of}
use Rattle.satp_journal.specs.declared.fault.JournalFault.{JournalFault}
use Rattle.satp_journal.specs.declared.fault.JournalFault.TheVariants.{Disk, Damaged, Memory, Broken}

-- where the disk tells, these are the bytes that a read gives
abbrev pub IsRead : Area → Option Told → List ℕ → Type 0
IsRead area told image = IfSome told (λ t. image ≡ seen t.trail area)

-- the calls of a read: a sync, and then a look at the length and a read, which have no event
abbrev pub read_calls : Area → List (Option Event)
read_calls area = Some (Synced area) ∷ None ∷ None ∷ []

-- where the gate is to be written, a write and a sync
abbrev pub mend_calls : Area → List ℕ → ℕ → List (Option Event)
mend_calls area image gate = calls_of (mend_events area image gate)

abbrev pub open_calls : Area → List ℕ → ℕ → List (Option Event)
open_calls area image gate = read_calls area ++ mend_calls area image gate

-- what an opening found: the bytes that were read stand for its list
abbrev pub Finds : Area → Option Told → Held → List ℕ → Type 0
Finds area told held image = IsRead area told image × Stands image held.payloads × (held.area ≡ area) × (held.broken ≡ false)

-- the bytes were read, and one of the calls of that opening failed
abbrev pub FailsToMend : Area → Option Told → Option Told → Type 0
FailsToMend area old new = (image : List ℕ) × (held : Held) × Finds area old held image × FailsAmong (open_calls area image (gate_of held)) old new

-- what the sync and the read may fail with
abbrev pub ReadFails : Area → Option Told → Option Told → JournalFault → Type 0
ReadFails area old new Disk = FailsAmong (read_calls area) old new
ReadFails area old new Memory = Makes (take 2 (read_calls area)) old new
ReadFails area old new (Damaged at) = ⊥
ReadFails area old new Broken = ⊥

-- Damaged leaves the area as it is. Disk: the sync, the look at the length, the read or a call of the mend failed.
-- Memory: it wasn't found for the bytes, before the read, or for their list, after it.
abbrev pub OpenAnswers : Area → Option Told → Option Told → Result JournalState JournalFault → Type 0
OpenAnswers area old new (Ok journal) = (image : List ℕ) × Finds area old journal.held image × Makes (open_calls area image (gate_of journal.held)) old new
OpenAnswers area old new (Err Disk) = FailsAmong (read_calls area) old new ⊎ FailsToMend area old new
OpenAnswers area old new (Err (Damaged at)) = (image : List ℕ) × IsRead area old image × Damage image at × Makes (read_calls area) old new
OpenAnswers area old new (Err Memory) = Makes (take 2 (read_calls area)) old new ⊎ Makes (read_calls area) old new
OpenAnswers area old new (Err Broken) = ⊥

-- At an event of an opening. Until the first sync has succeeded, an image of before. From then on, by what was read: where it may be mended, an image that
-- stands for its list, or for the list that it stands for with 1 in place of its closed gate; where it is an image of an append, again one of that append;
-- where it has at most one byte, again so few. And where each image of before is one of an append, as a stopped append leaves them and a stopped opening,
-- each is again one of it: it stands for the list before the append or for the longer one.
pub record IsInOpening (t : Trail) (area : Area) (events : List Event) (image : List ℕ) : Type 0 where
  pub before : IsCut (Synced area ∷ []) events → IsImage t area image
  pub mended : (rest : List Event) (payloads : List (List ℕ)) → events ≡ Synced area ∷ rest → Stands (seen t area) payloads → IsMendable (seen t area) → IsInMend (seen t area) payloads image
  pub appended : (rest : List Event) (payloads : List (List ℕ)) (q : List ℕ) → events ≡ Synced area ∷ rest → IsPayload q → IsInAppend payloads q (seen t area) → IsInAppend payloads q image
  pub short : (rest : List Event) → events ≡ Synced area ∷ rest → length (seen t area) ≤ 1 → length image ≤ 1
  pub again : (payloads : List (List ℕ)) (q : List ℕ) → IsPayload q → AllInAppend t area payloads q → IsInAppend payloads q image

abbrev pub OpenStops : Area → Option Told → Option Told → Type 0
OpenStops area old new = IfSome old (λ t. IfSome new (λ u. AtEach area t.trail u.trail (IsInOpening t.trail area)))

-- each image of the area is the list at rest
abbrev pub Rests : Option Told → Held → Type 0
Rests told held = IfSome told (λ t. RestsAt t.trail held.area held.payloads)
