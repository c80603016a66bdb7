-- What a founding of a kept ledger does to the disk, and what a stop leaves of it.
use Rattle.std.specs.Prelude.{◌≡◌, ◌⊎◌, ℕ, List, [], ◌∷◌, ◌++◌, length, take, Option, None, Some, IfSome}
use Rattle.satp_base.specs.declared.amount.Amount.{Amount}
use Rattle.satp_base.specs.declared.area.Area.TheVariants.{Ledger}
use Rattle.satp_base.specs.declared.area.Event.{Event}
use Rattle.satp_base.specs.declared.area.Event.TheVariants.{Cut, Synced, Wrote}
use Rattle.satp_base.specs.declared.name.Name.{Name}
use Rattle.satp_base.specs.Calls.{Told, FailsAmong, Makes, calls_of, events_in}
use Rattle.satp_base.specs.Format.{Stands, Damage, IsAtRest, records}
use Rattle.satp_base.specs.Laws.{IsInAppend}
use Rattle.satp_base.specs.Segments.{IsCut, append_events, open_events}
use Rattle.satp_base.specs.Trail.{Trail, IsImage, extended}
use Rattle.satp_journal.specs.Appending.{AtEach}
use Rattle.satp_records.specs.Formats.{payload_of}
use Rattle.satp_records.specs.declared.stored.Stored.TheVariants as stored
use Rattle.satp_keeper.specs.declared.fault.KeeperFault.{KeeperFault}
use Rattle.satp_keeper.specs.declared.fault.KeeperFault.TheVariants.{OutOfOrder, Empty, Damaged, Record, Disk, Broken, Memory}

-- ---- the calls

-- payloads are appended one after the other, after those before
abbrev pub stored_events : List (List ℕ) → List (List ℕ) → List Event
stored_events before [] = []
stored_events before (q ∷ qs) = append_events Ledger (length (records before)) q ++ stored_events (before ++ q ∷ []) qs

-- Calls are listed by their events. The area is cut to nothing. Then a journal is opened there: a sync, a look at the length and a read, which have no event, and a closed gate with its sync.
abbrev pub clear_calls : List (Option Event)
clear_calls = Some (Cut Ledger 0) ∷ Some (Synced Ledger) ∷ None ∷ None ∷ Some (Wrote Ledger 0 (0 ∷ [])) ∷ Some (Synced Ledger) ∷ []

-- one call for each event of the appends
abbrev pub stored_calls : List (List ℕ) → List (Option Event)
stored_calls whole = calls_of (stored_events [] whole)

-- all calls of a founding
abbrev pub found_calls : List (List ℕ) → List (Option Event)
found_calls whole = clear_calls ++ stored_calls whole

-- ---- the answers

-- Why a ledger isn't founded, and which calls were made. Disk: some succeeded, and the next one failed.
-- Memory: none was found for the ledger or its payloads, and no call was made; or the opening after the cut found none, and the area is empty. That opening finds memory
-- for the bytes, after the cut, its sync and its look at the length; and for their list with the room for the payloads, after its read and before its first write.
-- Damaged: after the cut and the calls of a read, bytes that stand for no list were read, and the disk tells nothing.
abbrev pub UnfoundedBy : List (List ℕ) → Option Told → Option Told → KeeperFault → Type 0
UnfoundedBy whole old new Disk = FailsAmong (found_calls whole) old new
UnfoundedBy whole old new Memory = (new ≡ old) ⊎ Makes (take 3 clear_calls) old new ⊎ Makes (take 4 clear_calls) old new
UnfoundedBy whole old new (Damaged at) = (old ≡ None) × ((image : List ℕ) × Damage image at) × Makes (take 4 clear_calls) old new
UnfoundedBy whole old new (OutOfOrder entry) = ⊥
UnfoundedBy whole old new Empty = ⊥
UnfoundedBy whole old new (Record index) = ⊥
UnfoundedBy whole old new Broken = ⊥

-- ---- what a stop leaves

-- all events of a founding
abbrev pub found_events : List (List ℕ) → List Event
found_events whole = events_in (found_calls whole)

-- At an event of a founding, where what has happened is a cut of its events. Until the area's cut: an image of before. Until the sync after it: what the cut leaves of one.
-- From that sync on a prefix of the list: none, until the opening is whole; while a payload is appended, an image of that append; between two appends those so far, at rest.
pub record IsInFounding (whole : List (List ℕ)) (t : Trail) (events : List Event) (image : List ℕ) : Type 0 where
  pub among : IsCut (found_events whole) events
  pub before : events ≡ [] → IsImage t Ledger image
  pub cut : IsCut (Cut Ledger 0 ∷ []) events → IsImage (extended t (Cut Ledger 0 ∷ [])) Ledger image
  pub prefix : (more : List Event) → events ≡ Cut Ledger 0 ∷ Synced Ledger ∷ more → (n : ℕ) × Stands image (take n whole)
  pub opening : (more : List Event) → events ≡ Cut Ledger 0 ∷ Synced Ledger ∷ more → IsCut (open_events Ledger [] 0) (Synced Ledger ∷ more) → Stands image []
  pub storing : (done : List (List ℕ)) (q : List ℕ) (rest : List (List ℕ)) (more : List Event) → whole ≡ done ++ q ∷ rest → events ≡ found_events done ++ more
      → IsCut (append_events Ledger (length (records done)) q) more → IsInAppend done q image
  pub between : (done rest : List (List ℕ)) → whole ≡ done ++ rest → events ≡ found_events done → IsAtRest done image

-- at each event of the founding
abbrev pub FoundStops : List (List ℕ) → Option Told → Option Told → Type 0
FoundStops whole old new = IfSome old (λ t. IfSome new (λ u. AtEach Ledger t.trail u.trail (IsInFounding whole t.trail)))

-- ---- the list

-- the payload of what stands at one place of a genesis, or nothing past the last
abbrev pub asset_payloads : Option (Name × Amount) → List (List ℕ)
asset_payloads None = []
asset_payloads (Some a) = payload_of (stored.Asset a.0 a.1.number) ∷ []

abbrev pub hold_payloads : Option (Name × Name × Amount) → List (List ℕ)
hold_payloads None = []
hold_payloads (Some h) = payload_of (stored.Hold h.0 h.1 h.2) ∷ []
