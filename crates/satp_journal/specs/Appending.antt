-- What an append answers, and what a stop leaves of it.
use Rattle.std.specs.Prelude.{◌≡◌, ℕ, true, false, List, [], ◌∷◌, ◌++◌, length, take, Option, IfSome, Result, Ok, Err}
use Rattle.satp_base.specs.declared.area.Area.{Area}
use Rattle.satp_base.specs.declared.area.Event.{Event}
use Rattle.satp_base.specs.Calls.{Told, Makes, FailsAmong, calls_of}
use Rattle.satp_base.specs.Format.{records}
use Rattle.satp_base.specs.Laws.{RestsAt, IsInAppend}
use Rattle.satp_base.specs.Segments.{append_events}
use Rattle.satp_base.specs.Trail.{Trail, extended, IsImage}
use Rattle.satp_journal.specs.State.{Held, gate_of}
use Rattle.satp_journal.specs.declared.fault.JournalFault.{JournalFault}
use Rattle.satp_journal.specs.declared.fault.JournalFault.TheVariants.{Disk, Damaged, Memory, Broken}

abbrev pub events_of : Held → List ℕ → List Event
events_of held q = append_events held.area (gate_of held) q

abbrev pub append_calls : Held → List ℕ → List (Option Event)
append_calls held q = calls_of (events_of held q)

-- Ok: the four calls were made, and the payload is the last. Disk: some of them succeeded, and the next one failed. Memory and Broken: no call was made.
abbrev pub AppendAnswers : List ℕ → Held → Held → Option Told → Option Told → Result (Unit {0}) JournalFault → Type 0
AppendAnswers q old new told_old told_new (Ok done) =
    (old.broken ≡ false) × (new ≡ record old { payloads = old.payloads ++ q ∷ [] }) × Makes (append_calls old q) told_old told_new
AppendAnswers q old new told_old told_new (Err Disk) =
    (old.broken ≡ false) × (new ≡ record old { broken = true }) × FailsAmong (append_calls old q) told_old told_new
AppendAnswers q old new told_old told_new (Err Memory) = (old.broken ≡ false) × (new ≡ old) × (told_new ≡ told_old)
AppendAnswers q old new told_old told_new (Err Broken) = (old.broken ≡ true) × (new ≡ old) × (told_new ≡ told_old)
AppendAnswers q old new told_old told_new (Err (Damaged at)) = ⊥

-- at each event that a call added, this holds of each image of the area
abbrev pub AtEach : Area → Trail → Trail → (List Event → List ℕ → Type 0) → Type 0
AtEach area old new P = (events : List Event) × (new ≡ extended old events) × ((n : ℕ) (image : List ℕ) → IsImage (extended old (take n events)) area image → P (take n events) image)

-- For every list whose records end at the gate: where each image was that list at rest, at each event of the append each image is one of the append.
abbrev pub AppendStops : List ℕ → Held → Option Told → Option Told → Type 0
AppendStops q held old new =
    (payloads : List (List ℕ)) → length (records payloads) ≡ gate_of held
    → IfSome old (λ t. RestsAt t.trail held.area payloads → IfSome new (λ u. AtEach held.area t.trail u.trail (λ events image. IsInAppend payloads q image)))

-- where each image was the first list at rest, each is now the second one at rest
abbrev pub RestsStill : Area → List (List ℕ) → List (List ℕ) → Option Told → Option Told → Type 0
RestsStill area before after old new = IfSome old (λ t. RestsAt t.trail area before → IfSome new (λ u. RestsAt u.trail area after))

-- for every list whose records end at the gate: where each image was that list at rest, each is now that list with the payload, at rest
abbrev pub AppendRests : List ℕ → Held → Option Told → Option Told → Type 0
AppendRests q held old new = (payloads : List (List ℕ)) → length (records payloads) ≡ gate_of held → RestsStill held.area payloads (payloads ++ q ∷ []) old new
