-- What a stop leaves of an append and of an opening, as laws over trails alone.
use Rattle.std.specs.Prelude.{◌≡◌, ◌≢◌, ◌≤◌, ◌⊎◌, ◌↔◌, ℕ, List, [], ◌∷◌, ◌++◌, length, take, slice_index}
use Rattle.satp_base.specs.declared.area.Area.{Area}
use Rattle.satp_base.specs.declared.area.Event.{Event}
use Rattle.satp_base.specs.declared.area.Event.TheVariants.{Synced}
use Rattle.satp_base.specs.Trail.{Trail, IsImage, KeepsModel, extended, seen}
use Rattle.satp_base.specs.Format.{IsPayload, counted, records, EndsAt, Stands, Damage, StandsOpened, IsMendable, IsAtRest}
use Rattle.satp_base.specs.Segments.{IsCut, append_events, open_events}

-- every image stands for exactly one list, or has exactly one damage
abbrev pub OneReading : Type 0
OneReading =
    ((image : List ℕ) → ((payloads : List (List ℕ)) × Stands image payloads) ⊎ ((at : ℕ) × Damage image at))
    × ((image : List ℕ) (p q : List (List ℕ)) → Stands image p → Stands image q → p ≡ q)
    × ((image : List ℕ) (m n : ℕ) → Damage image m → Damage image n → m ≡ n)
    × ((image : List ℕ) (p : List (List ℕ)) (n : ℕ) → Stands image p → Damage image n → ⊥)

-- the disk as it reads is one of its images
abbrev pub ReadsAnImage : Type 0
ReadsAnImage = (t : Trail) (area : Area) → KeepsModel t → IsImage t area (seen t area)

-- each image of the area is these payloads and a gate that is 0
abbrev pub RestsAt : Trail → Area → List (List ℕ) → Type 0
RestsAt t area payloads = (image : List ℕ) → IsImage t area image → IsAtRest payloads image

-- ---- an append

-- after these payloads stands a gate, which may be any byte, and after that the new record whole and a gate that is 0
abbrev pub HasRecord : List (List ℕ) → List ℕ → List ℕ → Type 0
HasRecord payloads q image = (gate : ℕ) × (behind : List ℕ) × EndsAt payloads gate (counted q ++ 0 ∷ behind) image

-- an image of an append of q: the list at rest, or the list with the new record whole after its gate
abbrev pub IsInAppend : List (List ℕ) → List ℕ → List ℕ → Type 0
IsInAppend payloads q image = IsAtRest payloads image ⊎ HasRecord payloads q image

abbrev pub AllInAppend : Trail → Area → List (List ℕ) → List ℕ → Type 0
AllInAppend t area payloads q = (image : List ℕ) → IsImage t area image → IsInAppend payloads q image

-- the byte at the gate of these payloads
abbrev pub gate_byte : List (List ℕ) → List ℕ → ℕ
gate_byte payloads image = slice_index image (length (records payloads))

-- The byte at the gate decides which of the two lists an image of an append stands for, and an opening may mend the image.
pub record GateDecides (payloads : List (List ℕ)) (q image : List ℕ) : Type 0 where
  pub longer : Stands image (payloads ++ q ∷ []) ↔ (gate_byte payloads image ≡ 1)
  pub before : Stands image payloads ↔ (gate_byte payloads image ≢ 1)
  pub mends : IsMendable image

abbrev pub InAppendReads : Type 0
InAppendReads = (payloads : List (List ℕ)) (q image : List ℕ) → IsPayload q → IsInAppend payloads q image → GateDecides payloads q image

-- At each cut of an append, that is at each of its events and after a failed one, each image is one of the append.
abbrev pub AppendLeaves : Type 0
AppendLeaves =
    (t : Trail) (area : Area) (payloads : List (List ℕ)) (q : List ℕ) (events : List Event) → IsPayload q → RestsAt t area payloads → IsCut (append_events area (length (records payloads)) q) events
    → KeepsModel (extended t events) → AllInAppend (extended t events) area payloads q

-- Until the third of its events, the write of the gate, the byte at the gate is 0, and after the fourth, the sync, it is 1.
pub record GateFollows (payloads : List (List ℕ)) (whole events : List Event) (image : List ℕ) : Type 0 where
  pub before : IsCut (take 2 whole) events → gate_byte payloads image ≡ 0
  pub after : (more : List Event) → events ≡ whole ++ more → gate_byte payloads image ≡ 1

-- at each cut of an append
abbrev pub AppendDecides : Type 0
AppendDecides =
    (t : Trail) (area : Area) (payloads : List (List ℕ)) (q : List ℕ) (events : List Event) → IsPayload q → RestsAt t area payloads → IsCut (append_events area (length (records payloads)) q) events
    → KeepsModel (extended t events) → (image : List ℕ) → IsImage (extended t events) area image
    → GateDecides payloads q image × GateFollows payloads (append_events area (length (records payloads)) q) events image

-- after the whole append each image is the longer list at rest
abbrev pub AppendEnds : Type 0
AppendEnds =
    (t : Trail) (area : Area) (payloads : List (List ℕ)) (q : List ℕ) → IsPayload q → RestsAt t area payloads → KeepsModel t
    → RestsAt (extended t (append_events area (length (records payloads)) q)) area (payloads ++ q ∷ [])

-- the prefix of a cut is a cut
abbrev pub CutPrefixes : Type 0
CutPrefixes = (whole events : List Event) → IsCut whole events → (n : ℕ) → IsCut whole (take n events)

-- ---- an opening

-- until its first sync succeeds an opening leaves the images of before it
abbrev pub OpenBegins : Type 0
OpenBegins =
    (t : Trail) (area : Area) (events : List Event) → IsCut (Synced area ∷ []) events → KeepsModel (extended t events)
    → (image : List ℕ) → IsImage (extended t events) area image → IsImage t area image

-- From its first sync on an opening has come to these events, where what it reads stands for these payloads.
pub record IsOpening (t : Trail) (area : Area) (payloads : List (List ℕ)) (events : List Event) : Type 0 where
  pub reads : Stands (seen t area) payloads
  pub cut : IsCut (open_events area (seen t area) (length (records payloads))) (Synced area ∷ events)
  pub keeps : KeepsModel (extended t (Synced area ∷ events))

-- the image stands for the list that was read, or for the one that what was read stands for with 1 in place of its closed gate
abbrev pub IsInMend : List ℕ → List (List ℕ) → List ℕ → Type 0
IsInMend read payloads image = Stands image payloads ⊎ ((longer : List (List ℕ)) × StandsOpened read longer × Stands image longer)

-- Where what was read may be mended, each image is one of a mend.
abbrev pub OpenLeaves : Type 0
OpenLeaves =
    (t : Trail) (area : Area) (payloads : List (List ℕ)) (events : List Event) → IsOpening t area payloads events → IsMendable (seen t area)
    → (image : List ℕ) → IsImage (extended t (Synced area ∷ events)) area image → IsInMend (seen t area) payloads image

-- Where what was read is an image of an append, each image is one of that append.
abbrev pub OpenKeeps : Type 0
OpenKeeps =
    (t : Trail) (area : Area) (list payloads : List (List ℕ)) (q : List ℕ) (events : List Event) → IsOpening t area list events → IsPayload q → IsInAppend payloads q (seen t area)
    → AllInAppend (extended t (Synced area ∷ events)) area payloads q

-- Where what was read has at most one byte, each image has at most one.
abbrev pub OpenStaysShort : Type 0
OpenStaysShort =
    (t : Trail) (area : Area) (payloads : List (List ℕ)) (events : List Event) → IsOpening t area payloads events → length (seen t area) ≤ 1
    → (image : List ℕ) → IsImage (extended t (Synced area ∷ events)) area image → length image ≤ 1

-- after the whole opening, whatever was read, each image is the list at rest
abbrev pub OpenEnds : Type 0
OpenEnds =
    (t : Trail) (area : Area) (payloads : List (List ℕ)) → Stands (seen t area) payloads
    → RestsAt (extended t (open_events area (seen t area) (length (records payloads)))) area payloads

-- ---- an opening after a stop

-- the list before an append, or the longer one
abbrev pub IsEither : List (List ℕ) → List ℕ → List (List ℕ) → Type 0
IsEither payloads q list = (list ≡ payloads) ⊎ (list ≡ payloads ++ q ∷ [])

-- Where each image is one of an append, each stands for one of its two lists, and an opening reads one of them.
abbrev pub ReopenReads : Type 0
ReopenReads =
    (t : Trail) (area : Area) (payloads : List (List ℕ)) (q : List ℕ) → IsPayload q → AllInAppend t area payloads q → KeepsModel t
    → (list : List (List ℕ)) × Stands (seen t area) list × IsEither payloads q list

-- At each cut of that opening each image is again one of the append: so an opening that follows a stopped or failed one begins as this one did.
abbrev pub ReopenLeaves : Type 0
ReopenLeaves =
    (t : Trail) (area : Area) (payloads list : List (List ℕ)) (q : List ℕ) (events : List Event) → IsPayload q → AllInAppend t area payloads q → Stands (seen t area) list
    → IsCut (open_events area (seen t area) (length (records list))) events → KeepsModel (extended t events) → AllInAppend (extended t events) area payloads q

-- After the whole of it each image is the list at rest that was read, which is one of the two.
abbrev pub ReopenEnds : Type 0
ReopenEnds =
    (t : Trail) (area : Area) (payloads list : List (List ℕ)) (q : List ℕ) → IsPayload q → AllInAppend t area payloads q → KeepsModel t → Stands (seen t area) list
    → IsEither payloads q list × RestsAt (extended t (open_events area (seen t area) (length (records list)))) area list

-- where each image is a list at rest, at each cut of an opening each is still that list at rest
abbrev pub ReopenRests : Type 0
ReopenRests =
    (t : Trail) (area : Area) (payloads list : List (List ℕ)) (events : List Event) → RestsAt t area payloads → Stands (seen t area) list
    → IsCut (open_events area (seen t area) (length (records list))) events → KeepsModel (extended t events) → (list ≡ payloads) × RestsAt (extended t events) area payloads

-- A trail that begins with what a stop left of another has no image that this one hadn't.
abbrev pub RestartLeaves : Type 0
RestartLeaves =
    (t u : Trail) (area : Area) → IsImage t area (u.start area) → u.events ≡ []
    → (image : List ℕ) → IsImage u area image → IsImage t area image
