-- What a stop leaves of a list of appends and operations, as laws over trails alone. A payload is bytes here, and nothing more.
use Rattle.std.specs.Prelude.{◌≡◌, ◌≢◌, ◌⊎◌, ℕ, List, [], ◌∷◌, ◌++◌, length, take, Some}
use Rattle.satp_base.specs.declared.area.Area.{Area}
use Rattle.satp_base.specs.declared.area.Event.{Event}
use Rattle.satp_base.specs.declared.ledger.LedgerOp.{LedgerOp}
use Rattle.satp_base.specs.declared.ledger.LedgerCall.TheVariants.{Act}
use Rattle.satp_base.specs.declared.message.Terms.{Terms}
use Rattle.satp_base.specs.declared.session.SessionId.{SessionId}
use Rattle.satp_base.specs.Acts.{operation_events}
use Rattle.satp_base.specs.Trail.{Trail, IsImage, KeepsModel, extended, seen}
use Rattle.satp_base.specs.Calls.{Told, made, call_failed, asked, ask_failed, calls_of, FailsAmong}
use Rattle.satp_base.specs.Format.{records, IsPayload, Stands, IsAtRest}
use Rattle.satp_base.specs.Laws.{IsInAppend}
use Rattle.satp_base.specs.LedgerAt.{ledger_at}
use Rattle.satp_base.specs.LedgerRule.{operation}
use Rattle.satp_base.specs.Money.{Book}
use Rattle.satp_base.specs.Segments.{IsCut, append_events, open_events}

-- ---- steps

-- what a site keeps: the payloads of the journal in this area, and its ledger
pub record Kept : Type 0 where
  pub area : Area
  pub payloads : List (List ℕ)
  pub ledger : Book

-- one step of a site: a payload is stored, the ledger is asked for an operation, or nothing changes here
pub data Step : Type 0 where
  Stores : List ℕ → Step
  Operates : LedgerOp → SessionId → Terms → Step
  Says : Step

abbrev pub after_step : Kept → Step → Kept
after_step k (Stores q) = record k { payloads = k.payloads ++ q ∷ [] }
after_step k (Operates op session terms) = record k { ledger = (operation k.ledger op session terms).after }
after_step k Says = k

abbrev pub after_steps : Kept → List Step → Kept
after_steps k [] = k
after_steps k (m ∷ ms) = after_steps (after_step k m) ms

-- A stored payload has the four events of an append, an operation that changes an entry has its one event, and every other step has none.
abbrev pub step_events : Kept → Step → List Event
step_events k (Stores q) = append_events k.area (length (records k.payloads)) q
step_events k (Operates op session terms) = operation_events (operation k.ledger op session terms) op session terms
step_events k Says = []

-- the segments of the steps follow one another
abbrev pub segments : Kept → List Step → List Event
segments k [] = []
segments k (m ∷ ms) = step_events k m ++ segments (after_step k m) ms

-- the calls of a step: four for an append, one for an operation
abbrev pub told_step : Kept → Step → Told → Told
told_step k (Stores q) t = made 4 (step_events k (Stores q)) t
told_step k (Operates op session terms) t = asked (Act op session terms) (step_events k (Operates op session terms)) t
told_step k Says t = t

-- what a site tells after a list of steps
abbrev pub told_steps : Kept → List Step → Told → Told
told_steps k [] t = t
told_steps k (m ∷ ms) t = told_steps (after_step k m) ms (told_step k m t)

-- A step that fails: some calls of an append succeeded and the next one failed, or an operation took effect or didn't.
abbrev pub FailsIn : Kept → Step → Told → Told → Type 0
FailsIn k (Stores q) t new = FailsAmong (calls_of (step_events k (Stores q))) (Some t) (Some new)
FailsIn k (Operates op session terms) t new =
    (events : List Event) × ((events ≡ []) ⊎ (events ≡ step_events k (Operates op session terms)))
    × ((new ≡ ask_failed (Act op session terms) events t) ⊎ (new ≡ call_failed events t))
FailsIn k Says t new = ⊥

-- some of the steps were made, and the next one failed
abbrev pub StopsIn : Kept → List Step → Told → Told → Type 0
StopsIn k [] t new = ⊥
StopsIn k (m ∷ ms) t new = FailsIn k m t new ⊎ StopsIn (after_step k m) ms (told_step k m t) new

abbrev pub AllPayloads : List Step → Type 0
AllPayloads [] = Unit {0}
AllPayloads (Stores q ∷ ms) = IsPayload q × AllPayloads ms
AllPayloads (Operates op session terms ∷ ms) = AllPayloads ms
AllPayloads (Says ∷ ms) = AllPayloads ms

-- ---- points at rest

-- the next step is an append, and the image is one of it
abbrev pub IsInNext : List Step → List (List ℕ) → List ℕ → Type 0
IsInNext [] payloads image = ⊥
IsInNext (Stores q ∷ ms) payloads image = IsInAppend payloads q image
IsInNext (Operates op session terms ∷ ms) payloads image = ⊥
IsInNext (Says ∷ ms) payloads image = ⊥

-- The trail has come to this point of a list of steps, where `rest` is still to come: its ledger is that of the point, and each image is the point's
-- payloads at rest, or one of the append that is the next step.
pub record RestsIn (t : Trail) (k : Kept) (rest : List Step) : Type 0 where
  pub ledger : ledger_at t.entries t.events ≡ k.ledger.entries
  pub images : (image : List ℕ) → IsImage t k.area image → IsAtRest k.payloads image ⊎ IsInNext rest k.payloads image

-- the trail has come to some point of the list
abbrev pub RestsAmong : Trail → Kept → List Step → Type 0
RestsAmong t k steps = (done rest : List Step) × (done ++ rest ≡ steps) × RestsIn t (after_steps k done) rest

-- Where each image of a trail is a point's payloads at rest, and its ledger is that point's, at each further event of the segments of a list of steps,
-- or of a cut of them, the trail has come to a point of the list.
abbrev pub StopsRest : Type 0
StopsRest =
    (t : Trail) (k : Kept) (steps : List Step) (events : List Event)
    → AllPayloads steps → RestsIn t k [] → IsCut (segments k steps) events → KeepsModel (extended t events)
    → (n : ℕ) → RestsAmong (extended t (take n events)) k steps

-- after the whole segments it is the last point, at rest
abbrev pub StepsRest : Type 0
StepsRest =
    (t : Trail) (k : Kept) (steps : List Step)
    → AllPayloads steps → RestsIn t k [] → KeepsModel (extended t (segments k steps)) → RestsIn (extended t (segments k steps)) (after_steps k steps) []

-- An opening that begins at a point of the steps stays at it, at each of its events and after a failed one: so one that follows a stopped opening begins as this one did.
abbrev pub ReopenRests : Type 0
ReopenRests =
    (t : Trail) (k : Kept) (rest : List Step) (list : List (List ℕ)) (events : List Event)
    → AllPayloads rest → RestsIn t k rest → Stands (seen t k.area) list
    → IsCut (open_events k.area (seen t k.area) (length (records list))) events → KeepsModel (extended t events) → RestsIn (extended t events) k rest

-- After the whole of it each image is at rest at this point, or at the next one, whichever was read.
abbrev pub ReopenEnds : Type 0
ReopenEnds =
    (t : Trail) (k : Kept) (rest : List Step) (list : List (List ℕ))
    → AllPayloads rest → RestsIn t k rest → KeepsModel t → Stands (seen t k.area) list
    → (done more : List Step) × (done ++ more ≡ rest) × ((after_steps k done).payloads ≡ list)
    × RestsIn (extended t (open_events k.area (seen t k.area) (length (records list)))) (after_steps k done) []

-- ---- points that images stand for

-- each image of the area stands for these payloads
abbrev pub AllStand : Trail → Area → List (List ℕ) → Type 0
AllStand t area payloads = (image : List ℕ) → IsImage t area image → Stands image payloads

-- the next step is an append, and the image stands for the longer list already
abbrev pub NextStands : List Step → List (List ℕ) → List ℕ → Type 0
NextStands [] payloads image = ⊥
NextStands (Stores q ∷ ms) payloads image = Stands image (payloads ++ q ∷ [])
NextStands (Operates op session terms ∷ ms) payloads image = ⊥
NextStands (Says ∷ ms) payloads image = ⊥

-- The trail stands at this point of a list of steps, where `rest` is still to come: its ledger is that of the point, and each image stands for the
-- point's payloads, or for them with the next append.
pub record StandsAt (t : Trail) (k : Kept) (rest : List Step) : Type 0 where
  pub ledger : ledger_at t.entries t.events ≡ k.ledger.entries
  pub images : (image : List ℕ) → IsImage t k.area image → Stands image k.payloads ⊎ NextStands rest k.payloads image

-- the trail stands at some point of the list
abbrev pub StandsAmong : Trail → Kept → List Step → Type 0
StandsAmong t k steps = (done rest : List Step) × (done ++ rest ≡ steps) × StandsAt t (after_steps k done) rest

-- Where the images of a trail all stand for a point's payloads, of which there are some, and its ledger is that point's, at each further event of the
-- segments of a list of steps, or of a cut of them, what stands is a point of the list.
abbrev pub StopsLeave : Type 0
StopsLeave =
    (t : Trail) (k : Kept) (steps : List Step) (events : List Event)
    → AllPayloads steps → k.payloads ≢ [] → AllStand t k.area k.payloads → ledger_at t.entries t.events ≡ k.ledger.entries
    → IsCut (segments k steps) events → KeepsModel (extended t events)
    → (n : ℕ) → StandsAmong (extended t (take n events)) k steps

-- after the whole segments it is the last point
abbrev pub StepsEnd : Type 0
StepsEnd =
    (t : Trail) (k : Kept) (steps : List Step)
    → AllPayloads steps → k.payloads ≢ [] → AllStand t k.area k.payloads → ledger_at t.entries t.events ≡ k.ledger.entries → KeepsModel (extended t (segments k steps))
    → StandsAt (extended t (segments k steps)) (after_steps k steps) []

-- ---- what is told

-- what a site tells after a list of steps is its trail with their segments, or with a cut of them
abbrev pub StepsTell : Type 0
StepsTell =
    (t new : Told) (k : Kept) (steps : List Step)
    → ((told_steps k steps t).trail ≡ extended t.trail (segments k steps))
    × (StopsIn k steps t new → (events : List Event) × IsCut (segments k steps) events × (new.trail ≡ extended t.trail events))
