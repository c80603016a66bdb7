-- A drive at a site that tells: a function of the answers that are heard, each as the gateway reads it.
use Rattle.std.specs.Prelude.{◌≡◌, ◌≢◌, ◌≤◌, ℕ, Bool, List, [], ◌∷◌, ◌++◌, length, Option, Some, None, Result, Ok, Err}
use Rattle.satp_base.specs.Calls.{Told}
use Rattle.satp_base.specs.declared.message.Message.{Message}
use Rattle.satp_base.specs.declared.session.SessionId.{SessionId}
use Rattle.satp_gateway.specs.Handling.{HandleReads, most_body}
use Rattle.satp_http.specs.declared.responses.Answered.{Answered}
use Rattle.satp_log.specs.Journals.{party_of}
use Rattle.satp_points.specs.Answers.{Breaks, Goes, refused_as}
use Rattle.satp_points.specs.States.{IsAt}
use Rattle.satp_points.specs.declared.fault.Refused.{Refused}
use Rattle.satp_points.specs.declared.fault.Refused.TheVariants as refused
use Rattle.satp_records.specs.declared.stored.Setup.{Setup}
use Rattle.satp_sides.specs.Calls.{Hears, IsEntryOf, IsOwn, Refusal, Run, run_of}
use Rattle.satp_sides.specs.Points.{Move, Party, Side, Stored, Text, moved_by}
use Rattle.satp_drive.specs.Calling.{Standing}
use Rattle.satp_drive.specs.Drives.{AfterAnswers, unreplied}
use Rattle.satp_drive.specs.declared.driven.DriveEnd.TheVariants as end
use Rattle.satp_drive.specs.declared.turn.Turn.{Turn}
use Rattle.satp_drive.specs.declared.turn.Turn.TheVariants.{Posts, Ends}

-- ---- what is heard

-- an answer, as the gateway reads it
pub data Reading : Type 0 where
  -- its code is neither 200 nor 204
  Coded : ℕ → Reading
  -- of code 204
  Empty : Reading
  -- no message is read from its body
  Unread : Refused → Reading
  -- a message, its text, and the message whose own text the one entry of an update is
  Read : Message → Text → Option Message → Reading

-- a refusal of a body that no message is read from
abbrev pub IsUnread : Refused → Type 0
IsUnread (refused.Size n) = Unit {0}
IsUnread (refused.Jws f) = Unit {0}
IsUnread refused.Header = Unit {0}
IsUnread (refused.Body f) = Unit {0}
IsUnread r = ⊥

abbrev pub Reads : List ℕ → Answered → Reading → Type 0
Reads key answer (Coded code) = (answer.code ≡ code) × (code ≢ 200) × (code ≢ 204)
Reads key answer Empty = answer.code ≡ 204
Reads key answer (Unread r) = (answer.code ≡ 200) × ((m : Message) → IsOwn key answer.body m → ⊥) × IsUnread r × HandleReads key answer.body (Err r)
Reads key answer (Read m body e) = (answer.code ≡ 200) × (body ≡ answer.body) × (length body ≤ most_body) × IsOwn key body m × IsEntryOf key m.body e

abbrev pub ReadsEach : List ℕ → List Answered → List Reading → Type 0
ReadsEach key [] readings = readings ≡ []
ReadsEach key (answer ∷ answers) readings =
    (reading : Reading) × (later : List Reading) × (readings ≡ reading ∷ later) × Reads key answer reading × ReadsEach key answers later

-- ---- what is done

-- the moves that an answer makes, and what follows
pub record Reaction : Type 0 where
  pub moves : List Move
  pub turn : Turn

-- there is no answer where an operation was out of order: the site answers that as a fault
abbrev pub turn_by : Party → SessionId → Bool → List Stored → Option (Result (Option Text) Refusal) → Turn
turn_by p s owed xs None = Ends end.Site
turn_by p s owed xs (Some (Err r)) = Ends (end.Refused (refused_as r))
turn_by p s owed xs (Some (Ok (Some reply))) = Posts reply owed
turn_by p s owed xs (Some (Ok None)) = unreplied p s owed xs

abbrev pub reaction_by : Party → SessionId → Bool → Side → Run → Reaction
reaction_by p s owed side run = record { moves = run.moves; turn = turn_by p s owed (moved_by side run.moves).records run.answer }

abbrev pub reaction : Party → SessionId → Bool → Side → Reading → Reaction
reaction p s owed side (Coded code) = record { moves = []; turn = Ends (end.Status code) }
reaction p s owed side Empty = record { moves = []; turn = unreplied p s owed side.records }
reaction p s owed side (Unread r) = record { moves = []; turn = Ends (end.Refused r) }
reaction p s owed side (Read m body e) = reaction_by p s owed side (run_of p side (Hears m body e))

-- the texts that were posted and have an answer, the moves that the answers made, and what is next
pub record Drive : Type 0 where
  pub posted : List Text
  pub moves : List Move
  pub next : Turn

abbrev pub begins : Text → Reaction → Drive → Drive
begins posted first later = record { posted = posted ∷ later.posted; moves = first.moves ++ later.moves; next = later.next }

abbrev pub driven : Party → SessionId → Side → Turn → List Reading → Drive
driven p s side next [] = record { posted = []; moves = []; next = next }
driven p s side (Ends e) (reading ∷ readings) = record { posted = []; moves = []; next = Ends e }
driven p s side (Posts posted owed) (reading ∷ readings) =
    let first = reaction p s owed side reading in begins posted first (driven p s (moved_by side first.moves) first.turn readings)

-- ---- the drive is this function

-- These moves were made; or begun, and a call of one of them failed; or, for want of memory, the first of them were made.
abbrev pub DoneBy : List Move → Turn → Standing → Setup → Side → Told → Standing → Turn → Type 0
DoneBy moves turn b setup side t a (Ends end.Site) = Breaks b.gateway setup side moves t a.gateway a.site
DoneBy moves turn b setup side t a (Ends end.Memory) = (first : List Move) × (later : List Move) × (moves ≡ first ++ later) × Goes b.gateway setup side first t a.gateway a.site
DoneBy moves turn b setup side t a next = (turn ≡ next) × Goes b.gateway setup side moves t a.gateway a.site

-- the drive is this function
abbrev pub IsDriven : Drive → List Text → Standing → Setup → Side → Told → Standing → Turn → Type 0
IsDriven d posted b setup side t a next = (d.posted ≡ posted) × DoneBy d.moves d.next b setup side t a next

-- At a site that tells, a drive from a text on is that function of what the answers that it hears read as.
abbrev pub DriveLaw : Type 0
DriveLaw =
    (s : SessionId) (b a : Standing) (text : Text) (owed : Bool) (next : Turn) (answers : List Answered) (posted : List Text) (readings : List Reading) (setup : Setup) (side : Side) (t : Told)
    → IsAt b.gateway b.site setup side t → AfterAnswers s b (Posts text owed) answers posted a next → ReadsEach setup.key answers readings
    → IsDriven (driven (party_of setup) s side (Posts text owed) readings) posted b setup side t a next
