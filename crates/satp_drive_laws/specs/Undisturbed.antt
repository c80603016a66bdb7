-- A drive that nothing disturbs: its peer is the other gateway of the world, no text is lost, no call failed, and memory was found.
use Rattle.std.specs.Prelude.{◌≢◌, ℕ, ◌+◌, ◌==◌, List, [], ◌∷◌, length, Option, Ok, if◌then◌else◌}
use Rattle.satp_base.specs.Calls.{Told}
use Rattle.satp_base.specs.Founding.{Founding}
use Rattle.satp_http.specs.declared.responses.Answered.{Answered}
use Rattle.satp_points.specs.Answers.{Answers}
use Rattle.satp_records.specs.declared.stored.Setup.{Setup}
use Rattle.satp_sides.specs.Calls.{Call}
use Rattle.satp_sides.specs.Others.{session_of}
use Rattle.satp_sides.specs.Points.{Side, Text}
use Rattle.satp_world.specs.Histories.{MayCall}
use Rattle.satp_world.specs.Worlds.{Gateway, Reached, Setting, World, opposite, party_at, side_at}
use Rattle.satp_point_laws.specs.Happening.{StandsIn}
use Rattle.satp_drive.specs.Calling.{Standing}
use Rattle.satp_drive.specs.Driving.{owes_success}
use Rattle.satp_drive.specs.Drives.{AfterAnswers, AfterReply, texts_in}
use Rattle.satp_drive.specs.declared.turn.Turn.{Turn}
use Rattle.satp_drive.specs.declared.turn.Turn.TheVariants.{Ends}
use Rattle.satp_drive.specs.declared.driven.DriveEnd.TheVariants.{Memory, Site}
use Rattle.satp_drive_laws.specs.Peer.{PeerAnswers}

-- ---- a drive

-- The drive of this call has come to its next turn, over a gateway of a reached world. Every call of its own gateway was answered. Every text was answered too, by the other gateway
-- of that world, with whatever its run answers, and this holds of its side after the last one.
pub record Undisturbed (st : Setting) (a b : Founding) (g : Gateway) (w : World) (call : Call) (old begun new : Standing) (setup : Setup) (t : Told) (posted : List Text) (answers : List Answered) (next : Turn) (P : Side → Type 0) : Type 0 where
  pub reached : Reached st a b w
  pub stands : StandsIn st w g old.gateway old.site setup t
  pub may : MayCall st w g call
  pub reply : Option Text
  pub called : Answers call old.gateway begun.gateway old.site begun.site (Ok reply)
  pub first : Turn
  pub follows : AfterReply (session_of call) (owes_success call) begun.gateway reply first
  pub leads : AfterAnswers (session_of call) begun first answers posted new next
  pub answered : PeerAnswers (party_at st (opposite g)) (side_at w (opposite g)) posted answers P
  pub memory : next ≢ Ends Memory
  pub site : next ≢ Ends Site

-- the gateway stands so in this world
abbrev pub Stands : Setting → World → Gateway → Standing → Setup → Type 0
Stands st w g m setup = (t : Told) × StandsIn st w g m.gateway m.site setup t

-- Both gateways have come to this world, which is reached: this one stands in it, and this holds of the other one's side there.
pub record BothStand (st : Setting) (a b : Founding) (g : Gateway) (now : World) (new : Standing) (setup : Setup) (P : Side → Type 0) : Type 0 where
  pub reached : Reached st a b now
  pub stands : Stands st now g new setup
  pub other : P (side_at now (opposite g))

-- the texts that have passed: each that was posted and answered, and then the answer's own, if it has code 200
abbrev pub passed : List Text → List Answered → List Text
passed [] answers = []
passed (t ∷ posted) [] = []
passed (t ∷ posted) (answer ∷ answers) = t ∷ (if answer.code == 200 then answer.body ∷ passed posted answers else passed posted answers)

-- how many they are
abbrev pub messages : List Text → List Answered → ℕ
messages posted answers = length posted + texts_in answers
