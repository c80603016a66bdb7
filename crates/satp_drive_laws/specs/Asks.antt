-- What a drive asks of its gateway.
use Rattle.std.specs.Prelude.{◌==◌, ℕ, List, [], ◌∷◌, Option, Result, Ok, Err, if◌then◌else◌}
use Rattle.satp_base.specs.Wires.{Traffic}
use Rattle.satp_base.specs.declared.address.Address.{Address}
use Rattle.satp_base.specs.declared.session.SessionId.{SessionId}
use Rattle.satp_http.specs.declared.responses.Answered.{Answered}
use Rattle.satp_points.specs.declared.fault.Refused.{Refused}
use Rattle.satp_sides.specs.Calls.{Call}
use Rattle.satp_sides.specs.Others.{session_of}
use Rattle.satp_runs.specs.Asking.{AsksAll, Asked}
use Rattle.satp_runs.specs.Asking.Asked.{Handles, Operates}
use Rattle.satp_drive.specs.Calling.{Standing}
use Rattle.satp_drive.specs.Conversing as conversing
use Rattle.satp_drive.specs.Conversing.{Dials}
use Rattle.satp_drive.specs.Driving.{DriveAnswers, GoesOn}
use Rattle.satp_drive.specs.declared.driven.Driven.{Driven}
use Rattle.satp_drive.specs.declared.turn.Turn.{Turn}
use Rattle.satp_drive.specs.declared.turn.Turn.TheVariants.{Posts, Ends}

-- the bodies of the answers of code 200
abbrev pub bodies : List Answered → List Asked
bodies [] = []
bodies (answer ∷ answers) = if answer.code == 200 then Handles answer.body ∷ bodies answers else bodies answers

-- ---- the answers that a drive heard, none where it had no connection

abbrev pub answers_over : (at : Address) (s : SessionId) (first : Turn) (b a : Standing) (told telling : Option Traffic) (before after : ℕ) (driven : Driven) → Dials at s first b a told telling before after driven → List Answered
answers_over at s first b a told telling before after driven (conversing.Dials.fails missed rose same is) = []
answers_over at s first b a told telling before after driven (conversing.Dials.connects (conversing.Connected.lacks_memory stops same)) = []
answers_over at s first b a told telling before after driven (conversing.Dials.connects (conversing.Connected.converses x)) = x.answers

abbrev pub answers_of_turn : (call : Call) (at : Address) (turn : Turn) (b a : Standing) (told telling : Option Traffic) (before after : ℕ) (driven : Driven) → GoesOn call at turn b a told telling before after driven → List Answered
answers_of_turn call at (Ends e) b a told telling before after driven goes = []
answers_of_turn call at (Posts text owed) b a told telling before after driven goes = answers_over at (session_of call) (Posts text owed) b a told telling before after driven goes

abbrev pub answers_in : (call : Call) (at : Address) (b a : Standing) (told telling : Option Traffic) (before after : ℕ) (result : Result Driven Refused) → DriveAnswers call at b a told telling before after result → List Answered
answers_in call at b a told telling before after (Ok driven) drives = answers_of_turn call at drives.turn drives.begun a told telling before after driven drives.goes
answers_in call at b a told telling before after (Err r) refused = []

-- A drive asks its call, and then to handle each body that it hears of an answer of code 200, in their order. It asks nothing else of its gateway.
abbrev pub DrivesAsk : Type 0
DrivesAsk =
    (call : Call) (at : Address) (old new : Standing) (told telling : Option Traffic) (before after : ℕ) (result : Result Driven Refused) (drives : DriveAnswers call at old new told telling before after result)
    → AsksAll (Operates call ∷ bodies (answers_in call at old new told telling before after result drives)) old.gateway new.gateway old.site new.site
