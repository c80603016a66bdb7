-- What the two halves of a call answer: the decision by its tests, which looks at records alone, and what is then done at a site.
use Rattle.std.specs.Prelude.{◌≡◌, ◌≢◌, false, true, List, [], ◌++◌, map, Option, Some, None, Result, Ok, Err}
use Rattle.satp_base.specs.Calls.{Told}
use Rattle.satp_base.specs.declared.message.Role.TheVariants.{Origin}
use Rattle.satp_log.specs.Journals.{party_of}
use Rattle.satp_log.specs.Logged.{LogHolds, LogState}
use Rattle.satp_records.specs.Formats.{IsFormed}
use Rattle.satp_records.specs.declared.stored.Setup.{Setup}
use Rattle.satp_records.specs.declared.stored.Stored.TheVariants as journaled
use Rattle.satp_sides.specs.Calls as call
use Rattle.satp_sides.specs.Calls.{Call, Refusal, refusal_of, run_of}
use Rattle.satp_sides.specs.Logs.{IsLog}
use Rattle.satp_sides.specs.Others.{AreOf, session_of}
use Rattle.satp_sides.specs.Points.{Appends, Party, Side, Stored, Text}
use Rattle.satp_points.specs.Answers.{Answers, Breaking, RunAnswers, SaysOnly, Unchanged, WritesLast, heard_in, refused_as}
use Rattle.satp_points.specs.Decisions.{IsReady, decided_run}
use Rattle.satp_points.specs.States.{GatewayState, Holds, IsAt, Tells, is_broken}
use Rattle.satp_points.specs.declared.decision.Decision.{Decision}
use Rattle.satp_points.specs.declared.decision.Decision.TheVariants.{Gives, Works}
use Rattle.satp_points.specs.declared.decision.First.TheVariants as first
use Rattle.satp_points.specs.declared.decision.Replying.{Replying}
use Rattle.satp_points.specs.declared.decision.Replying.TheVariants as replying
use Rattle.satp_points.specs.declared.fault.Refused.{Refused}
use Rattle.satp_points.specs.declared.fault.Refused.TheVariants.{Broken, Site, Memory}

-- ---- the decision

-- the reply is a message that is written after the due work
abbrev pub IsWritten : Replying → Type 0
IsWritten replying.Recover = Unit {0}
IsWritten (replying.Update given) = Unit {0}
IsWritten reply = ⊥

abbrev pub WritesLate : Decision → Type 0
WritesLate (Gives reply) = ⊥
WritesLate (Works s first reply) = IsWritten reply

-- the decision is of the call: of its session, and it writes a message last only where the call does; a reply that is given at once may be said
abbrev pub IsDecisionOf : Party → List Stored → Call → Decision → Type 0
IsDecisionOf p xs call (Gives reply) = SaysOnly p xs (heard_in call) (Ok reply)
IsDecisionOf p xs call (Works s first reply) = (s ≡ session_of call) × (IsWritten reply → WritesLast call)

-- the call is always answered by a text
abbrev pub MustReply : Call → Type 0
MustReply (call.Starts s terms) = Unit {0}
MustReply (call.Works s) = ⊥
MustReply (call.Aborts s) = ⊥
MustReply (call.Rescues s) = Unit {0}
MustReply (call.Hears m t e) = ⊥

-- a message that is written, or the proposal of a session that begins here, where nothing is due
abbrev pub AlwaysReplies : Decision → Type 0
AlwaysReplies (Gives reply) = ⊥
AlwaysReplies (Works s (first.Begins Origin terms) replying.LastOwn) = Unit {0}
AlwaysReplies (Works s first reply) = IsWritten reply

-- What is decided of a call over these records. Ok: no test refuses it, and it comes to this. Another answer than want of memory: the first test that holds.
pub record Decided (p : Party) (xs : List Stored) (call : Call) (d : Decision) : Type 0 where
  pub accepted : refusal_of p xs call ≡ None
  pub ready : IsReady p xs d
  pub of_call : IsDecisionOf p xs call d
  pub replies : MustReply call → AlwaysReplies d
  pub comes_to : (side : Side) → side.records ≡ xs → run_of p side call ≡ decided_run p side d

abbrev pub RefusesAs : Option Refusal → Refused → Type 0
RefusesAs test r = (refusal : Refusal) × (test ≡ Some refusal) × (r ≡ refused_as refusal)

-- only a message needs memory before it is decided
abbrev pub MayLackMemory : Call → Type 0
MayLackMemory (call.Starts s terms) = ⊥
MayLackMemory (call.Works s) = ⊥
MayLackMemory (call.Aborts s) = ⊥
MayLackMemory (call.Rescues s) = ⊥
MayLackMemory (call.Hears m t e) = Unit {0}

abbrev pub DecidesOver : Party → List Stored → Call → Result Decision Refused → Type 0
DecidesOver p xs call (Ok d) = Decided p xs call d
DecidesOver p xs call (Err Memory) = MayLackMemory call
DecidesOver p xs call (Err r) = RefusesAs (refusal_of p xs call) r

-- Over the records that a log holds. The gateway's name isn't its peer's, so that the peer's places in a chain aren't its own.
abbrev pub Decides : Call → LogState → Result Decision Refused → Type 0
Decides call log result =
    (setup : Setup) (xs : List Stored) → LogHolds log setup xs → IsFormed (journaled.Setup setup) → IsLog (party_of setup) xs
    → DecidesOver (party_of setup) xs call result

-- ---- what is done

-- the session that the decision works on, and none where it only gives a reply
abbrev pub AllOf : Decision → List Stored → Type 0
AllOf (Gives reply) ys = ys ≡ []
AllOf (Works s first reply) ys = AreOf s (map Appends ys)

abbrev pub WorkSays : Party → List Stored → Decision → Result (Option Text) Refused → Type 0
WorkSays p xs (Gives reply) result = Unit {0}
WorkSays p xs (Works s first reply) result = SaysOnly p xs [] result

-- it keeps these records, and further ones of the decision's session; what it answers after work may be said over all of them
abbrev pub KeepsMore : Decision → Setup → List Stored → GatewayState → Result (Option Text) Refused → Type 0
KeepsMore d setup xs new result = (ys : List Stored) × Holds new setup (xs ++ ys) × AllOf d ys × WorkSays (party_of setup) (xs ++ ys) d result

-- no other answers come
abbrev pub IsDone : Result (Option Text) Refused → Type 0
IsDone (Ok reply) = Unit {0}
IsDone (Err Site) = Unit {0}
IsDone (Err Memory) = Unit {0}
IsDone (Err r) = ⊥

-- What carrying out a decision answers, at a gateway that is whole. `run` holds at a site that the gateway fits, all else at any site.
pub record Done (d : Decision) (old new : GatewayState) (before site : Tells) (result : Result (Option Text) Refused) : Type 0 where
  pub only : IsDone result
  pub run : (setup : Setup) (side : Side) (t : Told) → IsAt old before setup side t → RunAnswers (decided_run (party_of setup) side d) old setup side t before new site result
  pub unchanged : Unchanged (WritesLate d) old new before site result
  pub breaking : Breaking old new result
  pub grows : (setup : Setup) (xs : List Stored) → Holds old setup xs → KeepsMore d setup xs new result
  pub given : (reply : Option Text) → d ≡ Gives reply → result ≡ Ok reply
  pub replies : AlwaysReplies d → result ≢ Ok None

-- ---- both

-- a decision over the records that a gateway keeps, whoever set it up
abbrev pub DecidesAt : Call → GatewayState → Result Decision Refused → Type 0
DecidesAt call g result = (setup : Setup) (xs : List Stored) → Holds g setup xs → DecidesOver (party_of setup) xs call result

-- a decision that is carried out answers as the call does
abbrev pub DoneAnswers : Type 0
DoneAnswers =
    (call : Call) (d : Decision) (setup : Setup) (xs : List Stored) (old new : GatewayState) (before site : Tells) (result : Result (Option Text) Refused)
    → is_broken old ≡ false → Holds old setup xs → DecidesAt call old (Ok d) → Done d old new before site result → Answers call old new before site result

-- one that refuses the call leaves all as it was
abbrev pub RefusalAnswers : Type 0
RefusalAnswers =
    (call : Call) (r : Refused) (setup : Setup) (xs : List Stored) (g : GatewayState) (site : Tells)
    → is_broken g ≡ false → Holds g setup xs → DecidesAt call g (Err r) → Answers call g g site site (Err r)

-- and so does a broken gateway
abbrev pub BrokenAnswers : Type 0
BrokenAnswers = (call : Call) (g : GatewayState) (site : Tells) → is_broken g ≡ true → Answers call g g site site (Err Broken)
