-- What each answer of a gateway's call says.
use Rattle.std.specs.Prelude.{◌≡◌, ◌⊎◌, true, List, [], ◌∷◌, ◌++◌, map, Option, Some, None, Result, Ok, Err}
use Rattle.satp_base.specs.Calls.{Told}
use Rattle.satp_base.specs.declared.message.Body.{Body}
use Rattle.satp_base.specs.declared.message.Body.TheVariants as body
use Rattle.satp_log.specs.Journals.{party_of}
use Rattle.satp_records.specs.declared.stored.Setup.{Setup}
use Rattle.satp_sides.specs.Calls as call
use Rattle.satp_sides.specs.Calls.{Call, Refusal, Run, refusal_of, run_of}
use Rattle.satp_sides.specs.Moves.{Sayable}
use Rattle.satp_sides.specs.Others.{AreOf, session_of}
use Rattle.satp_sides.specs.Points.{Move, Appends, Says, Party, Side, Stored, Text, moved_by}
use Rattle.satp_stops.specs.Stops.{StopsIn, told_steps}
use Rattle.satp_points.specs.States.{GatewayState, Holds, IsAt, Tells, area_of, is_broken, kept_of, steps_of}
use Rattle.satp_points.specs.declared.fault.Refused.{Refused}
use Rattle.satp_points.specs.declared.fault.Refused.TheVariants.{Broken, Exists, Receiver, Strange, Chain, Recovery, TooLate, Full, Site, Memory}

-- a refusal of the definitions, as it is answered
abbrev pub refused_as : Refusal → Refused
refused_as call.Exists = Exists
refused_as call.Receiver = Receiver
refused_as (call.Strange s) = Strange s
refused_as (call.Chain verdict) = Chain verdict
refused_as (call.Recovery fault) = Recovery fault
refused_as (call.TooLate place) = TooLate place
refused_as (call.Full count) = Full count

-- The tests of an operator's call look at the records alone, so that want of memory comes only where none of them holds. A message has to be read before it can be tested.
abbrev pub TestedBefore : Call → Option Refusal → Type 0
TestedBefore (call.Starts s terms) test = test ≡ None
TestedBefore (call.Works s) test = test ≡ None
TestedBefore (call.Aborts s) test = test ≡ None
TestedBefore (call.Rescues s) test = test ≡ None
TestedBefore (call.Hears m t e) test = Unit {0}

-- Whatever a site tells: the call is refused by the first test that holds, and it is answered, or has called the site, only where none does.
abbrev pub Tested : Call → Option Refusal → Result (Option Text) Refused → Type 0
Tested call test (Ok reply) = test ≡ None
Tested call test (Err Site) = test ≡ None
Tested call test (Err Broken) = Unit {0}
Tested call test (Err Memory) = TestedBefore call test
Tested call test (Err r) = (refusal : Refusal) × (test ≡ Some refusal) × (r ≡ refused_as refusal)

-- ---- at a site that the gateway fits

-- the moves were made, and the gateway fits the site after them, which tells their calls and events and no others
abbrev pub Goes : GatewayState → Setup → Side → List Move → Told → GatewayState → Tells → Type 0
Goes old setup side moves t new site =
    (area_of new ≡ area_of old) × IsAt new site setup (moved_by side moves) (told_steps (kept_of (area_of old) setup side) (steps_of moves) t)

-- the moves were begun, and a call of one of them failed
abbrev pub Breaks : GatewayState → Setup → Side → List Move → Told → GatewayState → Tells → Type 0
Breaks old setup side moves t new site =
    (is_broken new ≡ true) × ((u : Told) × (site.told ≡ Some u) × StopsIn (kept_of (area_of old) setup side) (steps_of moves) t u)

-- a message of a recovery round is written after the due work, so that no memory may be found for it then
abbrev pub IsRecover : Body → Type 0
IsRecover (body.Chain place previous part) = ⊥
IsRecover (body.Recover n last) = Unit {0}
IsRecover (body.Update n entries) = ⊥
IsRecover (body.Success n last) = ⊥

abbrev pub WritesLast : Call → Type 0
WritesLast (call.Starts s terms) = ⊥
WritesLast (call.Works s) = ⊥
WritesLast (call.Aborts s) = ⊥
WritesLast (call.Rescues s) = Unit {0}
WritesLast (call.Hears m t e) = IsRecover m.body

-- all moves were made but the last, which says the reply
abbrev pub GoesUnsaid : Run → GatewayState → Setup → Side → Told → GatewayState → Tells → Type 0
GoesUnsaid run old setup side t new site =
    (moves : List Move) × (reply : Text) × (run.answer ≡ Some (Ok (Some reply))) × (run.moves ≡ moves ++ Says reply ∷ []) × Goes old setup side moves t new site

abbrev pub Stays : GatewayState → GatewayState → Tells → Tells → Type 0
Stays old new before site = (new ≡ old) × (site ≡ before)

-- The run's answer and all its moves; or its moves up to a failed call; or, without memory for the message that it writes last, all but the saying of it.
abbrev pub RunAnswers : Run → GatewayState → Setup → Side → Told → Tells → GatewayState → Tells → Result (Option Text) Refused → Type 0
RunAnswers run old setup side t before new site (Ok reply) = (run.answer ≡ Some (Ok reply)) × Goes old setup side run.moves t new site
RunAnswers run old setup side t before new site (Err Site) = Breaks old setup side run.moves t new site
RunAnswers run old setup side t before new site (Err Memory) = Stays old new before site ⊎ GoesUnsaid run old setup side t new site
RunAnswers run old setup side t before new site (Err r) = Unit {0}

-- ---- at any site

-- a refusal leaves gateway and site as they were, but for a failed call of the site, and for want of memory after the due work
abbrev pub Unchanged : Type 0 → GatewayState → GatewayState → Tells → Tells → Result (Option Text) Refused → Type 0
Unchanged WritesLate old new before site (Ok reply) = Unit {0}
Unchanged WritesLate old new before site (Err Site) = Unit {0}
Unchanged WritesLate old new before site (Err Memory) = Stays old new before site ⊎ WritesLate
Unchanged WritesLate old new before site (Err r) = Stays old new before site

-- the call found the gateway whole, unless it answers `Broken`, and leaves it whole, unless it answers that or `Site`
pub record Breaking (old new : GatewayState) (result : Result (Option Text) Refused) : Type 0 where
  pub found : is_broken old ≡ true → result ≡ Err Broken
  pub answered : result ≡ Err Broken → is_broken old ≡ true
  pub broke : result ≡ Err Site → is_broken new ≡ true
  pub whole : is_broken new ≡ true → (is_broken old ≡ true) ⊎ (result ≡ Err Site)

-- what the call has heard
abbrev pub heard_in : Call → List Text
heard_in (call.Starts s terms) = []
heard_in (call.Works s) = []
heard_in (call.Aborts s) = []
heard_in (call.Rescues s) = []
heard_in (call.Hears m t e) = t ∷ []

-- an answered text may be said over these records
abbrev pub SaysOnly : Party → List Stored → List Text → Result (Option Text) Refused → Type 0
SaysOnly p xs heard (Ok (Some t)) = Sayable p xs heard t
SaysOnly p xs heard (Ok None) = Unit {0}
SaysOnly p xs heard (Err r) = Unit {0}

-- the gateway keeps these records, and further ones of the call's session; what it answers may be said over all of them
abbrev pub GrowsBy : Call → Setup → List Stored → GatewayState → Result (Option Text) Refused → Type 0
GrowsBy call setup xs new result =
    (ys : List Stored) × Holds new setup (xs ++ ys) × AreOf (session_of call) (map Appends ys) × SaysOnly (party_of setup) (xs ++ ys) (heard_in call) result

-- What a call answers. `run` holds at a site that the gateway fits, all else at any site.
pub record Answers (call : Call) (old new : GatewayState) (before site : Tells) (result : Result (Option Text) Refused) : Type 0 where
  pub tests : (setup : Setup) (xs : List Stored) → Holds old setup xs → Tested call (refusal_of (party_of setup) xs call) result
  pub run : (setup : Setup) (side : Side) (t : Told) → IsAt old before setup side t → RunAnswers (run_of (party_of setup) side call) old setup side t before new site result
  pub unchanged : Unchanged (WritesLast call) old new before site result
  pub breaking : Breaking old new result
  pub grows : (setup : Setup) (xs : List Stored) → Holds old setup xs → GrowsBy call setup xs new result
