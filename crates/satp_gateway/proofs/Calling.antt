-- A call that is decided over the records that a gateway keeps, and then carried out.
use Rattle.std.proofs.Common.{◌≡◌, List, Option, Some, None, Result, Ok, Err, refl, sym, ◌∙◌, ap, subst}
use Rattle.std.specs.Prelude.{◌≢◌, false}
use Rattle.std.specs.Result.{IsErr, IsErrAnd}
use Rattle.satp_base.specs.declared.session.SessionId.{SessionId}
use Rattle.satp_log.specs.Journals.{party_of}
use Rattle.satp_log.specs.Logged.{LogHolds, LogState}
use Rattle.satp_points.specs.Answers.{Answers}
use Rattle.satp_points.specs.Deciding.{Decided, Decides, Done, MustReply}
use Rattle.satp_points.specs.Decisions.{IsReady}
use Rattle.satp_points.specs.States.{GatewayState, Holds, Tells, is_broken}
use Rattle.satp_points.specs.declared.decision.Decision.{Decision}
use Rattle.satp_points.specs.declared.fault.Refused.{Refused}
use Rattle.satp_point_laws.proofs.DecidedLaw.{decides-at, done-answers, refusal-answers}
use Rattle.satp_records.specs.declared.stored.Setup.{Setup}
use Rattle.satp_sides.specs.Calls.{Call}
use Rattle.satp_sides.specs.Logs.{IsLog}
use Rattle.satp_sides.specs.Points.{Stored, Text}

-- what a register says of its log
abbrev pub Logs : GatewayState → LogState → Type 0
Logs g log = (setup : Setup) (xs : List Stored) → Holds g setup xs → LogHolds log setup xs × IsLog (party_of setup) xs

-- it holds something
abbrev pub HoldsSome : GatewayState → Type 0
HoldsSome g = (setup : Setup) × (xs : List Stored) × Holds g setup xs

-- a test refuses it
pub refused : (call : Call) (g : GatewayState) (log : LogState) (r : Refused) (site : Tells) → Logs g log → HoldsSome g → is_broken g ≡ false → Decides call log (Err r) → Answers call g g site site (Err r)
refused call g log r site logs some whole decides = refusal-answers call r some.0 some.1 g site whole some.2 (decides-at call g log (Err r) logs decides)

-- none does, and it is carried out
pub ready : (call : Call) (g : GatewayState) (log : LogState) (d : Decision) → Logs g log → Decides call log (Ok d) → (setup : Setup) (xs : List Stored) → Holds g setup xs → IsReady (party_of setup) xs d
ready call g log d logs decides setup xs h = let decided : Decided (party_of setup) xs call d = decides-at call g log (Ok d) logs decides setup xs h in decided.ready

pub carried : (call : Call) (g : GatewayState) (log : LogState) (d : Decision) → Logs g log → HoldsSome g → is_broken g ≡ false → Decides call log (Ok d)
    → (new : GatewayState) (before site : Tells) (result : Result (Option Text) Refused) → Done d g new before site result → Answers call g new before site result
carried call g log d logs some whole decides new before site result done =
    done-answers call d some.0 some.1 g new before site result whole some.2 (decides-at call g log (Ok d) logs decides) done

-- a call that must reply does
pub replies : (call : Call) (g : GatewayState) (log : LogState) (d : Decision) → Logs g log → HoldsSome g → Decides call log (Ok d)
    → (new : GatewayState) (before site : Tells) (result : Result (Option Text) Refused) → MustReply call → Done d g new before site result → result ≢ Ok None
replies call g log d logs some decides new before site result must done =
    let decided : Decided (party_of some.0) some.1 call d = decides-at call g log (Ok d) logs decides some.0 some.1 some.2 in done.replies (decided.replies must)

-- what is given on is this fault
pub err-is : {A : Type 0} (r : Result A Refused) (e : Refused) → IsErr r × IsErrAnd r (λ f. f ≡ e) → r ≡ Err e
err-is (Ok a) e h = absurd h.1
err-is (Err f) e h = ap Err h.1

-- a session of the own name is of the log's
pub own-name : (g now : GatewayState) (log : LogState) (s : SessionId) → g ≡ now → Logs g log → HoldsSome g → ((setup : Setup) (xs : List Stored) → Holds now setup xs → s.gateway ≡ setup.name) → s.gateway ≡ log.setup.name
own-name g now log s is logs some named =
    let held = logs some.0 some.1 some.2 in
    named some.0 some.1 (subst (λ (h : GatewayState). Holds h some.0 some.1) is some.2) ∙ sym (ap (λ (w : Setup). w.name) held.0.setup_is)
