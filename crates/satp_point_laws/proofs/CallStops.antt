-- A stop at any event of a call leaves the site at a point of the call's moves.
use Rattle.std.proofs.Common.{◌≡◌, inl, inr, List, [], ◌∷◌, Option, Some, Result, Ok, Err, refl, sym, ap, subst, ◌∙◌}
use Rattle.satp_base.specs.Calls.{Told}
use Rattle.satp_base.specs.LedgerAt.{ledger_at}
use Rattle.satp_base.specs.Segments.{IsCut}
use Rattle.satp_base.specs.Trail.{KeepsModel, extended}
use Rattle.satp_base.specs.declared.area.Event.{Event}
use Rattle.satp_base.proofs.Cuts.{cut_none}
use Rattle.satp_base.proofs.Trails.{extended_none}
use Rattle.satp_log.specs.Journals.{party_of}
use Rattle.satp_records.specs.declared.stored.Setup.{Setup}
use Rattle.satp_sides.specs.Calls.{Call, IsHeard, IsOfOwn, Run, run_of}
use Rattle.satp_sides.specs.Logs.{IsLog}
use Rattle.satp_sides.specs.Points.{Move, Side, Text, moved_by}
use Rattle.satp_sides.specs.Points.Move.{Says}
use Rattle.satp_stops.specs.Stops.{RestsIn, segments, told_steps}
use Rattle.satp_points.specs.Answers.{Breaks, Goes, GoesUnsaid, RunAnswers, Stays, Unchanged}
use Rattle.satp_points.specs.States.{GatewayState, Holds, IsAt, Tells, area_of, kept_of, steps_of}
use Rattle.satp_points.specs.declared.fault.Refused.{Refused}
use Rattle.satp_points.specs.declared.fault.Refused.TheVariants.{Site, Memory}
use Rattle.satp_point_laws.specs.PointLaws.{CallsLeavePoints, LeavesPoints}
use Rattle.satp_point_laws.proofs.CallLaw.{calls-keep-logs}
use Rattle.satp_point_laws.proofs.GoingLaw.{cut-self, moves-go-on, saying-goes}
use Rattle.satp_point_laws.proofs.StopLaw.{points-rest, points-tell}

told-is : (t u : Told) → Some t ≡ Some u → t ≡ u
told-is t u e = cc e

module _ (old new : GatewayState) (before site : Tells) (setup : Setup) (side : Side) (t told : Told) (at : IsAt old before setup side t) (one : side.book.entries ≡ ledger_at t.trail.entries t.trail.events) (is : site.told ≡ Some told) (keeps : KeepsModel told.trail) where
  abbrev Leaves : List Move → Type 0
  Leaves moves = LeavesPoints old setup side t moves told

  abbrev Log : List Move → Type 0
  Log moves = IsLog (party_of setup) (moved_by side moves).records

  rests : RestsIn t.trail (kept_of (area_of old) setup side) []
  rests = record { ledger = sym one; images = λ image i. inl (at.rests image i) }

  -- the events of a cut of the moves
  cut-leaves : (moves : List Move) → Log moves → (events : List Event) → IsCut (segments (kept_of (area_of old) setup side) (steps_of moves)) events → told.trail ≡ extended t.trail events → Leaves moves
  cut-leaves moves log events cut e = (events, e, λ n. points-rest t.trail (area_of old) setup side moves events log rests cut (subst KeepsModel e keeps) n)

  goes-leaves : (moves : List Move) → Log moves → Goes old setup side moves t new site → Leaves moves
  goes-leaves moves log goes =
      let same = told-is told (told_steps (kept_of (area_of old) setup side) (steps_of moves) t) (sym is ∙ goes.1.told) in
      cut-leaves moves log (segments (kept_of (area_of old) setup side) (steps_of moves)) (cut-self _) (ap (λ (u : Told). u.trail) same ∙ (points-tell t told (area_of old) setup side moves).0)

  breaks-leaves : (moves : List Move) → Log moves → Breaks old setup side moves t new site → Leaves moves
  breaks-leaves moves log (broken, (u, e, stops)) =
      let same = told-is told u (sym is ∙ e) in
      let cut = (points-tell t u (area_of old) setup side moves).1 stops in
      cut-leaves moves log cut.0 cut.1 (ap (λ (v : Told). v.trail) same ∙ cut.2)

  stays-leaves : (moves : List Move) → Log moves → Stays old new before site → Leaves moves
  stays-leaves moves log stays =
      let same = told-is told t (sym is ∙ ap (λ (s : Tells). s.told) stays.1 ∙ at.told) in
      cut-leaves moves log [] (cut_none _ [] refl) (ap (λ (v : Told). v.trail) same ∙ sym (extended_none t.trail))

  unsaid-leaves : (run : Run) → Log run.moves → GoesUnsaid run old setup side t new site → Leaves run.moves
  unsaid-leaves run log (moves, reply, answer, whole, goes) =
      goes-leaves run.moves log
      (subst (λ ms. Goes old setup side ms t new site) (sym whole)
      ((moves-go-on old new new setup side moves (Says reply ∷ []) t site site).goes goes (saying-goes new site setup (moved_by side moves) (told_steps (kept_of (area_of old) setup side) (steps_of moves) t) reply goes.1)))

  by-answer : (Late : Type 0) (run : Run) → Log run.moves → (result : Result (Option Text) Refused) → RunAnswers run old setup side t before new site result → Unchanged Late old new before site result → Leaves run.moves
  by-answer Late run log (Ok reply) answers unchanged = goes-leaves run.moves log answers.1
  by-answer Late run log (Err Site) answers unchanged = breaks-leaves run.moves log answers
  by-answer Late run log (Err Memory) (inl stays) unchanged = stays-leaves run.moves log stays
  by-answer Late run log (Err Memory) (inr unsaid) unchanged = unsaid-leaves run log unsaid
  by-answer Late run log (Err r) answers unchanged = stays-leaves run.moves log unchanged

run-log : (call : Call) (g : GatewayState) (site : Tells) (setup : Setup) (side : Side) (t : Told) → IsAt g site setup side t → IsHeard setup.key call → IsOfOwn (party_of setup) call → IsLog (party_of setup) (moved_by side (run_of (party_of setup) side call).moves).records
unfolding Holds
run-log call g site setup side t at heard own = calls-keep-logs (party_of setup) at.holds.formed.2 side call at.holds.log heard own

pub calls-leave-points : CallsLeavePoints
calls-leave-points call old new before site result setup side t told at one heard own answers is keeps =
    by-answer old new before site setup side t told at one is keeps _ (run_of (party_of setup) side call) (run-log call old before setup side t at heard own) result (answers.run setup side t at) answers.unchanged
