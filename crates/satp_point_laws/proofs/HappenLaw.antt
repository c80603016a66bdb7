-- The calls of a gateway at a site are what may happen in a world of two gateways.
use Rattle.std.proofs.Common.{◌≡◌, ◌≢◌, inl, inr, ℕ, List, [], ◌∷◌, ◌++◌, length, take, drop, Option, Result, Ok, Err, refl, sym, ap, subst, ◌∙◌}
use Rattle.satp_base.specs.Calls.{Told}
use Rattle.satp_base.specs.Trail.{Trail}
use Rattle.satp_base.specs.declared.area.Area.{Area}
use Rattle.satp_log.specs.Journals.{party_of}
use Rattle.satp_records.specs.declared.stored.Setup.{Setup}
use Rattle.satp_sides.specs.Calls.{Call, IsHeard, IsOfOwn, Run, run_of}
use Rattle.satp_sides.specs.Calls.Call.{Starts, Works, Aborts, Rescues, Hears}
use Rattle.satp_sides.specs.Points.{Move, Party, Side, Text, moved_by}
use Rattle.satp_sides.specs.Points.Move.{Says}
use Rattle.satp_stops.specs.Stops.{RestsIn, told_steps}
use Rattle.satp_world.specs.Histories.{Event, MayCall, MayHappen, after_event, call_moves}
use Rattle.satp_world.specs.Histories.Event.{Called, Stopped}
use Rattle.satp_world.specs.Worlds.{Gateway, Setting, World, party_at, side_at, with_side}
use Rattle.satp_world.specs.Worlds.Gateway.{A, B}
use Rattle.satp_points.specs.Answers.{Goes, GoesUnsaid, RunAnswers, Stays, Unchanged}
use Rattle.satp_points.specs.States.{GatewayState, IsAt, Tells, area_of, kept_of, steps_of}
use Rattle.satp_points.specs.declared.fault.Refused.{Refused}
use Rattle.satp_points.specs.declared.fault.Refused.TheVariants.{Site, Memory}
use Rattle.satp_point_laws.specs.Happening.{CallsHappen, StandsIn, StopsHappen}
use Rattle.satp_point_laws.specs.PointLaws.{IsAmong}
use Rattle.satp_point_laws.proofs.CallStops.{calls-leave-points}

side-after : (w : World) (g : Gateway) (side : Side) (bag : List Text) → side_at (with_side w g side bag) g ≡ side
side-after w A side bag = refl
side-after w B side bag = refl

take-first : (ms ns : List Move) → take (length ms) (ms ++ ns) ≡ ms
take-first [] ns = refl
take-first (m ∷ ms) ns = ap (λ (l : List Move). m ∷ l) (take-first ms ns)

drop-first : (ms ns : List Move) → drop (length ms) (ms ++ ns) ≡ ns
drop-first [] ns = refl
drop-first (m ∷ ms) ns = drop-first ms ns

-- ---- what is called

heard-key : (st : Setting) (w : World) (g : Gateway) (call : Call) → MayCall st w g call → IsHeard st.key call
heard-key st w g (Starts s terms) may = tt
heard-key st w g (Works s) may = tt
heard-key st w g (Aborts s) may = tt
heard-key st w g (Rescues s) may = tt
heard-key st w g (Hears m t e) may = may.0

of-own : (st : Setting) (w : World) (g : Gateway) (call : Call) → MayCall st w g call → IsOfOwn (party_at st g) call
of-own st w g (Starts s terms) may = may
of-own st w g (Works s) may = tt
of-own st w g (Aborts s) may = tt
of-own st w g (Rescues s) may = tt
of-own st w g (Hears m t e) may = tt

-- ---- what happens

module _ (st : Setting) (w : World) (g : Gateway) (call : Call) (old new : GatewayState) (before site : Tells) (setup : Setup) (t : Told) (stands : StandsIn st w g old before setup t) (may : MayCall st w g call) where
  abbrev Happens : Type 0
  Happens = (e : Event) × MayHappen st w e × ((told : Told) × StandsIn st (after_event st w e) g new site setup told)

  abbrev side : Side
  side = side_at w g

  abbrev run : Run
  run = run_of (party_of setup) (side_at w g) call

  same-moves : run.moves ≡ call_moves st w g call
  same-moves = ap (λ (p : Party). (run_of p (side_at w g) call).moves) stands.party

  goes-happen : Goes old setup (side_at w g) run.moves t new site → Happens
  goes-happen goes =
      let here = subst (λ (z : Side). IsAt new site setup z (told_steps (kept_of (area_of old) setup (side_at w g)) (steps_of run.moves) t)) (ap (moved_by (side_at w g)) same-moves ∙ sym (side-after w g _ _)) goes.1 in
      (Called g call, may, (told_steps (kept_of (area_of old) setup (side_at w g)) (steps_of run.moves) t, record { party = stands.party; at = here }))

  abbrev still : Side
  still = side_at (after_event st w (Stopped g call 0)) g

  stays-happen : Stays old new before site → Happens
  stays-happen stays =
      let here : IsAt old before setup still t = subst (λ (z : Side). IsAt old before setup z t) (sym (side-after w g (side_at w g) w.bag)) stands.at in
      let there = subst (λ (x : GatewayState). IsAt x before setup still t) (sym stays.0) here in
      (Stopped g call 0, may, (t, record { party = stands.party; at = subst (λ (s : Tells). IsAt new s setup still t) (sym stays.1) there }))

  unsaid-happen : GoesUnsaid run old setup (side_at w g) t new site → Happens
  unsaid-happen (moves, reply, answer, whole, goes) =
      let first : take (length moves) (call_moves st w g call) ≡ moves = ap (take (length moves)) (sym same-moves ∙ whole) ∙ take-first moves (Says reply ∷ []) in
      let here = subst (λ (z : Side). IsAt new site setup z (told_steps (kept_of (area_of old) setup (side_at w g)) (steps_of moves) t)) (ap (moved_by (side_at w g)) (sym first) ∙ sym (side-after w g _ _)) goes.1 in
      (Stopped g call (length moves), may, (told_steps (kept_of (area_of old) setup (side_at w g)) (steps_of moves) t, record { party = stands.party; at = here }))

  by-answer : (Late : Type 0) (result : Result (Option Text) Refused) → RunAnswers run old setup (side_at w g) t before new site result → Unchanged Late old new before site result → result ≢ Err Site → Happens
  by-answer Late (Ok reply) answers unchanged other = goes-happen answers.1
  by-answer Late (Err Site) answers unchanged other = absurd (other refl)
  by-answer Late (Err Memory) (inl stays) unchanged other = stays-happen stays
  by-answer Late (Err Memory) (inr unsaid) unchanged other = unsaid-happen unsaid
  by-answer Late (Err r) answers unchanged other = stays-happen unchanged

  -- the first moves of the call, and a point of them
  stopped-at : (trail : Trail) (area : Area) → IsAmong trail area setup (side_at w g) run.moves
      → (n : ℕ) × MayHappen st w (Stopped g call n) × RestsIn trail (kept_of area setup (side_at (after_event st w (Stopped g call n)) g)) (steps_of (drop n (call_moves st w g call)))
  stopped-at trail area (done, rest, e, rests) =
      let all : call_moves st w g call ≡ done ++ rest = sym same-moves ∙ sym e in
      let first : take (length done) (call_moves st w g call) ≡ done = ap (take (length done)) all ∙ take-first done rest in
      let left : drop (length done) (call_moves st w g call) ≡ rest = ap (drop (length done)) all ∙ drop-first done rest in
      let there = ap (moved_by (side_at w g)) (sym first) ∙ sym (side-after w g _ _) in (
        length done,
        may,
        subst (λ (z : Side). RestsIn trail (kept_of area setup z) (steps_of (drop (length done) (call_moves st w g call)))) there (subst (λ (l : List Move). RestsIn trail (kept_of area setup (moved_by (side_at w g) done)) (steps_of l)) (sym left) rests),
      )

pub calls-happen : CallsHappen
calls-happen st w g call old new before site result setup t stands may answers other =
    by-answer st w g call old new before site setup t stands may _ result (answers.run setup (side_at w g) t stands.at) answers.unchanged other

pub stops-happen : StopsHappen
stops-happen st w g call old new before site result setup t told stands one may answers is keeps =
    let heard = subst (λ (p : Party). IsHeard p.key call) (sym stands.party) (heard-key st w g call may) in
    let own = subst (λ (p : Party). IsOfOwn p call) (sym stands.party) (of-own st w g call may) in
    let (events, e, each) = calls-leave-points call old new before site result setup (side_at w g) t told stands.at one heard own answers is keeps in
    (events, e, λ k. stopped-at st w g call old new before site setup t stands may _ (area_of old) (each k))
