-- Whatever may happen to two gateways leads from a reached world to another one.
use Rattle.std.proofs.Common.{ℕ, List, [], ◌∷◌, sym, subst}
use Rattle.std.specs.Prelude.{drop, take}
use Rattle.std.proofs.lemmas.List.{take-append-drop}
use Rattle.satp_base.specs.Founding.{Founding}
use Rattle.satp_sides.specs.Calls.{Call, Starts, Works, Aborts, Rescues, Hears}
use Rattle.satp_sides.specs.Moves.{AreMoves, said}
use Rattle.satp_sides.specs.Moves.SideMoves.{Moves}
use Rattle.satp_sides.specs.Points.{Move, moved}
use Rattle.satp_sides.proofs.MoveLaw.{moves-go}
use Rattle.satp_world.specs.Histories.{Event, Called, Stopped, Unread, EventsAreSafe, EventsKeepTotals, EventsReach, EventsRunDeals, MayAllHappen, MayCall, MayHappen, after_event, after_events, after_moves, call_moves}
use Rattle.satp_world.specs.Standing.{WorldRun}
use Rattle.satp_world.specs.Standing.WorldRun.{Rests, Goes}
use Rattle.satp_world.specs.Worlds.{Gateway, Reached, Setting, World, party_at, side_at, start, with_side}
use Rattle.satp_world.specs.Worlds.Gateway.{A, B}
use Rattle.satp_world.specs.Worlds.Reached.{Begins}
use Rattle.satp_world.specs.Worlds.WorldMoves.{By}
use Rattle.satp_world.proofs.RunHear.{heard-run}
use Rattle.satp_world.proofs.RunLaw.{operators-run}
use Rattle.satp_world.proofs.StandLaw.{run-reached, sessions-run}
use Rattle.satp_world.proofs.TotalLaw.{law_total}
use Rattle.satp_world.proofs.WorldLaw.{law_safety}

moves-run : (st : Setting) (w v : World) → WorldRun st w v → (g : Gateway) (ms : List Move) → AreMoves (party_at st g) (side_at v g) v.bag ms → WorldRun st w (after_moves v g ms)
moves-run st w v r A [] h = r
moves-run st w v r B [] h = r
moves-run st w v r A (m ∷ ms) h = moves-run st w (with_side v A (moved v.a m) (said v.bag m)) (Goes v _ r (By A _ _ (Moves m h.0))) A ms h.1
moves-run st w v r B (m ∷ ms) h = moves-run st w (with_side v B (moved v.b m) (said v.bag m)) (Goes v _ r (By B _ _ (Moves m h.0))) B ms h.1

call-goes : (st : Setting) (a b : Founding) (w : World) → Reached st a b w → (g : Gateway) (call : Call) → MayCall st w g call → AreMoves (party_at st g) (side_at w g) w.bag (call_moves st w g call)
call-goes st a b w r g (Hears m t e) (heard, d) = (heard-run st a b w r g m t e heard d).moves
call-goes st a b w r g (Starts s terms) own = (operators-run st a b w r g (Starts s terms) tt own).moves
call-goes st a b w r g (Works s) own = (operators-run st a b w r g (Works s) tt tt).moves
call-goes st a b w r g (Aborts s) own = (operators-run st a b w r g (Aborts s) tt tt).moves
call-goes st a b w r g (Rescues s) own = (operators-run st a b w r g (Rescues s) tt tt).moves

stop-goes : (st : Setting) (a b : Founding) (w : World) → Reached st a b w → (g : Gateway) (call : Call) (n : ℕ) → MayCall st w g call → AreMoves (party_at st g) (side_at w g) w.bag (take n (call_moves st w g call))
stop-goes st a b w r g call n may =
    let ms = call_moves st w g call in
    ((moves-go (party_at st g) (side_at w g) w.bag).first (take n ms) (drop n ms) (subst (AreMoves (party_at st g) (side_at w g) w.bag) (sym (take-append-drop n ms)) (call-goes st a b w r g call may))).0

event-run : (st : Setting) (a b : Founding) (w v : World) → Reached st a b v → WorldRun st w v → (e : Event) → MayHappen st v e → WorldRun st w (after_event st v e)
event-run st a b w v r run (Called g call) may = moves-run st w v run g (call_moves st v g call) (call-goes st a b v r g call may)
event-run st a b w v r run (Stopped g call n) may = moves-run st w v run g (take n (call_moves st v g call)) (stop-goes st a b v r g call n may)
event-run st a b w v r run (Unread g t) may = run

events-run : (st : Setting) (a b : Founding) (w : World) → Reached st a b w → (v : World) → WorldRun st w v → (es : List Event) → MayAllHappen st v es → WorldRun st w (after_events st v es)
events-run st a b w r v run [] h = run
events-run st a b w r v run (e ∷ es) h = events-run st a b w r (after_event st v e) (event-run st a b w v (run-reached st a b w v r run) run e h.0) es h.1

pub events-reach : EventsReach
events-reach st a b w r es h = run-reached st a b w (after_events st w es) r (events-run st a b w r w Rests es h)

pub events-run-deals : EventsRunDeals
events-run-deals st a b w r es h g s own = sessions-run st a b w (after_events st w es) r (events-run st a b w r w Rests es h) g s own

pub events-are-safe : EventsAreSafe
events-are-safe st a b es h = law_safety st a b (after_events st (start a b) es) (events-reach st a b (start a b) Begins es h)

pub events-keep-totals : EventsKeepTotals
events-keep-totals st a b es h asset = law_total st a b (after_events st (start a b) es) (events-reach st a b (start a b) Begins es h) asset
