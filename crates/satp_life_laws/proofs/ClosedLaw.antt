-- How a gateway comes to be closed, and that it stays so.
use Rattle.std.proofs.Common.{◌≡◌, ℕ, inl, List, [], ◌∷◌, ◌++◌, Option, Some, None, option_map, sym, ap, subst, ◌∙◌}
use Rattle.std.specs.Prelude.{drop, take}
use Rattle.std.specs.FinMap as map
use Rattle.satp_base.specs.Calls.{Told, Makes, calls_of}
use Rattle.satp_base.specs.Founding.{Founding}
use Rattle.satp_base.specs.Laws.{RestsAt}
use Rattle.satp_base.specs.LedgerAt.{ledger_at}
use Rattle.satp_base.specs.Money.{Book}
use Rattle.satp_base.specs.Trail.{Trail, extended}
use Rattle.satp_base.specs.declared.area.Area.{Area}
use Rattle.satp_base.specs.declared.area.Area.TheVariants.{JournalA}
use Rattle.satp_base.specs.declared.area.Event.TheVariants.{Founded}
use Rattle.satp_base.proofs.Made.{made_grows}
use Rattle.satp_base.proofs.Reopens.{restart_leaves}
use Rattle.satp_gateway.specs.SettingUp.{Plan, RestsSetUp, founds, plan, setup_events}
use Rattle.satp_journal.proofs.AppendLemmas.{trail_is}
use Rattle.satp_log.specs.Journals.{payloads_of}
use Rattle.satp_point_laws.proofs.HappenLaw.{stops-happen}
use Rattle.satp_points.specs.States.{GatewayState, Holds, Tells, area_of, kept_of, steps_of}
use Rattle.satp_records.specs.Formats.{IsFormed}
use Rattle.satp_records.specs.declared.stored.Setup.{Setup}
use Rattle.satp_records.specs.declared.stored.Stored.TheVariants as journaled
use Rattle.satp_runs.proofs.OneSideLaw.{gateways-are-sides}
use Rattle.satp_sides.specs.Calls.{Call}
use Rattle.satp_sides.specs.Moves.{AreMoves}
use Rattle.satp_sides.specs.Points.{Side, Stored}
use Rattle.satp_sides.proofs.MoveLaw.{moves-go}
use Rattle.satp_stops.specs.Stops.{RestsIn, told_steps}
use Rattle.satp_stops.proofs.Changes.{ledger_more}
use Rattle.satp_world.specs.Histories.{MayCall, after_event, call_moves}
use Rattle.satp_world.specs.Histories.Event.{Stopped}
use Rattle.satp_world.specs.Worlds.{Gateway, Setting, World, party_at, side_at, start}
use Rattle.satp_world.specs.Worlds.Gateway.{A, B}
use Rattle.satp_world.specs.Worlds.Reached.{Begins}
use Rattle.satp_world.proofs.HistoryLaw.{events-reach}
use Rattle.satp_life_laws.specs.Closed.{IsClosed, IsOpen, append_of, founding_at}
use Rattle.satp_life_laws.specs.Life.{AgainStaysClosed, AnswersStayOpen, LeavingsClose, OthersLeaveClosed, SetUpsClose, StopsClose}
use Rattle.satp_life_laws.proofs.Points.{bag-grows, first-goes, first-rests, others-side, rest-goes, stored-first}

some-is : {T : Type 0} {x y : T} → Some x ≡ Some y → x ≡ y
some-is e = cc e

-- ---- set up

-- the trail of a set-up ends with the founding and the append of its record
founded-trail : (p : Plan) (opened new : Option Told) (t : Told) → new ≡ Some t → Makes (calls_of (setup_events p)) (option_map (founds p) opened) new
    → (u : Told) × (t.trail ≡ extended (extended u.trail (Founded ∷ [])) (setup_events p))
founded-trail p None new t is makes = absurd cc
founded-trail p (Some u) new t is makes = (u, trail_is (founds p u) t (setup_events p) (made_grows 4 (setup_events p) (Some (founds p u)) (Some t) (sym is ∙ makes)))

-- which leaves no entry
no-entries : (p : Plan) (u t : Trail) → t ≡ extended (extended u (Founded ∷ [])) (setup_events p) → ledger_at t.entries t.events ≡ map.empty
no-entries p u t e =
    let first : ledger_at u.entries (u.events ++ Founded ∷ []) ≡ map.empty = ledger_more u (Founded ∷ []) in
    ap (λ (x : Trail). ledger_at x.entries x.events) e ∙ ledger_more (extended u (Founded ∷ [])) (setup_events p) ∙ first

module _ (setup : Setup) (a b : Founding) (t : Trail) (none : ledger_at t.entries t.events ≡ map.empty) (rests : RestsAt t JournalA (payloads_of setup [])) where
  start-rests : (g : Gateway) → RestsIn t (kept_of JournalA setup (side_at (start a b) g)) []
  start-rests A = record { ledger = none; images = λ image is. inl (rests image is) }
  start-rests B = record { ledger = none; images = λ image is. inl (rests image is) }

pub set-ups-close : SetUpsClose
set-ups-close st a b g setup kind before site t party formed (opened, vacant, (makes, genesis)) rests told =
    let p = plan setup kind (founding_at a b g) in
    let trail = founded-trail p opened.told site.told t told makes in
    let at : RestsAt t.trail JournalA (payloads_of setup []) = subst (RestsSetUp p) told rests in
    record { reached = Begins; party = party; formed = formed; next = None; may = tt; rests = start-rests setup a b t.trail (no-entries p trail.0.trail t.trail trail.1) at g }

-- ---- asked, let go, and stopped

pub answers-stay-open : AnswersStayOpen
answers-stay-open st a b g setup w old new before site t made es v is answers meanwhile =
    let side = gateways-are-sides st a b g w old new before site setup t made es v (record { reached = is.reached; stands = is.stands; answers = answers; meanwhile = meanwhile }) in
    (told_steps (kept_of (area_of old) setup (side_at w g)) (steps_of side.moves) t, record { reached = side.reached; area = side.goes.0 ∙ is.area; stands = side.stands })

formed-by : (state : GatewayState) (setup : Setup) (xs : List Stored) → Holds state setup xs → IsFormed (journaled.Setup setup)
unfolding Holds
formed-by state setup xs holds = holds.formed

pub leavings-close : LeavingsClose
leavings-close st a b g setup w state site t is tells =
    let side = side_at w g in
    let book : side.book ≡ record { genesis = founding_at a b g; entries = ledger_at t.trail.entries t.trail.events } = some-is (sym is.stands.at.ledger ∙ tells) in
    let rests : RestsAt t.trail JournalA (payloads_of setup side.records) = subst (λ (area : Area). RestsAt t.trail area (payloads_of setup side.records)) is.area is.stands.at.rests in
    record {
      reached = is.reached;
      party = is.stands.party;
      formed = formed-by state setup side.records is.stands.at.holds;
      next = None;
      may = tt;
      rests = record { ledger = ap (λ (x : Book). x.entries) (sym book); images = λ image here. inl (rests image here) };
    }

module _ (st : Setting) (a b : Founding) (g : Gateway) (setup : Setup) (w : World) (call : Call) (old : GatewayState) (before : Tells) (t : Told) (is : IsOpen st a b g setup w old before t) (may : MayCall st w g call) where
  abbrev After : ℕ → World
  After n = after_event st w (Stopped g call n)

  closes-at : (trail : Trail) (n : ℕ) → RestsIn trail (kept_of (area_of old) setup (side_at (After n) g)) (steps_of (drop n (call_moves st w g call))) → IsClosed st a b g setup (After n) trail
  closes-at trail n rests =
      let ms = drop n (call_moves st w g call) in
      let here : RestsIn trail (kept_of JournalA setup (side_at (After n) g)) (steps_of ms) = subst (λ (area : Area). RestsIn trail (kept_of area setup (side_at (After n) g)) (steps_of ms)) is.area rests in
      record {
        reached = events-reach st a b w is.reached (Stopped g call n ∷ []) (may, tt);
        party = is.stands.party;
        formed = formed-by old setup (side_at w g).records is.stands.at.holds;
        next = stored-first ms;
        may = first-goes (party_at st g) (side_at (After n) g) (After n).bag ms (rest-goes st a b w is.reached g call may n);
        rests = first-rests trail (kept_of JournalA setup (side_at (After n) g)) ms here;
      }

pub stops-close : StopsClose
stops-close st a b g setup w call old new before site result t told is tells may answers there keeps =
    let book : (side_at w g).book ≡ record { genesis = founding_at a b g; entries = ledger_at t.trail.entries t.trail.events } = some-is (sym is.stands.at.ledger ∙ tells) in
    let (events, e, each) = stops-happen st w g call old new before site result setup t told is.stands (ap (λ (x : Book). x.entries) book) may answers there keeps in
    (events, e, λ k. let at = each k in (at.0, closes-at st a b g setup w call old before t is may (extended t.trail (take k events)) at.0 at.2))

-- ---- it stays closed

pub again-stays-closed : AgainStaysClosed
again-stays-closed st a b g setup w t u is again =
    record {
      reached = is.reached;
      party = is.party;
      formed = is.formed;
      next = is.next;
      may = is.may;
      rests = record {
        ledger = ap (ledger_at u.entries) again.none ∙ again.entries ∙ is.rests.ledger;
        images = λ image here. is.rests.images image (restart_leaves t u JournalA (again.areas JournalA) again.none image here);
      };
    }

pub others-leave-closed : OthersLeaveClosed
others-leave-closed st a b g setup w t e is of happens =
    let same : side_at (after_event st w e) g ≡ side_at w g = others-side st w g e of in
    let may = (moves-go (party_at st g) (side_at w g) w.bag).later (append_of is.next) (after_event st w e).bag (bag-grows st w e) is.may in
    record {
      reached = events-reach st a b w is.reached (e ∷ []) (happens, tt);
      party = is.party;
      formed = is.formed;
      next = is.next;
      may = subst (λ (side : Side). AreMoves (party_at st g) side (after_event st w e).bag (append_of is.next)) (sym same) may;
      rests = subst (λ (side : Side). RestsIn t (kept_of JournalA setup side) (steps_of (append_of is.next))) (sym same) is.rests;
    }
