-- A call that the site doesn't fail goes as the bench says.
use Rattle.std.proofs.Common.{◌≡◌, ◌≢◌, ◌≤◌, ⊎_elim, ℕ, ◌+◌, ◌-◌, true, false, List, [], ◌∷◌, length, Option, Some, None, Result, Ok, Err, refl, sym, ap, ap₂, subst, ◌∙◌, arith, length-append}
use Rattle.std.specs.Prelude.{◌==◌}
use Rattle.std.specs.List.{list_any}
use Rattle.satp_base.specs.Calls.{Told}
use Rattle.satp_base.specs.Founding.{Founding}
use Rattle.satp_base.specs.Ledgers.{Entries}
use Rattle.satp_base.specs.Money.{Book}
use Rattle.satp_base.specs.Trail.{Trail}
use Rattle.satp_base.specs.declared.ledger.LedgerKind.{LedgerKind}
use Rattle.satp_memory.specs.Following.{Follows, IsWithin, KeepsSite}
use Rattle.satp_memory.specs.Sites.{entries_or}
use Rattle.satp_memory.specs.Steps.{entries_of, told_of, trail_of}
use Rattle.satp_memory.specs.Stopping.{pick_of}
use Rattle.satp_memory.specs.declared.disk.MemDisk.{MemDisk}
use Rattle.satp_memory.proofs.Keeping.{calls_keep}
use Rattle.satp_memory.specs.declared.stop.Stop.{Stop}
use Rattle.satp_points.specs.Answers.{Goes, Stays, Unchanged, WritesLast}
use Rattle.satp_points.specs.States.{GatewayState, IsAt, Tells, area_of, is_broken, kept_of, steps_of}
use Rattle.satp_points.specs.declared.fault.Refused.{Refused}
use Rattle.satp_points.specs.declared.fault.Refused.TheVariants as refused
use Rattle.satp_records.specs.declared.stored.Setup.{Setup}
use Rattle.satp_sides.specs.Calls.{Call, run_of}
use Rattle.satp_sides.specs.Points.{Move, Side, Text, moved_by}
use Rattle.satp_stops.specs.Stops.{segments, told_steps}
use Rattle.satp_stops.proofs.Telling.{steps_tell}
use Rattle.satp_world.specs.Histories.{MayCall, after_event, call_moves}
use Rattle.satp_world.specs.Histories.Event.{Called}
use Rattle.satp_world.specs.Worlds.{Gateway, Reached, Setting, World, party_at, side_at}
use Rattle.satp_world.proofs.HistoryLaw.{events-reach}
use Rattle.satp_runs.specs.Asking.{IsAnswered}
use Rattle.satp_runs.specs.Living.{AnswersAs}
use Rattle.satp_runs.proofs.Asks.{is-answered}
use Rattle.satp_runs.proofs.Stepping.{call-steps}
use Rattle.satp_life_laws.specs.Closed.{IsOpen, TellsLedger, founding_at}
use Rattle.satp_life_laws.proofs.Founded.{founded-at}
use Rattle.satp_life_laws.proofs.Points.{side-after}
use Rattle.satp_drill_runs.specs.Benches.{Bench, Works, Broken, Limit, Stops, Fails, Stage, answered, bench_at, called, course}
use Rattle.satp_bench_laws.specs.Laws.{CallsGoByBench, NamesNoCall, WasCalled}
use Rattle.satp_bench_laws.specs.Seats.{BeginsPicked, HasOneLedger, NamesNone, Seat, ShowsAt, Sits, SitsBroken, SitsBy, SitsOpen, tells_at}
use Rattle.satp_bench_laws.proofs.Courses.{all-costs, all-fit, costs, no-limit}
use Rattle.satp_bench_laws.proofs.Followed.{run-followed}
use Rattle.satp_bench_laws.proofs.Stages.{broken-answer, broken-stage, shows-answer, sits-with, some-answer, whole-answer, whole-stage}

some-is : {T : Type 0} {x y : T} → Some x ≡ Some y → x ≡ y
some-is e = cc e

pub names-none-on : (old new : MemDisk) → Follows old new → NamesNone old → NamesNone new
names-none-on old new f h n lt = subst (λ (l : List ℕ). list_any (λ m. m == n) l ≡ false) (sym f.named) (h n (omega (arith, f.count, lt)))

-- a book that the site tells, with the founding that it had
pub ledger-told : (seat : Seat) (genesis : Founding) (book : Book) → HasOneLedger seat → seat.book ≡ Some book → book.genesis ≡ genesis
    → seat.book ≡ Some (record { genesis = genesis; entries = entries_of seat.disk })
ledger-told seat genesis book one is founded =
    let entries : book.entries ≡ entries_of seat.disk = subst (λ (o : Option Book). entries_or o (entries_of seat.disk) ≡ entries_of seat.disk) is one in
    is ∙ ap Some (ap₂ (λ (f : Founding) (e : Entries). record { genesis = f; entries = e }) founded entries)

answered-or : (result : Result (Option Text) Refused) → result ≢ Err refused.Memory → result ≢ Err refused.Site → IsAnswered result
answered-or (Ok reply) found site = tt
answered-or (Err r) found site = ⊎_elim (λ is. absurd (site (ap Err is))) (λ rest. ⊎_elim (λ is. absurd (found (ap Err is))) (λ ok. ok) rest) (is-answered r)

-- ---- a call that is answered

module _ (st : Setting) (a b : Founding) (g : Gateway) (setup : Setup) (w : World) (kind : LedgerKind) (call : Call) (old new : Seat) (result : Result (Option Text) Refused)
    (reached : Reached st a b w) (may : MayCall st w g call) (was : WasCalled kind call old new result) (site : result ≢ Err refused.Site) where
  -- what the site's calls leave, whichever they were
  kept : KeepsSite kind old.book new.book old.disk new.disk
  kept = calls_keep kind old.book new.book old.disk new.disk was.beside

  abbrev moves : List Move
  moves = call_moves st w g call

  abbrev side : Side
  side = side_at w g

  abbrev After : World
  After = after_event st w (Called g call)

  module _ (limit : Option Limit) (sits : SitsOpen st a b g setup w limit old) where
    steps : Goes old.gateway setup side moves (told_of old.disk) new.gateway (tells_at new) × AnswersAs (run_of (party_at st g) side call).answer result
    steps = call-steps call old.gateway new.gateway (tells_at old) (tells_at new) setup side (told_of old.disk) sits.opened.stands.at (party_at st g) sits.opened.stands.party result was.answers (answered-or result was.found site)

    now-told : told_of new.disk ≡ told_steps (kept_of (area_of old.gateway) setup side) (steps_of moves) (told_of old.disk)
    now-told = some-is steps.0.1.told

    same-side : side_at After g ≡ moved_by side moves
    same-side = side-after w g _ _

    after-reached : Reached st a b After
    after-reached = events-reach st a b w reached (Called g call ∷ []) (may, tt)

    now-open : IsOpen st a b g setup After new.gateway (tells_at new) (told_of new.disk)
    now-open = record {
      reached = after-reached;
      area = steps.0.0 ∙ sits.opened.area;
      stands = record {
        party = sits.opened.stands.party;
        at = subst (λ (s : Side). IsAt new.gateway (tells_at new) setup s (told_of new.disk)) (sym same-side)
            (subst (λ (t : Told). IsAt new.gateway (tells_at new) setup (moved_by side moves) t) (sym now-told) steps.0.1);
      };
    }

    now-ledger : TellsLedger (founding_at a b g) (tells_at new) (told_of new.disk)
    now-ledger = ledger-told new (founding_at a b g) (side_at After g).book was.ledger now-open.stands.at.ledger (founded-at st a b After after-reached g)

    -- so many events were added
    now-longer : length new.disk.events.items ≡ length old.disk.events.items + costs side moves
    now-longer =
        let k = kept_of (area_of old.gateway) setup side in
        let trail = ap (λ (t : Told). t.trail) now-told ∙ (steps_tell (told_of old.disk) (told_of old.disk) k (steps_of moves)).0 in
        ap (λ (t : Trail). length t.events) trail ∙ length-append old.disk.events.items (segments k (steps_of moves)) ∙ ap (λ (n : ℕ). length old.disk.events.items + n) (all-costs (area_of old.gateway) setup side moves)

    answer-is : AnswersAs (run_of (party_at st g) side call).answer result
    answer-is = steps.1

  sits-none : SitsOpen st a b g setup w None old → SitsOpen st a b g setup After None new
  sits-none sits = record {
    opened = now-open None sits;
    ledger = now-ledger None sits;
    bound = (kept.disk.stop ∙ sits.bound.0, names-none-on old.disk new.disk kept.disk sits.bound.1);
  }

  module _ (events pick : ℕ) (sits : SitsOpen st a b g setup w (Some (Stops events pick)) old) where
    abbrev stop-at : ℕ → Stop
    stop-at n = record { at = n; pick = pick }

    enough : costs side moves ≤ events
    enough =
        let within : IsWithin (Some (stop-at (length old.disk.events.items + events))) (length old.disk.events.items) (length new.disk.events.items) =
        subst (λ (s : Option Stop). IsWithin s (length old.disk.events.items) (length new.disk.events.items)) sits.bound.0 kept.disk.within in
        omega (arith, within, now-longer (Some (Stops events pick)) sits)

    passes : (course side moves (Some (Stops events pick))).bench ≡ Works (Some (Stops (events - costs side moves) pick))
    passes =
        let answer = some-answer (run_of (party_at st g) side call).answer result (answer-is (Some (Stops events pick)) sits) in
        all-fit side moves events pick (run-followed (party_at st g) side call answer.0 answer.1) enough

    sits-stop : SitsOpen st a b g setup After (Some (Stops (events - costs side moves) pick)) new
    sits-stop = record {
      opened = now-open (Some (Stops events pick)) sits;
      ledger = now-ledger (Some (Stops events pick)) sits;
      bound = (
        kept.disk.stop ∙ sits.bound.0 ∙ ap (λ (n : ℕ). Some (stop-at n)) (omega (arith, enough, now-longer (Some (Stops events pick)) sits)),
        names-none-on old.disk new.disk kept.disk sits.bound.1,
      );
    }

-- ---- a gateway that is broken

module _ (st : Setting) (a b : Founding) (g : Gateway) (setup : Setup) (w : World) (old new : Seat) (follows : Follows old.disk new.disk) (stays : Stays old.gateway new.gateway (tells_at old) (tells_at new))
    (sits : SitsBroken st a b g setup w old) where
  same-told : told_of new.disk ≡ told_of old.disk
  same-told = some-is (ap (λ (s : Tells). s.told) stays.1)

  same-trail : trail_of new.disk ≡ trail_of old.disk
  same-trail = ap (λ (t : Told). t.trail) same-told

  pub sits-same : SitsBroken st a b g setup w new
  sits-same = record {
    broken = subst (λ (s : GatewayState). is_broken s ≡ true) (sym stays.0) sits.broken;
    ledger = subst (λ (t : Told). TellsLedger (founding_at a b g) (tells_at new) t) (sym same-told) (subst (λ (s : Tells). TellsLedger (founding_at a b g) s (told_of old.disk)) (sym stays.1) sits.ledger);
    names = names-none-on old.disk new.disk follows sits.names;
    left = λ again begins. sits.left again (subst (λ (t : Trail). BeginsPicked t (pick_of old.disk.stop) again) same-trail (subst (λ (s : Option Stop). BeginsPicked (trail_of new.disk) (pick_of s) again) follows.stop begins));
  }

module _ (st : Setting) (a b : Founding) (g : Gateway) (setup : Setup) (w : World) (kind : LedgerKind) (call : Call) (old new : Seat) (result : Result (Option Text) Refused)
    (was : WasCalled kind call old new result) (sits : SitsBroken st a b g setup w old) where
  pub still-broken : result ≡ Err refused.Broken
  still-broken = was.answers.breaking.found sits.broken

  pub sits-still : SitsBroken st a b g setup w new
  sits-still = sits-same st a b g setup w old new (calls_keep kind old.book new.book old.disk new.disk was.beside).disk (subst (Unchanged (WritesLast call) old.gateway new.gateway (tells_at old) (tells_at new)) still-broken was.answers.unchanged) sits

-- ---- the law

module _ (st : Setting) (a b : Founding) (g : Gateway) (setup : Setup) (x : Stage) (kind : LedgerKind) (call : Call) (old new : Seat) (result : Result (Option Text) Refused)
    (may : MayCall st x.world g call) (was : WasCalled kind call old new result) (site : result ≢ Err refused.Site) where
  abbrev Goes_by : Bench → Type 0
  Goes_by bench = Sits st a b g setup (called st x g call) new × ShowsAt bench (answered st x g call) result

  whole-by : (limit more : Option Limit) → bench_at x g ≡ Works limit → (course (side_at x.world g) (call_moves st x.world g call) limit).bench ≡ Works more
      → SitsOpen st a b g setup (after_event st x.world (Called g call)) more new → AnswersAs (run_of (party_at st g) (side_at x.world g) call).answer result → Goes_by (Works limit)
  whole-by limit more e passes sits is = (
    subst (λ (y : Stage). Sits st a b g setup y new) (sym (whole-stage st x g call limit more e passes)) (sits-with st a b g setup (after_event st x.world (Called g call)) x (Works more) new sits),
    subst (λ (o : _). ShowsAt (Works limit) o result) (sym (whole-answer st x g call limit more e passes)) (shows-answer limit _ result is),
  )

  by-bench : (bench : Bench) → bench_at x g ≡ bench → NamesNoCall bench → SitsBy st a b g setup x.world bench old → Goes_by bench
  by-bench Broken e none sits = (
    subst (λ (y : Stage). Sits st a b g setup y new) (sym (broken-stage st x g call e))
        (subst (λ (o : Bench). SitsBy st a b g setup x.world o new) (sym e) (sits-still st a b g setup x.world kind call old new result was sits)),
    (broken-answer st x g call e, still-broken st a b g setup x.world kind call old new result was sits),
  )
  by-bench (Works None) e none sits =
      whole-by None None e (no-limit (side_at x.world g) (call_moves st x.world g call)) (sits-none st a b g setup x.world kind call old new result sits.opened.reached may was site sits)
      (answer-is st a b g setup x.world kind call old new result sits.opened.reached may was site None sits)
  by-bench (Works (Some (Stops events pick))) e none sits =
      whole-by (Some (Stops events pick)) (Some (Stops (events - costs (side_at x.world g) (call_moves st x.world g call)) pick)) e
      (passes st a b g setup x.world kind call old new result sits.opened.reached may was site events pick sits)
      (sits-stop st a b g setup x.world kind call old new result sits.opened.reached may was site events pick sits)
      (answer-is st a b g setup x.world kind call old new result sits.opened.reached may was site (Some (Stops events pick)) sits)
  by-bench (Works (Some (Fails n))) e none sits = absurd none

pub calls-go-by-bench : CallsGoByBench
calls-go-by-bench st a b g setup x kind call old new result sits none may was site = by-bench st a b g setup x kind call old new result may was site (bench_at x g) refl none sits
