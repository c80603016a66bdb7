-- A call that a stop comes into goes as the bench says.
use Rattle.std.proofs.Common.{◌≡◌, ◌⊎◌, inl, inr, ℕ, zero, suc, ◌+◌, Bool, true, false, nat_le, List, [], ◌∷◌, ◌++◌, length, take, drop, Option, Some, None, is_some, option_map, ◌||◌, Err, refl, sym, ap, subst, ◌∙◌, arith, length-append}
use Rattle.std.specs.Prelude.{if◌then◌else◌}
use Rattle.std.specs.List.{list_any}
use Rattle.std.proofs.lemmas.Bool.{leb-true}
use Rattle.std.proofs.lemmas.List.{append_assoc, drop_at, take_at, take-append-drop}
use Rattle.std.proofs.lemmas.List.Folds.{list_any-append}
use Rattle.satp_base.specs.Calls.{Told}
use Rattle.satp_base.specs.Format.{IsPayload, Stands}
use Rattle.satp_base.specs.Founding.{Founding}
use Rattle.satp_base.specs.Laws.{RestsAt}
use Rattle.satp_base.specs.Money.{Book}
use Rattle.satp_base.specs.LedgerRule.{operation}
use Rattle.satp_base.specs.Segments.{IsCut}
use Rattle.satp_base.specs.Streams.{Rose}
use Rattle.satp_base.specs.Trail.{KeepsModel, Trail, extended, settled}
use Rattle.satp_base.specs.declared.area.Area.{Area}
use Rattle.satp_base.specs.declared.area.Area.TheVariants.{JournalA}
use Rattle.satp_base.specs.declared.area.Event.{Event as DiskEvent}
use Rattle.satp_base.specs.declared.area.Event.TheVariants.{Wrote, Cut, Synced, Left, Founded, Acted}
use Rattle.satp_base.specs.declared.ledger.LedgerKind.{LedgerKind}
use Rattle.satp_base.proofs.Trails.{extended_none, extended_twice, keeps_before}
use Rattle.satp_memory.specs.Disk.{is_plain}
use Rattle.satp_memory.specs.Following.{IsWithin, KeepsSite, is_founding}
use Rattle.satp_memory.specs.Plain.{plain_keeps}
use Rattle.satp_memory.specs.Steps.{entries_of, told_of, trail_of}
use Rattle.satp_memory.specs.Stopping.{is_reached, pick_of}
use Rattle.satp_memory.specs.declared.stop.Stop.{Stop}
use Rattle.satp_memory.proofs.Keeping.{calls_keep}
use Rattle.satp_log.specs.Journals.{party_of, payload_in, payloads_of}
use Rattle.satp_log.proofs.JournalLemmas.{formed-record}
use Rattle.satp_points.specs.Answers.{Breaks}
use Rattle.satp_points.specs.States.{GatewayState, Holds, kept_of, step_of, steps_of}
use Rattle.satp_points.specs.declared.fault.Refused.TheVariants as refused
use Rattle.satp_point_laws.proofs.StopLaw.{points-end}
use Rattle.satp_records.specs.Formats.{IsFormed}
use Rattle.satp_records.specs.declared.stored.Setup.{Setup}
use Rattle.satp_records.specs.declared.stored.Stored.TheVariants as journaled
use Rattle.satp_records.proofs.Payloads.{payloads_fit}
use Rattle.satp_sides.specs.Calls.{Call, run_of}
use Rattle.satp_sides.specs.Logs.{IsLog}
use Rattle.satp_sides.specs.Moves.{AreMoves}
use Rattle.satp_sides.specs.Points.{Move, Appends, Acts, Says, Party, Side, Stored, moved_by}
use Rattle.satp_stops.specs.Stops as stops
use Rattle.satp_stops.specs.Stops.{Kept, RestsIn, Step, Operates, Stores, StopsIn, after_step, segments, step_events}
use Rattle.satp_stops.proofs.Telling.{steps_tell}
use Rattle.satp_world.specs.Histories.{MayCall, after_event, call_moves}
use Rattle.satp_world.specs.Histories.Event.{Stopped}
use Rattle.satp_world.specs.Worlds.{Gateway, Reached, Setting, World, party_at, side_at}
use Rattle.satp_world.proofs.HistoryLaw.{events-reach}
use Rattle.satp_world.proofs.KeptLaw.{logs-kept}
use Rattle.satp_life_laws.specs.Closed.{founding_at}
use Rattle.satp_life_laws.proofs.Points.{first-goes, first-rests, rest-goes, side-after, stored-first}
use Rattle.satp_drill_runs.specs.Benches.{Bench, Works, Broken, Stops, Stage, answer_at, answered, bench_at, called, called_at, runs_course, with_bench}
use Rattle.satp_bench_laws.specs.Laws.{StopsGoByBench, WasStopped}
use Rattle.satp_bench_laws.specs.Seats.{BeginsPicked, IsLeft, Seat, ShowsAt, Sits, SitsBroken, SitsBy, SitsOpen, tells_at}
use Rattle.satp_bench_laws.proofs.Breaking.{Ends, Torn, ends-in, stands}
use Rattle.satp_bench_laws.proofs.CallLaw.{ledger-told, names-none-on}
use Rattle.satp_bench_laws.proofs.Courses.{all-costs}
use Rattle.satp_bench_laws.proofs.OpeningLaw.{seen-first}
use Rattle.satp_bench_laws.proofs.Stages.{bench-with, sits-with}
use Rattle.satp_bench_laws.proofs.StopLaw.{append-by, still}

some-is : {T : Type 0} {x y : T} → Some x ≡ Some y → x ≡ y
some-is e = cc e

-- ---- events

plain-later : (es fs : List DiskEvent) → is_plain (es ++ fs) ≡ true → is_plain fs ≡ true
plain-later [] fs p = p
plain-later (Wrote a at bytes ∷ es) fs p = plain-later es fs p
plain-later (Cut a n ∷ es) fs p = plain-later es fs p
plain-later (Synced a ∷ es) fs p = plain-later es fs p
plain-later (Left a bytes ∷ es) fs p = absurd (cc p)
plain-later (Founded ∷ es) fs p = plain-later es fs p
plain-later (Acted op session terms ∷ es) fs p = plain-later es fs p

plain-cut : (whole es : List DiskEvent) → IsCut whole es → is_plain es ≡ true → (n : ℕ) × (es ≡ take n whole)
plain-cut whole es (n, inl is) p = (n, is)
plain-cut whole es (n, inr (area, bytes, last, is)) p = let no = plain-later (take n whole) (Left area bytes ∷ []) (subst (λ (l : List DiskEvent). is_plain l ≡ true) is p) in absurd (cc no)

take-own : (n : ℕ) (xs : List DiskEvent) → take (length (take n xs)) xs ≡ take n xs
take-own zero xs = refl
take-own (suc n) [] = refl
take-own (suc n) (x ∷ xs) = ap (λ (l : List DiskEvent). x ∷ l) (take-own n xs)

-- none of the events of steps is a founding
first-none : (p q : Bool) → (p || q) ≡ false → p ≡ false
first-none false q e = refl
first-none true q e = absurd (cc e)

neither : (p q : Bool) → p ≡ false → q ≡ false → (p || q) ≡ false
neither p q e f = rw (e, f) refl

step-found : (k : Kept) (m : Step) → list_any is_founding (step_events k m) ≡ false
step-found k (Stores q) = refl
step-found k (Operates op session terms) = by-change (operation k.ledger op session terms).changes
  where
    by-change : (b : Bool) → list_any is_founding (if b then Acted op session terms ∷ [] else []) ≡ false
    by-change true = refl
    by-change false = refl
step-found k stops.Says = refl

segments-found : (k : Kept) (ms : List Step) → list_any is_founding (segments k ms) ≡ false
segments-found k [] = refl
segments-found k (m ∷ ms) = list_any-append is_founding (step_events k m) (segments (after_step k m) ms) ∙ neither _ _ (step-found k m) (segments-found (after_step k m) ms)

prefix-founds : (n : ℕ) (es : List DiskEvent) → list_any is_founding es ≡ false → list_any is_founding (take n es) ≡ false
prefix-founds n es e = first-none _ _ (sym (list_any-append is_founding (take n es) (drop n es)) ∙ ap (list_any is_founding) (take-append-drop n es) ∙ e)

same-genesis : (o : Option Book) (f : Founding) → is_some o ≡ true → option_map (λ (y : Book). y.genesis) o ≡ Some f → (book : Book) × (o ≡ Some book) × (book.genesis ≡ f)
same-genesis None f is e = absurd (cc is)
same-genesis (Some book) f is e = (book, refl, some-is e)

formed-by : (state : GatewayState) (setup : Setup) (xs : List Stored) → Holds state setup xs → IsFormed (journaled.Setup setup)
unfolding Holds
formed-by state setup xs holds = holds.formed

-- ---- the call

module _ (st : Setting) (a b : Founding) (g : Gateway) (setup : Setup) (x : Stage) (kind : LedgerKind) (call : Call) (events pick : ℕ) (old new : Seat)
    (sits : SitsOpen st a b g setup x.world (Some (Stops events pick)) old) (may : MayCall st x.world g call) (stop : WasStopped st g setup x kind call events old new) where
  -- what the site's calls leave, whichever they were
  kept : KeepsSite kind old.book new.book old.disk new.disk
  kept = calls_keep kind old.book new.book old.disk new.disk stop.was.beside

  abbrev w : World
  w = x.world

  abbrev side : Side
  side = side_at w g

  abbrev moves : List Move
  moves = call_moves st w g call

  abbrev k : Kept
  k = kept_of JournalA setup side

  abbrev whole : List DiskEvent
  whole = segments k (steps_of moves)

  breaks : Breaks old.gateway setup side moves (told_of old.disk) new.gateway (tells_at new)
  breaks = subst (λ (p : Party). Breaks old.gateway setup side (run_of p side call).moves (told_of old.disk) new.gateway (tells_at new)) sits.opened.stands.party (stop.was.answers.run setup side (told_of old.disk) sits.opened.stands.at)

  new-told : breaks.1.0 ≡ told_of new.disk
  new-told = some-is (sym breaks.1.1)

  cut : (es : List DiskEvent) × IsCut whole es × (trail_of new.disk ≡ extended (trail_of old.disk) es)
  cut =
      let stops : StopsIn k (steps_of moves) (told_of old.disk) breaks.1.0 = subst (λ (area : Area). StopsIn (kept_of area setup side) (steps_of moves) (told_of old.disk) breaks.1.0) sits.opened.area breaks.1.2 in
      let (es, is, trail) = (steps_tell (told_of old.disk) breaks.1.0 k (steps_of moves)).1 stops in
      (es, is, ap (λ (t : Told). t.trail) (sym new-told) ∙ trail)

  -- as many as were left
  many : length cut.0 ≡ events
  many =
      let at : new.disk.stop ≡ Some (record { at = length old.disk.events.items + events; pick = pick }) = kept.disk.stop ∙ sits.bound.0 in
      let reached : nat_le (length old.disk.events.items + events) (length new.disk.events.items) ≡ true = subst (λ (s : Option Stop). is_reached s (length new.disk.events.items) ≡ true) at stop.stopped in
      let within : IsWithin (Some (record { at = length old.disk.events.items + events; pick = pick })) (length old.disk.events.items) (length new.disk.events.items) =
      subst (λ (s : Option Stop). IsWithin s (length old.disk.events.items) (length new.disk.events.items)) sits.bound.0 kept.disk.within in
      let all : length new.disk.events.items ≡ length (old.disk.events.items ++ cut.0) = ap (λ (t : Trail). length t.events) cut.2 in
      omega (arith, leb-true (length old.disk.events.items + events) (length new.disk.events.items) reached, within, all, length-append old.disk.events.items cut.0)

  first-events : cut.0 ≡ take events whole
  first-events =
      let plain : is_plain (old.disk.events.items ++ cut.0) ≡ true = subst (λ (t : Trail). is_plain t.events ≡ true) cut.2 new.disk.plain in
      let (n, is) = plain-cut whole cut.0 cut.1 (plain-later old.disk.events.items cut.0 plain) in
      is ∙ sym (take-own n whole) ∙ ap (λ (l : List DiskEvent). take (length l) whole) (sym is) ∙ ap (λ (m : ℕ). take m whole) many

  ends : Ends JournalA setup side moves events pick
  ends = ends-in JournalA setup pick side moves events (omega (arith, stop.short, all-costs JournalA setup side moves))

  -- ---- the moves that were made

  abbrev n : ℕ
  n = length ends.done

  first-made : take n moves ≡ ends.done
  first-made = ap (take n) ends.split ∙ take_at ends.done (ends.move ∷ ends.rest) n refl

  still-left : drop n moves ≡ ends.move ∷ ends.rest
  still-left = ap (drop n) ends.split ∙ drop_at ends.done (ends.move ∷ ends.rest) n refl

  abbrev After : ℕ → World
  After m = after_event st w (Stopped g call m)

  after-reached : (m : ℕ) → Reached st a b (After m)
  after-reached m = events-reach st a b w sits.opened.reached (Stopped g call m ∷ []) (may, tt)

  side-then : (m : ℕ) → side_at (After m) g ≡ moved_by side (take m moves)
  side-then m = side-after w g _ _

  log-done : IsLog (party_of setup) (moved_by side ends.done).records
  log-done =
      subst (λ (p : Party). IsLog p (moved_by side ends.done).records) (sym sits.opened.stands.party)
      (subst (λ (s : Side). IsLog (party_at st g) s.records) (side-then n ∙ ap (moved_by side) first-made) (logs-kept st a b (After n) (after-reached n) g))

  -- the trail at the moves that were made
  abbrev t1 : Trail
  t1 = extended (trail_of old.disk) (segments k (steps_of ends.done))

  abbrev torn-events : List DiskEvent
  torn-events = take ends.left (step_events (kept_of JournalA setup (moved_by side ends.done)) (step_of ends.move))

  trail-is : trail_of new.disk ≡ extended t1 torn-events
  trail-is = cut.2 ∙ ap (extended (trail_of old.disk)) (first-events ∙ ends.made) ∙ sym (extended_twice (trail_of old.disk) (segments k (steps_of ends.done)) torn-events)

  keeps-all : KeepsModel (extended t1 torn-events)
  keeps-all = subst KeepsModel trail-is (λ area. plain_keeps area (settled ((trail_of new.disk).start area)) new.disk.events.items new.disk.plain)

  rests-first : RestsIn (trail_of old.disk) k []
  rests-first =
      let book : side.book ≡ record { genesis = founding_at a b g; entries = entries_of old.disk } = some-is (sym sits.opened.stands.at.ledger ∙ sits.ledger) in
      let rests : RestsAt (trail_of old.disk) JournalA (payloads_of setup side.records) = subst (λ (area : Area). RestsAt (trail_of old.disk) area (payloads_of setup side.records)) sits.opened.area sits.opened.stands.at.rests in
      record { ledger = ap (λ (y : Book). y.entries) (sym book); images = λ image here. inl (rests image here) }

  rests-then : RestsIn t1 (kept_of JournalA setup (moved_by side ends.done)) []
  rests-then = points-end (trail_of old.disk) JournalA setup side ends.done log-done rests-first (keeps_before t1 torn-events keeps-all)

  goes-left : AreMoves (party_at st g) (moved_by side ends.done) (After n).bag (ends.move ∷ ends.rest)
  goes-left =
      subst (λ (l : List Move). AreMoves (party_at st g) (moved_by side ends.done) (After n).bag l) still-left
      (subst (λ (s : Side). AreMoves (party_at st g) s (After n).bag (drop n moves)) (side-then n ∙ ap (moved_by side) first-made) (rest-goes st a b w sits.opened.reached g call may n))

  -- ---- what is left

  module _ (u : Trail) (begins : BeginsPicked (extended t1 torn-events) pick u) where
    abbrev Point : ℕ → Type 0
    Point m = RestsIn u (kept_of JournalA setup (moved_by side (take m moves))) (steps_of (drop m moves)) × Stands (u.start JournalA) (payloads_of setup (moved_by side (take m moves)).records)

    abbrev With : List Move → List Move → Type 0
    With made rest = RestsIn u (kept_of JournalA setup (moved_by side made)) (steps_of rest) × Stands (u.start JournalA) (payloads_of setup (moved_by side made).records)

    point-of : (m : ℕ) (made rest : List Move) → take m moves ≡ made → drop m moves ≡ rest → With made rest → Point m
    point-of m made rest e f is = subst (λ (l : List Move). With l (drop m moves)) (sym e) (subst (With made) (sym f) is)

    abbrev Ways : Bool → Stored → Type 0
    Ways true y = With (ends.done ++ Appends y ∷ []) ends.rest
    Ways false y = With ends.done (Appends y ∷ ends.rest)

    one-later : (y : Stored) → ends.move ≡ Appends y → moves ≡ (ends.done ++ Appends y ∷ []) ++ ends.rest
    one-later y e = ends.split ∙ ap (λ (m : Move). ends.done ++ m ∷ ends.rest) e ∙ sym (append_assoc ends.done (Appends y ∷ []) ends.rest)

    by-stand : (y : Stored) → ends.move ≡ Appends y → (b : Bool) → Ways b y → Point (n + (if b then 1 else 0))
    by-stand y e false is =
        point-of (n + 0) ends.done (Appends y ∷ ends.rest) (ap (λ (i : ℕ). take i moves) (omega arith) ∙ first-made) (ap (λ (i : ℕ). drop i moves) (omega arith) ∙ still-left ∙ ap (λ (m : Move). m ∷ ends.rest) e) is
    by-stand y e true is =
        let made = ends.done ++ Appends y ∷ [] in
        let long : length made ≡ n + 1 = length-append ends.done (Appends y ∷ []) in
        point-of (n + 1) made ends.rest (ap (take (n + 1)) (one-later y e) ∙ take_at made ends.rest (n + 1) long) (ap (drop (n + 1)) (one-later y e) ∙ drop_at made ends.rest (n + 1) long) is

    -- the move that the stop came into
    by-move : (m : Move) → ends.move ≡ m → (stand : Bool) → stands m ends.left pick ≡ stand → Torn m ends.left → Point (n + (if stand then 1 else 0))
    by-move (Says t) e stand s torn = absurd torn
    by-move (Acts s op terms) e true is torn = absurd (cc is)
    by-move (Acts s op terms) e false is torn =
        let none : torn-events ≡ [] = ap (λ (i : ℕ). take i (step_events (kept_of JournalA setup (moved_by side ends.done)) (step_of ends.move))) torn in
        let at : BeginsPicked t1 pick u = subst (λ (v : Trail). BeginsPicked v pick u) (ap (extended t1) none ∙ extended_none t1) begins in
        let here = still setup side ends.done pick t1 u rests-then (keeps_before t1 torn-events keeps-all) (ends.move ∷ ends.rest) at in
        point-of (n + 0) ends.done (ends.move ∷ ends.rest) (ap (λ (i : ℕ). take i moves) (omega arith) ∙ first-made) (ap (λ (i : ℕ). drop i moves) (omega arith) ∙ still-left) here
    by-move (Appends y) e stand is torn =
        let moves-left : AreMoves (party_at st g) (moved_by side ends.done) (After n).bag (Appends y ∷ ends.rest) = subst (λ (m : Move). AreMoves (party_at st g) (moved_by side ends.done) (After n).bag (m ∷ ends.rest)) e goes-left in
        let log : IsLog (party_at st g) (moved_by side ends.done).records = subst (λ (p : Party). IsLog p (moved_by side ends.done).records) sits.opened.stands.party log-done in
        let ok : IsPayload (payload_in y) = payloads_fit (journaled.Session y.session y.rec y.text) (formed-record (party_at st g) (moved_by side ends.done).records y log moves-left.0.may_come) in
        let kept : KeepsModel (extended t1 (take ends.left (step_events (kept_of JournalA setup (moved_by side ends.done)) (step_of (Appends y))))) = subst (λ (m : Move). KeepsModel (extended t1 (take ends.left (step_events (kept_of JournalA setup (moved_by side ends.done)) (step_of m))))) e keeps-all in
        let at : BeginsPicked (extended t1 (take ends.left (step_events (kept_of JournalA setup (moved_by side ends.done)) (step_of (Appends y))))) pick u = subst (λ (m : Move). BeginsPicked (extended t1 (take ends.left (step_events (kept_of JournalA setup (moved_by side ends.done)) (step_of m)))) pick u) e begins in
        let left : Ways (stands (Appends y) ends.left pick) y = append-by setup side ends.done pick t1 u rests-then (keeps_before t1 torn-events keeps-all) y ends.rest ok ends.left kept at (λ b. Ways b y) (λ h. h) (λ h. h) torn in
        by-stand y e stand (subst (λ (b : Bool). Ways b y) is left)

    -- the bench's point
    abbrev extra : ℕ
    extra = if stands ends.move ends.left pick then 1 else 0

    point : Point (n + extra)
    point = by-move ends.move refl (stands ends.move ends.left pick) refl ends.torn

    is-left : IsLeft st a b g setup (After (n + extra)) u
    is-left =
        let m = n + extra in
        let ms = drop m moves in
        let here : RestsIn u (kept_of JournalA setup (side_at (After m) g)) (steps_of ms) = subst (λ (s : Side). RestsIn u (kept_of JournalA setup s) (steps_of ms)) (sym (side-then m)) point.0 in
        record {
          closed = record {
            reached = after-reached m;
            party = sits.opened.stands.party;
            formed = formed-by old.gateway setup side.records sits.opened.stands.at.holds;
            next = stored-first ms;
            may = first-goes (party_at st g) (side_at (After m) g) (After m).bag ms (rest-goes st a b w sits.opened.reached g call may m);
            rests = first-rests u (kept_of JournalA setup (side_at (After m) g)) ms here;
          };
          stands = subst (λ (l : List ℕ). Stands l (payloads_of setup (side_at (After m) g).records)) (sym (seen-first u JournalA begins.none))
              (subst (λ (s : Side). Stands (u.start JournalA) (payloads_of setup s.records)) (sym (side-then m)) point.1);
        }

  -- ---- its ledger

  added-is : kept.disk.added ≡ take events whole
  added-is =
      let old-events = old.disk.events.items in
      let both : old-events ++ kept.disk.added ≡ old-events ++ cut.0 = ap (λ (t : Trail). t.events) (sym kept.disk.trail ∙ cut.2) in
      sym (drop_at old-events kept.disk.added (length old-events) refl) ∙ ap (drop (length old-events)) both ∙ drop_at old-events cut.0 (length old-events) refl ∙ first-events

  founded-none : list_any is_founding kept.disk.added ≡ true → ⊥
  founded-none e = let no : list_any is_founding (take events whole) ≡ false = prefix-founds events whole (segments-found k (steps_of moves)) in cc (sym e ∙ ap (list_any is_founding) added-is ∙ no)

  now-ledger : new.book ≡ Some (record { genesis = founding_at a b g; entries = entries_of new.disk })
  now-ledger = by-cause kept.genesis
    where
      by-cause : (list_any is_founding kept.disk.added ≡ true) ⊎ (option_map (λ (y : Book). y.genesis) new.book ≡ option_map (λ (y : Book). y.genesis) old.book) ⊎ ((new.book ≡ None) × Rose old.disk.calls.faults new.disk.calls.faults)
          → new.book ≡ Some (record { genesis = founding_at a b g; entries = entries_of new.disk })
      by-cause (inl founded) = absurd (founded-none founded)
      by-cause (inr (inl same)) =
          let (book, is, genesis) = same-genesis new.book (founding_at a b g) stop.ledger (same ∙ ap (option_map (λ (y : Book). y.genesis)) sits.ledger) in
          ledger-told new (founding_at a b g) book stop.was.ledger is genesis
      by-cause (inr (inr (none, rose))) = absurd (cc (sym stop.ledger ∙ ap is_some none))

  -- ---- the stage

  abbrev made-now : ℕ
  made-now = n + (if stands ends.move ends.left pick then 1 else 0)

  now-broken : SitsBroken st a b g setup (After made-now) new
  now-broken = record {
    broken = breaks.0;
    ledger = now-ledger;
    names = names-none-on old.disk new.disk kept.disk sits.bound.1;
    left = λ again begins. is-left again (subst (λ (t : Trail). BeginsPicked t pick again) trail-is
        (subst (λ (s : Option Stop). BeginsPicked (trail_of new.disk) (pick_of s) again) (kept.disk.stop ∙ sits.bound.0) begins));
  }

  module _ (e : bench_at x g ≡ Works (Some (Stops events pick))) where
    stage-is : called st x g call ≡ with_bench (After made-now) x g Broken
    stage-is = ap (called_at st x g call) e ∙ ap (runs_course st x g call) ends.goes

    bench-is : bench_at (called st x g call) g ≡ Broken
    bench-is = ap (λ (y : Stage). bench_at y g) stage-is ∙ bench-with (After made-now) x g Broken

    goes-by-stop : Sits st a b g setup (called st x g call) new × (bench_at (called st x g call) g ≡ Broken) × ShowsAt (bench_at x g) (answered st x g call) (Err refused.Site)
    goes-by-stop = (
      subst (λ (y : Stage). Sits st a b g setup y new) (sym stage-is) (sits-with st a b g setup (After made-now) x Broken new now-broken),
      bench-is,
      subst (λ (bench : Bench). ShowsAt bench (answered st x g call) (Err refused.Site)) (sym e)
          (subst (λ (o : _). ShowsAt (Works (Some (Stops events pick))) o (Err refused.Site)) (sym (ap (answer_at (run_of (party_at st g) side call)) bench-is)) refl),
    )

pub stops-go-by-bench : StopsGoByBench
stops-go-by-bench st a b g setup x kind call events pick old new sits e may stop =
    goes-by-stop st a b g setup x kind call events pick old new (subst (λ (bench : Bench). SitsBy st a b g setup x.world bench old) e sits) may stop e
