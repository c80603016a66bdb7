-- A site that begins again, and a gateway that is opened there.
use Rattle.std.proofs.Common.{◌≡◌, ℕ, zero, suc, false, List, [], ◌∷◌, length, Option, Some, None, Ok, refl, sym, ap, ap₂, subst, ◌∙◌, arith, length-append}
use Rattle.std.specs.Prelude.{◌<◌, ◌==◌, take}
use Rattle.std.specs.List.{list_any}
use Rattle.std.proofs.lemmas.List.{length-map}
use Rattle.satp_base.specs.Calls.{Told}
use Rattle.satp_base.specs.Format.{Stands}
use Rattle.satp_base.specs.Founding.{Founding}
use Rattle.satp_base.specs.LedgerAt.{ledger_at}
use Rattle.satp_base.specs.Ledgers.{Entries}
use Rattle.satp_base.specs.Trail.{Trail, IsImage, KeepsModel, seen}
use Rattle.satp_base.specs.declared.area.Area.{Area}
use Rattle.satp_base.specs.declared.area.Area.TheVariants.{JournalA}
use Rattle.satp_base.specs.declared.area.Event.{Event as DiskEvent}
use Rattle.satp_base.specs.declared.ledger.LedgerKind.{LedgerKind}
use Rattle.satp_base.proofs.Closing.{rest_stands}
use Rattle.satp_base.proofs.Readings.{one_list}
use Rattle.satp_memory.specs.Calling.{Calling}
use Rattle.satp_memory.specs.Following.{KeepsSite}
use Rattle.satp_memory.specs.Steps.{Restarts, entries_before, entries_of, told_of, trail_of}
use Rattle.satp_memory.specs.Stopping.{pick_of}
use Rattle.satp_memory.proofs.Keeping.{calls_keep}
use Rattle.satp_memory.specs.declared.disk.MemDisk.{MemDisk}
use Rattle.satp_gateway.specs.Opening.{GatewayOpens, IsOf}
use Rattle.satp_gateway.specs.SettingUp.{Opens}
use Rattle.satp_gateway.proofs.Deciding.{opens_stands}
use Rattle.satp_log.specs.Journals.{payload_in, payloads_of}
use Rattle.satp_log.proofs.JournalLemmas.{one-journal}
use Rattle.satp_points.specs.States.{GatewayState, Holds, Tells, area_of}
use Rattle.satp_records.specs.declared.stored.Setup.{Setup}
use Rattle.satp_sides.specs.Points.{Side, Stored, moved_by}
use Rattle.satp_world.specs.Histories.{after_moves}
use Rattle.satp_world.specs.Worlds.{Gateway, Setting, World, side_at}
use Rattle.satp_world.specs.Worlds.Gateway.{A, B}
use Rattle.satp_life_laws.specs.Closed.{IsOpen, TellsLedger, append_of, founding_at}
use Rattle.satp_life_laws.proofs.ClosedLaw.{again-stays-closed, leavings-close}
use Rattle.satp_life_laws.proofs.Founded.{founded-at}
use Rattle.satp_life_laws.proofs.OpenedLaw.{openings-stand}
use Rattle.satp_life_laws.proofs.Points.{side-after}
use Rattle.satp_drill_runs.specs.Benches.{Bench, Works, Broken, Stops, Fails, Stage, bench_at}
use Rattle.satp_bench_laws.specs.Laws.{IsDown, OpeningsWork, WasOpened}
use Rattle.satp_bench_laws.specs.Seats.{BeginsPicked, IsLeft, NamesNone, Seat, SitsBy, SitsOpen, tells_at}
use Rattle.satp_bench_laws.proofs.CallLaw.{ledger-told, names-none-on}
use Rattle.satp_bench_laws.proofs.Stages.{sits-with}

some-is : {T : Type 0} {x y : T} → Some x ≡ Some y → x ≡ y
some-is e = cc e

-- ---- a site that begins again

pub begins-picked : (old again : MemDisk) → Restarts old again → BeginsPicked (trail_of old) (pick_of old.stop) (trail_of again)
begins-picked old again r = record { none = r.events; picked = r.picked; areas = r.images; entries = r.entries }

-- what it reads as is what it began with
pub seen-first : (t : Trail) (area : Area) → t.events ≡ [] → seen t area ≡ t.start area
seen-first t area none = ap (λ (es : List DiskEvent). seen (record t { events = es }) area) none

first-keeps : (t : Trail) → t.events ≡ [] → KeepsModel t
first-keeps t none = subst (λ (es : List DiskEvent). KeepsModel (record t { events = es })) (sym none) (λ area. tt)

-- ---- the world of an open gateway

module _ (st : Setting) (a b : Founding) (g : Gateway) (setup : Setup) (w : World) where
  open-left : (state : GatewayState) (site : Tells) (t : Told) (pick : ℕ) (u : Trail) → IsOpen st a b g setup w state site t → TellsLedger (founding_at a b g) site t → BeginsPicked t.trail pick u → IsLeft st a b g setup w u
  open-left state site t pick u is tells begins =
      let image : IsImage t.trail JournalA (u.start JournalA) = begins.areas JournalA in
      let there : IsImage t.trail (area_of state) (u.start JournalA) = subst (λ (area : Area). IsImage t.trail area (u.start JournalA)) (sym is.area) image in
      let rests : Stands (u.start JournalA) (payloads_of setup (side_at w g).records) = rest_stands (payloads_of setup (side_at w g).records) (u.start JournalA) (is.stands.at.rests (u.start JournalA) there) in
      record {
        closed = again-stays-closed st a b g setup w t.trail u (leavings-close st a b g setup w state site t is tells) (record { areas = begins.areas; entries = begins.entries; none = begins.none });
        stands = subst (λ (l : List ℕ). Stands l (payloads_of setup (side_at w g).records)) (sym (seen-first u JournalA begins.none)) rests;
      }

  -- ---- the world after an opening

  same-count : (next : Option Stored) (n : ℕ) → length (moved_by (side_at w g) (take n (append_of next))).records ≡ length (side_at w g).records → after_moves w g (take n (append_of next)) ≡ after_moves w g []
  same-count None zero e = refl
  same-count None (suc n) e = refl
  same-count (Some x) zero e = refl
  same-count (Some x) (suc zero) e = absurd (omega (arith, e, length-append (side_at w g).records (x ∷ [])))
  same-count (Some x) (suc (suc n)) e = absurd (omega (arith, e, length-append (side_at w g).records (x ∷ [])))

  same-world : after_moves w g [] ≡ w
  same-world = by-side g
    where
      by-side : (h : Gateway) → after_moves w h [] ≡ w
      by-side A = refl
      by-side B = refl

  many : (xs ys : List Stored) → payloads_of setup xs ≡ payloads_of setup ys → length xs ≡ length ys
  many xs ys e =
      let lengths : length (payloads_of setup xs) ≡ length (payloads_of setup ys) = ap (λ (l : List (List ℕ)). length l) e in
      omega (arith, lengths, length-map xs payload_in, length-map ys payload_in)

  -- the gateway that was opened keeps the records of the payloads
  kept-by : (state : GatewayState) (list : List (List ℕ)) (xs : List Stored) → Holds state setup xs → IsOf list state → list ≡ payloads_of setup xs
  unfolding Holds
  kept-by state list xs holds (other, ys, read, held, whole, area) =
      let same = one-journal state.payloads setup other xs ys holds held in
      read.list ∙ ap₂ payloads_of (sym same.0) (sym same.1)

  opened-in : (state : GatewayState) (before site : Tells) (t : Told) (is : IsLeft st a b g setup w t.trail) → before.told ≡ Some t → TellsLedger (founding_at a b g) before t → KeepsModel t.trail
      → GatewayOpens before site (Ok state) → site.book ≡ before.book → (told : Told) × IsOpen st a b g setup w state site told
  opened-in state before site t is old tells keeps (list, opened, opens, of, told) same =
      let (n, new, open_) = openings-stand st a b g setup w state before site t is.closed old tells keeps (list, opened, opens, of, told) same in
      let moved : Side = moved_by (side_at w g) (take n (append_of is.closed.next)) in
      let there = subst (λ (s : Side). Holds state setup s.records) (side-after w g moved _) open_.stands.at.holds in
      let reads : Stands (seen t.trail JournalA) list = opens_stands list t opened (subst (λ (o : Option Told). Opens list o opened) old opens) in
      let one : list ≡ payloads_of setup (side_at w g).records = one_list (seen t.trail JournalA) list (payloads_of setup (side_at w g).records) reads is.stands in
      let count = many moved.records (side_at w g).records (sym (kept-by state list moved.records there of) ∙ one) in
      (new, subst (λ (v : World). IsOpen st a b g setup v state site new) (same-count is.closed.next n count ∙ same-world) open_)

-- ---- the law

module _ (st : Setting) (a b : Founding) (g : Gateway) (setup : Setup) (x : Stage) (kind : LedgerKind) (old : Seat) (again : MemDisk) (new : Seat) (was : WasOpened kind old again new) where
  -- what the site's calls leave, whichever they were
  kept : KeepsSite kind old.book new.book again new.disk
  kept = calls_keep kind old.book new.book again new.disk was.beside

  -- its ledger is told as before
  again-tells : TellsLedger (founding_at a b g) (tells_at old) (told_of old.disk) → TellsLedger (founding_at a b g) (tells_at (record old { disk = again })) (told_of again)
  again-tells is =
      let entries : ledger_at (entries_before again) again.events.items ≡ entries_of old.disk = ap (ledger_at (entries_before again)) was.restarts.events ∙ was.restarts.entries in
      is ∙ ap (λ (e : Entries). Some (record { genesis = founding_at a b g; entries = e })) (sym entries)

  again-names : NamesNone old.disk → NamesNone again
  again-names is = subst (λ (c : Calling). (n : ℕ) → c.count < n → list_any (λ m. m == n) c.named ≡ false) (sym was.restarts.calls) is

  works : NamesNone old.disk → TellsLedger (founding_at a b g) (tells_at old) (told_of old.disk) → IsLeft st a b g setup x.world (trail_of again) → SitsOpen st a b g setup x.world None new
  works names tells left =
      let (told, is) = opened-in st a b g setup x.world new.gateway (tells_at (record old { disk = again })) (tells_at new) (told_of again) left refl (again-tells tells) (first-keeps (trail_of again) was.restarts.events) was.opens was.same in
      let here : told ≡ told_of new.disk = some-is (sym is.stands.at.told) in
      record {
        opened = subst (λ (t : Told). IsOpen st a b g setup x.world new.gateway (tells_at new) t) here is;
        ledger = ledger-told new (founding_at a b g) (side_at x.world g).book was.ledger is.stands.at.ledger (founded-at st a b x.world is.reached g);
        bound = (kept.disk.stop ∙ was.restarts.stop, names-none-on again new.disk kept.disk (again-names names));
      }

  by-bench : (bench : Bench) → IsDown bench → SitsBy st a b g setup x.world bench old → SitsOpen st a b g setup x.world None new
  by-bench Broken down sits = works sits.names sits.ledger (sits.left (trail_of again) (begins-picked old.disk again was.restarts))
  by-bench (Works (Some (Stops zero pick))) down sits =
      works sits.bound.1 sits.ledger (open-left st a b g setup x.world old.gateway (tells_at old) (told_of old.disk) (pick_of old.disk.stop) (trail_of again) sits.opened sits.ledger (begins-picked old.disk again was.restarts))
  by-bench (Works (Some (Stops (suc n) pick))) down sits = absurd down
  by-bench (Works (Some (Fails n))) down sits = absurd down
  by-bench (Works None) down sits = absurd down

pub openings-work : OpeningsWork
openings-work st a b g setup x kind old again new sits down was =
    sits-with st a b g setup x.world x (Works None) new (by-bench st a b g setup x kind old again new was (bench_at x g) down sits)
