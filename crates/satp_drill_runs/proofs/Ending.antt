-- Each list of lines has one drill, and how it ends.
use Rattle.std.proofs.Common.{◌≡◌, Bool, true, false, List, [], ◌∷◌, Option, Some, None, refl, sym, ap, subst, ◌∙◌}
use Rattle.std.specs.Prelude.{filter, is_some, not, if◌then◌else◌}
use Rattle.satp_base.proofs.Finite.{In}
use Rattle.satp_base.proofs.Finite.In.{here, there}
use Rattle.satp_base.proofs.GenesisLemmas.{names_refl}
use Rattle.satp_base.specs.Founding.{equal_names}
use Rattle.satp_base.specs.Tales.{is_committed, is_rolled_back, is_whole}
use Rattle.satp_base.specs.declared.session.SessionId.{SessionId}
use Rattle.satp_base.specs.declared.view.View.{View}
use Rattle.satp_schedule.specs.declared.line.Line.{Line}
use Rattle.satp_schedule.specs.declared.line.Line.TheVariants as line
use Rattle.satp_schedule.specs.declared.line.Side.{Side}
use Rattle.satp_schedule.specs.declared.line.Side.TheVariants as side
use Rattle.satp_sides.proofs.Records.{is-session}
use Rattle.satp_sides.specs.Points.{is_session, tale_of, view_in}
use Rattle.satp_world.proofs.TotalLaw.{law_total}
use Rattle.satp_world.specs.Totals.{AllSettled}
use Rattle.satp_world.specs.Worlds.{Gateway, IsSettledAt, Reached, World, name_at, side_at}
use Rattle.satp_world.specs.Worlds.Gateway.{A, B}
use Rattle.satp_world.specs.Worlds.Reached.{Begins}
use Rattle.satp_drill_runs.specs.Commands.{DoesAll, Drilling, gateway_of}
use Rattle.satp_drill_runs.specs.Drills.{AreRecovered, DrillRun, beginning, drill_setting, founded_a, founded_b}
use Rattle.satp_drill_runs.specs.Laws.{DrillsFinish, DrillsRun, IsFinished, LinesReach}
use Rattle.satp_drill_runs.specs.Reports.{alpha, and_before, gold, is_begun, name_of, of_side, origin_of, report_of, session_of, sessions_of, started, tale_at}
use Rattle.satp_drill_runs.proofs.Counting.{IsOneOf, sorted, sum-of}
use Rattle.satp_drill_runs.proofs.Following.{AllStart, Stands, all-one, started-side}
use Rattle.satp_drill_runs.proofs.Playing.{One}
use Rattle.satp_drill_runs.proofs.Rounding.{AllRecovered, all-recovered-one}

-- ---- the sessions of lines

in-cons : (P : SessionId → Type 0) (x s : SessionId) (ys : List SessionId) → P x → ((t : SessionId) → In t ys → P t) → In s (x ∷ ys) → P s
in-cons P _ _ ys p h here = p
in-cons P x s ys p h (there i) = h s i

in-if : (f : SessionId → Bool) (x : SessionId) (xs : List SessionId) (b : Bool) → ((t : SessionId) → In t (filter f xs) → In t xs) → (s : SessionId) → In s (if b then x ∷ filter f xs else filter f xs) → In s (x ∷ xs)
in-if f x xs false h s i = there (h s i)
in-if f x xs true h s i = in-cons (λ t. In t (x ∷ xs)) x s (filter f xs) here (λ t j. there (h t j)) i

in-filter : (f : SessionId → Bool) (xs : List SessionId) (s : SessionId) → In s (filter f xs) → In s xs
in-filter f [] s i = i
in-filter f (x ∷ xs) s i = in-if f x xs (f x) (in-filter f xs) s i

into-filter : (f : SessionId → Bool) (s : SessionId) (xs : List SessionId) → f s ≡ true → In s xs → In s (filter f xs)
into-filter f s _ e (here {xs = xs}) = subst (λ (b : Bool). In s (if b then s ∷ filter f xs else filter f xs)) (sym e) here
into-filter f s _ e (there {y = y} {xs = xs} i) = by (f y) (into-filter f s xs e i)
  where
    by : (b : Bool) → In s (filter f xs) → In s (if b then y ∷ filter f xs else filter f xs)
    by true j = there j
    by false j = j

first-in : (o : Option SessionId) (ss : List SessionId) (s : SessionId) → o ≡ Some s → In s (and_before o ss)
first-in None ss s e = absurd (cc e)
first-in (Some t) ss s e = subst (λ z. In z (and_before (Some t) ss)) (let same : t ≡ s = cc e in same) here

rest-in : (o : Option SessionId) (ss : List SessionId) (s : SessionId) → In s ss → In s (and_before o ss)
rest-in None ss s i = i
rest-in (Some t) ss s i = by (is_session t s) refl
  where
    by : (b : Bool) → is_session t s ≡ b → In s (and_before (Some t) ss)
    by true e = subst (λ z. In z (and_before (Some t) ss)) (is-session t s e) here
    by false e = there (into-filter (λ u. not (is_session t u)) s ss (ap not e) i)

pub back-in : (Q : SessionId → Type 0) (o : Option SessionId) (ss : List SessionId) (s : SessionId) → In s (and_before o ss) → ((t : SessionId) → o ≡ Some t → Q t) → ((t : SessionId) → In t ss → Q t) → Q s
back-in Q None ss s i p q = q s i
back-in Q (Some t) ss s i p q = in-cons Q t s (filter (λ u. not (is_session t u)) ss) (p t refl) (λ u j. q u (in-filter (λ x. not (is_session t x)) ss u j)) i

-- which side starts a session of lines
line-side : (l : Line) (s : SessionId) → session_of l ≡ Some s → (at : Side) × (s.gateway ≡ name_of at)
line-side (line.Start at number asset amount originator beneficiary) s e = (at, started-side at number s e)
line-side (line.Resume at t) s e = absurd (cc e)
line-side (line.Recover at t) s e = absurd (cc e)
line-side (line.Abort at t) s e = absurd (cc e)
line-side (line.Deliver at n) s e = absurd (cc e)
line-side (line.Stop at event pick) s e = absurd (cc e)
line-side (line.Fail at call) s e = absurd (cc e)
line-side (line.Lose n) s e = absurd (cc e)
line-side (line.Twice n) s e = absurd (cc e)

sides-of : (lines : List Line) (s : SessionId) → In s (sessions_of lines) → (at : Side) × (s.gateway ≡ name_of at)
sides-of [] s i = elim i [ ]
sides-of (l ∷ lines) s i = back-in (λ t. (at : Side) × (t.gateway ≡ name_of at)) (session_of l) (sessions_of lines) s i (line-side l) (sides-of lines)

pub names : (at : Side) → name_at drill_setting (gateway_of at) ≡ name_of at
names side.A = refl
names side.B = refl

pub origin-at : (at : Side) (s : SessionId) → s.gateway ≡ name_of at → origin_of s ≡ at
origin-at side.A s e = ap (λ (b : Bool). if b then side.A else side.B) (ap (λ n. equal_names n alpha) e ∙ names_refl alpha)
origin-at side.B s e = ap (λ (b : Bool). if b then side.A else side.B) (ap (λ n. equal_names n alpha) e)

origin-is : (g : Gateway) (s : SessionId) → s.gateway ≡ name_at drill_setting g → gateway_of (origin_of s) ≡ g
origin-is A s e = ap gateway_of (origin-at side.A s e)
origin-is B s e = ap gateway_of (origin-at side.B s e)

pub owns : (lines : List Line) (s : SessionId) → In s (sessions_of lines) → s.gateway ≡ name_at drill_setting (gateway_of (origin_of s))
owns lines s i = let (at, e) = sides-of lines s i in e ∙ sym (names at) ∙ ap (λ x. name_at drill_setting (gateway_of x)) (sym (origin-at at s e))

-- the records of a side
pub records-of : (w : World) (at : Side) → of_side at w.a.records w.b.records ≡ (side_at w (gateway_of at)).records
records-of w side.A = refl
records-of w side.B = refl

-- ---- both parts of a drill

module _ (Q : SessionId → Type 0) where
  all-start : (lines : List Line) → ((s : SessionId) → In s (sessions_of lines) → Q s) → AllStart drill_setting founded_a founded_b (λ g s. Q s) names lines
  all-start [] h = tt
  all-start (line.Start at number asset amount originator beneficiary ∷ lines) h =
      (λ s e. h s (first-in (started at number) (sessions_of lines) s e), all-start lines (λ s i. h s (rest-in (started at number) (sessions_of lines) s i)))
  all-start (line.Resume at t ∷ lines) h = (tt, all-start lines h)
  all-start (line.Recover at t ∷ lines) h = (tt, all-start lines h)
  all-start (line.Abort at t ∷ lines) h = (tt, all-start lines h)
  all-start (line.Deliver at n ∷ lines) h = (tt, all-start lines h)
  all-start (line.Stop at event pick ∷ lines) h = (tt, all-start lines h)
  all-start (line.Fail at call ∷ lines) h = (tt, all-start lines h)
  all-start (line.Lose n ∷ lines) h = (tt, all-start lines h)
  all-start (line.Twice n ∷ lines) h = (tt, all-start lines h)

  at-first : Stands drill_setting founded_a founded_b (λ g s. Q s) beginning
  at-first = record { reached = Begins; sent = λ t i. i; named = no-names }
    where
      no-names : (g : Gateway) (s : SessionId) (v : View) → s.gateway ≡ name_at drill_setting g → view_in s (side_at beginning.world g).records ≡ Some v → Q s
      no-names A s v own e = absurd (cc e)
      no-names B s v own e = absurd (cc e)

  pub lines-one : (lines : List Line) → ((s : SessionId) → In s (sessions_of lines) → Q s) → One (Stands drill_setting founded_a founded_b (λ g s. Q s)) (DoesAll drill_setting beginning lines)
  lines-one lines h = all-one drill_setting founded_a founded_b (λ g s. Q s) names beginning at-first lines (all-start lines h)

pub lines-reach : LinesReach
lines-reach lines d does =
    let one = lines-one (λ s. Unit {0}) lines (λ s i. tt) in
    subst (λ (x : Drilling). Reached drill_setting founded_a founded_b x.world) (sym (one.only d does)) one.good.reached

-- ---- the end

module _ (lines : List Line) where
  abbrev ss : List SessionId
  ss = sessions_of lines

  module _ (d : Drilling) (stands : Stands drill_setting founded_a founded_b (λ g s. In s (sessions_of lines)) d) (w : World)
      (ends : AllRecovered drill_setting (λ g s. (x : View) × (view_in s (side_at d.world g).records ≡ Some x)) founded_a founded_b d.world (sessions_of lines) w) where
    all-settled : AllSettled drill_setting w
    all-settled g s v own e =
        let (x, named) = ends.further.named (λ q t y o h. (y, h)) g s v own e in
        let here = origin-is g s own in
        subst (λ q. IsSettledAt w q s) here (ends.settled s (stands.named g s x own named) x (ap (λ q. view_in s (side_at d.world q).records) here ∙ named))

    whole-if : (s : SessionId) → In s (sessions_of lines) → (o : Option View) → view_in s (of_side (origin_of s) w.a.records w.b.records) ≡ o → is_some o ≡ true → is_whole (tale_of o) ≡ true
    whole-if s i None e h = absurd (cc h)
    whole-if s i (Some v) e h =
        let at = origin_of s in
        let named : view_in s (side_at w (gateway_of at)).records ≡ Some v = ap (view_in s) (sym (records-of w at)) ∙ e in
        let settled = all-settled (gateway_of at) s v (owns lines s i) named in
        ap (λ o. is_whole (tale_of o)) (sym named) ∙ settled.1.1

    one-end : (s : SessionId) → In s (sessions_of lines) → IsOneOf (is_committed (tale_at w.a.records w.b.records s)) (is_rolled_back (tale_at w.a.records w.b.records s)) (not (is_begun w.a.records w.b.records s))
    one-end s i = let o = view_in s (of_side (origin_of s) w.a.records w.b.records) in sorted o (whole-if s i o refl)

    finished : IsFinished lines w
    unfolding report_of
    finished = record {
      reached = ends.reached;
      settled = all-settled;
      counts = sum-of (λ s. is_committed (tale_at w.a.records w.b.records s)) (λ s. is_rolled_back (tale_at w.a.records w.b.records s)) (λ s. not (is_begun w.a.records w.b.records s)) (sessions_of lines) one-end;
      free_gold = (law_total drill_setting founded_a founded_b w ends.reached gold).settled all-settled;
    }

  drill-one : One (IsFinished lines) (DrillRun lines)
  drill-one =
      let m = lines-one (λ s. In s (sessions_of lines)) lines (λ s i. i) in
      let d = m.it in
      let e = all-recovered-one drill_setting (λ g s. (x : View) × (view_in s (side_at d.world g).records ≡ Some x)) founded_a founded_b d.world m.good.reached (sessions_of lines) (owns lines) in
      record {
        it = e.it;
        is = record { between = d; does = m.is; recovered = e.is };
        good = finished d m.good e.it e.good;
        only = λ z p. e.only z (subst (λ (x : Drilling). AreRecovered drill_setting x.world (sessions_of lines) z) (m.only p.between p.does) p.recovered);
      }

pub drills-run : DrillsRun
drills-run lines = let one = drill-one lines in (one.it, one.is, one.only)

pub drills-finish : DrillsFinish
drills-finish lines w run = let one = drill-one lines in subst (IsFinished lines) (sym (one.only w run)) one.good
