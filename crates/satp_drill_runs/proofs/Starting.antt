-- Starts alone, whose amounts both ledgers accept, commit each session.
use Rattle.std.proofs.Common.{◌≡◌, suc, Bool, true, false, List, [], ◌∷◌, length, Some, None, refl, sym, ap, subst, ◌∙◌, arith}
use Rattle.satp_base.proofs.Finite.{In}
use Rattle.satp_base.proofs.Finite.In.{here, there}
use Rattle.satp_base.specs.Tales.{is_committed}
use Rattle.satp_base.specs.declared.message.Terms.{Terms}
use Rattle.satp_base.specs.declared.session.SessionId.{SessionId}
use Rattle.satp_rounds.proofs.Starting.{transfers-settle-worlds}
use Rattle.satp_schedule.specs.declared.line.Line.{Line}
use Rattle.satp_schedule.specs.declared.line.Line.TheVariants as line
use Rattle.satp_sides.specs.Calls.{Starts}
use Rattle.satp_sides.specs.Points.{Text, tale_of, view_in}
use Rattle.satp_world.specs.Histories.{Called, after_event}
use Rattle.satp_world.specs.Worlds.{Gateway, IsSettledAt, Reached, World, name_at, opposite, party_at, side_at}
use Rattle.satp_world.specs.Worlds.Reached.{Begins}
use Rattle.satp_drill_runs.specs.Benches.{Stage}
use Rattle.satp_drill_runs.specs.Commands.{BeginsOne, Does, DoesAll, Drilling, Drives, begins, gateway_of, no_troubles}
use Rattle.satp_drill_runs.specs.Drills.{AreRecovered, beginning, drill_setting, founded_a, founded_b}
use Rattle.satp_drill_runs.specs.Exchanges.{Exchanges, Posts, calls, follows, follows_call, most_posts, records_at}
use Rattle.satp_drill_runs.specs.Laws.{AreAccepted, IsAccepted, StartsCommit}
use Rattle.satp_drill_runs.specs.Reports.{count_of, origin_of, report_of, sessions_of, started, tale_at}
use Rattle.satp_drill_runs.proofs.Counting.{count-yes}
use Rattle.satp_drill_runs.proofs.Ending.{back-in, lines-one, names, origin-at, owns, records-of}
use Rattle.satp_drill_runs.proofs.Following.{started-side}
use Rattle.satp_drill_runs.proofs.Keeping.{Grows, committed-stays, settled-stays}
use Rattle.satp_drill_runs.proofs.Rounding.{all-recovered-one, call-further, converses-further, further-on, grows-not, grows-on}
use Rattle.satp_drill_runs.proofs.Undisturbed.{free-answered, free-called, played, talk}

abbrev resting : World → List Text → Drilling
resting w sent = record { world = w; sent = sent; limit = None; troubles = no_troubles }

abbrev any_session : Gateway → SessionId → Type 0
any_session g s = Unit {0}

-- settled, and committed
record Committed (w : World) (s : SessionId) (g : Gateway) : Type 0 where
  settled : IsSettledAt w g s
  committed : is_committed (tale_of (view_in s (side_at w g).records)) ≡ true

committed-on : (w v : World) → Reached drill_setting founded_a founded_b w → Reached drill_setting founded_a founded_b v → Grows w v → (s : SessionId) (g : Gateway) → s.gateway ≡ name_at drill_setting g → Committed w s g → Committed v s g
committed-on w v r k grown s g own c = record {
  settled = settled-stays drill_setting founded_a founded_b w v r k grown s g own c.settled;
  committed = committed-stays drill_setting founded_a founded_b w v r k grown s g c.settled c.committed;
}

-- ---- one start

record Started (w : World) (sent : List Text) (g : Gateway) (s : SessionId) (terms : Terms) : Type 0 where
  after : World
  all : List Text
  drives : Drives drill_setting (resting w sent) g (Starts s terms) (resting after all)
  reached : Reached drill_setting founded_a founded_b after
  grows : Grows w after
  committed : Committed after s g

start-one : (w : World) (sent : List Text) → Reached drill_setting founded_a founded_b w → (g : Gateway) (s : SessionId) (terms : Terms) → s.gateway ≡ name_at drill_setting g → IsAccepted (resting w sent) g s terms → Started w sent g s terms
start-one w sent r g s terms own ok =
    let t = transfers-settle-worlds drill_setting founded_a founded_b w r g s own ok.new ok.room terms in
    let call = Starts s terms in
    let w1 = after_event drill_setting w (Called g call) in
    let x = begins (resting w sent) in
    let few = t.settled.short in
    let p = played drill_setting g s most_posts 1 w1 sent t.transfer.proposal t.texts t.after t.transfer.converses (omega (arith, few)) in
    let there : calls drill_setting x g call ≡ talk drill_setting w1 sent = ap (λ (z : Stage). record { stage = z; sent = sent; again = None }) (free-called drill_setting w g call) in
    let next : follows_call drill_setting x g s false call ≡ Posts t.transfer.proposal false =
    ap (λ o. follows (party_at drill_setting g) s false (records_at (calls drill_setting x g call) g) o) (free-answered drill_setting w g call ∙ t.transfer.start) in
    let further = further-on drill_setting any_session w w1 t.after (call-further drill_setting any_session w g call tt) (converses-further drill_setting any_session w1 (opposite g) t.transfer.proposal t.texts t.after t.transfer.converses) in
    record {
      after = t.after;
      all = p.sent;
      drives = (
        talk drill_setting t.after p.sent,
        subst (λ y. Exchanges most_posts drill_setting no_troubles g s 1 y (follows_call drill_setting x g s false call) (talk drill_setting t.after p.sent)) (sym there)
            (subst (λ n. Exchanges most_posts drill_setting no_troubles g s 1 (talk drill_setting w1 sent) n (talk drill_setting t.after p.sent)) (sym next) p.exchanges),
        refl,
      );
      reached = t.settled.reached;
      grows = further.grows;
      committed = record { settled = t.settled.settled; committed = t.settled.outcome ∙ ok.accepts };
    }

-- ---- several

record AllStarted (w : World) (sent : List Text) (lines : List Line) : Type 0 where
  after : World
  all : List Text
  does : DoesAll drill_setting (resting w sent) lines (resting after all)
  reached : Reached drill_setting founded_a founded_b after
  grows : Grows w after
  committed : (s : SessionId) → In s (sessions_of lines) → Committed after s (gateway_of (origin_of s))

all-started : (lines : List Line) (w : World) (sent : List Text) → Reached drill_setting founded_a founded_b w → AreAccepted (resting w sent) lines → AllStarted w sent lines
all-started [] w sent r ok = record { after = w; all = sent; does = refl; reached = r; grows = grows-not w; committed = λ s i. elim i [ ] }
all-started (line.Start at number asset amount originator beneficiary ∷ lines) w sent r (s, is, ok, later) =
    let terms : Terms = record { amount = amount; asset = asset; beneficiary = beneficiary; originator = originator } in
    let l = line.Start at number asset amount originator beneficiary in
    let g = gateway_of at in
    let own = started-side at number s is ∙ sym (names at) in
    let one = start-one w sent r g s terms own ok in
    let does : Does drill_setting (resting w sent) l (resting one.after one.all) = subst (λ o. BeginsOne drill_setting (resting w sent) g o terms (resting one.after one.all)) (sym is) one.drives in
    let rest = all-started lines one.after one.all one.reached (later (resting one.after one.all) does) in
    let here = committed-on one.after rest.after one.reached rest.reached rest.grows s g own one.committed in
    let at_origin = subst (Committed rest.after s) (ap gateway_of (sym (origin-at at s (started-side at number s is)))) here in
    record {
      after = rest.after;
      all = rest.all;
      does = (resting one.after one.all, does, rest.does);
      reached = rest.reached;
      grows = grows-on w one.after rest.after one.grows rest.grows;
      committed = λ t i. back-in (λ u. Committed rest.after u (gateway_of (origin_of u))) (started at number) (sessions_of lines) t i (λ u e. subst (λ z. Committed rest.after z (gateway_of (origin_of z))) (one-session s u (sym is ∙ e)) at_origin) rest.committed;
    }
  where
    one-session : (s u : SessionId) → Some s ≡ Some u → s ≡ u
    one-session s u e = cc e
all-started (line.Resume at t ∷ lines) w sent r ok = absurd ok
all-started (line.Recover at t ∷ lines) w sent r ok = absurd ok
all-started (line.Abort at t ∷ lines) w sent r ok = absurd ok
all-started (line.Deliver at n ∷ lines) w sent r ok = absurd ok
all-started (line.Stop at event pick ∷ lines) w sent r ok = absurd ok
all-started (line.Fail at call ∷ lines) w sent r ok = absurd ok
all-started (line.Lose n ∷ lines) w sent r ok = absurd ok
all-started (line.Twice n ∷ lines) w sent r ok = absurd ok

-- ---- the report

count-all : (test : SessionId → Bool) (ss : List SessionId) → ((s : SessionId) → In s ss → test s ≡ true) → count_of test ss ≡ length ss
count-all test [] h = refl
count-all test (s ∷ ss) h = count-yes test s ss (h s here) ∙ ap suc (count-all test ss (λ t i. h t (there i)))

pub starts-commit : StartsCommit
unfolding report_of
starts-commit lines w ok run =
    let a = all-started lines beginning.world [] Begins ok in
    let one = lines-one (λ s. Unit {0}) lines (λ s i. tt) in
    let between : run.between ≡ resting a.after a.all = one.only run.between run.does ∙ sym (one.only (resting a.after a.all) a.does) in
    let recovered = subst (λ (x : Drilling). AreRecovered drill_setting x.world (sessions_of lines) w) between run.recovered in
    let e = all-recovered-one drill_setting any_session founded_a founded_b a.after a.reached (sessions_of lines) (owns lines) in
    let is = e.only w recovered in
    let reached = subst (Reached drill_setting founded_a founded_b) (sym is) e.good.reached in
    let grown = subst (Grows a.after) (sym is) e.good.further.grows in
    count-all (λ s. is_committed (tale_at w.a.records w.b.records s)) (sessions_of lines) (λ s i.
    let c = committed-on a.after w a.reached reached grown s (gateway_of (origin_of s)) (owns lines s i) (a.committed s i) in
    ap (λ xs. is_committed (tale_of (view_in s xs))) (records-of w (origin_of s)) ∙ c.committed)
