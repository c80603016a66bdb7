-- The lines of a schedule are followed in one way, and lead to a reached world.
use Rattle.std.proofs.Common.{◌≡◌, ℕ, zero, suc, Bool, true, false, List, [], ◌∷◌, Option, Some, None, refl, sym, ap, subst, ◌∙◌}
use Rattle.std.specs.Prelude.{slice_get}
use Rattle.satp_base.specs.Founding.{Founding}
use Rattle.satp_base.specs.declared.message.Terms.{Terms}
use Rattle.satp_base.specs.declared.name.Name.{Name}
use Rattle.satp_base.specs.declared.session.SessionId.{SessionId}
use Rattle.satp_schedule.specs.Lines.{is_count}
use Rattle.satp_schedule.specs.declared.line.Line.{Line}
use Rattle.satp_schedule.specs.declared.line.Line.TheVariants as line
use Rattle.satp_schedule.specs.declared.line.Side.{Side}
use Rattle.satp_sides.specs.Calls.{Call, Starts, Works, Aborts, Rescues, text_of}
use Rattle.satp_sides.specs.Moves.{Among}
use Rattle.satp_sides.specs.Moves.Among.{first, later}
use Rattle.satp_sides.specs.Others.{session_of}
use Rattle.satp_sides.specs.Points.{Text}
use Rattle.satp_world.specs.Worlds.{Gateway, Reached, Setting, name_at}
use Rattle.satp_drill_runs.specs.Benches as bench
use Rattle.satp_drill_runs.specs.Commands.{BeginsOne, Delivers, Does, DoesAll, Drilling, Drives, HearsAgain, begins, ended, gateway_of, passed}
use Rattle.satp_drill_runs.specs.Exchanges.{Exchanges, IsHearing, Talk, calls, follows_call, hands, most_posts, owes}
use Rattle.satp_drill_runs.specs.Reports.{name_of, session_if, started}
use Rattle.satp_drill_runs.proofs.Hearing.{bag-reads}
use Rattle.satp_drill_runs.proofs.Playing.{Good, One, call-follows, calls-good, exchanges-one, hands-good, one-here, one-read, one-then}
use Rattle.satp_drill_runs.proofs.Naming.{Named}
use Rattle.satp_drill_runs.proofs.Staging.{MayDo, Within, may-hear}

get-among : (ts : List Text) (n : ℕ) (t : Text) → slice_get ts n ≡ Some t → Among t ts
get-among [] n t e = absurd (cc e)
get-among (u ∷ ts) zero t e = subst (λ z. Among z (u ∷ ts)) (let same : u ≡ t = cc e in same) first
get-among (u ∷ ts) (suc n) t e = later (get-among ts n t e)

text-among : (ts : List Text) (n : ℕ) (t : Text) → text_of ts n ≡ Some t → Among t ts
text-among ts zero t e = absurd (cc e)
text-among ts (suc n) t e = get-among ts n t e

-- a session that begins is of its side's name
of-side : (gateway : Name) (number : ℕ) (counts : Bool) (c : is_count number ≡ counts) (s : SessionId) → session_if gateway number counts c ≡ Some s → s.gateway ≡ gateway
of-side gateway number true c s e = let h = ap (λ (o : Option SessionId). elim o [ None ↦ gateway | Some x ↦ x.gateway ]) e in sym h
of-side gateway number false c s e = absurd (cc e)

pub started-side : (at : Side) (number : ℕ) (s : SessionId) → started at number ≡ Some s → s.gateway ≡ name_of at
started-side at number s e = of-side (name_of at) number (is_count number) refl s e

module _ (st : Setting) (a b : Founding) (P : Gateway → SessionId → Type 0) where
  -- the world is reached, and all that was sent is in its bag
  pub record Stands (d : Drilling) : Type 0 where
    pub reached : Reached st a b d.world
    pub sent : Within d.sent d.world.bag
    pub named : Named st P d.world

  pub begins-good : (d : Drilling) → Stands d → Good st a b P (begins d)
  begins-good d k = record { reached = k.reached; sent = k.sent; named = k.named; again = λ t e. absurd (cc e) }

  pub ended-stands : (x : Talk) → Good st a b P x → Stands (ended x)
  ended-stands x g = record { reached = g.reached; sent = g.sent; named = g.named }

  heard-one : (d : Drilling) → Stands d → (g : Gateway) (t : Text) → Among t d.world.bag → One Stands (λ e. (call : Call) × IsHearing st.key t call × (e ≡ ended (hands st (begins d) g call)))
  heard-one d k g t i =
      one-read Stands st.key t (λ call e. e ≡ ended (hands st (begins d) g call)) (bag-reads st a b d.world k.reached t i) (λ call c.
      let good = hands-good st a b P (begins d) g call (begins-good d k) (may-hear st a b P d.world g t call i c) in
      one-here Stands (ended (hands st (begins d) g call)) (ended-stands _ good))

  again-one : (g : Gateway) (x : Talk) (o : Option Text) → Good st a b P x → ((t : Text) → o ≡ Some t → Among t x.stage.world.bag) → One Stands (HearsAgain st g x o)
  again-one g x None good h = one-here Stands (ended x) (ended-stands x good)
  again-one g x (Some t) good h = heard-one (ended x) (ended-stands x good) g t (h t refl)

  drives-one : (d : Drilling) → Stands d → (g : Gateway) (call : Call) → MayDo st a b P d.world g call → One Stands (Drives st d g call)
  drives-one d k g call may =
      let x = begins d in
      let good = begins-good d k in
      one-then (Good st a b P) Stands (Exchanges most_posts st d.troubles g (session_of call) 1 (calls st x g call) (follows_call st x g (session_of call) (owes call) call)) (λ y e. HearsAgain st g y y.again e)
      (exchanges-one st a b P d.troubles g (session_of call) most_posts 1 (calls st x g call) (follows_call st x g (session_of call) (owes call) call)
      (calls-good st a b P x g call good may) (call-follows st a b P x g call good may (session_of call) (owes call)))
      (λ y there. again-one g y y.again there there.again)

  passed-one : (d : Drilling) → Stands d → One Stands (λ e. e ≡ passed d)
  passed-one d k = one-here Stands (passed d) (record { reached = k.reached; sent = k.sent; named = k.named })

  delivers-one : (d : Drilling) → Stands d → (g : Gateway) (o : Option Text) → ((t : Text) → o ≡ Some t → Among t d.sent) → One Stands (Delivers st d g o)
  delivers-one d k g None h = passed-one d k
  delivers-one d k g (Some t) h = heard-one d k g t (k.sent t (h t refl))

  begins-one : (d : Drilling) → Stands d → (g : Gateway) (o : Option SessionId) (terms : Terms) → ((s : SessionId) → o ≡ Some s → (s.gateway ≡ name_at st g) × P g s) → One Stands (BeginsOne st d g o terms)
  begins-one d k g None terms h = passed-one d k
  begins-one d k g (Some s) terms h = drives-one d k g (Starts s terms) (h s refl)

  module _ (names : (at : Side) → name_at st (gateway_of at) ≡ name_of at) where
    -- the session that a line starts is one of these
    abbrev pub StartsOne : Line → Type 0
    StartsOne (line.Start at number asset amount originator beneficiary) = (s : SessionId) → started at number ≡ Some s → P (gateway_of at) s
    StartsOne l = Unit {0}

    abbrev pub AllStart : List Line → Type 0
    AllStart [] = Unit {0}
    AllStart (l ∷ lines) = StartsOne l × AllStart lines

    pub does-one : (d : Drilling) → Stands d → (l : Line) → StartsOne l → One Stands (Does st d l)
    does-one d k (line.Start at number asset amount originator beneficiary) h =
        begins-one d k (gateway_of at) (started at number) (record { amount = amount; asset = asset; beneficiary = beneficiary; originator = originator }) (λ s e. (started-side at number s e ∙ sym (names at), h s e))
    does-one d k (line.Resume at s) h = drives-one d k (gateway_of at) (Works s) (tt, tt)
    does-one d k (line.Recover at s) h = drives-one d k (gateway_of at) (Rescues s) (tt, tt)
    does-one d k (line.Abort at s) h = one-here Stands _ (ended-stands _ (calls-good st a b P (begins d) (gateway_of at) (Aborts s) (begins-good d k) (tt, tt)))
    does-one d k (line.Deliver at n) h = delivers-one d k (gateway_of at) (text_of d.sent n) (text-among d.sent n)
    does-one d k (line.Stop at event pick) h = one-here Stands (record d { limit = Some (gateway_of at, bench.Stops event pick) }) (record { reached = k.reached; sent = k.sent; named = k.named })
    does-one d k (line.Fail at call) h = one-here Stands (record d { limit = Some (gateway_of at, bench.Fails call) }) (record { reached = k.reached; sent = k.sent; named = k.named })
    does-one d k (line.Lose n) h = one-here Stands (record d { troubles = record { lost = Some n; twice = d.troubles.twice } }) (record { reached = k.reached; sent = k.sent; named = k.named })
    does-one d k (line.Twice n) h = one-here Stands (record d { troubles = record { lost = d.troubles.lost; twice = Some n } }) (record { reached = k.reached; sent = k.sent; named = k.named })

    pub all-one : (d : Drilling) → Stands d → (lines : List Line) → AllStart lines → One Stands (DoesAll st d lines)
    all-one d k [] h = one-here Stands d k
    all-one d k (l ∷ lines) h = one-then Stands Stands (Does st d l) (λ m e. DoesAll st m lines e) (does-one d k l h.0) (λ m there. all-one m there lines h.1)
