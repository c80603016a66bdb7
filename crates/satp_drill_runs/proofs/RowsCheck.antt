-- The rows of stops, failing calls and losses hold.
use Rattle.std.proofs.Common.{◌≡◌, Bool, true, false, Option, Some, None, refl, ap, subst}
use Rattle.satp_base.specs.declared.session.SessionId.{SessionId}
use Rattle.satp_base.specs.declared.message.Terms.{Terms}
use Rattle.satp_schedule.specs.declared.line.Line.TheVariants as line
use Rattle.satp_sides.specs.Calls.{Call}
use Rattle.satp_sides.specs.Points.{Says, Side, Text}
use Rattle.satp_world.specs.Worlds.{Gateway, Setting}
use Rattle.satp_drill_runs.specs.Benches.{Limit, Stops, Fails, Passes, fate}
use Rattle.satp_drill_runs.specs.Commands.{BeginsOne, Delivers, Drilling, Drives, HearsAgain, gateway_of, no_troubles}
use Rattle.satp_drill_runs.specs.Exchanges.{Either, Talk}
use Rattle.satp_drill_runs.specs.Reports.{started}
use Rattle.satp_drill_runs.specs.Rows.{CommandsDrop, FatesAre, LostIsSent, NoneIsDelivered}

pub fates-are : (side : Side) → FatesAre side
fates-are side = record {
  third_event_old = λ x. refl;
  third_event_new = λ x. refl;
  third_event_other = λ x. refl;
  third_event_256 = λ x. refl;
  third_event_257 = λ x. refl;
  second_event = λ x. refl;
  stopped_before = λ x. refl;
  fourth_event = λ x. refl;
  second_call = λ x. refl;
  third_call = λ x. refl;
  fourth_call = λ x. refl;
  fifth_call = λ x. refl;
  stopped_operation = λ s op terms. refl;
  failed_operation = λ s op terms. refl;
  later_call = λ s op terms. refl;
  text_said = said side;
}
  where
    said : (side : Side) (limit : Option Limit) (t : Text) → fate side limit (Says t) ≡ Passes limit
    said side None t = refl
    said side (Some (Stops events pick)) t = refl
    said side (Some (Fails call)) t = refl

the-first : (b : Bool) (T F : Type 0) → b ≡ true → Either b T F → T
the-first true T F e h = h
the-first false T F e h = absurd (cc e)

pub lost-is-sent : LostIsSent
lost-is-sent st tr g s owed most n x t y e h = the-first _ _ _ e h

-- ---- commands

Dropped : Drilling → Type 0
Dropped e = (e.limit ≡ None) × (e.troubles ≡ no_troubles)

again-drops : (st : Setting) (g : Gateway) (x : Talk) (o : Option Text) (e : Drilling) → HearsAgain st g x o e → (e.limit ≡ None) × (e.troubles ≡ no_troubles)
again-drops st g x None e h = (ap (λ (z : Drilling). z.limit) h, ap (λ (z : Drilling). z.troubles) h)
again-drops st g x (Some t) e h = (ap (λ (z : Drilling). z.limit) h.2, ap (λ (z : Drilling). z.troubles) h.2)

drive-drops : (st : Setting) (d : Drilling) (g : Gateway) (call : Call) (e : Drilling) → Drives st d g call e → (e.limit ≡ None) × (e.troubles ≡ no_troubles)
drive-drops st d g call e (y, exchanges, h) = again-drops st g y y.again e h

begin-drops : (st : Setting) (d : Drilling) (g : Gateway) (o : Option SessionId) (terms : Terms) (e : Drilling) → BeginsOne st d g o terms e → (e.limit ≡ None) × (e.troubles ≡ no_troubles)
begin-drops st d g None terms e h = (ap (λ (z : Drilling). z.limit) h, ap (λ (z : Drilling). z.troubles) h)
begin-drops st d g (Some s) terms e h = drive-drops st d g _ e h

deliver-drops : (st : Setting) (d : Drilling) (g : Gateway) (o : Option Text) (e : Drilling) → Delivers st d g o e → (e.limit ≡ None) × (e.troubles ≡ no_troubles)
deliver-drops st d g None e h = (ap (λ (z : Drilling). z.limit) h, ap (λ (z : Drilling). z.troubles) h)
deliver-drops st d g (Some t) e h = (ap (λ (z : Drilling). z.limit) h.2, ap (λ (z : Drilling). z.troubles) h.2)

pub commands-drop : CommandsDrop
commands-drop st d (line.Start at number asset amount originator beneficiary) e c h = begin-drops st d (gateway_of at) (started at number) _ e h
commands-drop st d (line.Resume at s) e c h = drive-drops st d (gateway_of at) _ e h
commands-drop st d (line.Recover at s) e c h = drive-drops st d (gateway_of at) _ e h
commands-drop st d (line.Abort at s) e c h = (ap (λ (z : Drilling). z.limit) h, ap (λ (z : Drilling). z.troubles) h)
commands-drop st d (line.Deliver at n) e c h = deliver-drops st d (gateway_of at) _ e h
commands-drop st d (line.Stop at event pick) e c h = absurd (cc c)
commands-drop st d (line.Fail at call) e c h = absurd (cc c)
commands-drop st d (line.Lose n) e c h = absurd (cc c)
commands-drop st d (line.Twice n) e c h = absurd (cc c)

pub none-is-delivered : NoneIsDelivered
none-is-delivered st d at n e none h = subst (λ o. Delivers st d (gateway_of at) o e) none h
