-- The rule of a command's work, from what its steps answer.
use Rattle.std.proofs.Common.{◌≡◌, ◌≢◌, ◌≤◌, ◌∙◌, ◌⊎◌, inl, inr, ℕ, Bool, true, false, Option, Some, Result, Ok, Err, refl, sym, ap, subst}
use Rattle.satp_base.specs.Calls.{Told}
use Rattle.satp_base.specs.Money.{Book}
use Rattle.satp_base.specs.Streams.{Rose}
use Rattle.satp_base.specs.declared.session.SessionId.{SessionId}
use Rattle.satp_base.specs.declared.view.View.{View}
use Rattle.satp_gateway.specs.Handling.{Forgets}
use Rattle.satp_points.specs.Answers.{Answers}
use Rattle.satp_points.specs.States.{GatewayState, Tells}
use Rattle.satp_points.specs.declared.fault.Refused.{Refused}
use Rattle.satp_points.specs.declared.fault.Refused.TheVariants as refused
use Rattle.satp_sides.specs.Calls.{Aborts}
use Rattle.satp_sides.specs.Points.{Text}
use Rattle.satp_outcome.specs.Outside.{Printed, SinkState, SiteState, SourceState, StreamsState, WireState, outside, streams}
use Rattle.satp_outcome.specs.declared.outcome.Outcome.{Outcome}
use Rattle.satp_outcome.specs.declared.outcome.Outcome.TheVariants.{Done, RolledBack, WordsRefused, Memory, InputFailed, OutputFailed, Input, Place, Peer}
use Rattle.satp_gateway_commands.specs.Aborting.{AbortWorks, EndsBack, MayRefuse, SaysBack, TurnsBack, back_line, refused_end, said_back}
use Rattle.satp_gateway_commands.specs.AtGateway.{IsView, tells_of}

abbrev made : ℕ → Option Told → Option Book → SiteState
made faults told book = record { faults = faults; told = told; book = book }

-- a site that tells the same, and whose count stands, is as it was
pub same_site : (b a : SiteState) → tells_of a ≡ tells_of b → a.faults ≡ b.faults → a ≡ b
same_site b a t f = ap (λ n. made n a.told a.book) f ∙ ap (λ (x : Tells). made b.faults x.told x.book) t

-- ---- abort

-- the end of a session that was turned back
pub says_back : (s : SessionId) (g : GatewayState) (b a : SinkState) (back : Bool) → EndsBack g s back → Printed (back_line s) b a → SaysBack s g b a (said_back back)
says_back s g b a true ends printed = (ends, printed)
says_back s g b a false ends printed = (ends, printed)

module _ (s : SessionId) (g after : GatewayState) (b a : SiteState) (wire : WireState) where
  -- an abort that is refused
  pub refuses : (ss : StreamsState) (r : Refused) → MayRefuse r → Answers (Aborts s) g after (tells_of b) (tells_of a) (Err r) → b.faults ≤ a.faults
      → (r ≡ refused.Site → Rose b.faults a.faults) → (r ≢ refused.Site → a.faults ≡ b.faults) → AbortWorks s g (outside ss b wire) (outside ss a wire) (refused_end r)
  refuses ss (refused.TooLate place) may answers later rose still =
      let faults = still (λ e. absurd cc) in
      ((after, record { answers = answers; faults = faults }), ap (λ x. outside ss x wire) (same_site b a answers.unchanged.1 faults))
  refuses ss refused.Site may answers later rose still = ((after, record { answers = answers; faults = (rose refl, later) }), (refl, refl))
  refuses ss refused.Memory may answers later rose still =
      let faults = still (λ e. absurd cc) in
      ((after, record { answers = answers; faults = faults }), ap (λ x. outside ss x wire) (same_site b a (stayed answers.unchanged) faults))
    where
      stayed : ((after ≡ g) × (tells_of a ≡ tells_of b)) ⊎ ⊥ → tells_of a ≡ tells_of b
      stayed (inl stays) = stays.1
      stayed (inr bad) = absurd bad
  refuses ss refused.Broken may answers later rose still = absurd may
  refuses ss (refused.Size length) may answers later rose still = absurd may
  refuses ss (refused.Jws fault) may answers later rose still = absurd may
  refuses ss refused.Header may answers later rose still = absurd may
  refuses ss (refused.Body fault) may answers later rose still = absurd may
  refuses ss refused.Receiver may answers later rose still = absurd may
  refuses ss (refused.Strange session) may answers later rose still = absurd may
  refuses ss (refused.Chain verdict) may answers later rose still = absurd may
  refuses ss (refused.Recovery fault) may answers later rose still = absurd may
  refuses ss (refused.Full count) may answers later rose still = absurd may
  refuses ss refused.Exists may answers later rose still = absurd may

  module _ (view : View) (named : IsView g s (Some view)) (reply : Option Text) (answers : Answers (Aborts s) g after (tells_of b) (tells_of a) (Ok reply)) (faults : a.faults ≡ b.faults) where
    turns : (back : Bool) → EndsBack after s back → TurnsBack s g b a back
    turns back ends = record { view = view; named = named; after = after; reply = reply; called = record { answers = answers; faults = faults }; ends = ends }

    -- an abort that was answered, and the line of it
    pub turned : (input : SourceState) (o p : SinkState) (outcome : Outcome) → SaysBack s after o p outcome → AbortWorks s g (outside (streams input o) b wire) (outside (streams input p) a wire) outcome
    turned input o p Done said = (turns false said.0, said.1, (refl, refl))
    turned input o p RolledBack said = (turns true said.0, said.1, (refl, refl))
    turned input o p OutputFailed said = ((said.0.0, turns said.0.0 said.0.1), said.1, (refl, refl))
    turned input o p WordsRefused said = absurd said
    turned input o p Memory said = absurd said
    turned input o p InputFailed said = absurd said
    turned input o p (Input end) said = absurd said
    turned input o p (Place end) said = absurd said
    turned input o p (Peer end) said = absurd said

-- ---- the answer of a call that hands on whether it was refused

pub refused_by : (P : Result (Option Text) Refused → Type 0) (outcome : Result (Option Text) Refused) (r : Refused) → Forgets outcome (Err r) → P outcome → P (Err r)
refused_by P (Ok reply) r bad p = absurd bad
refused_by P (Err x) r same p = subst (λ y. P (Err y)) (sym same) p

pub answered_by : (P : Result (Option Text) Refused → Type 0) (outcome : Result (Option Text) Refused) → Forgets outcome (Ok tt) → P outcome → (reply : Option Text) × P (Ok reply)
answered_by P (Ok reply) done p = (reply, p)
answered_by P (Err x) bad p = absurd bad
