-- A register and its records.
use Rattle.std.proofs.Common.{◌≡◌, Bool, true, false, if◌then◌else◌, List, Option, Some, None, Result, refl, sym, ap, subst, ◌∙◌}
use Rattle.std.specs.Prelude.{IfOk, IsTrue}
use Rattle.satp_base.specs.Calls.{Told}
use Rattle.satp_base.specs.Tales.{is_whole}
use Rattle.satp_base.specs.declared.session.SessionId.{SessionId}
use Rattle.satp_base.specs.declared.text.Memory as want
use Rattle.satp_base.specs.declared.view.View.{View}
use Rattle.satp_chain.specs.Chained.{Chained, texts_in}
use Rattle.satp_journal.specs.State.{Held}
use Rattle.satp_log.specs.Folding.{State}
use Rattle.satp_log.specs.Journals.{party_of}
use Rattle.satp_log.proofs.Folds.{slot-parts}
use Rattle.satp_log.proofs.Places.{found-in}
use Rattle.satp_records.specs.declared.stored.Setup.{Setup}
use Rattle.satp_sides.specs.Calls.{success_text}
use Rattle.satp_sides.specs.Points.{Stored, Text, chain_in, tale_of, view_in}
use Rattle.satp_points.specs.Deciding.{Done}
use Rattle.satp_points.specs.Decisions.{IsReady}
use Rattle.satp_points.specs.States.{GateWithin, Holds, Tells, is_broken}
use Rattle.satp_points.specs.declared.decision.Decision.{Decision}
use Rattle.satp_points.specs.declared.fault.Refused.{Refused}
use Rattle.satp_engine.specs.Carrying.{StandsAfter, held_after, is_site_fault}
use Rattle.satp_engine.specs.Working.{HasState, Keeps, KeepsSome, Stands, shut}
use Rattle.satp_engine.specs.declared.records.Records.{Records}
use Rattle.satp_engine.proofs.Firsts.{named-state}
use Rattle.satp_engine.proofs.Keeping.{held-keeps, keeping-holds, seen}

-- ---- before the work

module _ (r : Records) (broken : Bool) (g : Held) (is : seen r broken ≡ g) (whole : is_broken g ≡ false) (kept : KeepsSome r) (sound : broken ≡ false → r.journal.held.broken ≡ false) where
  unbroken : broken ≡ false
  unbroken = ap (λ (h : Held). h.broken) is ∙ whole

  -- the register shows its journal
  pub shown : r.journal.held ≡ g
  shown = ap (seen r) (sound unbroken ∙ sym unbroken) ∙ is

  pub shown-stands : (told : Option Told) → GateWithin g told → Stands r told
  unfolding GateWithin
  shown-stands told within = record { kept = kept; whole = sound unbroken; within = subst (λ (h : Held). GateWithin h told) (sym shown) within }

  pub shown-ready : (d : Decision) → ((setup : Setup) (xs : List Stored) → Holds g setup xs → IsReady (party_of setup) xs d) → (setup : Setup) (xs : List Stored) → Keeps r setup xs → IsReady (party_of setup) xs d
  shown-ready d ready setup xs k = ready setup xs (subst (λ (h : Held). Holds h setup xs) shown (keeping-holds r setup xs k))

-- ---- after it

within-of : (r : Records) (told : Option Told) → Stands r told → GateWithin r.journal.held told
unfolding GateWithin
within-of r told s = s.within

-- a register that is so has the state that the answer leaves
left-as : (fault : Bool) (r : Records) (told : Option Told) → (fault ≡ false → Stands r told) → seen r fault ≡ (if fault then shut r.journal.held else r.journal.held)
left-as true r told stands = refl
left-as false r told stands = ap (seen r) (sym (stands refl).whole)

left-within : (fault : Bool) (r : Records) (told : Option Told) → (fault ≡ false → Stands r told) → is_broken (if fault then shut r.journal.held else r.journal.held) ≡ false → GateWithin (if fault then shut r.journal.held else r.journal.held) told
left-within true r told stands whole = absurd (cc whole)
left-within false r told stands whole = within-of r told (stands refl)

-- the same of what is seen of the register
module _ (result : Result (Option Text) Refused) (r : Records) (broken : Bool) (told : Option Told) (stands : StandsAfter result r told) (is : broken ≡ is_site_fault result) (g : Held) (view : seen r broken ≡ g) where
  pub left-seen : held_after result r.journal.held ≡ g
  left-seen = sym (left-as (is_site_fault result) r told stands.1) ∙ ap (seen r) (sym is) ∙ view

  pub seen-within : is_broken g ≡ false → GateWithin g told
  seen-within w = subst (λ (h : Held). is_broken h ≡ false → GateWithin h told) left-seen (left-within (is_site_fault result) r told stands.1) w

  pub seen-done : (d : Decision) (r0 : Records) (old : Held) (before site : Tells) → r0.journal.held ≡ old → Done d r0.journal.held (held_after result r.journal.held) before site result → Done d old g before site result
  seen-done d r0 old before site shown done = subst (λ (h : Held). Done d h g before site result) shown (subst (λ (h : Held). Done d r0.journal.held h before site result) left-seen done)

-- ---- a session whose chain is whole

some-view : (o : Option View) → IsTrue (is_whole (tale_of o)) → (v : View) × (o ≡ Some v)
some-view None w = absurd (cc w)
some-view (Some v) w = (v, refl)

module _ (r : Records) (broken : Bool) (g : Held) (is : seen r broken ≡ g) (kept : KeepsSome r) (s : SessionId) where
  pub whole-named : ((setup : Setup) (xs : List Stored) → Holds g setup xs → IsTrue (is_whole (tale_of (view_in s xs)))) → (state : State) × HasState r.log s state
  unfolding Holds
  whole-named whole =
      let holds = subst (λ (h : Held). Holds h r.log.setup kept.0) is kept.1.journal in
      let (v, named) = some-view (view_in s kept.0) (whole r.log.setup kept.0 holds) in
      let h = named-state r s r.log.setup kept.0 v kept.1 named in
      (h.state, h.there)

  pub closing-text : (state : State) (chain : Chained) (result : Result Text want.Memory) → HasState r.log s state → chain ≡ state.chain → IfOk result (λ text. text ≡ success_text (party_of r.log.setup) s (texts_in chain))
      → (setup : Setup) (xs : List Stored) → Holds g setup xs → IfOk result (λ text. text ≡ success_text (party_of setup) s (chain_in s xs))
  closing-text state chain result there chain_is said setup xs holds =
      let k = held-keeps r broken g setup xs is kept holds in
      let found = found-in r.log setup xs s (Some state) (sym there) k.log in
      let texts = (slot-parts (view_in s xs) (chain_in s xs) state.view (texts_in state.chain) found.slot).1 in
      subst (λ (ts : List Text). IfOk result (λ text. text ≡ success_text (party_of setup) s ts)) (ap texts_in chain_is ∙ sym texts)
      (subst (λ (x : Setup). IfOk result (λ text. text ≡ success_text (party_of x) s (texts_in chain))) k.log.setup_is said)
