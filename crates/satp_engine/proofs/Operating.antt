-- An operation that is due, and the record after its answer.
use Rattle.std.proofs.Common.{◌≡◌, ℕ, suc, List, [], ◌∷◌, Option, Some, None, Result, Ok, Err, refl, sym, subst}
use Rattle.std.specs.Prelude.{IfSome}
use Rattle.satp_base.specs.Acts.{ActsOn, Asks, MayAdd, MayAnswer}
use Rattle.satp_base.specs.Calls.{Told}
use Rattle.satp_base.specs.Money.{Book}
use Rattle.satp_base.specs.LedgerRule.{operation}
use Rattle.satp_base.specs.Roles.{after_of}
use Rattle.satp_base.specs.Roles.RoleRule.{Answered}
use Rattle.satp_base.specs.Trail.{KeepsModel}
use Rattle.satp_base.specs.declared.area.Event.{Event}
use Rattle.satp_base.specs.declared.area.Event.TheVariants.{Acted}
use Rattle.satp_base.specs.declared.ledger.ActFault.{ActFault}
use Rattle.satp_base.specs.declared.ledger.Answer.{Answer}
use Rattle.satp_base.specs.declared.ledger.LedgerCall.TheVariants.{Act}
use Rattle.satp_base.specs.declared.ledger.LedgerOp.{LedgerOp}
use Rattle.satp_base.specs.declared.record.Rec.{Rec}
use Rattle.satp_base.specs.declared.session.SessionId.{SessionId}
use Rattle.satp_base.specs.declared.view.View.{View}
use Rattle.satp_base.proofs.RecordLaws.{gives-after}
use Rattle.satp_log.specs.Folding.{State, state_with}
use Rattle.satp_log.specs.Journals.{party_of}
use Rattle.satp_records.specs.declared.stored.Setup.{Setup}
use Rattle.satp_sides.specs.Points.{Acts, Appends, Side, stored}
use Rattle.satp_points.specs.Answers.{Goes}
use Rattle.satp_points.specs.States.{IsAt, Tells, tells}
use Rattle.satp_engine.specs.Planning.{PlannedAnswers, PlannedNote}
use Rattle.satp_plan.specs.Plans.{PlanState}
use Rattle.satp_engine.specs.Turning.{DueBroke, Turned}
use Rattle.satp_engine.specs.Turning.Comes.{Answered as Follows}
use Rattle.satp_engine.specs.Working.{Fails, HasState, Makes, Stands, slot_of}
use Rattle.satp_engine.specs.declared.records.Records.{Records}
use Rattle.satp_engine.proofs.Acting.{act-failed, acted, acted-fits}
use Rattle.satp_engine.proofs.Dues.{after-note}
use Rattle.satp_engine.proofs.Turns.{act-broke, act-then-broke, act-turn}

-- what the call on the ledger told
abbrev pub ActTold : SessionId → LedgerOp → View → Option Told → Option Told → Option Book → Option Book → Result Answer ActFault → Type 0
ActTold s op view told_old told_new book_old book_new result =
    (events : List Event) × MayAdd (Acted op s view.terms) result events × IfSome book_old (λ b. ActsOn op s view.terms b result events book_new) × Asks (Act op s view.terms) events result told_old told_new

module _ (r : Records) (s : SessionId) (op : LedgerOp) (plan : PlanState) (view : View) (p : PlannedAnswers r.log s plan op view) where
  pub planned-after : (a : Answer) (rec : Rec) → MayAnswer op a → rec ≡ after_of op a → PlannedNote r.log s plan rec
  planned-after a rec m is =
      subst (PlannedNote r.log s plan) (sym is)
      (record { state = p.state; there = p.there; rule = Answered op a p.due (gives-after op a (after_of op a) m refl); is_note = after-note op a; has = p.has a m; made = p.made })

  module _ (told_old told_mid : Option Told) (book_old book_mid : Option Book) where
    pub acted-stands : (a : Answer) → ActTold s op view told_old told_mid book_old book_mid (Ok a) → Stands r told_old → Stands r told_mid
    acted-stands a (events, may, on, asks) st =
        record { kept = st.kept; whole = st.whole; within = acted-fits s op view.terms events told_old told_mid book_old book_mid r.journal.held a may asks st.within }

    -- under the terms of the session
    told-as : (result : Result Answer ActFault) → ActTold s op view told_old told_mid book_old book_mid result → ActTold s op p.state.view told_old told_mid book_old book_mid result
    told-as result t = subst (λ v. ActTold s op v told_old told_mid book_old book_mid result) p.view_is t

    answered : (a : Answer) → ActTold s op view told_old told_mid book_old book_mid (Ok a) → ((u : Told) → told_mid ≡ Some u → KeepsModel u.trail)
        → (setup : Setup) (side : Side) (t : Told) → IsAt r.journal.held (tells told_old book_old) setup side t
        → Goes r.journal.held setup side (Acts s op p.state.view.terms ∷ []) t r.journal.held (tells told_mid book_mid) × ((operation side.book op s p.state.view.terms).answer ≡ Some a)
    answered a t keeps = let (events, may, on, asks) = told-as (Ok a) t in acted s op p.state.view.terms events told_old told_mid book_old book_mid r.journal.held a on asks keeps

    pub operated : (a : Answer) (rec : Rec) → MayAnswer op a → rec ≡ after_of op a → ActTold s op view told_old told_mid book_old book_mid (Ok a) → ((u : Told) → told_mid ≡ Some u → KeepsModel u.trail)
        → (new : Records) (site : Tells) → Makes (Appends (stored s rec []) ∷ []) r.journal.held (tells told_mid book_mid) new.journal.held site
        → ((state : State) → HasState r.log s state → HasState new.log s (state_with state rec None)) → Turned s r new (tells told_old book_old) site rec None
    operated a rec m is t keeps new site makes after =
        subst (λ x. Makes (Appends (stored s x []) ∷ []) r.journal.held (tells told_mid book_mid) new.journal.held site → ((state : State) → HasState r.log s state → HasState new.log s (state_with state x None)) → Turned s r new (tells told_old book_old) site x None) (sym is)
        (λ made there. record {
          state = p.state;
          was = p.there;
          comes = Follows op a p.due m;
          after = there p.state p.there;
          done = act-turn (party_of r.log.setup) s p.state op p.due r.journal.held new.journal.held (tells told_old book_old) (tells told_mid book_mid) site a (after-note op a) (answered a t keeps) made;
        }) makes after

    pub operated-broke : (a : Answer) (rec : Rec) → rec ≡ after_of op a → ActTold s op view told_old told_mid book_old book_mid (Ok a) → ((u : Told) → told_mid ≡ Some u → KeepsModel u.trail)
        → (site : Tells) → Fails (Appends (stored s rec []) ∷ []) r.journal.held (tells told_mid book_mid) site
        → (n : ℕ) → DueBroke (suc n) (party_of r.log.setup) s (slot_of p.state) r.journal.held (tells told_old book_old) site
    operated-broke a rec is t keeps site fails =
        act-then-broke (party_of r.log.setup) s p.state op p.due r.journal.held r.journal.held (tells told_old book_old) (tells told_mid book_mid) site a (answered a t keeps)
        (subst (λ x. Fails (Appends (stored s x []) ∷ []) r.journal.held (tells told_mid book_mid) site) is fails)

    pub not-operated : (fault : ActFault) → ActTold s op view told_old told_mid book_old book_mid (Err fault) → (n : ℕ) → DueBroke (suc n) (party_of r.log.setup) s (slot_of p.state) r.journal.held (tells told_old book_old) (tells told_mid book_mid)
    not-operated fault t =
        let (events, may, on, asks) = told-as (Err fault) t in
        act-broke (party_of r.log.setup) s p.state op p.due r.journal.held r.journal.held (tells told_old book_old) (tells told_mid book_mid) (tells told_mid book_mid) (act-failed s op p.state.view.terms events told_old told_mid book_old book_mid r.journal.held fault on asks)
