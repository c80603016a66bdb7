-- A message that is due and was made in advance.
use Rattle.std.proofs.Common.{◌≡◌, ℕ, List, Option, Some, refl, sym, ap, subst, ◌∙◌}
use Rattle.satp_base.specs.Canonical.{part_kind}
use Rattle.satp_base.specs.Chains.{made_part, next_text}
use Rattle.satp_base.specs.Roles.{RoleRule}
use Rattle.satp_base.specs.Roles.RoleRule.{Due}
use Rattle.satp_base.specs.declared.message.Kind.{Kind}
use Rattle.satp_base.specs.declared.message.Kind.TheVariants.{TransferProposal, ProposalReceipt, TransferCommence, CommenceAck, LockAssert, LockReceipt, CommitPrepare, CommitReady, CommitFinal, CommitFinalAck, TransferComplete, Reject, Rollback, RollbackAck, Recover, RecoverUpdate, RecoverSuccess}
use Rattle.satp_base.specs.declared.message.Part.{Part}
use Rattle.satp_base.specs.declared.record.Rec.TheVariants.{Made}
use Rattle.satp_base.specs.declared.record.Way.{Way}
use Rattle.satp_base.specs.declared.session.SessionId.{SessionId}
use Rattle.satp_chain.specs.Chained.{next_signed, texts_in}
use Rattle.satp_chain.specs.declared.signed.Signed.{Signed}
use Rattle.satp_log.specs.Folding.{IsNextOf, IsStateOf, State}
use Rattle.satp_log.specs.Journals.{party_of, payload_in}
use Rattle.satp_log.specs.Logged.{IsComing}
use Rattle.satp_log.proofs.Folds.{slot-parts}
use Rattle.satp_log.proofs.Places.{found-in}
use Rattle.satp_log.proofs.StateLaw.{made-next, texts-are}
use Rattle.satp_sides.specs.Due.{due_text}
use Rattle.satp_sides.specs.Points.{Text, chain_in, recipient_at, stored, view_in}
use Rattle.satp_engine.specs.Planning.{PlannedMaking}
use Rattle.satp_plan.specs.Plans.{IsMakingOf, PlanState}
use Rattle.satp_engine.specs.Working.{HasState, KeepsSome, slot_of}
use Rattle.satp_plan.specs.declared.planning.Making.{Making}
use Rattle.satp_engine.specs.declared.records.Records.{Records}

part-of : (way : Option Way) (k : Kind) → part_kind (made_part way k) ≡ k
part-of way = elim [ TransferProposal ↦ refl | ProposalReceipt ↦ refl | TransferCommence ↦ refl | CommenceAck ↦ refl | LockAssert ↦ refl | LockReceipt ↦ refl | CommitPrepare ↦ refl | CommitReady ↦ refl | CommitFinal ↦ refl | CommitFinalAck ↦ refl | TransferComplete ↦ refl | Reject ↦ refl | Rollback ↦ refl | RollbackAck ↦ refl | Recover ↦ refl | RecoverUpdate ↦ refl | RecoverSuccess ↦ refl ]

-- what the log has of a session is what the records say of it
pub state-of : (r : Records) (s : SessionId) (state : State) (k : KeepsSome r) → HasState r.log s state → IsStateOf (party_of r.log.setup) s k.0 state
state-of r s state k h = found-in r.log r.log.setup k.0 s (Some state) (sym h) k.1.log

module _ (r : Records) (s : SessionId) (plan : PlanState) (way : Option Way) (kind : Kind) (k : KeepsSome r) (p : PlannedMaking r.log s plan way kind) (making : Making) (is : IsMakingOf s p.state.chain r.log.setup.key making) (part_is : making.part ≡ made_part way kind) where
  kind-is : part_kind making.part ≡ kind
  kind-is = ap part_kind part_is ∙ part-of way kind

  abbrev key : List ℕ
  key = r.log.setup.key

  pub making-comes : IsComing r.log s (Made kind) (Some making.signed)
  making-comes =
      let h = state-of r s p.state k p.there in
      let rule = subst (λ j. RoleRule p.state.view.role p.state.view (Made j)) (sym kind-is) (Due p.due) in
      let next = made-next p.state key making.part h.sound rule is.formed in
      record {
        state = p.state;
        there = p.there;
        next = subst (λ (x : Signed). IsNextOf p.state key (Made kind) (Some x)) (sym is.next) (subst (λ j. IsNextOf p.state key (Made j) (Some (next_signed p.state.chain key making.part))) kind-is next);
      }

  pub making-payload : making.payload ≡ payload_in (stored s (Made kind) making.signed.text)
  making-payload = is.payload ∙ ap (λ j. payload_in (stored s (Made j) making.signed.text)) kind-is

  pub making-text : due_text (party_of r.log.setup) s (slot_of p.state) (Made kind) ≡ making.signed.text
  making-text =
      let h = state-of r s p.state k p.there in
      let texts = (slot-parts (view_in s k.0) (chain_in s k.0) p.state.view (texts_in p.state.chain) h.slot).1 in
      let made : Part → List Text → Text = λ part ts. next_text s (recipient_at (party_of r.log.setup) p.state.view.role) key ts part in
      ap (λ (w : Option Way). made (made_part w kind) (texts_in p.state.chain)) (sym p.way_is)
      ∙ ap (λ part. made part (texts_in p.state.chain)) (sym part_is)
      ∙ ap (made making.part) (sym texts)
      ∙ sym (texts-are (party_of r.log.setup) s k.0 p.state making.part h)
      ∙ ap (λ (x : Signed). x.text) (sym is.next)
