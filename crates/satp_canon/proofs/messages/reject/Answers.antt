use Rattle.std.proofs.Common.{◌∙◌, [], ◌∷◌, sym}
use Rattle.satp_base.specs.declared.member.MemberName.TheVariants as name
use Rattle.serde_json.specs.View.{view}
use Rattle.satp_canon.specs.FirstFault.{form_fault}
use Rattle.satp_canon.proofs.Rows.{alone, alone_found, kind_fine, leaves, past, stops}
use Rattle.satp_base.specs.declared.message.Kind.TheVariants.{Reject}
use Rattle.satp_canon.proofs.messages.reject.Goals as goal

pub returns-in_err-previous-clause-fault : goal.returns-in_err-previous-clause-fault
returns-in_err-previous-clause-fault c =
    let d = view c.args.value.now in
    leaves _ _ c.from_residual.ensures.1 ∙ sym (past d (name.Kind ∷ []) (name.Previous ∷ name.Reason ∷ name.Receiver ∷ name.Sender ∷ name.Sequence ∷ name.Session ∷ name.Version ∷ []) (kind_fine d Reject c.requires)
    ∙ stops d (name.Previous ∷ []) (name.Reason ∷ name.Receiver ∷ name.Sender ∷ name.Sequence ∷ name.Session ∷ name.Version ∷ []) _ (alone_found (form_fault d name.Previous) _ c.in_err-previous.ensures.fault))

pub returns-in_err-reason-clause-fault : goal.returns-in_err-reason-clause-fault
returns-in_err-reason-clause-fault c =
    let d = view c.args.value.now in
    leaves _ _ c.from_residual-in_err-reason.ensures.1 ∙ sym (past d (name.Kind ∷ []) (name.Previous ∷ name.Reason ∷ name.Receiver ∷ name.Sender ∷ name.Sequence ∷ name.Session ∷ name.Version ∷ []) (kind_fine d Reject c.requires)
    ∙ past d (name.Previous ∷ []) (name.Reason ∷ name.Receiver ∷ name.Sender ∷ name.Sequence ∷ name.Session ∷ name.Version ∷ []) (alone (form_fault d name.Previous) c.in_ok-previous.ensures.fault)
    ∙ stops d (name.Reason ∷ []) (name.Receiver ∷ name.Sender ∷ name.Sequence ∷ name.Session ∷ name.Version ∷ []) _ (alone_found (form_fault d name.Reason) _ c.in_err-reason.ensures.fault))

pub returns-in_err-parties-clause-fault : goal.returns-in_err-parties-clause-fault
returns-in_err-parties-clause-fault c =
    let d = view c.args.value.now in
    leaves _ _ c.from_residual-in_err-parties.ensures.1 ∙ sym (past d (name.Kind ∷ []) (name.Previous ∷ name.Reason ∷ name.Receiver ∷ name.Sender ∷ name.Sequence ∷ name.Session ∷ name.Version ∷ []) (kind_fine d Reject c.requires)
    ∙ past d (name.Previous ∷ []) (name.Reason ∷ name.Receiver ∷ name.Sender ∷ name.Sequence ∷ name.Session ∷ name.Version ∷ []) (alone (form_fault d name.Previous) c.in_ok-previous.ensures.fault)
    ∙ past d (name.Reason ∷ []) (name.Receiver ∷ name.Sender ∷ name.Sequence ∷ name.Session ∷ name.Version ∷ []) (alone (form_fault d name.Reason) c.in_ok-reason.ensures.fault)
    ∙ stops d (name.Receiver ∷ name.Sender ∷ []) (name.Sequence ∷ name.Session ∷ name.Version ∷ []) _ c.in_err-parties.ensures.fault)

pub returns-in_err-placed-clause-fault : goal.returns-in_err-placed-clause-fault
returns-in_err-placed-clause-fault c =
    let d = view c.args.value.now in
    leaves _ _ c.from_residual-in_err-placed.ensures.1 ∙ sym (past d (name.Kind ∷ []) (name.Previous ∷ name.Reason ∷ name.Receiver ∷ name.Sender ∷ name.Sequence ∷ name.Session ∷ name.Version ∷ []) (kind_fine d Reject c.requires)
    ∙ past d (name.Previous ∷ []) (name.Reason ∷ name.Receiver ∷ name.Sender ∷ name.Sequence ∷ name.Session ∷ name.Version ∷ []) (alone (form_fault d name.Previous) c.in_ok-previous.ensures.fault)
    ∙ past d (name.Reason ∷ []) (name.Receiver ∷ name.Sender ∷ name.Sequence ∷ name.Session ∷ name.Version ∷ []) (alone (form_fault d name.Reason) c.in_ok-reason.ensures.fault)
    ∙ past d (name.Receiver ∷ name.Sender ∷ []) (name.Sequence ∷ name.Session ∷ name.Version ∷ []) c.in_ok-parties.ensures.fault
    ∙ stops d (name.Sequence ∷ name.Session ∷ []) (name.Version ∷ []) _ c.in_err-placed.ensures.fault)

pub returns-in_err-version_at-clause-fault : goal.returns-in_err-version_at-clause-fault
returns-in_err-version_at-clause-fault c =
    let d = view c.args.value.now in
    leaves _ _ c.from_residual-in_err-version_at.ensures.1 ∙ sym (past d (name.Kind ∷ []) (name.Previous ∷ name.Reason ∷ name.Receiver ∷ name.Sender ∷ name.Sequence ∷ name.Session ∷ name.Version ∷ []) (kind_fine d Reject c.requires)
    ∙ past d (name.Previous ∷ []) (name.Reason ∷ name.Receiver ∷ name.Sender ∷ name.Sequence ∷ name.Session ∷ name.Version ∷ []) (alone (form_fault d name.Previous) c.in_ok-previous.ensures.fault)
    ∙ past d (name.Reason ∷ []) (name.Receiver ∷ name.Sender ∷ name.Sequence ∷ name.Session ∷ name.Version ∷ []) (alone (form_fault d name.Reason) c.in_ok-reason.ensures.fault)
    ∙ past d (name.Receiver ∷ name.Sender ∷ []) (name.Sequence ∷ name.Session ∷ name.Version ∷ []) c.in_ok-parties.ensures.fault
    ∙ past d (name.Sequence ∷ name.Session ∷ []) (name.Version ∷ []) c.in_ok-placed.ensures.fault
    ∙ stops d (name.Version ∷ []) ([]) _ (alone_found (form_fault d name.Version) _ c.in_err-version_at.ensures.fault))

pub returns-clause-fault : goal.returns-clause-fault
returns-clause-fault c =
    let d = view c.args.value.now in
    sym (past d (name.Kind ∷ []) (name.Previous ∷ name.Reason ∷ name.Receiver ∷ name.Sender ∷ name.Sequence ∷ name.Session ∷ name.Version ∷ []) (kind_fine d Reject c.requires)
    ∙ past d (name.Previous ∷ []) (name.Reason ∷ name.Receiver ∷ name.Sender ∷ name.Sequence ∷ name.Session ∷ name.Version ∷ []) (alone (form_fault d name.Previous) c.in_ok-previous.ensures.fault)
    ∙ past d (name.Reason ∷ []) (name.Receiver ∷ name.Sender ∷ name.Sequence ∷ name.Session ∷ name.Version ∷ []) (alone (form_fault d name.Reason) c.in_ok-reason.ensures.fault)
    ∙ past d (name.Receiver ∷ name.Sender ∷ []) (name.Sequence ∷ name.Session ∷ name.Version ∷ []) c.in_ok-parties.ensures.fault
    ∙ past d (name.Sequence ∷ name.Session ∷ []) (name.Version ∷ []) c.in_ok-placed.ensures.fault
    ∙ past d (name.Version ∷ []) ([]) (alone (form_fault d name.Version) c.in_ok-version_at.ensures.fault))
