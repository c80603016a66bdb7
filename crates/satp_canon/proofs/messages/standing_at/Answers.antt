use Rattle.std.proofs.Common.{◌∙◌, [], ◌∷◌, sym}
use Rattle.satp_base.specs.declared.member.MemberName.TheVariants as name
use Rattle.serde_json.specs.View.{view}
use Rattle.satp_canon.specs.FirstFault.{form_fault}
use Rattle.satp_canon.proofs.Rows.{alone, alone_found, leaves, past, stops}
use Rattle.satp_canon.proofs.messages.standing_at.Goals as goal

pub returns-in_err-last-clause-fault : goal.returns-in_err-last-clause-fault
returns-in_err-last-clause-fault c =
    let d = view c.args.value.now in
    leaves _ _ c.from_residual.ensures.1 ∙ sym (stops d (name.Last ∷ []) (name.Length ∷ name.Receiver ∷ name.Sender ∷ name.Session ∷ name.Version ∷ []) _ (alone_found (form_fault d name.Last) _ c.in_err-last.ensures.fault))

pub returns-in_err-length-clause-fault : goal.returns-in_err-length-clause-fault
returns-in_err-length-clause-fault c =
    let d = view c.args.value.now in
    leaves _ _ c.from_residual-in_err-length.ensures.1 ∙ sym (past d (name.Last ∷ []) (name.Length ∷ name.Receiver ∷ name.Sender ∷ name.Session ∷ name.Version ∷ []) (alone (form_fault d name.Last) c.in_ok-last.ensures.fault)
    ∙ stops d (name.Length ∷ []) (name.Receiver ∷ name.Sender ∷ name.Session ∷ name.Version ∷ []) _ (alone_found (form_fault d name.Length) _ c.in_err-length.ensures.fault))

pub returns-in_err-parties-clause-fault : goal.returns-in_err-parties-clause-fault
returns-in_err-parties-clause-fault c =
    let d = view c.args.value.now in
    leaves _ _ c.from_residual-in_err-parties.ensures.1 ∙ sym (past d (name.Last ∷ []) (name.Length ∷ name.Receiver ∷ name.Sender ∷ name.Session ∷ name.Version ∷ []) (alone (form_fault d name.Last) c.in_ok-last.ensures.fault)
    ∙ past d (name.Length ∷ []) (name.Receiver ∷ name.Sender ∷ name.Session ∷ name.Version ∷ []) (alone (form_fault d name.Length) c.in_ok-length.ensures.fault)
    ∙ stops d (name.Receiver ∷ name.Sender ∷ []) (name.Session ∷ name.Version ∷ []) _ c.in_err-parties.ensures.fault)

pub returns-in_err-session-clause-fault : goal.returns-in_err-session-clause-fault
returns-in_err-session-clause-fault c =
    let d = view c.args.value.now in
    leaves _ _ c.from_residual-in_err-session.ensures.1 ∙ sym (past d (name.Last ∷ []) (name.Length ∷ name.Receiver ∷ name.Sender ∷ name.Session ∷ name.Version ∷ []) (alone (form_fault d name.Last) c.in_ok-last.ensures.fault)
    ∙ past d (name.Length ∷ []) (name.Receiver ∷ name.Sender ∷ name.Session ∷ name.Version ∷ []) (alone (form_fault d name.Length) c.in_ok-length.ensures.fault)
    ∙ past d (name.Receiver ∷ name.Sender ∷ []) (name.Session ∷ name.Version ∷ []) c.in_ok-parties.ensures.fault
    ∙ stops d (name.Session ∷ []) (name.Version ∷ []) _ (alone_found (form_fault d name.Session) _ c.in_err-session.ensures.fault))

pub returns-in_err-version_at-clause-fault : goal.returns-in_err-version_at-clause-fault
returns-in_err-version_at-clause-fault c =
    let d = view c.args.value.now in
    leaves _ _ c.from_residual-in_err-version_at.ensures.1 ∙ sym (past d (name.Last ∷ []) (name.Length ∷ name.Receiver ∷ name.Sender ∷ name.Session ∷ name.Version ∷ []) (alone (form_fault d name.Last) c.in_ok-last.ensures.fault)
    ∙ past d (name.Length ∷ []) (name.Receiver ∷ name.Sender ∷ name.Session ∷ name.Version ∷ []) (alone (form_fault d name.Length) c.in_ok-length.ensures.fault)
    ∙ past d (name.Receiver ∷ name.Sender ∷ []) (name.Session ∷ name.Version ∷ []) c.in_ok-parties.ensures.fault
    ∙ past d (name.Session ∷ []) (name.Version ∷ []) (alone (form_fault d name.Session) c.in_ok-session.ensures.fault)
    ∙ stops d (name.Version ∷ []) ([]) _ (alone_found (form_fault d name.Version) _ c.in_err-version_at.ensures.fault))

pub returns-clause-fault : goal.returns-clause-fault
returns-clause-fault c =
    let d = view c.args.value.now in
    sym (past d (name.Last ∷ []) (name.Length ∷ name.Receiver ∷ name.Sender ∷ name.Session ∷ name.Version ∷ []) (alone (form_fault d name.Last) c.in_ok-last.ensures.fault)
    ∙ past d (name.Length ∷ []) (name.Receiver ∷ name.Sender ∷ name.Session ∷ name.Version ∷ []) (alone (form_fault d name.Length) c.in_ok-length.ensures.fault)
    ∙ past d (name.Receiver ∷ name.Sender ∷ []) (name.Session ∷ name.Version ∷ []) c.in_ok-parties.ensures.fault
    ∙ past d (name.Session ∷ []) (name.Version ∷ []) (alone (form_fault d name.Session) c.in_ok-session.ensures.fault)
    ∙ past d (name.Version ∷ []) ([]) (alone (form_fault d name.Version) c.in_ok-version_at.ensures.fault))
