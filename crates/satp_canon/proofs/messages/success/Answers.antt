use Rattle.std.proofs.Common.{◌∙◌, [], ◌∷◌, sym}
use Rattle.satp_base.specs.declared.member.MemberName.TheVariants as name
use Rattle.serde_json.specs.View.{view}
use Rattle.satp_canon.proofs.Rows.{kind_fine, leaves, past}
use Rattle.satp_base.specs.declared.message.Kind.TheVariants.{RecoverSuccess}
use Rattle.satp_canon.proofs.messages.success.Goals as goal

pub returns-in_err-standing-clause-fault : goal.returns-in_err-standing-clause-fault
returns-in_err-standing-clause-fault c =
    let d = view c.args.value.now in
    leaves _ _ c.from_residual.ensures.1 ∙ sym (past d (name.Kind ∷ []) (name.Last ∷ name.Length ∷ name.Receiver ∷ name.Sender ∷ name.Session ∷ name.Version ∷ []) (kind_fine d RecoverSuccess c.requires) ∙ sym c.in_err-standing.ensures.fault)

pub returns-clause-fault : goal.returns-clause-fault
returns-clause-fault c =
    let d = view c.args.value.now in
    sym (past d (name.Kind ∷ []) (name.Last ∷ name.Length ∷ name.Receiver ∷ name.Sender ∷ name.Session ∷ name.Version ∷ []) (kind_fine d RecoverSuccess c.requires) ∙ sym c.in_ok-standing.ensures.fault)
