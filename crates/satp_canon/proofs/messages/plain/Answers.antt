use Rattle.std.proofs.Common.{◌∙◌, List, [], ◌∷◌, ap, sym}
use Rattle.satp_base.specs.declared.member.MemberName.{MemberName}
use Rattle.satp_base.specs.declared.member.MemberName.TheVariants as name
use Rattle.serde_json.specs.View.{view}
use Rattle.satp_canon.specs.FirstFault.{form_fault, values_fault}
use Rattle.satp_canon.proofs.Rows.{alone, alone_found, kind_fine, leaves, past, stops}
use Rattle.satp_base.proofs.OneText.{plain_row}
use Rattle.satp_canon.proofs.messages.plain.Goals as goal

pub returns-in_err-previous-clause-fault : goal.returns-in_err-previous-clause-fault
returns-in_err-previous-clause-fault c =
    let d = view c.args.value.now in
    leaves _ _ c.from_residual.ensures.1 ∙ sym (ap (λ (ns : List MemberName). values_fault ns d) (plain_row c.args.kind c.requires.plain)
    ∙ past d (name.Kind ∷ []) (name.Previous ∷ name.Receiver ∷ name.Sender ∷ name.Sequence ∷ name.Session ∷ name.Version ∷ []) (kind_fine d c.args.kind c.requires.kind)
    ∙ stops d (name.Previous ∷ []) (name.Receiver ∷ name.Sender ∷ name.Sequence ∷ name.Session ∷ name.Version ∷ []) _ (alone_found (form_fault d name.Previous) _ c.in_err-previous.ensures.fault))

pub returns-in_err-parties-clause-fault : goal.returns-in_err-parties-clause-fault
returns-in_err-parties-clause-fault c =
    let d = view c.args.value.now in
    leaves _ _ c.from_residual-in_err-parties.ensures.1 ∙ sym (ap (λ (ns : List MemberName). values_fault ns d) (plain_row c.args.kind c.requires.plain)
    ∙ past d (name.Kind ∷ []) (name.Previous ∷ name.Receiver ∷ name.Sender ∷ name.Sequence ∷ name.Session ∷ name.Version ∷ []) (kind_fine d c.args.kind c.requires.kind)
    ∙ past d (name.Previous ∷ []) (name.Receiver ∷ name.Sender ∷ name.Sequence ∷ name.Session ∷ name.Version ∷ []) (alone (form_fault d name.Previous) c.in_ok-previous.ensures.fault)
    ∙ stops d (name.Receiver ∷ name.Sender ∷ []) (name.Sequence ∷ name.Session ∷ name.Version ∷ []) _ c.in_err-parties.ensures.fault)

pub returns-in_err-placed-clause-fault : goal.returns-in_err-placed-clause-fault
returns-in_err-placed-clause-fault c =
    let d = view c.args.value.now in
    leaves _ _ c.from_residual-in_err-placed.ensures.1 ∙ sym (ap (λ (ns : List MemberName). values_fault ns d) (plain_row c.args.kind c.requires.plain)
    ∙ past d (name.Kind ∷ []) (name.Previous ∷ name.Receiver ∷ name.Sender ∷ name.Sequence ∷ name.Session ∷ name.Version ∷ []) (kind_fine d c.args.kind c.requires.kind)
    ∙ past d (name.Previous ∷ []) (name.Receiver ∷ name.Sender ∷ name.Sequence ∷ name.Session ∷ name.Version ∷ []) (alone (form_fault d name.Previous) c.in_ok-previous.ensures.fault)
    ∙ past d (name.Receiver ∷ name.Sender ∷ []) (name.Sequence ∷ name.Session ∷ name.Version ∷ []) c.in_ok-parties.ensures.fault
    ∙ stops d (name.Sequence ∷ name.Session ∷ []) (name.Version ∷ []) _ c.in_err-placed.ensures.fault)

pub returns-in_err-version_at-clause-fault : goal.returns-in_err-version_at-clause-fault
returns-in_err-version_at-clause-fault c =
    let d = view c.args.value.now in
    leaves _ _ c.from_residual-in_err-version_at.ensures.1 ∙ sym (ap (λ (ns : List MemberName). values_fault ns d) (plain_row c.args.kind c.requires.plain)
    ∙ past d (name.Kind ∷ []) (name.Previous ∷ name.Receiver ∷ name.Sender ∷ name.Sequence ∷ name.Session ∷ name.Version ∷ []) (kind_fine d c.args.kind c.requires.kind)
    ∙ past d (name.Previous ∷ []) (name.Receiver ∷ name.Sender ∷ name.Sequence ∷ name.Session ∷ name.Version ∷ []) (alone (form_fault d name.Previous) c.in_ok-previous.ensures.fault)
    ∙ past d (name.Receiver ∷ name.Sender ∷ []) (name.Sequence ∷ name.Session ∷ name.Version ∷ []) c.in_ok-parties.ensures.fault
    ∙ past d (name.Sequence ∷ name.Session ∷ []) (name.Version ∷ []) c.in_ok-placed.ensures.fault
    ∙ stops d (name.Version ∷ []) ([]) _ (alone_found (form_fault d name.Version) _ c.in_err-version_at.ensures.fault))

pub returns-clause-fault : goal.returns-clause-fault
returns-clause-fault c =
    let d = view c.args.value.now in
    sym (ap (λ (ns : List MemberName). values_fault ns d) (plain_row c.args.kind c.requires.plain)
    ∙ past d (name.Kind ∷ []) (name.Previous ∷ name.Receiver ∷ name.Sender ∷ name.Sequence ∷ name.Session ∷ name.Version ∷ []) (kind_fine d c.args.kind c.requires.kind)
    ∙ past d (name.Previous ∷ []) (name.Receiver ∷ name.Sender ∷ name.Sequence ∷ name.Session ∷ name.Version ∷ []) (alone (form_fault d name.Previous) c.in_ok-previous.ensures.fault)
    ∙ past d (name.Receiver ∷ name.Sender ∷ []) (name.Sequence ∷ name.Session ∷ name.Version ∷ []) c.in_ok-parties.ensures.fault
    ∙ past d (name.Sequence ∷ name.Session ∷ []) (name.Version ∷ []) c.in_ok-placed.ensures.fault
    ∙ past d (name.Version ∷ []) ([]) (alone (form_fault d name.Version) c.in_ok-version_at.ensures.fault))
