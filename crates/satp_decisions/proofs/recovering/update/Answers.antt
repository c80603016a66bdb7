use Rattle.std.proofs.Common.{◌∙◌, ap, length, sym, subst}
use Rattle.std.specs.Prelude.{IfOk, Ok}
use Rattle.satp_base.specs.declared.head.Head.{Head}
use Rattle.satp_log.specs.Journals.{party_of}
use Rattle.satp_recovery.specs.Rounds.{take_of}
use Rattle.satp_base.specs.declared.message.Body.{Body}
use Rattle.satp_sides.specs.Calls.{IsEntryOf}
use Rattle.satp_decisions.specs.Tests.{HasEntry}
use Rattle.satp_decisions.proofs.Found.{entry-key, key-is}
use Rattle.satp_decisions.proofs.Naming.{of-peer}
use Rattle.satp_decisions.proofs.RecoverLemmas.{equal-entry, one-entry, other-entry, resent-entry, update-adopts, update-equal, update-refused, update-resends}
use Rattle.satp_decisions.proofs.recovering.update.Goals as goal

pub adopt-requires-clause-one : goal.adopt-requires-clause-one
adopt-requires-clause-one c =
    one-entry c.head.result c.args.length c.args.entries.now c.in-Ok-Adopt.place
    (ap (take_of c.head.result c.args.length) (sym c.length.ensures) ∙ sym c.take.ensures ∙ c.in-Ok-Adopt.is ∙ ap Ok c.in-Ok-Adopt.field-0-is)

pub returns-in-Ok-Adopt-clause-decides : goal.returns-in-Ok-Adopt-clause-decides
returns-in-Ok-Adopt-clause-decides c = λ e of setup xs h formed log none.
    let m = c.args.heard.now.message in
    let t = c.args.heard.now.text in
    let peer = of-peer (party_of setup) xs m none in
    update-adopts (party_of setup) xs log m t (key-is c.args.log.now setup xs t m h c.requires.own) e peer c.args.length c.args.entries.now c.requires.body c.in-Ok-Adopt.place c.adopt.result
    (ap (λ (x : Head). take_of x c.args.length (length c.args.entries.now)) (sym (c.head.ensures.head setup xs h formed log)) ∙ ap (take_of c.head.result c.args.length) (sym c.length.ensures) ∙ sym c.take.ensures ∙ c.in-Ok-Adopt.is ∙ ap Ok c.in-Ok-Adopt.field-0-is)
    (c.adopt.ensures.adopts setup xs h formed log c.args.length e (subst (λ (b : Body). IsEntryOf setup.key b e) c.requires.body (entry-key c.args.log.now setup xs m.body e h of)) peer.known)

pub returns-in-Ok-clause-decides : goal.returns-in-Ok-clause-decides
returns-in-Ok-clause-decides c = λ e of setup xs h formed log none.
    let m = c.args.heard.now.message in
    let t = c.args.heard.now.text in
    update-resends (party_of setup) xs log m t (key-is c.args.log.now setup xs t m h c.requires.own) e (of-peer (party_of setup) xs m none) c.args.length c.args.entries.now c.requires.body c.in-Ok-Resend.place c.in-Ok.reply
    (ap (λ (x : Head). take_of x c.args.length (length c.args.entries.now)) (sym (c.head.ensures.head setup xs h formed log)) ∙ ap (take_of c.head.result c.args.length) (sym c.length.ensures) ∙ sym c.take.ensures ∙ c.in-Ok-Resend.is ∙ ap Ok c.in-Ok-Resend.field-0-is)
    (c.in-Ok.ensures setup xs h)

pub returns-in-Ok-Equal-clause-decides : goal.returns-in-Ok-Equal-clause-decides
returns-in-Ok-Equal-clause-decides c = λ e of setup xs h formed log none.
    let m = c.args.heard.now.message in
    let t = c.args.heard.now.text in
    update-equal (party_of setup) xs log m t (key-is c.args.log.now setup xs t m h c.requires.own) e (of-peer (party_of setup) xs m none) c.args.length c.args.entries.now c.requires.body
    (ap (λ (x : Head). take_of x c.args.length (length c.args.entries.now)) (sym (c.head.ensures.head setup xs h formed log)) ∙ ap (take_of c.head.result c.args.length) (sym c.length.ensures) ∙ sym c.take.ensures ∙ c.in-Ok-Equal.is ∙ ap Ok c.in-Ok-Equal.field-0-is)

pub returns-in-Err-clause-decides : goal.returns-in-Err-clause-decides
returns-in-Err-clause-decides c = λ e of setup xs h formed log none.
    let m = c.args.heard.now.message in
    let t = c.args.heard.now.text in
    update-refused (party_of setup) xs log m t (key-is c.args.log.now setup xs t m h c.requires.own) e (of-peer (party_of setup) xs m none) c.args.length c.args.entries.now c.requires.body c.in-Err.fault
    (ap (λ (x : Head). take_of x c.args.length (length c.args.entries.now)) (sym (c.head.ensures.head setup xs h formed log)) ∙ ap (take_of c.head.result c.args.length) (sym c.length.ensures) ∙ sym c.take.ensures ∙ c.in-Err.is)

pub returns-in-Ok-Adopt-clause-entry : goal.returns-in-Ok-Adopt-clause-entry
returns-in-Ok-Adopt-clause-entry c =
    subst (λ (b : Body). IfOk c.adopt.result (λ _. HasEntry c.args.log.now.setup.key b)) (sym c.requires.body) (c.adopt.ensures.entry c.args.length)

pub returns-in-Ok-clause-entry : goal.returns-in-Ok-clause-entry
returns-in-Ok-clause-entry c =
    other-entry c.args.log.now.setup.key c.args.heard.now.message.body _ c.requires.body
    (resent-entry c.args.log.now.setup.key c.head.result c.args.length c.args.entries.now c.in-Ok-Resend.place
    (ap (take_of c.head.result c.args.length) (sym c.length.ensures) ∙ sym c.take.ensures ∙ c.in-Ok-Resend.is ∙ ap Ok c.in-Ok-Resend.field-0-is))

pub returns-in-Ok-Equal-clause-entry : goal.returns-in-Ok-Equal-clause-entry
returns-in-Ok-Equal-clause-entry c =
    other-entry c.args.log.now.setup.key c.args.heard.now.message.body _ c.requires.body
    (equal-entry c.args.log.now.setup.key c.head.result c.args.length c.args.entries.now
    (ap (take_of c.head.result c.args.length) (sym c.length.ensures) ∙ sym c.take.ensures ∙ c.in-Ok-Equal.is ∙ ap Ok c.in-Ok-Equal.field-0-is))
