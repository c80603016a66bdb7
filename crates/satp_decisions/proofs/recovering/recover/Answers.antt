use Rattle.std.proofs.Common.{◌∙◌, ap, sym}
use Rattle.satp_base.specs.declared.head.Head.{Head}
use Rattle.satp_log.specs.Journals.{party_of}
use Rattle.satp_recovery.specs.Rounds.{answer_of}
use Rattle.satp_decisions.proofs.Found.{key-is}
use Rattle.satp_decisions.proofs.Naming.{of-peer}
use Rattle.satp_decisions.proofs.RecoverLemmas.{asked-decided, recover-refused}
use Rattle.satp_decisions.proofs.recovering.recover.Goals as goal

pub returns-in-Err-clause-decides : goal.returns-in-Err-clause-decides
returns-in-Err-clause-decides c = λ e setup xs h formed log none.
    let m = c.args.heard.now.message in
    let t = c.args.heard.now.text in
    recover-refused (party_of setup) xs log m t (key-is c.args.log.now setup xs t m h c.requires.own) e (of-peer (party_of setup) xs m none) c.args.length c.args.last c.requires.body c.in-Err.fault
    (ap (λ (x : Head). answer_of x c.args.length c.args.last) (sym (c.head.ensures.head setup xs h formed log)) ∙ sym c.answer.ensures ∙ c.in-Err.is)

pub returns-in-Ok-asked-clause-decides : goal.returns-in-Ok-asked-clause-decides
returns-in-Ok-asked-clause-decides c = λ e setup xs h formed log none.
    let m = c.args.heard.now.message in
    let t = c.args.heard.now.text in
    asked-decided (party_of setup) xs log m t (key-is c.args.log.now setup xs t m h c.requires.own) e (of-peer (party_of setup) xs m none) c.args.length c.args.last c.requires.body _ c.in-Ok-asked.decision
    (ap (λ (x : Head). answer_of x c.args.length c.args.last) (sym (c.head.ensures.head setup xs h formed log)) ∙ sym c.answer.ensures ∙ c.in-Ok.is) (c.in-Ok-asked.ensures setup xs h)
