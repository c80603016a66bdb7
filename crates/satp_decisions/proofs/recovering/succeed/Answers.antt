use Rattle.std.proofs.Common.{◌∙◌, ap, sym}
use Rattle.satp_base.specs.declared.head.Head.{Head}
use Rattle.satp_log.specs.Journals.{party_of}
use Rattle.satp_recovery.specs.Rounds.{agree_of}
use Rattle.satp_decisions.proofs.Found.{key-is}
use Rattle.satp_decisions.proofs.Naming.{of-peer}
use Rattle.satp_decisions.proofs.RecoverLemmas.{success-decided, success-refused}
use Rattle.satp_decisions.proofs.recovering.succeed.Goals as goal

pub returns-in-Err-clause-decides : goal.returns-in-Err-clause-decides
returns-in-Err-clause-decides c = λ e setup xs h formed log none.
    let m = c.args.heard.now.message in
    let t = c.args.heard.now.text in
    success-refused (party_of setup) xs log m t (key-is c.args.log.now setup xs t m h c.requires.own) e (of-peer (party_of setup) xs m none) c.args.length c.args.last c.requires.body c.in-Err.fault
    (ap (λ (x : Head). agree_of x c.args.length c.args.last) (sym (c.head.ensures.head setup xs h formed log)) ∙ sym c.agree.ensures ∙ c.in-Err.is)

pub returns-in-Ok-clause-decides : goal.returns-in-Ok-clause-decides
returns-in-Ok-clause-decides c = λ e setup xs h formed log none.
    let m = c.args.heard.now.message in
    let t = c.args.heard.now.text in
    success-decided (party_of setup) xs log m t (key-is c.args.log.now setup xs t m h c.requires.own) e (of-peer (party_of setup) xs m none) c.args.length c.args.last c.requires.body
    (ap (λ (x : Head). agree_of x c.args.length c.args.last) (sym (c.head.ensures.head setup xs h formed log)) ∙ sym c.agree.ensures ∙ c.in-Ok.is)
