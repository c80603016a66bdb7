use Rattle.std.proofs.Common.{◌∙◌, sym}
use Rattle.satp_log.specs.Journals.{party_of}
use Rattle.satp_decisions.proofs.Found.{key-is}
use Rattle.satp_decisions.proofs.HearLemmas.{on-again, on-next, on-other}
use Rattle.satp_decisions.proofs.on_chain.judged.Goals as goal

pub take-requires-clause-next : goal.take-requires-clause-next
take-requires-clause-next c = λ setup xs h. sym (c.requires.judged setup xs h) ∙ c.in-Next.is

pub returns-in-Next-clause-decides : goal.returns-in-Next-clause-decides
returns-in-Next-clause-decides c = λ e setup xs h formed log none.
    on-next (party_of setup) formed.2 xs log c.args.heard (key-is c.args.log.now setup xs c.args.heard.text c.args.heard.message h c.requires.own) e c.requires.of_chain.body none c.take.result
    (sym (c.requires.judged setup xs h) ∙ c.in-Next.is) (λ peer. c.take.ensures.takes setup xs h formed log peer)

pub returns-in-Again-clause-decides : goal.returns-in-Again-clause-decides
returns-in-Again-clause-decides c = λ e setup xs h formed log none.
    on-again (party_of setup) formed.2 xs log c.args.heard (key-is c.args.log.now setup xs c.args.heard.text c.args.heard.message h c.requires.own) e c.requires.of_chain.body none c.in-Again.place
    (sym (c.requires.judged setup xs h) ∙ c.in-Again.is)

pub returns-in_default-clause-decides : goal.returns-in_default-clause-decides
returns-in_default-clause-decides c = λ e setup xs h formed log none.
    on-other (party_of setup) formed.2 xs log c.args.heard (key-is c.args.log.now setup xs c.args.heard.text c.args.heard.message h c.requires.own) e c.requires.of_chain.body none c.args.verdict
    (sym (c.requires.judged setup xs h)) c.in_default.not-Next c.in_default.not-Again
