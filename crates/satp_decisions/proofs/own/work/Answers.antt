use Rattle.satp_log.specs.Journals.{party_of}
use Rattle.satp_decisions.proofs.OwnLemmas.{work-decided, work-strange}
use Rattle.satp_decisions.proofs.own.work.Goals as goal

pub returns-in-Some-clause-decides : goal.returns-in-Some-clause-decides
returns-in-Some-clause-decides c = λ setup xs h formed log. work-decided (party_of setup) xs log c.args.session _ (c.in-Some.ensures.found setup xs h).slot

pub returns-in-None-clause-decides : goal.returns-in-None-clause-decides
returns-in-None-clause-decides c = λ setup xs h formed log. work-strange (party_of setup) xs log c.args.session (c.in-None.ensures.found setup xs h)
