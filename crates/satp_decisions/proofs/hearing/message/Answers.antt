use Rattle.satp_log.specs.Journals.{party_of}
use Rattle.satp_decisions.proofs.HearLemmas.{address-first, refused-over}
use Rattle.satp_decisions.proofs.hearing.message.Goals as goal

pub returns-in-Ok-clause-decides : goal.returns-in-Ok-clause-decides
returns-in-Ok-clause-decides c = λ e of setup xs h formed log. c.by_body.ensures.decides e of setup xs h formed log (c.in-Ok.ensures.tests setup xs h)

pub returns-in-Err-clause-decides : goal.returns-in-Err-clause-decides
returns-in-Err-clause-decides c = λ e of setup xs h formed log.
    let m = c.args.heard.message in
    let t = c.args.heard.text in
    refused-over (party_of setup) xs m t e c.in-Err.refused (address-first (party_of setup) xs m t e c.in-Err.refused (c.in-Err.ensures.tests setup xs h))
