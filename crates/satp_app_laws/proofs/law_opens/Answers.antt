use Rattle.satp_app_laws.proofs.OpeningLaw.{commands-open, commands-open-unless-failed}
use Rattle.satp_app_laws.proofs.law_opens.Goals as goal

pub returns-clause-opens : goal.returns-clause-opens
returns-clause-opens c = commands-open

pub returns-clause-unless_failed : goal.returns-clause-unless_failed
returns-clause-unless_failed c = commands-open-unless-failed
