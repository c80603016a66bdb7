use Rattle.satp_point_laws.proofs.DecidedLaw.{broken-answers, done-answers, refusal-answers}
use Rattle.satp_point_laws.proofs.law_decided.Goals as goal

pub returns-clause-done : goal.returns-clause-done
returns-clause-done c = done-answers

pub returns-clause-refused : goal.returns-clause-refused
returns-clause-refused c = refusal-answers

pub returns-clause-broken : goal.returns-clause-broken
returns-clause-broken c = broken-answers
