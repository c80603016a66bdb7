use Rattle.satp_recovery.proofs.RoundLemmas.{agrees-by, answers-by, by-agrees, by-answers, by-takes, takes-by}
use Rattle.satp_recovery.proofs.laws.law_rounds.Goals as goal

pub returns-clause-answers : goal.returns-clause-answers
returns-clause-answers c = λ h n last r. (answers-by h n last r, by-answers h n last r)

pub returns-clause-takes : goal.returns-clause-takes
returns-clause-takes c = λ h n entries r. (takes-by h n entries r, by-takes h n entries r)

pub returns-clause-agrees : goal.returns-clause-agrees
returns-clause-agrees c = λ h n last r. (agrees-by h n last r, by-agrees h n last r)
