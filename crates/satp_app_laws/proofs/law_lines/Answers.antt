use Rattle.satp_app_laws.proofs.LinesLaw.{recovers-say, resumes-say, starts-say}
use Rattle.satp_app_laws.proofs.law_lines.Goals as goal

pub returns-clause-recover : goal.returns-clause-recover
returns-clause-recover c = recovers-say

pub returns-clause-start : goal.returns-clause-start
returns-clause-start c = starts-say

pub returns-clause-resume : goal.returns-clause-resume
returns-clause-resume c = resumes-say
