use Rattle.satp_drive_laws.proofs.law_completes.Goals as goal
use Rattle.satp_drive_laws.proofs.QuietLaw.{recoveries-end, resumptions-end-so, starts-end}

pub returns-clause-recover : goal.returns-clause-recover
returns-clause-recover c = recoveries-end

pub returns-clause-start : goal.returns-clause-start
returns-clause-start c = starts-end

pub returns-clause-resume : goal.returns-clause-resume
returns-clause-resume c = resumptions-end-so
