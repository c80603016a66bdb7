use Rattle.satp_drive_laws.proofs.law_undisturbed.Goals as goal
use Rattle.satp_drive_laws.proofs.CompleteLaw.{recoveries-complete, resumptions-complete, starts-complete}

pub returns-clause-recover : goal.returns-clause-recover
returns-clause-recover c = recoveries-complete

pub returns-clause-start : goal.returns-clause-start
returns-clause-start c = starts-complete

pub returns-clause-resume : goal.returns-clause-resume
returns-clause-resume c = resumptions-complete
