use Rattle.satp_wire_laws.proofs.law_two_ends.Goals as goal
use Rattle.satp_wire_laws.proofs.WiredLaw.{recoveries-meet, resumptions-meet, starts-meet}

pub returns-clause-recover : goal.returns-clause-recover
returns-clause-recover c = recoveries-meet

pub returns-clause-start : goal.returns-clause-start
returns-clause-start c = starts-meet

pub returns-clause-resume : goal.returns-clause-resume
returns-clause-resume c = resumptions-meet
