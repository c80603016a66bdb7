use Rattle.satp_sides.proofs.Bounds.{logs-bounded}
use Rattle.satp_sides.proofs.LogLaw.{log-grows, log-sessions}
use Rattle.satp_sides.proofs.LogTexts.{log-texts}
use Rattle.satp_sides.proofs.law_logs.Goals as goal

pub returns-clause-grows : goal.returns-clause-grows
returns-clause-grows c = log-grows

pub returns-clause-sessions : goal.returns-clause-sessions
returns-clause-sessions c = log-sessions

pub returns-clause-bounded : goal.returns-clause-bounded
returns-clause-bounded c = logs-bounded

pub returns-clause-texts : goal.returns-clause-texts
returns-clause-texts c = log-texts
