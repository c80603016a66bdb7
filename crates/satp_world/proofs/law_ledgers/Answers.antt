use Rattle.satp_world.proofs.LedgerLaw.{agreed-answered}
use Rattle.satp_world.proofs.RuleMoves.{after-fits, agrees-by}
use Rattle.satp_world.proofs.law_ledgers.Goals as goal

pub returns-clause-rule : goal.returns-clause-rule
returns-clause-rule c = agrees-by

pub returns-clause-answered : goal.returns-clause-answered
returns-clause-answered c = agreed-answered

pub returns-clause-fits : goal.returns-clause-fits
returns-clause-fits c = after-fits
