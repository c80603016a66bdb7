use Rattle.satp_money.proofs.StepLaw.{finished_stays, others_stay}
use Rattle.satp_money.proofs.laws.law_finished.Goals as goal

pub returns-clause-finished : goal.returns-clause-finished
returns-clause-finished c = finished_stays

pub returns-clause-others : goal.returns-clause-others
returns-clause-others c = others_stay
