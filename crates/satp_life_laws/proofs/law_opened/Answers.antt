use Rattle.satp_life_laws.proofs.ClosedLaw.{answers-stay-open}
use Rattle.satp_life_laws.proofs.OpenedLaw.{closed-open, openings-stand}
use Rattle.satp_life_laws.proofs.law_opened.Goals as goal

pub returns-clause-stands : goal.returns-clause-stands
returns-clause-stands c = openings-stand

pub returns-clause-opens : goal.returns-clause-opens
returns-clause-opens c = closed-open

pub returns-clause-stays : goal.returns-clause-stays
returns-clause-stays c = answers-stay-open
