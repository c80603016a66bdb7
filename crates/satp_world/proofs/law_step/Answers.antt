use Rattle.satp_world.proofs.SessionLaw.{law_step}
use Rattle.satp_world.proofs.StandLaw.{moves-stand}
use Rattle.satp_world.proofs.WorldLaw.{start-stands}
use Rattle.satp_world.proofs.law_step.Goals as goal

pub returns-clause-session : goal.returns-clause-session
returns-clause-session c = law_step

pub returns-clause-beginning : goal.returns-clause-beginning
returns-clause-beginning c = start-stands

pub returns-clause-moves : goal.returns-clause-moves
returns-clause-moves c = moves-stand
