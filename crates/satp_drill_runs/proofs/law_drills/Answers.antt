use Rattle.satp_drill_runs.proofs.law_drills.Goals as goal
use Rattle.satp_drill_runs.proofs.Ending.{drills-finish, drills-run, lines-reach}
use Rattle.satp_drill_runs.proofs.Starting.{starts-commit}

pub returns-clause-run : goal.returns-clause-run
returns-clause-run c = drills-run

pub returns-clause-reach : goal.returns-clause-reach
returns-clause-reach c = lines-reach

pub returns-clause-finish : goal.returns-clause-finish
returns-clause-finish c = drills-finish

pub returns-clause-starts : goal.returns-clause-starts
returns-clause-starts c = starts-commit
