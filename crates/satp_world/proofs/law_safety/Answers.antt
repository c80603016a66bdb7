use Rattle.satp_world.proofs.StandLaw.{sessions-run, sessions-run-from-the-first}
use Rattle.satp_world.proofs.WorldLaw.{law_safety}
use Rattle.satp_world.proofs.law_safety.Goals as goal

pub returns-clause-safe : goal.returns-clause-safe
returns-clause-safe c = law_safety

pub returns-clause-runs : goal.returns-clause-runs
returns-clause-runs c = sessions-run

pub returns-clause-from_the_first : goal.returns-clause-from_the_first
returns-clause-from_the_first c = sessions-run-from-the-first
