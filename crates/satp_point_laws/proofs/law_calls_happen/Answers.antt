use Rattle.satp_point_laws.proofs.HappenLaw.{calls-happen, stops-happen}
use Rattle.satp_point_laws.proofs.law_calls_happen.Goals as goal

pub returns-clause-calls : goal.returns-clause-calls
returns-clause-calls c = calls-happen

pub returns-clause-stops : goal.returns-clause-stops
returns-clause-stops c = stops-happen
