use Rattle.satp_point_laws.proofs.CallStops.{calls-leave-points}
use Rattle.satp_point_laws.proofs.law_calls_stopped.Goals as goal

pub returns : goal.returns
returns c = calls-leave-points
