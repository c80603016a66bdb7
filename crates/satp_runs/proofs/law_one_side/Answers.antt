use Rattle.satp_runs.proofs.law_one_side.Goals as goal
use Rattle.satp_runs.proofs.OneSideLaw.{gateways-are-sides}

pub returns : goal.returns
returns c = gateways-are-sides
