use Rattle.satp_world.proofs.Limits.{law_limits}
use Rattle.satp_world.proofs.law_limits.Goals as goal

pub returns : goal.returns
returns c = law_limits
