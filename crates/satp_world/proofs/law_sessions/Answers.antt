use Rattle.satp_world.proofs.SafeLaw.{law_sessions}
use Rattle.satp_world.proofs.law_sessions.Goals as goal

pub returns : goal.returns
returns c = law_sessions
