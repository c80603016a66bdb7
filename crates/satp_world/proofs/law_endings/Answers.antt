use Rattle.satp_world.proofs.Endings.{law_endings}
use Rattle.satp_world.proofs.law_endings.Goals as goal

pub returns : goal.returns
returns c = law_endings
