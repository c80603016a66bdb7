use Rattle.satp_world.proofs.TotalLaw.{law_total}
use Rattle.satp_world.proofs.law_total.Goals as goal

pub returns : goal.returns
returns c = law_total
