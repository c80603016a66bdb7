use Rattle.satp_origin.proofs.Tales.{law_tales}
use Rattle.satp_origin.proofs.law_tales.Goals as goal

pub returns : goal.returns
returns c = law_tales
