use Rattle.satp_recipient.proofs.Tales.{law_tales}
use Rattle.satp_recipient.proofs.law_tales.Goals as goal

pub returns : goal.returns
returns c = law_tales
