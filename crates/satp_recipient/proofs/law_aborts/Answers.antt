use Rattle.satp_recipient.proofs.Aborts.{law_aborts}
use Rattle.satp_recipient.proofs.law_aborts.Goals as goal

pub returns : goal.returns
returns c = law_aborts
