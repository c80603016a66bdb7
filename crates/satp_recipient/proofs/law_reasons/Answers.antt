use Rattle.satp_recipient.proofs.Aborts.{law_reasons}
use Rattle.satp_recipient.proofs.law_reasons.Goals as goal

pub returns : goal.returns
returns c = law_reasons
