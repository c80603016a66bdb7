use Rattle.satp_base.proofs.OneText.{one_text}
use Rattle.satp_base.proofs.canonical.law_one_message.Goals as goal

pub returns : goal.returns
returns c m n text = one_text m n text
