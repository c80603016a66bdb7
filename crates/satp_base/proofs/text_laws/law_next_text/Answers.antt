use Rattle.satp_base.proofs.ChainLemmas.{texts_appended}
use Rattle.satp_base.proofs.text_laws.law_next_text.Goals as goal

pub returns : goal.returns
returns c = texts_appended
