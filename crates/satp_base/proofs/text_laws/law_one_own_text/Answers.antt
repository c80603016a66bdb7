use Rattle.satp_base.proofs.SignatureLemmas.{own_shows}
use Rattle.satp_base.proofs.text_laws.law_one_own_text.Goals as goal

pub returns : goal.returns
returns c = own_shows
