use Rattle.satp_base.proofs.SignatureLemmas.{jws_shows}
use Rattle.satp_base.proofs.text_laws.law_signatures.Goals as goal

pub returns : goal.returns
returns c = λ key other h p i q hb pb ib qb e. jws_shows key other h p i q hb pb ib qb e
