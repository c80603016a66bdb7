use Rattle.satp_life_laws.proofs.SuccessLaw.{successes-go-on}
use Rattle.satp_life_laws.proofs.law_success.Goals as goal

pub returns : goal.returns
returns c = successes-go-on
