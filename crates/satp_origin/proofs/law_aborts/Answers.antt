use Rattle.satp_origin.proofs.Aborts.{law_aborts}
use Rattle.satp_origin.proofs.law_aborts.Goals as goal

pub returns : goal.returns
returns c = law_aborts
