use Rattle.satp_jws.proofs.HeaderLemmas.{own_header_passes}
use Rattle.satp_jws.proofs.laws.law_own_header.Goals as goal

pub returns : goal.returns
returns c = own_header_passes
