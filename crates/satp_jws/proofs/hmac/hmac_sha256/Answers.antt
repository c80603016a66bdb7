use Rattle.satp_base.specs.Signatures.{hmac}
use Rattle.satp_jws.proofs.hmac.hmac_sha256.Goals as goal

pub returns : goal.returns
unfolding hmac
returns c = cc
