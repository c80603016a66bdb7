use Rattle.std.proofs.Common.{ap, ◌∙◌}
use Rattle.satp_jws.specs.Faults.{decoded}
use Rattle.satp_jws.proofs.DecodedBytes.{decoded_are_bytes}
use Rattle.satp_jws.proofs.PartLemmas.{decoded_as, decoded_encoded}
use Rattle.satp_jws.proofs.laws.law_parts.Goals as goal

pub returns : goal.returns
returns c = λ part bytes valid. (λ e. (decoded_are_bytes part bytes valid e, decoded_as part bytes valid e), λ h. ap decoded h.1 ∙ decoded_encoded bytes h.0)
