use Rattle.std.proofs.Common.{◌∙◌, ap, refl, sym}
use Rattle.satp_base.specs.Signatures.{encoded}
use Rattle.satp_base.proofs.SignatureLemmas.{encoded_by}
use Rattle.satp_jws.proofs.PartLemmas.{decoded_ok, not_decoded}
use Rattle.satp_jws.proofs.encoding.decode.Goals as goal

pub returns-in-Ok-copy-clause-outcome : goal.returns-in-Ok-copy-clause-outcome
returns-in-Ok-copy-clause-outcome c = decoded_ok c.args.part.now c.in-Ok.bytes.items c.in-Ok-copy.text c.in-Ok.ensures.ok (c.in-Ok-copy.ensures ∙ c.as_slice.ensures.value)

pub returns-clause-outcome : goal.returns-clause-outcome
returns-clause-outcome c = λ _. not_decoded c.args.part.now c.in-Err-DecodeError.field-0 c.in-Err-DecodeError.field-0-0 c.in-Err-DecodeError.field-0-is c.in-Err-DecodeError.ensures.err

pub returns-in-Ok-copy-clause-exact : goal.returns-in-Ok-copy-clause-exact
returns-in-Ok-copy-clause-exact c = c.in-Ok.ensures.exact (refl, refl) ∙ encoded_by c.in-Ok.bytes.items ∙ sym (ap encoded (c.in-Ok-copy.ensures ∙ c.as_slice.ensures.value))
