use Rattle.std.proofs.Common.{◌∙◌, ap, sym, Some}
use Rattle.satp_base.specs.Values.{session_text}
use Rattle.satp_words.proofs.Listings.{no_value}
use Rattle.satp_words.proofs.values.session_value.Goals as goal

pub returns-in-Err-clause-refused : goal.returns-in-Err-clause-refused
returns-in-Err-clause-refused c e = no_value session_text _ c.as_bytes.result.now c.read.result c.in-Err.field-0 (ap Some c.as_bytes.ensures.value ∙ c.in-Some.ensures) c.in-Err.is c.read.ensures.complete

pub returns-in-Ok-clause-ok : goal.returns-in-Ok-clause-ok
returns-in-Ok-clause-ok c = sym c.in-Some.ensures ∙ ap Some (sym c.as_bytes.ensures.value ∙ sym c.in-Ok.ensures.read.1)
