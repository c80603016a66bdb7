use Rattle.std.proofs.Common.{◌∙◌, ap}
use Rattle.satp_base.specs.Canonical.{kind_named}
use Rattle.satp_canon.proofs.Founds.{kind_told}
use Rattle.satp_canon.proofs.messages.kind_in.Goals as goal

pub returns-in-Some-clause-text : goal.returns-in-Some-clause-text
returns-in-Some-clause-text c = kind_told _ _ _ (c.kind_named.ensures ∙ ap kind_named c.as_bytes.ensures.value) c.in-Some.ensures
