use Rattle.std.proofs.Common.{◌∙◌, ap, sym}
use Rattle.satp_base.specs.Keys.{same_session}
use Rattle.satp_records.specs.declared.stored.Setup.{Setup}
use Rattle.satp_decisions.proofs.own.own_session.Goals as goal

pub returns : goal.returns
returns c = λ s gateway number. same_session s _ (gateway ∙ sym (ap (λ (x : Setup). x.name) c.setup.ensures)) number
