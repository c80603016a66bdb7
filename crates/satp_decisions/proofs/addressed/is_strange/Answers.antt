use Rattle.std.proofs.Common.{◌∙◌, ap}
use Rattle.satp_base.specs.Founding.{equal_names}
use Rattle.satp_log.specs.Journals.{party_of}
use Rattle.satp_records.specs.declared.stored.Setup.{Setup}
use Rattle.satp_decisions.proofs.Found.{strange-own}
use Rattle.satp_decisions.proofs.addressed.is_strange.Goals as goal

pub returns-then-is_same : goal.returns-then-is_same
returns-then-is_same c = λ setup xs h.
    strange-own (party_of setup) xs c.args.session c.is_same.result c.is_named.result
    (c.is_same.ensures ∙ ap (λ (x : Setup). equal_names c.args.session.gateway x.name) (c.setup-setup.ensures ∙ h.setup_is)) c.if-is_same.true (c.is_named.ensures setup xs h)
