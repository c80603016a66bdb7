use Rattle.std.proofs.Common.{◌∙◌, ap, sym}
use Rattle.satp_base.specs.Founding.{equal_names}
use Rattle.satp_base.proofs.Equalities as equalities
use Rattle.satp_base.proofs.GenesisLemmas.{equal_name, names_refl}
use Rattle.satp_decisions.proofs.Found.{same-test}
use Rattle.satp_decisions.proofs.addressed.is_same.Goals as goal

pub returns : goal.returns
returns c =
    let is = equalities.equal_names c.args.a c.args.b c.eq.result c.eq.ensures in
    same-test c.eq.result (equal_names c.args.a c.args.b) (λ e. ap (equal_names c.args.a) (sym (is.0 e)) ∙ names_refl c.args.a) (λ e. is.1 (equal_name c.args.a c.args.b e))
