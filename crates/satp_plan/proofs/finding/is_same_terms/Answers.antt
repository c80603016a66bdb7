use Rattle.satp_base.proofs.Equalities.{equal_terms}
use Rattle.satp_plan.proofs.finding.is_same_terms.Goals as goal

pub returns : goal.returns
returns c = equal_terms c.args.a c.args.b c.eq.result c.eq.ensures
