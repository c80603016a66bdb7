use Rattle.satp_base.proofs.Equalities.{equal_names}
use Rattle.satp_log.proofs.state.is_same.Goals as goal

pub returns : goal.returns
returns c = equal_names c.args.a c.args.b c.eq.result c.eq.ensures
