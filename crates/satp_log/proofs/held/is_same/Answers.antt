use Rattle.satp_base.proofs.Equalities.{equal_sessions}
use Rattle.satp_log.proofs.held.is_same.Goals as goal

pub returns : goal.returns
returns c = equal_sessions c.args.a c.args.b c.eq.result c.eq.ensures
