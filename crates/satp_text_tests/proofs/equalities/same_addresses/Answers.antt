use Rattle.satp_base.proofs.Equalities.{equal_addresses}
use Rattle.satp_text_tests.proofs.equalities.same_addresses.Goals as goal

pub returns : goal.returns
returns c = equal_addresses c.args.a c.args.b c.eq.result c.eq.ensures
