use Rattle.std.proofs.Common.{sym, ◌∙◌}
use Rattle.satp_base.proofs.Equalities.{eq_session}
use Rattle.satp_text_tests.proofs.chain_tests.ChainUnderTest.says.Goals as goal

pub check-requires : goal.check-requires
check-requires c = record {
  body = (c.is_formed.ensures c.if-is_formed.true).0;
  formed = (c.is_formed.ensures c.if-is_formed.true).1;
  session = eq_session c.args.signed.now.message.session c.args.self.now.session (sym c.eq.ensures ∙ c.if-eq.true) ∙ sym c.args.self.now.same;
}
