use Rattle.std.proofs.Common.{◌∙◌}
use Rattle.satp_base.proofs.GenesisLemmas.{names_test}
use Rattle.satp_drill.proofs.names.are_equal.Goals as goal

pub returns : goal.returns
returns c = c.eq.ensures ∙ names_test c.args.b c.args.a
