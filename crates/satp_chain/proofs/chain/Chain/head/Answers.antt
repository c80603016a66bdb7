use Rattle.std.proofs.Common.{◌∙◌, ap, arith, subst}
use Rattle.satp_base.specs.Tales.{IsTale}
use Rattle.satp_base.proofs.TaleTable.{tale-short}
use Rattle.satp_chain.specs.Chained.{tale_of}
use Rattle.satp_chain.proofs.chain.Chain.head.Goals as goal

pub returns-clause-tale : goal.returns-clause-tale
returns-clause-tale c = subst IsTale (c.self.invariant.0 ∙ ap tale_of c.self.view_is) c.self.invariant.1

pub returns-clause-within : goal.returns-clause-within
returns-clause-within c = omega (arith, c.length-length.ensures.length, tale-short _ c.length-length.ensures.tale)
