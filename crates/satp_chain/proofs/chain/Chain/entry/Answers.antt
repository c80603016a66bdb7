use Rattle.std.proofs.Common.{◌∙◌, ap, subst}
use Rattle.satp_base.specs.Tales.{IsTale}
use Rattle.satp_chain.specs.Chained.{Chained, tale_of}
use Rattle.satp_chain.proofs.ChainedLemmas.{entry_found}
use Rattle.satp_chain.proofs.chain.Chain.entry.Goals as goal

pub returns-then-place-eq0-clause-tale : goal.returns-then-place-eq0-clause-tale
returns-then-place-eq0-clause-tale c = subst IsTale (c.self.invariant.0 ∙ ap tale_of c.self.view_is) c.self.invariant.1

pub returns-clause-entry : goal.returns-clause-entry
returns-clause-entry c =
    entry_found c.args.self.now c.args.place c.deref.result.now c.get.result c.if-place-eq0.false (c.deref.ensures.value ∙ ap (λ (chain : Chained). chain.kept) c.self.view_is) c.get.ensures.lookup.0 c.get.ensures.lookup.1

pub returns-clause-tale : goal.returns-clause-tale
returns-clause-tale c = subst IsTale (c.self.invariant.0 ∙ ap tale_of c.self.view_is) c.self.invariant.1
