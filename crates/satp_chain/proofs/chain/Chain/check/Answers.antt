use Rattle.std.proofs.Common.{◌≡◌, ◌∙◌, ap, subst}
use Rattle.satp_base.specs.Tales.{IsTale}
use Rattle.satp_base.proofs.VerdictLemmas.{next_tale, off_tale}
use Rattle.satp_chain.specs.Chained.{state_of, tale_of}
use Rattle.satp_chain.specs.Verdicts.{verdict}
use Rattle.satp_chain.proofs.ChainedLemmas.{checked}
use Rattle.satp_chain.proofs.chain.Chain.check.Goals as goal

pub returns-clause-tale : goal.returns-clause-tale
returns-clause-tale c = subst IsTale (c.self.invariant.0 ∙ ap tale_of c.self.view_is) c.self.invariant.1

verdict_is : (c : goal.After-place_verdict) → verdict c.args.self.now c.args.signed.now ≡ c.place_verdict.result
verdict_is c =
    checked c.args.self.now c.args.signed.now c.in-Chain.place c.in-Chain.previous c.in-Chain.part c.kind.result c.bytes.result.now c.place_verdict.result
    c.in-Chain.is c.kind.ensures c.bytes.ensures c.place_verdict.ensures

pub returns-clause-next : goal.returns-clause-next
returns-clause-next c e = next_tale (state_of c.args.self.now) c.args.signed.now.message c.args.signed.now.text (returns-clause-tale c) c.requires.body (verdict_is c ∙ e)

pub returns-clause-off : goal.returns-clause-off
returns-clause-off c place e = off_tale (state_of c.args.self.now) c.args.signed.now.message c.args.signed.now.text place (returns-clause-tale c) (verdict_is c ∙ e)
