use Rattle.std.proofs.Common.{Bool, cond, ap, sym, ◌∙◌}
use Rattle.satp_chain.specs.Chained.{tale_of}
use Rattle.satp_base.specs.declared.verdict.Verdict.TheVariants.{Next, OffTale}
use Rattle.satp_chain.proofs.ChainedLemmas.{next_answers}
use Rattle.satp_chain.proofs.chain.Chain.next_verdict.Goals as goal

pub returns-then-extends : goal.returns-then-extends
returns-then-extends c = sym (
    next_answers c.args.self.now c.args.place c.args.previous.now c.args.kind c.self.inside.tale c.length.result c.link-kept.result c.ne.result c.extends.result
    (c.self.invariant.0 ∙ ap tale_of c.self.view_is) c.self.invariant.1 c.length.ensures.length c.link-kept.ensures c.ne.ensures c.if-ne.false c.extends.ensures
    ∙ ap (λ (b : Bool). cond b Next (OffTale c.args.place)) c.if-extends.true)

pub returns-else-extends : goal.returns-else-extends
returns-else-extends c = sym (
    next_answers c.args.self.now c.args.place c.args.previous.now c.args.kind c.self.inside.tale c.length.result c.link-kept.result c.ne.result c.extends.result
    (c.self.invariant.0 ∙ ap tale_of c.self.view_is) c.self.invariant.1 c.length.ensures.length c.link-kept.ensures c.ne.ensures c.if-ne.false c.extends.ensures
    ∙ ap (λ (b : Bool). cond b Next (OffTale c.args.place)) c.if-extends.false)
