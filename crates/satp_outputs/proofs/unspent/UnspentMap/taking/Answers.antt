use Rattle.std.proofs.Common.{◌∙◌, ◌++◌, [], ◌∷◌, arith, sym}
use Rattle.satp_outputs.proofs.OutputLemmas.{ends_here, passed_more, passed_skip, passed_sum}
use Rattle.satp_outputs.proofs.unspent.UnspentMap.taking.Goals as goal

pub returns-then-sum-amount-clause-ends : goal.returns-then-sum-amount-clause-ends
returns-then-sum-amount-clause-ends c =
    ends_here c.args.self.now.outputs.entries c.loop-number.invariant.3.0 c.next.new.self c.loop-number.number-iterator c.in-Some.number.now c.in-Some.output.now c.args.asset c.args.owner c.loop-number.sum c.args.amount
    c.loop-number.invariant.3.1 c.in-Some.ensures.steps c.iter-number-items.ensures.ordered c.loop-number.invariant.3.2 (sym c.is_own.ensures ∙ c.if-is_own.true) c.loop-number.invariant.2 (omega (arith, c.if-sum-amount.true))

pub loop-number-preserved-else-sum-amount : goal.loop-number-preserved-else-sum-amount
loop-number-preserved-else-sum-amount c = (
  tt,
  tt,
  omega (arith, c.if-sum-amount.false),
  (
    c.loop-number.invariant.3.0 ++ (c.in-Some.number.now, c.in-Some.output.now) ∷ [],
    passed_more c.args.self.now.outputs.entries c.loop-number.invariant.3.0 c.loop-number.number-iterator c.next.new.self (c.in-Some.number.now, c.in-Some.output.now) c.loop-number.invariant.3.1 c.in-Some.ensures.steps,
    passed_sum c.loop-number.invariant.3.0 c.in-Some.number.now c.in-Some.output.now c.args.asset c.args.owner _ c.loop-number.sum c.loop-number.invariant.3.2 (sym c.is_own.ensures ∙ c.if-is_own.true),
  ),
)

pub loop-number-preserved : goal.loop-number-preserved
loop-number-preserved c = (
  tt,
  tt,
  c.loop-number.invariant.2,
  (
    c.loop-number.invariant.3.0 ++ (c.in-Some.number.now, c.in-Some.output.now) ∷ [],
    passed_more c.args.self.now.outputs.entries c.loop-number.invariant.3.0 c.loop-number.number-iterator c.next.new.self (c.in-Some.number.now, c.in-Some.output.now) c.loop-number.invariant.3.1 c.in-Some.ensures.steps,
    passed_skip c.loop-number.invariant.3.0 c.in-Some.number.now c.in-Some.output.now c.args.asset c.args.owner c.loop-number.sum c.loop-number.invariant.3.2 (sym c.is_own.ensures ∙ c.if-is_own.false),
  ),
)
