use Rattle.std.proofs.Common.{ap, sym, ◌∙◌}
use Rattle.satp_plan.specs.declared.planning.Making.{Making}
use Rattle.satp_log.proofs.Folds.{not-both}
use Rattle.satp_plan.proofs.Indexes.{found-at, none-at, none-more}
use Rattle.satp_plan.proofs.finding.making_index.Goals as goal

pub returns-then-is_same_part : goal.returns-then-is_same_part
returns-then-is_same_part c = found-at (λ (making : Making). making.part) c.args.makings.now c.loop-index.index c.index-makings-index.result c.args.part.now c.loop-index-test.true c.index-makings-index.is
    (ap (λ (making : Making). making.part) c.index-makings-index.is ∙ c.is_same_part.ensures.0 c.if-is_same_part.true)

pub loop-index-preserved : goal.loop-index-preserved
loop-index-preserved c = none-more (λ (making : Making). making.part) c.args.makings.now c.loop-index.index c.index-makings-index.result c.args.part.now c.index-makings-index.is
    (λ e. not-both c.is_same_part.result c.if-is_same_part.false (c.is_same_part.ensures.1 (ap (λ (making : Making). making.part) (sym c.index-makings-index.is) ∙ e))) c.loop-index.invariant

pub returns : goal.returns
returns c = none-at (λ (making : Making). making.part) c.args.makings.now c.loop-index.index c.args.part.now c.loop-index-test.false c.loop-index.invariant
