use Rattle.std.proofs.Common.{◌∙◌, ◌+◌, ap, arith, sym, true, false}
use Rattle.satp_base.proofs.GenesisLemmas.{held_counts, held_fits}
use Rattle.satp_base.proofs.genesis.held_in.Goals as goal
use Rattle.satp_base.proofs.genesis.held_in.Goals.{then-are_equal, else-are_equal}

pub overflow_add-sum : goal.overflow_add-sum
overflow_add-sum c = omega (arith, c.get-sum.ensures, c.hold-item.result.amount.high, c.loop-hold-test.true, held_fits c.args.holds.now c.loop-hold.hold-index c.args.asset c.loop-hold.sum c.hold-item.result.amount.number c.requires (omega (arith, c.loop-hold-test.true)) c.loop-hold.invariant c.hold-item.result.amount.high)

pub loop-hold-preserved : goal.loop-hold-preserved
loop-hold-preserved c = elim c.if-are_equal.branch [
  | then-are_equal w ↦ w.sum-is ∙ ap (λ x. c.loop-hold.sum + x) w.get-sum.ensures ∙ held_counts c.args.holds.now c.loop-hold.hold-index c.args.asset c.hold-item.result c.loop-hold.sum true c.loop-hold-test.true c.hold-item.is (sym w.if-are_equal.true ∙ c.are_equal.ensures) c.loop-hold.invariant
  | else-are_equal w ↦ w.sum-is ∙ omega (arith, held_counts c.args.holds.now c.loop-hold.hold-index c.args.asset c.hold-item.result c.loop-hold.sum false c.loop-hold-test.true c.hold-item.is (sym w.if-are_equal.false ∙ c.are_equal.ensures) c.loop-hold.invariant)
]
