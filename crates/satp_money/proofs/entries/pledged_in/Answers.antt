use Rattle.std.proofs.Common.{arith}
use Rattle.satp_money.proofs.Running.{pledged_fits, pledged_is}
use Rattle.satp_money.proofs.entries.pledged_in.Goals as goal

pub overflow_add-sum : goal.overflow_add-sum
overflow_add-sum c = omega (arith, c.pledged_part-sum.ensures, pledged_fits c.args.entries.now.entries c.loop-kept.kept-iterator c.next.new.self c.args.asset _ c.loop-kept.sum c.requires.fits c.iter-kept-items.ensures.ordered c.in-Some.ensures.steps c.loop-kept.invariant.2)

pub returns : goal.returns
returns c = pledged_is c.args.entries.now.entries c.loop-kept.kept-iterator c.args.asset c.loop-kept.sum c.iter-kept-items.ensures.ordered c.in-None.ensures.steps.0 c.loop-kept.invariant.2
