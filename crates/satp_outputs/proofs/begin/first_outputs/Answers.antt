use Rattle.std.proofs.Common.{arith, refl}
use Rattle.satp_outputs.specs.States.{unspent_in}
use Rattle.satp_outputs.proofs.BeginLemmas.{all_outputs, few_numbers, more_outputs}
use Rattle.satp_outputs.proofs.begin.first_outputs.Goals as goal

pub add_hold-requires : goal.add_hold-requires
add_hold-requires c = omega (arith, few_numbers c.args.genesis.now.holds c.loop-index.index _ (unspent_in c.loop-index.unspent) c.loop-index.invariant.0 refl, c.loop-index-test.true)

pub loop-index-preserved : goal.loop-index-preserved
loop-index-preserved c = (more_outputs c.args.genesis.now.holds c.loop-index.index _ _ _ c.loop-index.invariant.0 c.hold_at.ensures.hold c.in_ok-add_hold.ensures, λ more. c.hold_at.ensures.valid)

pub returns-clause-outputs : goal.returns-clause-outputs
returns-clause-outputs c = all_outputs c.args.genesis.now c.loop-index.index _ c.loop-index.invariant.0 c.loop-index.invariant.1 (omega (arith, c.loop-index-test.false))

pub returns-clause-valid : goal.returns-clause-valid
returns-clause-valid c = c.loop-index.invariant.1 (omega (arith, c.loop-index-test.false))
