use Rattle.std.proofs.Common.{arith}
use Rattle.std.specs.FinMap.{from_entries}
use Rattle.satp_accounts.proofs.BeginLemmas.{all_held, held_more, held_none, hold_fits}
use Rattle.satp_accounts.proofs.begin.first_amounts.Goals as goal

pub loop-index-init : goal.loop-index-init
loop-index-init c = (held_none c.new-amounts.result.entries c.new-amounts.ensures.empty, λ more. absurd (omega (arith, more)))

pub add_hold-requires : goal.add_hold-requires
add_hold-requires c = record { fits = hold_fits c.args.genesis.now c.loop-index.index (from_entries c.loop-index.amounts.entries) _ c.hold_at.ensures.valid c.loop-index.invariant.0 c.hold_at.ensures.hold }

pub loop-index-preserved : goal.loop-index-preserved
loop-index-preserved c = (held_more c.args.genesis.now.holds c.loop-index.index _ _ _ c.loop-index.invariant.0 c.hold_at.ensures.hold c.in_ok-add_hold.ensures, λ more. c.hold_at.ensures.valid)

pub returns-clause-amounts : goal.returns-clause-amounts
returns-clause-amounts c = all_held c.args.genesis.now c.loop-index.index _ c.loop-index.invariant.0 c.loop-index.invariant.1 (omega (arith, c.loop-index-test.false))

pub returns-clause-valid : goal.returns-clause-valid
returns-clause-valid c = c.loop-index.invariant.1 (omega (arith, c.loop-index-test.false))
