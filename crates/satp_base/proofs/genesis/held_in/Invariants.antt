use Rattle.std.proofs.Common.{◌≡◌, take}
use Rattle.satp_base.specs.Founding.{held_among}
use Rattle.satp_base.proofs.genesis.held_in.Given as goal

abbrev pub invariant-loop-hold : goal.invariant-loop-hold
invariant-loop-hold l = l.sum ≡ held_among (take l.hold-index l.holds) l.asset
