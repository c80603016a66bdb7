use Rattle.std.proofs.Common.{◌≡◌, ◌++◌, drop}
use Rattle.satp_chain.specs.Chained.{texts_in}
use Rattle.satp_messages.proofs.recovery.texts_after.Given as goal

abbrev pub invariant-loop-index : goal.invariant-loop-index
invariant-loop-index l = l.texts ++ drop l.index (texts_in l.chain) ≡ drop l.given (texts_in l.chain)
