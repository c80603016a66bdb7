use Rattle.satp_log.specs.Logged.{HoldsFirst}
use Rattle.satp_gateway.proofs.opening.read.Given as goal

abbrev pub invariant-loop-index : goal.invariant-loop-index
invariant-loop-index l = HoldsFirst l.journal.held.payloads l.index l.log
