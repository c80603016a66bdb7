use Rattle.satp_log.specs.Logged.{HoldsFirst}
use Rattle.satp_log.proofs.journal.Log.read.Given as goal

abbrev pub invariant-loop-index : goal.invariant-loop-index
invariant-loop-index l = HoldsFirst l.payloads l.index l.log
