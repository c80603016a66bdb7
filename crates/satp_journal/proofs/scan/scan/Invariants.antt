use Rattle.std.proofs.Common.{length}
use Rattle.satp_journal.proofs.Scanning.{IsScanning}
use Rattle.satp_journal.proofs.scan.scan.Given as goal

abbrev pub invariant-loop-rest : goal.invariant-loop-rest
invariant-loop-rest l = IsScanning l.image l.stock.payloads l.rest l.gate

abbrev pub decreases-loop-rest : goal.decreases-loop-rest
decreases-loop-rest l = length l.rest
