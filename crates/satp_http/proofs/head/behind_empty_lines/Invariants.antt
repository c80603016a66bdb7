use Rattle.std.proofs.Common.{◌≡◌, length}
use Rattle.satp_http.specs.Found.{behind_empty_lines}
use Rattle.satp_http.proofs.head.behind_empty_lines.Given as goal

abbrev pub invariant-loop-bytes : goal.invariant-loop-bytes
invariant-loop-bytes l = behind_empty_lines l.bytes ≡ behind_empty_lines l.fn.bytes

abbrev pub decreases-loop-bytes : goal.decreases-loop-bytes
decreases-loop-bytes l = length l.bytes
