use Rattle.std.proofs.Common.{◌≡◌, ◌+◌, ◌≤◌, drop, length}
use Rattle.satp_canon.specs.FirstFault.{common}
use Rattle.satp_canon.proofs.reader.common.Given as goal

abbrev pub invariant-loop-index : goal.invariant-loop-index
invariant-loop-index l = (common l.text l.other ≡ l.index + common (drop l.index l.text) (drop l.index l.other)) × (l.index ≤ length l.other)
