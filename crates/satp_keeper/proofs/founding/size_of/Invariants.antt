use Rattle.std.proofs.Common.{◌≡◌, ◌≤◌, ◌*◌, length, take}
use Rattle.std.specs.List.{sum_by}
use Rattle.satp_keeper.proofs.founding.size_of.Given as goal

abbrev pub invariant-loop-index : goal.invariant-loop-index
invariant-loop-index l = (l.size ≡ sum_by length (take l.index l.texts)) × (l.size ≤ l.index * 4096)
