use Rattle.std.proofs.Common.{◌≡◌, ◌++◌, take}
use Rattle.satp_base.specs.Canonical.{string}
use Rattle.satp_canon.proofs.Joined.{joined}
use Rattle.satp_canon.proofs.writer.words_joined.Given as goal

abbrev pub invariant-loop-index : goal.invariant-loop-index
invariant-loop-index l = l.out ≡ l.fn.out ++ joined string (take l.index l.words)
