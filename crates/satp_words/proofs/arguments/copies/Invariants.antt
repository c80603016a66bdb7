use Rattle.std.proofs.Common.{◌≡◌, ◌++◌, map}
use Rattle.std.specs.String.{string_bytes}
use Rattle.std.specs.Vec.Iter.{into_iter_items, into_iter_len}
use Rattle.satp_words.proofs.arguments.copies.Given as goal

-- the texts so far, and those of the arguments to come
abbrev pub invariant-loop-argument : goal.invariant-loop-argument
invariant-loop-argument l = l.texts ++ map string_bytes (into_iter_items l.arguments) ≡ map string_bytes (into_iter_items l.initial.arguments)

abbrev pub decreases-loop-argument : goal.decreases-loop-argument
decreases-loop-argument l = into_iter_len l.arguments
