use Rattle.std.proofs.Common.{◌≡◌, ◌<◌, ◌++◌, List}
use Rattle.satp_outputs.specs.Unspent.{Numbered, own_sum}
use Rattle.satp_outputs.proofs.unspent.UnspentMap.taking.Given as goal

abbrev pub invariant-loop-number : goal.invariant-loop-number
invariant-loop-number l =
    (goal.iterator-loop-number).can_next l.number-iterator × (goal.iterator-loop-number).is_finite l.number-iterator
    × (l.sum < l.amount) × ((done : List Numbered) × (l.self.outputs.entries ≡ done ++ l.number-iterator) × (l.sum ≡ own_sum done l.asset l.owner))
