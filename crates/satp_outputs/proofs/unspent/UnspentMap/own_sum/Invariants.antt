use Rattle.std.proofs.Common.{◌≡◌, ◌+◌}
use Rattle.std.specs.List.{sum_by}
use Rattle.satp_base.specs.Founding.{counted}
use Rattle.satp_outputs.specs.Unspent.{Numbered, is_own}
use Rattle.satp_outputs.proofs.unspent.UnspentMap.own_sum.Given as goal

abbrev pub invariant-loop-output : goal.invariant-loop-output
invariant-loop-output l =
    (goal.iterator-loop-output).can_next l.output-iterator × (goal.iterator-loop-output).is_finite l.output-iterator
    × (l.sum + sum_by (λ (e : Numbered). counted (is_own l.asset l.owner e.1) e.1.amount) l.output-iterator ≡ sum_by (λ (e : Numbered). counted (is_own l.asset l.owner e.1) e.1.amount) l.self.outputs.entries)
