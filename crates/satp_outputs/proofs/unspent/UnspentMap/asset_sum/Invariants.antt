use Rattle.std.proofs.Common.{◌≡◌, ◌+◌}
use Rattle.std.specs.List.{sum_by}
use Rattle.satp_base.specs.Founding.{counted, equal_names}
use Rattle.satp_outputs.specs.Unspent.{Numbered}
use Rattle.satp_outputs.proofs.unspent.UnspentMap.asset_sum.Given as goal

abbrev pub invariant-loop-output : goal.invariant-loop-output
invariant-loop-output l =
    (goal.iterator-loop-output).can_next l.output-iterator × (goal.iterator-loop-output).is_finite l.output-iterator
    × (l.sum + sum_by (λ (e : Numbered). counted (equal_names l.asset e.1.asset) e.1.amount) l.output-iterator ≡ sum_by (λ (e : Numbered). counted (equal_names l.asset e.1.asset) e.1.amount) l.self.outputs.entries)
