use Rattle.std.proofs.Common.{◌≡◌, ◌+◌}
use Rattle.std.specs.List.{sum_by}
use Rattle.satp_base.specs.Money.{pledged}
use Rattle.satp_money.proofs.entries.pledged_in.Given as goal

abbrev pub invariant-loop-kept : goal.invariant-loop-kept
invariant-loop-kept l =
    (goal.iterator-loop-kept).can_next l.kept-iterator × (goal.iterator-loop-kept).is_finite l.kept-iterator
    × (l.sum + sum_by (λ e. pledged l.asset e.1) l.kept-iterator ≡ sum_by (λ e. pledged l.asset e.1) l.entries.entries)
