use Rattle.std.proofs.Common.{◌≡◌, ◌+◌}
use Rattle.std.specs.List.{sum_by}
use Rattle.satp_base.specs.Founding.{counted, equal_names}
use Rattle.satp_accounts.proofs.accounts.Accounts.free_sum_of.Given as goal

abbrev pub invariant-loop-owned : goal.invariant-loop-owned
invariant-loop-owned l =
    (goal.iterator-loop-owned).can_next l.owned-iterator × (goal.iterator-loop-owned).is_finite l.owned-iterator
    × (l.sum + sum_by (λ e. counted (equal_names l.asset e.0.asset) e.1) l.owned-iterator ≡ sum_by (λ e. counted (equal_names l.asset e.0.asset) e.1) l.self.amounts.entries)
