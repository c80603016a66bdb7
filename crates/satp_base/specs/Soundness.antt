-- What holds of every ledger that began with a genesis and went on by the rule.
use Rattle.std.specs.Prelude.{◌+◌, ◌≤◌, unwrap_or}
use Rattle.satp_base.specs.Money.{Book, cap_of, given, given_to_all, held, held_of_all, sum_entries, taken, taken_of_all, total_of}
use Rattle.satp_base.specs.declared.name.Name.{Name}

-- No more was taken of an owner, or of all owners, than they had, and no more of an asset is there than its cap; of an unknown asset there is none.
pub record IsSound (b : Book) : Type 0 where
  pub covered : (asset owner : Name) → sum_entries (taken asset owner) b.entries ≤ held b.genesis asset owner + sum_entries (given asset owner) b.entries
  pub all_covered : (asset : Name) → sum_entries (taken_of_all asset) b.entries ≤ held_of_all b.genesis asset + sum_entries (given_to_all asset) b.entries
  pub capped : (asset : Name) → total_of b asset ≤ unwrap_or (cap_of b.genesis asset) 0
