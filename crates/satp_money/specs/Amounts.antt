-- Amounts that agree with the sums over a book.
use Rattle.std.specs.Prelude.{◌≡◌, ℕ, ◌+◌, ◌≤◌, unwrap_or}
use Rattle.satp_base.specs.Money.{Book, cap_of, given, given_to_all, held, held_of_all, pledged, sum_entries, taken, taken_of_all}
use Rattle.satp_base.specs.declared.name.Name.{Name}

-- What is kept as free of each owner of an asset, and as the free sum of an asset: with what was taken it is what was held and given, and with what is pledged it is within the cap.
pub record Agrees (b : Book) (amount : Name → Name → ℕ) (sum : Name → ℕ) : Type 0 where
  pub each : (asset owner : Name) → amount asset owner + sum_entries (taken asset owner) b.entries ≡ held b.genesis asset owner + sum_entries (given asset owner) b.entries
  pub all : (asset : Name) → sum asset + sum_entries (taken_of_all asset) b.entries ≡ held_of_all b.genesis asset + sum_entries (given_to_all asset) b.entries
  pub capped : (asset : Name) → sum asset + sum_entries (pledged asset) b.entries ≤ unwrap_or (cap_of b.genesis asset) 0
