-- A site that tells nothing: what is said of those that tell holds of it.
use Rattle.std.specs.Prelude.{◌≡◌, None, Some}
use Rattle.satp_base.specs.Calls.{Told}
use Rattle.satp_base.specs.LedgerAt.{ledger_at}
use Rattle.satp_base.specs.Money.{Book}

-- there are no entries that could differ from those that the trail leaves
pub untold_ledger : (t : Told) (b : Book) → None ≡ Some t → b.entries ≡ ledger_at t.trail.entries t.trail.events
untold_ledger t b is = cc
