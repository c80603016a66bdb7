-- A kept ledger of either kind, as a state.
use Rattle.satp_base.specs.declared.device.Device.{Ghosts}
use Rattle.satp_base.specs.declared.ledger.LedgerKind.TheVariants as kind
use Rattle.satp_accounts.specs.Books as accounts
use Rattle.satp_outputs.specs.States as outputs
use Rattle.satp_site.specs.declared.kept_ledger.KeptLedger.{KeptLedger}
use Rattle.satp_site.specs.declared.kept_ledger.KeptLedger.TheVariants.{Accounts, Outputs}
use Rattle.satp_site.specs.Keeping.{KeptState}

module _ {D : Type 0} {g : Ghosts D} where
  abbrev pub state_of : KeptLedger D g → KeptState
  state_of (Accounts k) = record {
    kind = kind.Accounts;
    book = accounts.book_of k.core;
    journal = k.journal;
    told = g.told k.disk;
    disk_faults = g.faults k.disk;
    own_faults = k.tally.faults;
    wants = k.tally.wants;
  }
  state_of (Outputs k) = record {
    kind = kind.Outputs;
    book = outputs.book_of k.core;
    journal = k.journal;
    told = g.told k.disk;
    disk_faults = g.faults k.disk;
    own_faults = k.tally.faults;
    wants = k.tally.wants;
  }
