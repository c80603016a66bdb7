-- The entries of a ledger: one for each session that an operation has changed.
use Rattle.std.specs.FinMap.{FinMap}
use Rattle.satp_base.specs.Keys.{session_cmp}
use Rattle.satp_base.specs.declared.ledger.LedgerEntry.{LedgerEntry}

abbrev pub Entries : Type 0
Entries = FinMap session_cmp LedgerEntry
