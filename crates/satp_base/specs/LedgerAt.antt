-- The entries that a list of events leaves.
use Rattle.std.specs.Prelude.{List}
use Rattle.std.specs.List.{fold}
use Rattle.std.specs.FinMap as map
use Rattle.satp_base.specs.Ledgers.{Entries}
use Rattle.satp_base.specs.LedgerRule.{moved_entries}
use Rattle.satp_base.specs.declared.area.Event.{Event}
use Rattle.satp_base.specs.declared.area.Event.TheVariants.{Wrote, Cut, Synced, Left, Founded, Acted}

-- An operation that changes an entry has an event, and no other has; a founding leaves no entry.
abbrev pub entries_after : Entries → Event → Entries
entries_after entries (Acted op session terms) = moved_entries entries op session terms
entries_after entries Founded = map.empty
entries_after entries (Wrote area at bytes) = entries
entries_after entries (Cut area length) = entries
entries_after entries (Synced area) = entries
entries_after entries (Left area bytes) = entries

abbrev pub ledger_at : Entries → List Event → Entries
ledger_at start events = fold entries_after start events
