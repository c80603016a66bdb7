use Rattle.std.proofs.Common.{map}
use Rattle.serde_json.specs.View.{view}
use Rattle.satp_canon.proofs.EntryLemmas.{entries_told}
use Rattle.satp_canon.proofs.entries.entries_at.Goals as goal

pub returns-then-are_entries-clause-fault : goal.returns-then-are_entries-clause-fault
returns-then-are_entries-clause-fault c = entries_told _ (map view c.in-Some.items.now.items) _ c.in-Some.ensures c.if-are_entries.ensures

pub returns-else-are_entries-clause-fault : goal.returns-else-are_entries-clause-fault
returns-else-are_entries-clause-fault c = entries_told _ (map view c.in-Some.items.now.items) _ c.in-Some.ensures c.if-are_entries.ensures
