use Rattle.std.specs.Prelude.{ℕ, List}
use Rattle.satp_base.specs.declared.area.Area.{Area}
use Rattle.satp_base.specs.declared.area.Area.TheVariants.{JournalA, JournalB, Ledger}
use Rattle.satp_memory.specs.declared.areas.Areas.{Areas}

abbrev pub bytes_in : Areas → Area → List ℕ
bytes_in areas JournalA = areas.journal_a.items
bytes_in areas JournalB = areas.journal_b.items
bytes_in areas Ledger = areas.ledger.items
