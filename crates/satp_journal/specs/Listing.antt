-- Why bytes stand for no list, and what an opening answers then.
use Rattle.std.specs.Prelude.{◌≡◌, ℕ, List, length}
use Rattle.satp_base.specs.Format.{records, Breaks}
use Rattle.satp_journal.specs.declared.fault.JournalFault.{JournalFault}
use Rattle.satp_journal.specs.declared.fault.JournalFault.TheVariants as journal
use Rattle.satp_journal.specs.declared.fault.Unread.{Unread}
use Rattle.satp_journal.specs.declared.fault.Unread.TheVariants.{Damaged, Memory}

-- the place of the first open gate without a whole record behind it, and the number of payloads before
abbrev pub IsUnread : List ℕ → Unread → Type 0
IsUnread image (Damaged at index) = (payloads : List (List ℕ)) × Breaks image payloads × (at ≡ length (records payloads)) × (index ≡ length payloads)
IsUnread image Memory = Unit {0}

abbrev pub unread_fault : Unread → JournalFault
unread_fault (Damaged at index) = journal.Damaged at
unread_fault Memory = journal.Memory
