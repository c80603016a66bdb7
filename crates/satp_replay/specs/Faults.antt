-- Why the bytes aren't read as payloads, and payloads not as a gateway's journal.
use Rattle.satp_journal.specs.declared.fault.Unread.{Unread}
use Rattle.satp_journal.specs.declared.fault.Unread.TheVariants as unread
use Rattle.satp_log.specs.declared.fault.LogFault.{LogFault}
use Rattle.satp_log.specs.declared.fault.LogFault.TheVariants as log
use Rattle.satp_replay.specs.declared.fault.ReplayFault.{ReplayFault}
use Rattle.satp_replay.specs.declared.fault.ReplayFault.TheVariants.{Damaged, Empty, Record, Memory}

abbrev pub unread_fault : Unread → ReplayFault
unread_fault (unread.Damaged at index) = Damaged at
unread_fault unread.Memory = Memory

abbrev pub read_fault : LogFault → ReplayFault
read_fault log.Empty = Empty
read_fault (log.Record index) = Record index
read_fault log.Memory = Memory
