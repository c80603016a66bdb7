-- What the steps of a set-up answer.
use Rattle.satp_journal.specs.declared.fault.JournalFault.{JournalFault}
use Rattle.satp_journal.specs.declared.fault.JournalFault.TheVariants as journal
use Rattle.satp_gateway.specs.declared.fault.SetUpFault.{SetUpFault}
use Rattle.satp_gateway.specs.declared.fault.SetUpFault.TheVariants.{Damaged, Site, Memory}

-- what is answered of a journal that wasn't opened
abbrev pub set_up_fault : JournalFault → SetUpFault
set_up_fault journal.Disk = Site
set_up_fault (journal.Damaged at) = Damaged at
set_up_fault journal.Memory = Memory
set_up_fault journal.Broken = Site
