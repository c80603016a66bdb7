use Rattle.satp_memory.proofs.Keeping.{calls_keep, disk_calls_keep}
use Rattle.satp_memory.proofs.laws.law_calls_keep.Goals as goal

pub returns-clause-disks : goal.returns-clause-disks
returns-clause-disks c = disk_calls_keep

pub returns-clause-sites : goal.returns-clause-sites
returns-clause-sites c = calls_keep
