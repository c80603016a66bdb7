use Rattle.satp_memory.proofs.Following.{site_disk}
use Rattle.satp_memory.proofs.site.MemSiteDisk.write.Goals as goal

pub returns-clause-beside : goal.returns-clause-beside
returns-clause-beside g c = site_disk _ _ _ _ c.write.ensures.beside
