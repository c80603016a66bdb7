use Rattle.std.proofs.Common.{◌∙◌, refl, sym}
use Rattle.satp_memory.specs.Following.{Looks}
use Rattle.satp_memory.proofs.Following.{disk_looked, disk_refused}
use Rattle.satp_memory.proofs.disk.MemDiskDisk.length.Goals as goal

pub returns-then-begin-clause-beside : goal.returns-then-begin-clause-beside
returns-then-begin-clause-beside c = disk_refused _ _ _ c.is_stopped-stopped.ensures refl refl refl refl refl Looks tt refl (sym c.begin.ensures.refused ∙ c.if-begin.true) c.begin.ensures.counted

pub returns-clause-beside : goal.returns-clause-beside
returns-clause-beside c = disk_looked _ _ _ c.is_stopped-stopped.ensures refl refl refl refl refl (sym c.begin.ensures.refused ∙ c.if-begin.false) c.begin.ensures.counted
