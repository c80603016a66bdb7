-- What holds of a second disk holds of what the directory shows of it.
use Rattle.std.proofs.Common.{◌≡◌, subst, sym}
use Rattle.satp_site.specs.Directories.{DiskState}

-- from the disk as it was had to the disk as it was given back
pub between : (P : DiskState → DiskState → Type 0) (had back old new : DiskState) → had ≡ old → new ≡ back → P had back → P old new
between P had back old new is is_back p = subst (λ (d : DiskState). P d new) is (subst (P had) (sym is_back) p)
