-- What the disk of a directory shows, and its second disk.
use Rattle.std.specs.Prelude.{ℕ, Option}
use Rattle.satp_base.specs.Calls.{Told}

-- what a disk tells, and how often it has failed
pub record DiskState : Type 0 where
  pub told : Option Told
  pub faults : ℕ

abbrev pub disk_state : {D : Type 0} → (D → Option Told) → (D → ℕ) → D → DiskState
disk_state told faults d = record { told = told d; faults = faults d }

-- the disk of a directory, and its second disk as that was given back last
pub record DirectoryState : Type 0 where
  pub disk : DiskState
  pub second : DiskState

abbrev pub directory_state : {D : Type 0} → (D → Option Told) → (D → ℕ) → (D → DiskState) → D → DirectoryState
directory_state told faults second d = record { disk = disk_state told faults d; second = second d }
