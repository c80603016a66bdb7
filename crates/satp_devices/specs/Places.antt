-- Where a disk is: a directory, and the file of each area in it.
use Rattle.std.specs.Prelude.{◌≡◌, ℕ, List, Option, None, Some, Result, Ok, Err, IsErr, IsSome, IsSomeAnd, codes}
use Rattle.std.specs.Borrow.{Lends, MutBor, Fml}
use Rattle.std.specs.Path.{path_buf_bytes, path_join}
use Rattle.satp_base.specs.declared.area.Area.{Area}
use Rattle.satp_base.specs.declared.area.Area.TheVariants.{JournalA, JournalB, Ledger}
use Rattle.satp_devices.specs.declared.area_file.AreaFile.{AreaFile}
use Rattle.satp_devices.specs.declared.folder.Folder.{Folder}
use Rattle.satp_devices.specs.contracts.area_file.AreaFile as file
use Rattle.satp_devices.specs.contracts.folder.Folder as folder

-- the name of an area's file
abbrev pub name_of : Area → List ℕ
name_of JournalA = codes "journal-a"
name_of JournalB = codes "journal-b"
name_of Ledger = codes "ledger"

-- the file of an area
abbrev pub file_of : Folder → Area → AreaFile
file_of f JournalA = f.journal_a
file_of f JournalB = f.journal_b
file_of f Ledger = f.ledger

-- another file for an area
abbrev pub with_file : Folder → Area → AreaFile → Folder
with_file f JournalA file = record f { journal_a = file }
with_file f JournalB file = record f { journal_b = file }
with_file f Ledger file = record f { ledger = file }

-- the file of an area is lent: what is last written through it stands there afterwards
abbrev pub LendsFile : MutBor Folder → Area → MutBor AreaFile → Fml
LendsFile f area r = Lends folder.the_row file.the_row f r (with_file f.now area)

-- the file of an area stands in the directory, under the area's name
abbrev pub IsNamed : List ℕ → Folder → Area → Type 0
IsNamed dir f area = path_buf_bytes (file_of f area).path ≡ path_join dir (name_of area)

-- in the directory of this path, with each area's file
pub record StandsIn (dir : List ℕ) (f : Folder) : Type 0 where
  pub path : path_buf_bytes f.path ≡ dir
  pub journal_a : IsNamed dir f JournalA
  pub journal_b : IsNamed dir f JournalB
  pub ledger : IsNamed dir f Ledger

-- in the directory of this path, with the lock's file open
pub record Entered (dir : List ℕ) (f : Folder) : Type 0 where
  pub place : StandsIn dir f
  pub lock : IsSome f.lock

-- After an entering the disk is in that directory; after one that failed it is in none.
abbrev pub Enters : {T E : Type 0} → List ℕ → Option Folder → Result T E → Type 0
Enters dir after (Ok done) = IsSomeAnd after (Entered dir)
Enters dir after (Err fault) = after ≡ None

-- the directory is the same, and the file of each area but this one; this one has its path still
pub record Touches (area : Area) (before after : Folder) : Type 0 where
  pub others : after ≡ with_file before area (file_of after area)
  pub path : (file_of after area).path ≡ (file_of before area).path

-- A call on an area fails in no directory. In one it stays there, and touches the file of this area alone.
abbrev pub OnArea : {T E : Type 0} → Area → Option Folder → Option Folder → Result T E → Type 0
OnArea area None after result = (after ≡ None) × IsErr result
OnArea area (Some before) after result = IsSomeAnd after (Touches area before)

-- A second disk is in the directory of the first, and a first one that is in none has no second.
abbrev pub IsSecond : Option Folder → Option Folder → Type 0
IsSecond None second = ⊥
IsSecond (Some first) second = IsSomeAnd second (StandsIn (path_buf_bytes first.path))
