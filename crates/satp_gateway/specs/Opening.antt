-- What the opening of a gateway answers.
use Rattle.std.specs.Prelude.{◌≡◌, ◌⊎◌, ℕ, false, List, [], Option, Some, None, IfSome, option_map, Result, Ok, Err}
use Rattle.satp_base.specs.Acts.{Asks}
use Rattle.satp_base.specs.Calls.{Told, asked}
use Rattle.satp_base.specs.Format.{Damage, Stands}
use Rattle.satp_base.specs.Trail.{seen}
use Rattle.satp_base.specs.declared.area.Area.TheVariants.{JournalA}
use Rattle.satp_base.specs.declared.ledger.LedgerCall.TheVariants.{Raise}
use Rattle.satp_journal.specs.State.{JournalState}
use Rattle.satp_journal.specs.declared.fault.JournalFault.{JournalFault}
use Rattle.satp_journal.specs.declared.fault.JournalFault.TheVariants as journal
use Rattle.satp_log.specs.Journals.{IsFirstRefused, IsJournal, IsSomeJournal}
use Rattle.satp_log.specs.Logged.{LogHolds, LogState}
use Rattle.satp_log.specs.declared.fault.LogFault.{LogFault}
use Rattle.satp_log.specs.declared.fault.LogFault.TheVariants as log
use Rattle.satp_points.specs.States.{GatewayState, Holds, IsAt, Tells, area_of, is_broken, tells}
use Rattle.satp_records.specs.declared.stored.Setup.{Setup}
use Rattle.satp_sides.specs.Points.{Side, Stored}
use Rattle.satp_gateway.specs.SettingUp.{FailsToOpen, Opens}
use Rattle.satp_gateway.specs.declared.fault.OpenFault.{OpenFault}
use Rattle.satp_gateway.specs.declared.fault.OpenFault.TheVariants.{Damaged, Empty, Memory, Record, Site}

-- a gateway that holds what these payloads say
abbrev pub IsOf : List (List ℕ) → GatewayState → Type 0
IsOf payloads g = (setup : Setup) × (xs : List Stored) × IsJournal payloads setup xs × Holds g setup xs × (is_broken g ≡ false) × (area_of g ≡ JournalA)

-- The journal was opened with a gateway's payloads, and then the ledger once.
abbrev pub OpensBoth : GatewayState → Tells → Tells → Type 0
OpensBoth g old new = (payloads : List (List ℕ)) × (opened : Option Told) × Opens payloads old.told opened × IsOf payloads g × (new.told ≡ option_map (asked Raise []) opened)

-- the journal was opened with a gateway's payloads, and the opening of the ledger failed
abbrev pub FailsToRaise : Tells → Tells → Type 0
FailsToRaise old new = (payloads : List (List ℕ)) × (opened : Option Told) × Opens payloads old.told opened × IsSomeJournal payloads × Asks Raise [] failed opened new.told
  where
    failed : Result (Unit {0}) (Unit {0})
    failed = Err tt

-- The ledger wasn't called: the journal wasn't opened, or it isn't a gateway's. Want of memory came in its opening, or while its payloads were read.
abbrev pub FailsBefore : OpenFault → Option Told → Option Told → Type 0
FailsBefore Empty old new = Opens [] old new
FailsBefore (Record index) old new = (payloads : List (List ℕ)) × Opens payloads old new × IsFirstRefused payloads index
FailsBefore (Damaged at) old new = FailsToOpen (journal.Damaged at) old new
FailsBefore Site old new = FailsToOpen journal.Disk old new
FailsBefore Memory old new = FailsToOpen journal.Memory old new ⊎ ((payloads : List (List ℕ)) × Opens payloads old new)

-- What an opening answers. The ledger is called once the journal's payloads are those of a gateway, and not otherwise.
abbrev pub GatewayOpens : Tells → Tells → Result GatewayState OpenFault → Type 0
GatewayOpens old new (Ok g) = OpensBoth g old new
GatewayOpens old new (Err Site) = FailsBefore Site old.told new.told ⊎ FailsToRaise old new
GatewayOpens old new (Err fault) = FailsBefore fault old.told new.told

-- ---- by the bytes

-- this answer, unless a call failed or no memory was found
abbrev pub UnlessFailed : Result GatewayState OpenFault → OpenFault → Type 0
UnlessFailed result fault = (result ≡ Err fault) ⊎ (result ≡ Err Site) ⊎ (result ≡ Err Memory)

abbrev pub OpensOr : (GatewayState → Type 0) → Result GatewayState OpenFault → Type 0
OpensOr P (Ok g) = P g
OpensOr P (Err fault) = (fault ≡ Site) ⊎ (fault ≡ Memory)

-- The bytes that the area reads decide which answer it is.
pub record DecidedBy (image : List ℕ) (result : Result GatewayState OpenFault) : Type 0 where
  pub opens : (payloads : List (List ℕ)) → IsSomeJournal payloads → Stands image payloads → OpensOr (IsOf payloads) result
  pub empty : Stands image [] → UnlessFailed result Empty
  pub refused : (payloads : List (List ℕ)) (index : ℕ) → Stands image payloads → IsFirstRefused payloads index → UnlessFailed result (Record index)
  pub damaged : (at : ℕ) → Damage image at → UnlessFailed result (Damaged at)

abbrev pub OpenDecided : Option Told → Result GatewayState OpenFault → Type 0
OpenDecided old result = IfSome old (λ t. DecidedBy (seen t.trail JournalA) result)

-- ---- at a site that tells

-- the gateway is at the site, with some records and the ledger that is told
abbrev pub IsAtSome : GatewayState → Tells → Type 0
IsAtSome g site = IfSome site.told (λ t. IfSome site.book (λ b. (setup : Setup) × (side : Side) × (side.book ≡ b) × IsAt g site setup side t))

-- ---- the steps

-- what is answered of a journal that wasn't opened
abbrev pub open_fault : JournalFault → OpenFault
open_fault journal.Disk = Site
open_fault (journal.Damaged at) = Damaged at
open_fault journal.Memory = Memory
open_fault journal.Broken = Site

-- and of payloads that are no gateway's journal
abbrev pub read_fault : LogFault → OpenFault
read_fault log.Empty = Empty
read_fault (log.Record index) = Record index
read_fault log.Memory = Memory

-- the journal was opened and read; the ledger isn't called. Want of memory came in the opening, or while a first payload at least was read.
abbrev pub OpensJournal : Option Told → Option Told → Result (JournalState × LogState) OpenFault → Type 0
OpensJournal old new (Ok (opened, read)) =
    Opens opened.held.payloads old new × (opened.held.area ≡ JournalA) × (opened.held.broken ≡ false)
    × ((setup : Setup) × (xs : List Stored) × IsJournal opened.held.payloads setup xs × LogHolds read setup xs)
OpensJournal old new (Err fault) = FailsBefore fault old new
