-- What the calls of a real site do to the ledger that it holds, if it holds one, and to the disks in its directory, and why no ledger is there.
use Rattle.std.specs.Prelude.{◌≡◌, ◌⊎◌, ℕ, List, [], Option, Some, None, Result, Ok, Err, OnOk, OnErr, option_map}
use Rattle.satp_base.specs.declared.area.Event.{Event}
use Rattle.satp_base.specs.declared.area.Event.TheVariants.{Acted}
use Rattle.satp_base.specs.declared.ledger.ActFault.{ActFault}
use Rattle.satp_base.specs.declared.ledger.ActFault.TheVariants.{Failed}
use Rattle.satp_base.specs.declared.ledger.Answer.{Answer}
use Rattle.satp_base.specs.declared.ledger.Entry.{Entry}
use Rattle.satp_base.specs.declared.ledger.LedgerKind.{LedgerKind}
use Rattle.satp_base.specs.declared.ledger.LedgerOp.{LedgerOp}
use Rattle.satp_base.specs.declared.message.Terms.{Terms}
use Rattle.satp_base.specs.declared.session.SessionId.{SessionId}
use Rattle.satp_base.specs.Acts.{ActsOn, MayAdd}
use Rattle.satp_base.specs.Calls.{Told, MayMiss, call_failed, enter_failed, entered, made}
use Rattle.satp_base.specs.Founding.{Founding}
use Rattle.satp_base.specs.Money.{Book}
use Rattle.satp_base.specs.Streams.{HasCause, Rose}
use Rattle.satp_keeper.specs.Books.{ledger_payloads}
use Rattle.satp_keeper.specs.Founding.{UnfoundedBy}
use Rattle.satp_keeper.specs.declared.fault.KeeperFault.{KeeperFault}
use Rattle.satp_site.specs.Directories.{DirectoryState}
use Rattle.satp_site.specs.Keeping.{HasFailed, IsFounded, IsRaised, IsUnraised, KeptActs, KeptLooks, KeptState}

-- ---- the disks

-- one further call without an event succeeded, or failed
abbrev pub called : Option Told → Option Told
called told = option_map (made 1 []) told

abbrev pub failed : Option Told → Option Told
failed told = option_map (call_failed []) told

-- the directory after the disk of a ledger was given back, where there is one
abbrev pub given_back : Option KeptState → DirectoryState → DirectoryState
given_back None d = d
given_back (Some s) d = record {
  disk = record d.disk { told = called d.disk.told };
  second = record { told = s.told; faults = s.disk_faults };
}

-- the second disk was had, and nothing else was called
pub record HasSecond (old new : DirectoryState) : Type 0 where
  pub told : new.disk.told ≡ called old.disk.told
  pub faults : new.disk.faults ≡ old.disk.faults

-- no second disk was had, since the directory's disk failed at that
pub record HasNoSecond (old new : DirectoryState) : Type 0 where
  pub told : new.disk.told ≡ failed old.disk.told
  pub rose : Rose old.disk.faults new.disk.faults
  pub second : new.second ≡ old.second

-- The second disk was had, and given back after a fault of the keeper. Its count says whether it failed itself.
pub record GivesBack (fault : KeeperFault) (old new : DirectoryState) : Type 0 where
  pub told : new.disk.told ≡ called (called old.disk.told)
  pub faults : new.disk.faults ≡ old.disk.faults
  pub cause : HasFailed fault old.second.faults new.second.faults

-- A directory is entered, and the second disk stays as it was given back.
pub record SiteEnters {T E : Type 0} (dir : List ℕ) (old : DirectoryState) (result : Result T E) (new : DirectoryState) : Type 0 where
  pub done : OnOk result (new.disk.told ≡ option_map (entered dir) old.disk.told)
  pub failed : OnErr result (MayMiss (enter_failed dir) [] old.disk.told new.disk.told)
  pub cause : HasCause old.disk.faults new.disk.faults result
  pub second : new.second ≡ old.second

-- ---- foundings and openings

-- Why no ledger was founded: there was no second disk, or the keeper of that kind gave up on it.
abbrev pub IsUnfounded : LedgerKind → Founding → DirectoryState → DirectoryState → Type 0
IsUnfounded kind genesis old new =
    HasNoSecond old new ⊎ ((fault : KeeperFault) × GivesBack fault old new × UnfoundedBy (ledger_payloads kind genesis []) old.second.told new.second.told fault)

-- the ledger was founded on the second disk
abbrev pub IsFoundedOn : LedgerKind → Founding → DirectoryState → DirectoryState → KeptState → Type 0
IsFoundedOn kind genesis old new s = HasSecond old new × IsFounded kind genesis old.second.told s × (s.disk_faults ≡ old.second.faults)

-- A founding leaves the ledger that it founded, and none where it failed.
abbrev pub SiteFounds : {T E : Type 0} → LedgerKind → Founding → DirectoryState → Result T E → DirectoryState → Option KeptState → Type 0
SiteFounds kind genesis old (Ok done) new ledger = (s : KeptState) × (ledger ≡ Some s) × IsFoundedOn kind genesis old new s
SiteFounds kind genesis old (Err fault) new ledger = (ledger ≡ None) × IsUnfounded kind genesis old new

-- Why none was opened: there was no second disk, or the keepers gave up on it.
abbrev pub IsUnopened : DirectoryState → DirectoryState → Type 0
IsUnopened old new = HasNoSecond old new ⊎ ((fault : KeeperFault) × GivesBack fault old new × IsUnraised old.second.told new.second.told fault)

-- the ledger stands on the second disk
abbrev pub IsRaisedOn : DirectoryState → DirectoryState → KeptState → Type 0
IsRaisedOn old new s = HasSecond old new × IsRaised old.second.told s × (s.disk_faults ≡ old.second.faults)

-- An opening leaves the ledger that it opened, and none where it failed.
abbrev pub SiteRaises : {T E : Type 0} → DirectoryState → Result T E → DirectoryState → Option KeptState → Type 0
SiteRaises old (Ok done) new ledger = (s : KeptState) × (ledger ≡ Some s) × IsRaisedOn old new s
SiteRaises old (Err fault) new ledger = (ledger ≡ None) × IsUnopened old new

-- ---- operations and looks

-- what an operation does to the book of a ledger
abbrev pub TellsAct : LedgerOp → SessionId → Terms → Book → Result Answer ActFault → Book → Type 0
TellsAct op session terms old result new = (events : List Event) × MayAdd (Acted op session terms) result events × ActsOn op session terms old result events (Some new)

-- The ledger answers the operation; without one it fails.
abbrev pub SiteActs : LedgerOp → SessionId → Terms → Option KeptState → Result Answer ActFault → Option KeptState → Type 0
SiteActs op session terms None result new = (result ≡ Err Failed) × (new ≡ None)
SiteActs op session terms (Some old) result new = (s : KeptState) × (new ≡ Some s) × KeptActs op session terms old result s × TellsAct op session terms old.book result s.book

-- The ledger shows the entry; without one it is a fault.
abbrev pub SiteLooks : SessionId → Option KeptState → Result Entry ActFault → Option KeptState → Type 0
SiteLooks session None result new = (result ≡ Err Failed) × (new ≡ None)
SiteLooks session (Some old) result new = (s : KeptState) × (new ≡ Some s) × KeptLooks session old result s
