-- What a real site does with the ledger that it holds, and a real disk with its directory. The ledger here is of accounts, without an asset, on a disk that tells nothing.
use Rattle.std.specs.FinMap as map
use Rattle.std.specs.Prelude.{◌≡◌, ◌≢◌, ℕ, ◌-◌, ◌^◌, [], ◌∷◌, List, Option, None, Some, Result, Ok, Err, true}
use Rattle.satp_base.specs.Acts.{founded}
use Rattle.satp_base.specs.GenesisText.{nothing}
use Rattle.satp_base.specs.LedgerRule.{entry_of}
use Rattle.satp_base.specs.declared.area.Area.TheVariants.{JournalA}
use Rattle.satp_base.specs.declared.device.DiskFault.{DiskFault}
use Rattle.satp_base.specs.declared.ledger.ActFault.{ActFault}
use Rattle.satp_base.specs.declared.ledger.ActFault.TheVariants.{Failed}
use Rattle.satp_base.specs.declared.ledger.Answer.{Answer}
use Rattle.satp_base.specs.declared.ledger.Answer.TheVariants.{Done}
use Rattle.satp_base.specs.declared.ledger.Entry.{Entry}
use Rattle.satp_base.specs.declared.ledger.LedgerKind.TheVariants.{Accounts, Outputs}
use Rattle.satp_base.specs.declared.ledger.LedgerOp.TheVariants.{Lock}
use Rattle.satp_base.specs.declared.site.SiteFault.{SiteFault}
use Rattle.satp_devices.specs.Counting.{Counts}
use Rattle.satp_devices.specs.Places.{Enters, IsSecond, OnArea}
use Rattle.satp_devices.specs.declared.area_file.AreaFile.{AreaFile}
use Rattle.satp_devices.specs.declared.folder.Folder.{Folder}
use Rattle.satp_site.specs.Keeping.{KeptState}
use Rattle.satp_keeper.specs.declared.fault.KeeperFault.TheVariants.{Disk, Memory}
use Rattle.satp_site.specs.Directories.{DirectoryState}
use Rattle.satp_site.specs.Sites.{GivesBack, HasNoSecond, HasSecond, SiteActs, SiteFounds, SiteLooks, SiteRaises, given_back}
use Rattle.satp_examples.specs.Keepers.{kept}
use Rattle.satp_examples.specs.Samples.{alpha_1, quarter}

-- ---- the ledger

abbrev pub fresh : KeptState
fresh = record {
  kind = Accounts;
  book = founded nothing;
  journal = record { held = kept; spare_records = 0; spare_bytes = 0 };
  told = None;
  disk_faults = 0;
  own_faults = 0;
  wants = 0;
}

-- a call on its disk failed
abbrev pub broken : KeptState
broken = record fresh { journal = record { held = record kept { broken = true }; spare_records = 0; spare_bytes = 0 }; disk_faults = 1 }

-- and it was asked once more
abbrev pub broken_and_asked : KeptState
broken_and_asked = record broken { own_faults = 1 }

-- ---- the disks of a directory

-- they tell nothing, and have failed so often, the second one so often when it was given back
abbrev pub counts : ℕ → ℕ → DirectoryState
counts first second = record { disk = record { told = None; faults = first }; second = record { told = None; faults = second } }

-- the directory's disk tells that it was called so often
abbrev pub called_times : ℕ → DirectoryState
called_times calls = record {
  disk = record { told = Some (record { trail = record { start = λ area. []; entries = map.empty; events = [] }; dirs = []; calls = calls; last_failed = None; asks = [] }); faults = 0 };
  second = record { told = None; faults = 0 };
}

pub record DisksOfADirectory : Type 0 where
  pub had : HasSecond (called_times 4) (called_times 5)
  pub not_had_twice : ¬ HasSecond (called_times 4) (called_times 6)
  pub not_had_uncounted : ¬ HasSecond (called_times 4) (called_times 4)
  pub had_and_given_back : GivesBack Memory (called_times 4) (called_times 6)
  pub not_had_and_kept : ¬ GivesBack Memory (called_times 4) (called_times 5)
  pub not_given_back_without_a_ledger : given_back None (called_times 4) ≡ called_times 4
  pub none_had : HasNoSecond (counts 2 0) (counts 3 0)
  pub no_fault_uncounted : ¬ HasNoSecond (counts 2 0) (counts 2 0)
  pub no_fault_of_the_second : ¬ HasNoSecond (counts 2 0) (counts 3 1)
  pub a_failed_disk : GivesBack Disk (counts 2 0) (counts 2 1)
  pub no_failed_disk_uncounted : ¬ GivesBack Disk (counts 2 0) (counts 2 0)
  pub no_want_of_memory_counted_there : ¬ GivesBack Memory (counts 2 0) (counts 2 1)

-- ---- foundings and openings

abbrev pub Founds : DirectoryState → Result (Unit {0}) SiteFault → DirectoryState → Option KeptState → Type 0
Founds = SiteFounds Accounts nothing

abbrev pub Raises : DirectoryState → Result (Unit {0}) SiteFault → DirectoryState → Option KeptState → Type 0
Raises = SiteRaises

pub record LedgersOfASite : Type 0 where
  pub founded : Founds (counts 2 0) (Ok tt) (counts 2 0) (Some fresh)
  pub not_founded_without_a_disk : (fault : SiteFault) → Founds (counts 2 0) (Err fault) (counts 3 0) None
  pub not_founded_where_its_disk_failed : (fault : SiteFault) → Founds (counts 2 0) (Err fault) (counts 2 1) None
  pub not_of_another_kind : ¬ Founds (counts 2 0) (Ok tt) (counts 2 0) (Some (record fresh { kind = Outputs }))
  pub not_broken : ¬ Founds (counts 2 0) (Ok tt) (counts 2 0) (Some broken)
  pub not_with_a_fault : ¬ Founds (counts 2 0) (Ok tt) (counts 2 0) (Some (record fresh { own_faults = 1 }))
  pub not_with_a_fault_of_its_disk : ¬ Founds (counts 2 0) (Ok tt) (counts 2 0) (Some (record fresh { disk_faults = 1 }))
  pub not_founded_and_not_held : ¬ Founds (counts 2 0) (Ok tt) (counts 2 0) None
  pub not_held_and_not_founded : (fault : SiteFault) → ¬ Founds (counts 2 0) (Err fault) (counts 3 0) (Some fresh)
  pub raised : Raises (counts 2 0) (Ok tt) (counts 2 0) (Some fresh)
  pub not_raised_without_a_disk : (fault : SiteFault) → Raises (counts 2 0) (Err fault) (counts 3 0) None
  pub not_raised_and_not_held : ¬ Raises (counts 2 0) (Ok tt) (counts 2 0) None
  pub not_held_and_not_raised : (fault : SiteFault) → ¬ Raises (counts 2 0) (Err fault) (counts 3 0) (Some fresh)
  pub not_raised_broken : ¬ Raises (counts 2 0) (Ok tt) (counts 2 0) (Some broken)
  pub not_raised_over_a_fault : ¬ Raises (counts 2 0) (Ok tt) (counts 2 0) (Some (record fresh { disk_faults = 1 }))

-- ---- operations and looks

abbrev pub Locks : Option KeptState → Result Answer ActFault → Option KeptState → Type 0
Locks = SiteActs Lock alpha_1 quarter

abbrev pub Looks : Option KeptState → Result Entry ActFault → Option KeptState → Type 0
Looks = SiteLooks alpha_1

pub record CallsOnALedger : Type 0 where
  pub no_lock_without_one : Locks None (Err Failed) None
  pub no_lock_where_it_is_broken : Locks (Some broken) (Err Failed) (Some broken_and_asked)
  pub not_done_without_one : ¬ Locks None (Ok Done) None
  pub not_dropped_by_a_lock : (result : Result Answer ActFault) → ¬ Locks (Some fresh) result None
  pub not_made_by_a_lock : (result : Result Answer ActFault) → ¬ Locks None result (Some fresh)
  pub its_entry : Looks (Some fresh) (Ok (entry_of fresh.book.entries alpha_1)) (Some fresh)
  pub no_entry_without_one : Looks None (Err Failed) None
  pub no_entry_where_it_is_broken : Looks (Some broken) (Err Failed) (Some broken_and_asked)
  pub not_shown_without_one : (entry : Entry) → ¬ Looks None (Ok entry) None
  pub not_shown_where_it_is_broken : (entry : Entry) (new : Option KeptState) → ¬ Looks (Some broken) (Ok entry) new
  pub not_refused_where_it_is_whole : (new : Option KeptState) → ¬ Looks (Some fresh) (Err Failed) new
  pub not_uncounted : ¬ Looks (Some broken) (Err Failed) (Some broken)

-- ---- counts and places of a real disk

abbrev pub Answers : Type 0
Answers = Result (Unit {0}) DiskFault

abbrev pub CountsBehind : ℕ → ℕ → Answers → Type 0
CountsBehind = Counts

abbrev pub OnJournal : Option Folder → Option Folder → Answers → Type 0
OnJournal = OnArea JournalA

abbrev pub EntersThere : List ℕ → Option Folder → Answers → Type 0
EntersThere = Enters

pub record PlacesOfADisk : Type 0 where
  pub a_fault_counted : (fault : DiskFault) → CountsBehind 4 5 (Err fault)
  pub none_past_the_last_number : (fault : DiskFault) → CountsBehind (2 ^ 64 - 1) (2 ^ 64 - 1) (Err fault)
  pub no_fault_uncounted : (fault : DiskFault) → ¬ CountsBehind 4 4 (Err fault)
  pub no_success_counted : ¬ CountsBehind 4 5 (Ok tt)
  pub a_call_in_a_directory : (f : Folder) (answer : Answers) → OnJournal (Some f) (Some f) answer
  pub outside_of_one : (fault : DiskFault) → OnJournal None None (Err fault)
  pub no_success_outside : ¬ OnJournal None None (Ok tt)
  pub not_out_of_it : (f : Folder) (answer : Answers) → ¬ OnJournal (Some f) None answer
  pub not_the_file_of_another : (f : Folder) (other : AreaFile) (answer : Answers) → other ≢ f.ledger → ¬ OnJournal (Some f) (Some (record f { ledger = other })) answer
  pub a_failed_entering : (dir : List ℕ) (fault : DiskFault) → EntersThere dir None (Err fault)
  pub not_into_none : (dir : List ℕ) → ¬ EntersThere dir None (Ok tt)
  pub not_where_it_was : (dir : List ℕ) (f : Folder) (fault : DiskFault) → ¬ EntersThere dir (Some f) (Err fault)
  pub no_second_of_none : (f : Folder) → ¬ IsSecond None (Some f)
  pub no_second_in_none : (f : Folder) → ¬ IsSecond (Some f) None
