-- How a disk and a site in memory go on over calls: one that stands so before some calls, and so after them.
use Rattle.std.specs.Prelude.{◌≡◌, true, false, List, [], ◌∷◌, ◌++◌, Some, None}
use Rattle.satp_base.specs.Calls.{Ask}
use Rattle.satp_base.specs.Trail.{extended}
use Rattle.satp_base.specs.declared.area.Area.TheVariants.{JournalA}
use Rattle.satp_base.specs.declared.area.Event.{Event}
use Rattle.satp_base.specs.declared.area.Event.TheVariants.{Founded, Left, Wrote}
use Rattle.satp_base.specs.declared.ledger.LedgerCall.{LedgerCall}
use Rattle.satp_base.specs.declared.ledger.LedgerCall.TheVariants.{Act, Found, Raise}
use Rattle.satp_base.specs.declared.ledger.LedgerKind.TheVariants.{Accounts, Outputs}
use Rattle.satp_base.specs.declared.ledger.LedgerOp.TheVariants.{Burn}
use Rattle.satp_memory.specs.Calling.{failed, fresh, naming, succeeded, wanting}
use Rattle.satp_memory.specs.Following.{AddsSo, Changes, DiskCalls, Done, EndsSo, Follows, FollowsDisk, FollowsSite, HasMisfit, HasSiteTrouble, HasTrouble, IsWithin, KeepsBook, Named, Stopped, Asks}
use Rattle.satp_memory.specs.Steps.{trail_of}
use Rattle.satp_memory.specs.Stopping.{stop_after}
use Rattle.satp_memory.specs.declared.disk.MemDisk.{MemDisk}
use Rattle.satp_examples.specs.Disks.{one_write, three}
use Rattle.satp_examples.specs.Ledgers.{new_book, with_gold}
use Rattle.satp_examples.specs.MemoryDisks.{Counts, HasStopped, IsNamed, Runs, synced}
use Rattle.satp_examples.specs.Samples.{alpha_1, quarter}

-- after a sync that succeeded, and nothing else
pub record HasSynced (old new : MemDisk) : Type 0 where
  pub counted : new.calls ≡ succeeded old.calls
  pub stops : new.stop ≡ old.stop
  pub trail : trail_of new ≡ extended (trail_of old) (synced ∷ [])
  pub happened : new.events.items ≡ old.events.items ++ synced ∷ []
  pub asked : new.asks.items ≡ old.asks.items

-- one event is there, and then these
abbrev pub Adds : List Event → MemDisk → MemDisk → Type 0
Adds events old new = (old.events.items ≡ one_write) × (new.events.items ≡ one_write ++ events)

-- no call on a ledger was ever told
abbrev pub AsksNothing : MemDisk → Type 0
AsksNothing disk = disk.asks.items ≡ []

pub record DisksGoOn : Type 0 where
  pub over_no_call : (disk : MemDisk) → FollowsDisk disk disk
  pub over_a_sync : (old new : MemDisk) → Runs old → HasSynced old new → FollowsDisk old new
  pub not_without_its_stop : (old new : MemDisk) → HasStopped old → new.stop ≡ None → ¬ Follows old new
  pub not_with_another_stop : (old new : MemDisk) → Runs old → HasStopped new → ¬ Follows old new
  pub not_past_its_stop : (old new : MemDisk) → HasStopped old → Adds (synced ∷ []) old new → ¬ Follows old new
  pub not_without_the_named_call : (old new : MemDisk) → IsNamed old → Counts new fresh → ¬ Follows old new
  pub not_with_bytes_that_a_failure_left : (old new : MemDisk) → Adds (Left JournalA three ∷ []) old new → ¬ Follows old new
  pub not_without_an_event_before : (old new : MemDisk) → old.events.items ≡ one_write → new.events.items ≡ [] → ¬ Follows old new
  pub not_founded_where_nothing_was_asked : (old new : MemDisk) → Adds (Founded ∷ []) old new → AsksNothing old → AsksNothing new → ¬ Follows old new
  pub not_with_a_count_that_falls : (old new : MemDisk) → Counts old (succeeded fresh) → Counts new fresh → ¬ Follows old new
  -- events up to the stop, and none after it
  pub up_to_the_stop : IsWithin (Some (stop_after 1 1 0)) 1 2
  pub not_after_the_stop : ¬ IsWithin (Some (stop_after 1 1 0)) 1 3

-- one call, by when it ends so, and what it leaves
pub record SingleCalls : Type 0 where
  pub a_sync : (old new : MemDisk) → Runs old → HasSynced old new → DiskCalls (record { call = Changes synced; ending = Done } ∷ []) old new
  pub not_done_after_a_stop : (old new : MemDisk) → HasStopped old → ¬ EndsSo Done ⊥ old new.calls
  pub not_done_where_named : (old new : MemDisk) → IsNamed old → ¬ EndsSo Done ⊥ old new.calls
  pub not_named_without_a_name : (old new : MemDisk) → Runs old → ¬ EndsSo Named ⊥ old new.calls
  pub not_stopped_while_it_runs : (old new : MemDisk) → Runs old → ¬ EndsSo Stopped ⊥ old new.calls
  -- a write that was named takes effect, a sync doesn't
  pub a_named_write : AddsSo (Changes (Wrote JournalA 0 three)) Named (Wrote JournalA 0 three ∷ [])
  pub not_a_named_write_without_effect : ¬ AddsSo (Changes (Wrote JournalA 0 three)) Named []
  pub a_named_sync : AddsSo (Changes synced) Named []
  pub not_a_named_sync_with_effect : ¬ AddsSo (Changes synced) Named (synced ∷ [])
  pub not_an_event_after_a_stop : ¬ AddsSo (Changes synced) Stopped (synced ∷ [])
  -- a founding that failed leaves no ledger, and any other call the one that was there
  pub no_ledger_after_a_founding_that_failed : KeepsBook (Asks (Found Accounts with_gold)) Named (Some new_book) [] None
  pub not_a_ledger_lost_by_a_raise : ¬ KeepsBook (Asks Raise) Named (Some new_book) [] None

pub record CausesOfFaultsInMemory : Type 0 where
  pub a_named_call : (old new : MemDisk) → IsNamed old → Counts new (failed (naming 1 fresh)) → HasTrouble old new
  pub a_stop : (old new : MemDisk) → HasStopped new → HasTrouble old new
  pub want_of_memory : (old new : MemDisk) → Runs old → Counts new (wanting (succeeded fresh)) → HasTrouble old new
  pub not_a_call_named_for_later : (old new : MemDisk) → Counts old (naming 2 fresh) → Counts new (failed (naming 2 fresh)) → new.stop ≡ None → ¬ HasTrouble old new
  pub no_fault_without_a_cause : (old new : MemDisk) → Runs old → Counts new (failed fresh) → ¬ FollowsDisk old new

-- a call on the ledger, before which there were none
abbrev pub ask : LedgerCall → Ask
ask call = record { call = call; before = 0; succeeded = true }

abbrev pub vain : LedgerCall → Ask
vain call = record { call = call; before = 0; succeeded = false }

pub record SitesGoOn : Type 0 where
  pub over_no_call : (disk : MemDisk) → FollowsSite Accounts (Some new_book) (Some new_book) disk disk
  -- a ledger is lost, or changed for another, only by a founding
  pub not_without_its_ledger : (old new : MemDisk) → Runs old → HasSynced old new → ¬ FollowsSite Accounts (Some new_book) None old new
  pub not_with_a_ledger_that_nobody_founded : (old new : MemDisk) → Runs old → HasSynced old new → ¬ FollowsSite Accounts None (Some new_book) old new
  pub no_fault_without_a_cause : (old new : MemDisk) → Runs old → Counts new (failed fresh) → AsksNothing old → AsksNothing new → ¬ FollowsSite Accounts (Some new_book) (Some new_book) old new
  pub a_fault_without_a_ledger : (old new : MemDisk) → HasSiteTrouble Accounts None old new []
  pub a_founding_of_another_kind : HasMisfit Accounts (vain (Found Outputs with_gold) ∷ [])
  pub a_burn_of_nothing : HasMisfit Accounts (ask Raise ∷ vain (Act Burn alpha_1 quarter) ∷ [])
  pub not_a_founding_of_its_kind : ¬ HasMisfit Accounts (vain (Found Accounts with_gold) ∷ [])
  pub not_one_that_succeeded : ¬ HasMisfit Accounts (ask (Found Outputs with_gold) ∷ [])
  pub not_a_raise : ¬ HasMisfit Accounts (vain Raise ∷ [])
