-- A disk in memory: one that stands so before a call and so behind it, and how the call ended.
use Rattle.std.specs.Prelude.{◌≡◌, ℕ, true, false, List, [], ◌∷◌, ◌++◌, Option, Some, None, Ok, Err, codes}
use Rattle.std.specs.FinMap as map
use Rattle.satp_base.specs.declared.area.Area.{Area}
use Rattle.satp_base.specs.declared.area.Area.TheVariants.{JournalA, JournalB, Ledger}
use Rattle.satp_base.specs.declared.area.Event.{Event}
use Rattle.satp_base.specs.declared.area.Event.TheVariants.{Wrote, Synced}
use Rattle.satp_base.specs.declared.ledger.LedgerCall.TheVariants.{Raise}
use Rattle.satp_memory.specs.Areas.{bytes_in}
use Rattle.satp_memory.specs.Calling.{Calling, failed, fresh, naming, succeeded, wanting}
use Rattle.satp_memory.specs.Steps.{Adds, asking, Does, entering, Ends, EndsOrWants, EntersOrWants, IsFresh, Notes, Restarts, SameDisk, told_of}
use Rattle.satp_memory.specs.Stopping.{stop_after}
use Rattle.satp_memory.specs.declared.disk.MemDisk.{MemDisk}
use Rattle.satp_memory.specs.declared.stop.Stop.{Stop}
use Rattle.satp_examples.specs.Disks.{one_write, three}

-- what was counted, whether a stop stands, and what happened
pub record Standing (disk : MemDisk) (calls : Calling) (stop : Option Stop) (events : List Event) : Type 0 where
  pub counted : disk.calls ≡ calls
  pub stops : disk.stop ≡ stop
  pub happened : disk.events.items ≡ events

-- no call is to fail; the next call is; and a stop was reached
abbrev pub Runs : MemDisk → Type 0
Runs disk = Standing disk fresh None one_write

abbrev pub IsNamed : MemDisk → Type 0
IsNamed disk = Standing disk (naming 1 fresh) None one_write

abbrev pub HasStopped : MemDisk → Type 0
HasStopped disk = Standing disk fresh (Some (stop_after 1 0 0)) one_write

-- the call was counted, as one that was answered, that failed, or that found no memory
abbrev pub Counts : MemDisk → Calling → Type 0
Counts disk calls = disk.calls ≡ calls

pub record EndsOfCalls : Type 0 where
  pub done : (old new : MemDisk) → Runs old → Counts new (succeeded fresh) → Ends {T = ℕ} {E = ℕ} old new (Ok 0)
  pub failed_where_named : (old new : MemDisk) → IsNamed old → Counts new (failed (naming 1 fresh)) → Ends {T = ℕ} {E = ℕ} old new (Err 0)
  pub failed_behind_a_stop : (old new : MemDisk) → HasStopped old → Counts new (failed fresh) → Ends {T = ℕ} {E = ℕ} old new (Err 0)
  pub not_done_where_named : (old new : MemDisk) → IsNamed old → ¬ Ends {T = ℕ} {E = ℕ} old new (Ok 0)
  pub not_done_behind_a_stop : (old new : MemDisk) → HasStopped old → ¬ Ends {T = ℕ} {E = ℕ} old new (Ok 0)
  pub not_failed_for_nothing : (old new : MemDisk) → Runs old → ¬ Ends {T = ℕ} {E = ℕ} old new (Err 0)
  pub not_uncounted : (old new : MemDisk) → Runs old → Counts new fresh → ¬ Ends {T = ℕ} {E = ℕ} old new (Ok 0)
  -- one that takes memory may fail for want of it, but not behind a stop
  pub without_memory : (old new : MemDisk) → Runs old → Counts new (wanting (succeeded fresh)) → EndsOrWants {T = ℕ} {E = ℕ} old new (Err 0)
  pub not_failed_with_memory : (old new : MemDisk) → Runs old → Counts new (failed fresh) → ¬ EndsOrWants {T = ℕ} {E = ℕ} old new (Err 0)
  pub not_without_memory_behind_a_stop : (old new : MemDisk) → HasStopped old → Counts new (wanting (failed fresh)) → ¬ EndsOrWants {T = ℕ} {E = ℕ} old new (Err 0)
  pub not_done_without_memory : (old new : MemDisk) → Runs old → Counts new (wanting (succeeded fresh)) → ¬ EndsOrWants {T = ℕ} {E = ℕ} old new (Ok 0)

pub record NotesOfCalls : Type 0 where
  pub a_directory : (old new : MemDisk) → HasStopped old → Counts new (failed fresh) → new.dirs.items ≡ old.dirs.items ++ entering (codes "d") old false ∷ [] → EntersOrWants {T = ℕ} {E = ℕ} (codes "d") old new (Err 0)
  pub not_noted_for_want : (old new : MemDisk) → HasStopped old → Counts new (wanting (failed fresh)) → EntersOrWants {T = ℕ} {E = ℕ} (codes "d") old new (Err 0)
  pub not_unnoted : (old new : MemDisk) → HasStopped old → Counts new (failed fresh) → old.dirs.items ≡ [] → new.dirs.items ≡ [] → ¬ EntersOrWants {T = ℕ} {E = ℕ} (codes "d") old new (Err 0)
  pub a_call : (old new : MemDisk) → old.asks.items ≡ [] → new.asks.items ≡ asking Raise old true ∷ [] → Notes {T = ℕ} {E = ℕ} Raise old new (Ok 0)
  pub not_done_unnoted : (old new : MemDisk) → old.asks.items ≡ [] → new.asks.items ≡ [] → ¬ Notes {T = ℕ} {E = ℕ} Raise old new (Ok 0)
  pub not_failed_unnoted : (old new : MemDisk) → HasStopped old → Counts new (failed fresh) → old.asks.items ≡ [] → new.asks.items ≡ [] → ¬ Notes {T = ℕ} {E = ℕ} Raise old new (Err 0)

abbrev pub synced : Event
synced = Synced JournalA

-- the events behind a sync that was answered so
pub record EventsOfCalls : Type 0 where
  pub one : (old new : MemDisk) → Runs old → new.events.items ≡ one_write ++ synced ∷ [] → Adds {T = ℕ} {E = ℕ} synced [] old new (Ok 0)
  pub none_behind_a_stop : (old new : MemDisk) → HasStopped old → new.events.items ≡ one_write → Adds {T = ℕ} {E = ℕ} synced [] old new (Err 0)
  -- a write that was named takes effect
  pub a_named_write : (old new : MemDisk) → IsNamed old → new.events.items ≡ one_write ++ one_write → Adds {T = ℕ} {E = ℕ} (Wrote JournalA 1 (9 ∷ [])) one_write old new (Err 0)
  pub not_done_without_it : (old new : MemDisk) → Runs old → new.events.items ≡ one_write → ¬ Adds {T = ℕ} {E = ℕ} synced [] old new (Ok 0)
  pub no_event_behind_a_stop : (old new : MemDisk) → HasStopped old → new.events.items ≡ one_write ++ synced ∷ [] → ¬ Adds {T = ℕ} {E = ℕ} synced (synced ∷ []) old new (Err 0)
  pub not_a_named_sync : (old new : MemDisk) → IsNamed old → new.events.items ≡ one_write ++ synced ∷ [] → ¬ Adds {T = ℕ} {E = ℕ} synced [] old new (Err 0)
  pub not_without_the_write : (old new : MemDisk) → old.events.items ≡ one_write → new.events.items ≡ synced ∷ [] → ¬ Does synced old new
  pub not_counted_too : (old new : MemDisk) → Runs old → Counts new (succeeded fresh) → ¬ Does synced old new
  pub not_another_event : (old new : MemDisk) → Runs old → new.events.items ≡ one_write ++ Synced JournalB ∷ [] → ¬ Does synced old new

-- of 1, 2 and 3 in each area, over which a write was laid; then a stop by this pick
abbrev pub StopsBy : ℕ → MemDisk → Type 0
StopsBy pick disk = Standing disk fresh (Some (stop_after 1 0 pick)) one_write × ((a : Area) → bytes_in disk.start a ≡ three) × (disk.past.items ≡ [])

pub record FreshAndRestarted : Type 0 where
  pub tells_nothing : (disk : MemDisk) → IsFresh disk → disk.calls ≡ fresh → told_of disk ≡ record { trail = record { start = bytes_in disk.start; entries = map.empty; events = [] }; dirs = []; calls = 0; last_failed = None; asks = [] }
  pub not_behind_an_event : (disk : MemDisk) → disk.events.items ≡ one_write → ¬ IsFresh disk
  pub not_with_a_byte : (disk : MemDisk) → bytes_in disk.start Ledger ≡ 0 ∷ [] → ¬ IsFresh disk
  pub not_with_a_stop : (disk : MemDisk) → HasStopped disk → ¬ IsFresh disk
  pub not_the_same_behind_an_event : (old new : MemDisk) → old.events.items ≡ [] → new.events.items ≡ one_write → ¬ SameDisk old new
  pub not_the_same_without_its_stop : (old new : MemDisk) → HasStopped old → new.stop ≡ None → ¬ SameDisk old new
  pub by_0_the_old_bytes : (old new : MemDisk) → StopsBy 0 old → Restarts old new → bytes_in new.start JournalA ≡ three
  pub by_1_the_new_bytes : (old new : MemDisk) → StopsBy 1 old → Restarts old new → bytes_in new.start JournalA ≡ 1 ∷ 9 ∷ 3 ∷ []
  pub not_the_new_bytes_by_0 : (old new : MemDisk) → StopsBy 0 old → bytes_in new.start JournalA ≡ 1 ∷ 9 ∷ 3 ∷ [] → ¬ Restarts old new
  pub not_with_its_events : (old new : MemDisk) → new.events.items ≡ one_write → ¬ Restarts old new
  pub not_with_its_stop : (old new : MemDisk) → HasStopped new → ¬ Restarts old new
