-- What a device tells after a call that succeeded, and after one that failed.
use Rattle.std.specs.Prelude.{◌≡◌, ℕ, ◌-◌, ◌^◌, Bool, true, false, List, [], ◌∷◌, ◌++◌, Option, Some, None, codes}
use Rattle.satp_base.specs.Calls.{Ask, Entering, Fails, FailsAmong, Makes, MayMiss, Reads, Told, ask_failed, asked, call_failed, calls_of, enter_failed, entered, made, risen}
use Rattle.satp_base.specs.Segments.{append_events}
use Rattle.satp_base.specs.declared.area.Area.TheVariants.{JournalA, JournalB}
use Rattle.satp_base.specs.declared.area.Event.{Event}
use Rattle.satp_base.specs.declared.area.Event.TheVariants.{Wrote, Synced, Left}
use Rattle.satp_base.specs.declared.ledger.LedgerCall.TheVariants.{Raise}
use Rattle.satp_examples.specs.Disks.{behind, one_write, three}
use Rattle.satp_examples.specs.Journals.{d}

-- two calls were made, and the second one was a write
abbrev pub two_calls : Told
two_calls = record { trail = behind one_write; dirs = []; calls = 2; last_failed = None; asks = [] }

-- the third call asked for the directory `d`, or for the ledger
abbrev pub to_d : Bool → Entering
to_d succeeded = record { dir = codes "d"; before = 2; succeeded = succeeded }

abbrev pub raise : Ask
raise = record { call = Raise; before = 2; succeeded = true }

-- after so many calls with these events, the last of which failed
abbrev pub failed_by : ℕ → List Event → Told → Told
failed_by calls events t = record (made calls events t) { last_failed = Some (risen t.calls calls) }

pub record CallsAreTold : Type 0 where
  pub with_an_event : made 1 (Synced JournalA ∷ []) two_calls ≡ record { trail = behind (one_write ++ Synced JournalA ∷ []); dirs = []; calls = 3; last_failed = None; asks = [] }
  -- as a read is
  pub without_an_event : made 1 [] two_calls ≡ record { trail = behind one_write; dirs = []; calls = 3; last_failed = None; asks = [] }
  pub that_failed : call_failed [] two_calls ≡ record { trail = behind one_write; dirs = []; calls = 3; last_failed = Some 3; asks = [] }
  pub a_directory : entered (codes "d") two_calls ≡ record { trail = behind one_write; dirs = to_d true ∷ []; calls = 3; last_failed = None; asks = [] }
  pub a_directory_in_vain : enter_failed (codes "d") two_calls ≡ record { trail = behind one_write; dirs = to_d false ∷ []; calls = 3; last_failed = Some 3; asks = [] }
  pub of_the_ledger : asked Raise [] two_calls ≡ record { trail = behind one_write; dirs = []; calls = 3; last_failed = None; asks = raise ∷ [] }
  pub not_failed_as_one_that_succeeded : ¬ (call_failed [] two_calls ≡ made 1 [] two_calls)
  pub not_without_a_count : ¬ (made 1 [] two_calls ≡ two_calls)
  -- a count stands still at the end of its type
  pub before_the_end : risen (2 ^ 64 - 2) 1 ≡ 2 ^ 64 - 1
  pub past_the_end : risen (2 ^ 64 - 2) 4 ≡ 2 ^ 64 - 1
  pub at_the_end : risen (2 ^ 64 - 1) 1 ≡ 2 ^ 64 - 1

-- a journal that is there already is opened by a sync, a look at the length and a read
abbrev pub opened : Told → Told
opened t = made 3 (Synced JournalA ∷ []) t

-- Two histories that differ in the order of their calls, or in which of them failed, are told otherwise.
pub record OrderOfCalls : Type 0 where
  pub entered_first : (opened (entered (codes "d") two_calls)).dirs ≡ to_d true ∷ []
  pub not_opened_before_it_is_entered : ¬ (entered (codes "d") (opened two_calls) ≡ opened (entered (codes "d") two_calls))
  pub no_failed_entering_passed_over : ¬ (opened (enter_failed (codes "d") two_calls) ≡ opened (entered (codes "d") two_calls))
  pub no_failed_raise_passed_over : ¬ (opened (ask_failed Raise [] two_calls) ≡ opened (asked Raise [] two_calls))
  pub the_last_that_failed : (made 1 [] (call_failed [] two_calls)).last_failed ≡ Some 3
  pub the_later_of_two : (call_failed [] (call_failed [] two_calls)).last_failed ≡ Some 4
  pub not_the_call_after : ¬ (call_failed [] (made 1 [] two_calls) ≡ made 1 [] (call_failed [] two_calls))

abbrev pub write : Event
write = Wrote JournalA 3 (4 ∷ [])

-- the write failed, and this is told
abbrev pub FailsWith : List Event → Type 0
FailsWith events = Fails write (Some two_calls) (Some (call_failed events two_calls))

pub record FailedCalls : Type 0 where
  pub it_happened : FailsWith (write ∷ [])
  pub it_did_not : FailsWith []
  pub it_left_bytes : FailsWith (write ∷ Left JournalA (1 ∷ 9 ∷ 3 ∷ 7 ∷ []) ∷ [])
  pub nothing_is_told : Fails write None None
  pub not_another_event : ¬ FailsWith (Synced JournalA ∷ [])
  pub not_left_alone : ¬ FailsWith (Left JournalA three ∷ [])
  pub not_left_elsewhere : ¬ FailsWith (write ∷ Left JournalB three ∷ [])
  pub not_left_twice : ¬ FailsWith (write ∷ Left JournalA three ∷ Left JournalA three ∷ [])
  pub not_uncounted : ¬ Fails write (Some two_calls) (Some two_calls)
  pub not_as_one_that_succeeded : ¬ Fails write (Some two_calls) (Some (made 1 [] two_calls))
  pub not_told_no_more : ¬ Fails write (Some two_calls) None

abbrev pub frame : Event
frame = Wrote JournalA 1 (0 ∷ 1 ∷ 100 ∷ 0 ∷ [])

abbrev pub FailsAfter : List Event → ℕ → Type 0
FailsAfter events calls = FailsAmong (calls_of (append_events JournalA 0 d)) (Some two_calls) (Some (failed_by calls events two_calls))

pub record FailedAppends : Type 0 where
  pub at_the_first_call : FailsAfter [] 1
  pub at_the_sync : FailsAfter (frame ∷ []) 2
  pub at_the_sync_that_happened : FailsAfter (frame ∷ Synced JournalA ∷ []) 2
  -- the call that failed counts
  pub not_uncounted : ¬ FailsAfter (frame ∷ Synced JournalA ∷ []) 1
  -- no call is left out
  pub not_without_the_first : ¬ FailsAfter (Synced JournalA ∷ []) 2
  pub not_as_one_that_succeeded : ¬ FailsAmong (calls_of (frame ∷ [])) (Some two_calls) (Some (made 1 [] two_calls))
  pub not_of_no_calls : ¬ FailsAmong [] (Some two_calls) (Some (call_failed [] two_calls))

-- a sync, a look at the length and a read
abbrev pub reading : List (Option Event)
reading = Some (Synced JournalA) ∷ None ∷ None ∷ []

pub record ListedCalls : Type 0 where
  pub all : Makes reading (Some two_calls) (Some (made 3 (Synced JournalA ∷ []) two_calls))
  pub failed_look : FailsAmong reading (Some two_calls) (Some (failed_by 2 (Synced JournalA ∷ []) two_calls))
  pub not_all_by_the_sync_alone : ¬ Makes reading (Some two_calls) (Some (made 1 (Synced JournalA ∷ []) two_calls))
  pub not_failed_after_the_last : ¬ FailsAmong reading (Some two_calls) (Some (failed_by 4 (Synced JournalA ∷ []) two_calls))

pub record ReadBytes : Type 0 where
  pub from_the_middle : Reads three 1 (2 ∷ 3 ∷ 7 ∷ 7 ∷ []) 2
  pub as_many_as_fit : Reads three 0 (1 ∷ 2 ∷ []) 2
  pub none_at_the_end : Reads three 3 (7 ∷ []) 0
  pub not_fewer : ¬ Reads three 1 (2 ∷ 3 ∷ 7 ∷ 7 ∷ []) 1
  pub not_more : ¬ Reads three 1 (2 ∷ 3 ∷ 7 ∷ 7 ∷ []) 3
  pub not_other_bytes : ¬ Reads three 1 (3 ∷ 2 ∷ 7 ∷ 7 ∷ []) 2

pub record MissedCalls : Type 0 where
  pub told : MayMiss (enter_failed (codes "d")) [] (Some two_calls) (Some (enter_failed (codes "d") two_calls))
  pub only_counted : MayMiss (enter_failed (codes "d")) [] (Some two_calls) (Some (call_failed [] two_calls))
  pub not_uncounted : ¬ MayMiss (enter_failed (codes "d")) [] (Some two_calls) (Some two_calls)
