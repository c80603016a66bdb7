-- A journal that holds `abc`: what it answers where it is opened and where `d` is appended.
use Rattle.std.specs.Prelude.{ℕ, List, [], ◌∷◌, ◌++◌, Option, Some, None, Result, Ok, Err, true, false}
use Rattle.std.specs.FinMap as map
use Rattle.satp_base.specs.Calls.{Told, made}
use Rattle.satp_base.specs.Laws.{GateDecides, IsInAppend, RestsAt}
use Rattle.satp_base.specs.Segments.{append_events}
use Rattle.satp_base.specs.declared.area.Area.TheVariants.{JournalA}
use Rattle.satp_base.specs.declared.area.Event.{Event}
use Rattle.satp_base.specs.declared.area.Event.TheVariants.{Wrote, Synced}
use Rattle.satp_journal.specs.Appending.{AppendAnswers}
use Rattle.satp_journal.specs.Listing.{IsUnread}
use Rattle.satp_journal.specs.Opening.{OpenAnswers}
use Rattle.satp_journal.specs.State.{Fits, Held, JournalState}
use Rattle.satp_journal.specs.declared.fault.JournalFault.{JournalFault}
use Rattle.satp_journal.specs.declared.fault.JournalFault.TheVariants.{Disk, Damaged, Memory, Broken}
use Rattle.satp_journal.specs.declared.fault.Unread.TheVariants as unread
use Rattle.satp_examples.specs.Calls.{failed_by}
use Rattle.satp_examples.specs.Journals.{abc, abc_then, d}

abbrev pub held : List (List ℕ) → Held
held payloads = record { area = JournalA; payloads = payloads; broken = false }

abbrev pub broken : Held
broken = record (held (abc ∷ [])) { broken = true }

-- each area holds these bytes, and no call was made
abbrev pub uncalled : List ℕ → Told
uncalled image = record { trail = record { start = λ area. image; entries = map.empty; events = [] }; dirs = []; calls = 0; last_failed = None; asks = [] }

abbrev pub at_rest : Told
at_rest = uncalled (abc_then (0 ∷ []))

-- ---- an append

abbrev pub append : List Event
append = append_events JournalA 6 d

-- an append of `d` leaves this journal, adds so many calls with these events, and is answered so
abbrev pub Appends : Held → ℕ → List Event → Result (Unit {0}) JournalFault → Type 0
Appends new calls events result = AppendAnswers d (held (abc ∷ [])) new (Some at_rest) (Some (made calls events at_rest)) result

-- the last of the calls failed
abbrev pub FailsBy : Held → ℕ → List Event → Type 0
FailsBy new calls events = AppendAnswers d (held (abc ∷ [])) new (Some at_rest) (Some (failed_by calls events at_rest)) (Err Disk)

pub record AnswersToAppends : Type 0 where
  pub done : Appends (held (abc ∷ d ∷ [])) 4 append (Ok tt)
  pub failed : FailsBy broken 1 []
  pub no_memory : AppendAnswers d (held (abc ∷ [])) (held (abc ∷ [])) (Some at_rest) (Some at_rest) (Err Memory)
  pub broken_before : AppendAnswers d broken broken (Some at_rest) (Some at_rest) (Err Broken)
  pub not_done_without_the_last_sync : ¬ Appends (held (abc ∷ d ∷ [])) 3 (Wrote JournalA 7 (0 ∷ 1 ∷ 100 ∷ 0 ∷ []) ∷ Synced JournalA ∷ Wrote JournalA 6 (1 ∷ []) ∷ []) (Ok tt)
  pub not_done_and_forgotten : ¬ Appends (held (abc ∷ [])) 4 append (Ok tt)
  pub not_done_where_broken : (new : Held) (told : Option Told) → ¬ AppendAnswers d broken new (Some at_rest) told (Ok tt)
  pub not_failed_and_whole : ¬ FailsBy (held (abc ∷ [])) 1 []
  pub not_failed_where_all_succeeded : ¬ Appends broken 1 [] (Err Disk)
  pub not_failed_without_a_call : ¬ AppendAnswers d (held (abc ∷ [])) broken (Some at_rest) (Some at_rest) (Err Disk)
  pub not_without_memory_behind_a_call : ¬ Appends (held (abc ∷ [])) 1 [] (Err Memory)
  pub not_broken_at_once : ¬ AppendAnswers d (held (abc ∷ [])) (held (abc ∷ [])) (Some at_rest) (Some at_rest) (Err Broken)
  pub not_damaged : (at : ℕ) (new : Held) (told : Option Told) → ¬ AppendAnswers d (held (abc ∷ [])) new (Some at_rest) told (Err (Damaged at))

-- ---- an opening

-- an opening of an area with these bytes adds so many calls with these events, and is answered so
abbrev pub Opens : List ℕ → ℕ → List Event → Result JournalState JournalFault → Type 0
Opens image calls events result = OpenAnswers JournalA (Some (uncalled image)) (Some (made calls events (uncalled image))) result

abbrev pub opened : List (List ℕ) → JournalState
opened payloads = record { held = held payloads; spare_records = 0; spare_bytes = 0 }

abbrev pub synced : Event
synced = Synced JournalA

-- the gate is 0, it is 7, and it is open without a record
abbrev pub closed : List ℕ
closed = abc_then (0 ∷ [])

abbrev pub of_seven : List ℕ
of_seven = abc_then (7 ∷ [])

abbrev pub damaged : List ℕ
damaged = abc_then (1 ∷ [])

pub record AnswersToOpenings : Type 0 where
  pub found : Opens closed 3 (synced ∷ []) (Ok (opened (abc ∷ [])))
  pub mended : Opens of_seven 5 (synced ∷ Wrote JournalA 6 (0 ∷ []) ∷ synced ∷ []) (Ok (opened (abc ∷ [])))
  pub empty : Opens [] 5 (synced ∷ Wrote JournalA 0 (0 ∷ []) ∷ synced ∷ []) (Ok (opened []))
  pub found_damaged : Opens damaged 3 (synced ∷ []) (Err (Damaged 6))
  pub first_sync_failed : OpenAnswers JournalA (Some (uncalled closed)) (Some (failed_by 1 [] (uncalled closed))) (Err Disk)
  pub not_unmended : ¬ Opens of_seven 3 (synced ∷ []) (Ok (opened (abc ∷ [])))
  pub not_mended_at_rest : ¬ Opens closed 5 (synced ∷ Wrote JournalA 6 (0 ∷ []) ∷ synced ∷ []) (Ok (opened (abc ∷ [])))
  pub not_another_list : ¬ Opens closed 3 (synced ∷ []) (Ok (opened []))
  pub not_without_the_sync : ¬ Opens closed 2 [] (Ok (opened (abc ∷ [])))
  pub not_damaged_elsewhere : ¬ Opens damaged 3 (synced ∷ []) (Err (Damaged 0))
  pub not_damaged_where_whole : (at : ℕ) → ¬ Opens closed 3 (synced ∷ []) (Err (Damaged at))
  pub not_mended_where_damaged : ¬ Opens damaged 5 (synced ∷ Wrote JournalA 6 (0 ∷ []) ∷ synced ∷ []) (Err (Damaged 6))
  pub not_broken : ¬ Opens closed 3 (synced ∷ []) (Err Broken)

-- ---- lists and gates

pub record ListsOfBytes : Type 0 where
  pub where_it_breaks : IsUnread damaged (unread.Damaged 6 1)
  pub not_before_the_payload : ¬ IsUnread damaged (unread.Damaged 6 0)
  pub not_where_whole : (at index : ℕ) → ¬ IsUnread closed (unread.Damaged at index)
  pub the_gate_is_there : Fits (held (abc ∷ [])) (Some at_rest)
  pub the_gate_is_not : ¬ Fits (held (abc ∷ [])) (Some (uncalled (abc_then [])))

-- each image is `abc` at rest, where the area was left so, and not behind an unsynced write of its gate
pub record AreasAtRest : Type 0 where
  pub rests : RestsAt at_rest.trail JournalA (abc ∷ [])
  pub another_list : ¬ RestsAt at_rest.trail JournalA []
  pub a_gate_unsynced : ¬ RestsAt (record at_rest.trail { events = Wrote JournalA 6 (0 ∷ []) ∷ [] }) JournalA (abc ∷ [])

-- ---- within an append of `d`

abbrev pub Within : List ℕ → Type 0
Within image = IsInAppend (abc ∷ []) d image

abbrev pub gate_in_the_write : List ℕ → List ℕ
gate_in_the_write q = abc_then (7 ∷ 0 ∷ 1 ∷ q ++ 0 ∷ [])

abbrev pub with_both : List ℕ
with_both = abc_then (1 ∷ 0 ∷ 1 ∷ 100 ∷ 0 ∷ [])

pub record ImagesOfAnAppend : Type 0 where
  pub before : Within closed
  pub in_the_write_of_the_gate : Within (gate_in_the_write d)
  pub after : Within with_both
  pub not_damaged : ¬ Within damaged
  pub not_before_another_payload : ¬ Within (gate_in_the_write (101 ∷ []))
  pub not_without_the_list : ¬ Within (0 ∷ 0 ∷ [])
  -- a gate that isn't 0 has the record after it
  pub not_at_another_gate : ¬ Within of_seven

-- the byte at the gate of `abc` says which of the two lists an image stands for
abbrev pub Decides : List ℕ → Type 0
Decides image = GateDecides (abc ∷ []) d image

pub record GatesOfAnAppend : Type 0 where
  pub by_zero : Decides closed
  pub by_another : Decides (gate_in_the_write d)
  pub by_one : Decides with_both
  pub not_by_a_gate_before_another_record : ¬ Decides (abc_then (1 ∷ 0 ∷ 1 ∷ 101 ∷ 0 ∷ []))
