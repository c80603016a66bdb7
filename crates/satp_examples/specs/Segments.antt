-- The events of an append and of an opening, and the cuts of them.
use Rattle.std.specs.Prelude.{◌≡◌, List, [], ◌∷◌}
use Rattle.satp_base.specs.Segments.{IsCut, append_events, open_events}
use Rattle.satp_base.specs.declared.area.Area.TheVariants.{JournalA, JournalB}
use Rattle.satp_base.specs.declared.area.Event.{Event}
use Rattle.satp_base.specs.declared.area.Event.TheVariants.{Wrote, Synced, Left}
use Rattle.satp_examples.specs.Journals.{abc_then, d}

abbrev pub frame : Event
frame = Wrote JournalA 7 (0 ∷ 1 ∷ 100 ∷ 0 ∷ [])

abbrev pub gate : Event
gate = Wrote JournalA 6 (1 ∷ [])

abbrev pub synced : Event
synced = Synced JournalA

-- an append of `d` at the gate in place 6
abbrev pub append : List Event
append = append_events JournalA 6 d

abbrev pub CutOfAppend : List Event → Type 0
CutOfAppend events = IsCut append events

pub record EventsOfAnAppend : Type 0 where
  pub four : append ≡ frame ∷ synced ∷ gate ∷ synced ∷ []
  pub none : CutOfAppend []
  pub the_frame : CutOfAppend (frame ∷ [])
  pub all : CutOfAppend (frame ∷ synced ∷ gate ∷ synced ∷ [])
  pub a_failed_sync : CutOfAppend (frame ∷ synced ∷ Left JournalA (abc_then (0 ∷ 7 ∷ [])) ∷ [])
  pub not_left_before_a_call : ¬ CutOfAppend (Left JournalA (abc_then (0 ∷ [])) ∷ [])
  pub not_left_elsewhere : ¬ CutOfAppend (frame ∷ Left JournalB [] ∷ [])
  pub not_on_after_a_failure : ¬ CutOfAppend (frame ∷ Left JournalA [] ∷ synced ∷ [])
  pub not_without_the_sync : ¬ CutOfAppend (frame ∷ gate ∷ [])
  pub not_the_gate_first : ¬ CutOfAppend (gate ∷ [])

pub record EventsOfAnOpening : Type 0 where
  -- a gate that is 0 isn't written
  pub at_rest : open_events JournalA (abc_then (0 ∷ [])) 6 ≡ synced ∷ []
  pub other_gate : open_events JournalA (abc_then (7 ∷ [])) 6 ≡ synced ∷ Wrote JournalA 6 (0 ∷ []) ∷ synced ∷ []
  pub empty : open_events JournalA [] 0 ≡ synced ∷ Wrote JournalA 0 (0 ∷ []) ∷ synced ∷ []
  pub one_open_gate : open_events JournalA (1 ∷ []) 0 ≡ synced ∷ Wrote JournalA 0 (0 ∷ []) ∷ synced ∷ []
