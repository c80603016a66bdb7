-- What a stop may leave of a journal of `abc`, at each event of an append of `d` and of an opening.
use Rattle.std.specs.Prelude.{◌≡◌, ℕ, List, [], ◌∷◌, Some}
use Rattle.satp_base.specs.Calls.{made}
use Rattle.satp_base.specs.Laws.{AllInAppend, GateFollows, IsEither, IsInMend}
use Rattle.satp_base.specs.Trail.{extended}
use Rattle.satp_base.specs.declared.area.Area.TheVariants.{JournalA}
use Rattle.satp_base.specs.declared.area.Event.{Event}
use Rattle.satp_base.specs.declared.area.Event.TheVariants.{Wrote, Cut, Left}
use Rattle.satp_journal.specs.Appending.{AppendRests, AppendStops, AtEach, RestsStill}
use Rattle.satp_journal.specs.Opening.{OpenStops, Rests}
use Rattle.satp_examples.specs.Appending.{append, at_rest, closed, gate_in_the_write, held, uncalled, with_both}
use Rattle.satp_examples.specs.Disks.{behind, one_write}
use Rattle.satp_examples.specs.Journals.{abc, abc_then, d}
use Rattle.satp_examples.specs.Segments.{frame, gate, synced}

-- ---- at each event

-- the one byte that was written may be any
abbrev pub HasAnyByte : List Event → List ℕ → Type 0
HasAnyByte events image = (byte : ℕ) × (image ≡ 1 ∷ byte ∷ 3 ∷ [])

pub record ImagesAtEachEvent : Type 0 where
  pub all_of_a_write : AtEach JournalA (behind []) (behind one_write) HasAnyByte
  -- before the write, and behind it
  pub not_only_before : ¬ AtEach JournalA (behind []) (behind one_write) (λ events image. events ≡ [])
  pub not_only_behind : ¬ AtEach JournalA (behind []) (behind one_write) (λ events image. events ≡ one_write)
  pub not_only_the_new_byte : ¬ AtEach JournalA (behind []) (behind one_write) (λ events image. image ≡ 1 ∷ 9 ∷ 3 ∷ [])
  pub not_of_fewer_events : ¬ AtEach JournalA (behind one_write) (behind []) HasAnyByte

-- ---- an append

-- an append of `d` to the journal at rest has come to these events
abbrev pub AppendsBy : List Event → Type 0
AppendsBy events = AppendStops d (held (abc ∷ [])) (Some at_rest) (Some (made 4 events at_rest))

-- the journal was `abc` at rest, and behind these events it is this list at rest
abbrev pub RestsBy : List Event → List (List ℕ) → Type 0
RestsBy events payloads = RestsStill JournalA (abc ∷ []) payloads (Some at_rest) (Some (made 4 events at_rest))

pub record StopsOfAnAppend : Type 0 where
  pub whole : AppendsBy append
  pub up_to_the_gate : AppendsBy (frame ∷ synced ∷ gate ∷ [])
  pub not_without_the_first_sync : ¬ AppendsBy (frame ∷ gate ∷ synced ∷ [])
  pub not_of_another_payload : ¬ AppendsBy (Wrote JournalA 7 (0 ∷ 1 ∷ 101 ∷ 0 ∷ []) ∷ synced ∷ gate ∷ [])
  pub not_over_a_payload : ¬ AppendsBy (Wrote JournalA 3 (120 ∷ []) ∷ [])
  pub not_a_cut_of_the_gate : ¬ AppendsBy (Cut JournalA 6 ∷ [])
  pub rests_behind : RestsBy append (abc ∷ d ∷ [])
  pub not_without_the_last_sync : ¬ RestsBy (frame ∷ synced ∷ gate ∷ []) (abc ∷ d ∷ [])
  pub not_without_the_payload : ¬ RestsBy append (abc ∷ [])
  pub rests : Rests (Some at_rest) (held (abc ∷ []))
  pub not_with_a_payload_more : ¬ Rests (Some at_rest) (held (abc ∷ d ∷ []))

-- the byte at the gate, behind these events of the append
abbrev pub GateBy : List Event → List ℕ → Type 0
GateBy events image = GateFollows (abc ∷ []) append events image

pub record GatesAtEachEvent : Type 0 where
  pub closed_before_its_write : GateBy (frame ∷ synced ∷ []) closed
  pub any_byte_in_its_write : GateBy (frame ∷ synced ∷ gate ∷ []) (gate_in_the_write d)
  pub open_after_its_sync : GateBy append with_both
  pub not_open_before_its_write : ¬ GateBy (frame ∷ synced ∷ []) with_both
  pub not_another_byte_after_its_sync : ¬ GateBy append (gate_in_the_write d)

-- each list whose records end at the gate of this one is at rest with `d`, where it was at rest
abbrev pub RestsEach : List ℕ → List Event → Type 0
RestsEach q events = AppendRests d (held (q ∷ [])) (Some at_rest) (Some (made 4 events at_rest))

pub record ListsAtTheGate : Type 0 where
  pub the_list : RestsEach abc append
  -- the journal keeps another list of three bytes, and what is at rest is `abc`
  pub another_as_long : RestsEach (120 ∷ 121 ∷ 122 ∷ []) append
  pub not_without_the_last_sync : ¬ RestsEach abc (frame ∷ synced ∷ gate ∷ [])
  pub shorter : IsEither (abc ∷ []) d (abc ∷ [])
  pub longer : IsEither (abc ∷ []) d (abc ∷ d ∷ [])
  pub neither : ¬ IsEither (abc ∷ []) d (d ∷ [])

-- ---- an opening

-- a stop in the write of the gate before `d` left 7 there
abbrev pub in_the_write : List ℕ
in_the_write = gate_in_the_write d

pub record ImagesOfAMend : Type 0 where
  pub as_it_was : IsInMend in_the_write (abc ∷ []) in_the_write
  pub with_the_gate_shut : IsInMend in_the_write (abc ∷ []) (abc_then (0 ∷ 0 ∷ 1 ∷ 100 ∷ 0 ∷ []))
  -- 1 was being written there before
  pub with_the_payload_behind : IsInMend in_the_write (abc ∷ []) with_both
  pub not_with_another_payload : ¬ IsInMend in_the_write (abc ∷ []) (abc_then (1 ∷ 0 ∷ 1 ∷ 101 ∷ 0 ∷ []))
  pub not_without_the_list : ¬ IsInMend in_the_write (abc ∷ []) (0 ∷ 0 ∷ [])
  -- no record stood behind the gate
  pub not_with_what_was_not_there : ¬ IsInMend closed (abc ∷ []) with_both

abbrev pub shut : Event
shut = Wrote JournalA 6 (0 ∷ [])

-- an opening of an area with these bytes has come to these events
abbrev pub OpensBy : List ℕ → List Event → Type 0
OpensBy image events = OpenStops JournalA (Some (uncalled image)) (Some (made 5 events (uncalled image)))

pub record StopsOfAnOpening : Type 0 where
  pub at_rest : OpensBy closed (synced ∷ [])
  pub mended : OpensBy in_the_write (synced ∷ shut ∷ synced ∷ [])
  pub up_to_the_gate : OpensBy in_the_write (synced ∷ shut ∷ [])
  pub not_left_longer_by_the_first_sync : ¬ OpensBy closed (synced ∷ Left JournalA (abc_then (0 ∷ 5 ∷ [])) ∷ [])
  pub not_over_a_payload : ¬ OpensBy in_the_write (synced ∷ Wrote JournalA 3 (120 ∷ []) ∷ [])
  pub not_a_cut_of_the_gate : ¬ OpensBy in_the_write (synced ∷ Cut JournalA 6 ∷ [])

-- ---- an opening after a stop

-- `d` was stored, and a stop in the mend of another opening, or in the append itself, left this
abbrev pub StaysInAppend : List ℕ → List Event → Type 0
StaysInAppend image events = AllInAppend (extended (uncalled image).trail events) JournalA (abc ∷ []) d

-- the gate of the first record is written shut
abbrev pub first_shut : Event
first_shut = Wrote JournalA 0 (0 ∷ [])

pub record StopsOfAReopening : Type 0 where
  pub begins : StaysInAppend in_the_write []
  pub in_the_mend : StaysInAppend in_the_write (synced ∷ shut ∷ [])
  pub mended : StaysInAppend in_the_write (synced ∷ shut ∷ synced ∷ [])
  -- a stop in the mend left 1 there again
  pub with_both_again : StaysInAppend with_both (synced ∷ [])
  pub not_with_the_record_dropped : ¬ StaysInAppend with_both (synced ∷ first_shut ∷ synced ∷ [])
  pub not_opened_by_dropping_it : ¬ OpensBy with_both (synced ∷ first_shut ∷ synced ∷ [])
