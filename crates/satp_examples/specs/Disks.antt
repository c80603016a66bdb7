-- What a stop may leave of an area of four small bytes, and what a failed call may.
use Rattle.std.specs.Prelude.{◌≡◌, ℕ, List, [], ◌∷◌, ◌++◌}
use Rattle.std.specs.FinMap as map
use Rattle.satp_base.specs.Trail.{IsImage, KeepsModel, Trail, seen}
use Rattle.satp_base.specs.declared.area.Area.TheVariants.{JournalA, JournalB}
use Rattle.satp_base.specs.declared.area.Event.{Event}
use Rattle.satp_base.specs.declared.area.Event.TheVariants.{Wrote, Cut, Synced, Left}

abbrev pub three : List ℕ
three = 1 ∷ 2 ∷ 3 ∷ []

-- how the first area stands behind these events, of 1, 2 and 3 at the start
abbrev pub behind : List Event → Trail
behind events = record { start = λ area. three; entries = map.empty; events = events }

abbrev pub MayLeave : List Event → List ℕ → Type 0
MayLeave events image = IsImage (behind events) JournalA image

-- 9 is written over 2, and not synced
abbrev pub one_write : List Event
one_write = Wrote JournalA 1 (9 ∷ []) ∷ []

pub record StopsAfterAWrite : Type 0 where
  pub the_old_byte : MayLeave one_write (1 ∷ 2 ∷ 3 ∷ [])
  pub the_new_byte : MayLeave one_write (1 ∷ 9 ∷ 3 ∷ [])
  pub any_byte_there : MayLeave one_write (1 ∷ 77 ∷ 3 ∷ [])
  pub no_other_byte : ¬ MayLeave one_write (7 ∷ 9 ∷ 3 ∷ [])
  pub no_byte_behind : ¬ MayLeave one_write (1 ∷ 9 ∷ 7 ∷ [])
  pub not_shorter : ¬ MayLeave one_write (1 ∷ 9 ∷ [])
  pub not_longer : ¬ MayLeave one_write (1 ∷ 9 ∷ 3 ∷ 0 ∷ [])
  pub not_in_another_area : ¬ IsImage (behind one_write) JournalB (1 ∷ 9 ∷ 3 ∷ [])

-- 4 and 5 are written behind the end
abbrev pub two_more : List Event
two_more = Wrote JournalA 3 (4 ∷ 5 ∷ []) ∷ []

pub record StopsAfterAnExtension : Type 0 where
  pub the_old_length : MayLeave two_more (1 ∷ 2 ∷ 3 ∷ [])
  pub a_length_between : MayLeave two_more (1 ∷ 2 ∷ 3 ∷ 4 ∷ [])
  pub the_new_length : MayLeave two_more (1 ∷ 2 ∷ 3 ∷ 4 ∷ 5 ∷ [])
  pub any_bytes_past_the_old_end : MayLeave two_more (1 ∷ 2 ∷ 3 ∷ 0 ∷ 7 ∷ [])
  pub no_shorter : ¬ MayLeave two_more (1 ∷ 2 ∷ [])
  pub no_longer : ¬ MayLeave two_more (1 ∷ 2 ∷ 3 ∷ 4 ∷ 5 ∷ 6 ∷ [])
  pub no_byte_before_the_old_end : ¬ MayLeave two_more (1 ∷ 2 ∷ 0 ∷ 4 ∷ 5 ∷ [])

-- the area is cut to its first byte
abbrev pub a_cut : List Event
a_cut = Cut JournalA 1 ∷ []

pub record StopsAfterACut : Type 0 where
  pub the_new_length : MayLeave a_cut (1 ∷ [])
  pub the_old_bytes : MayLeave a_cut (1 ∷ 2 ∷ 3 ∷ [])
  pub a_part_with_any_bytes : MayLeave a_cut (1 ∷ 0 ∷ [])
  pub no_shorter : ¬ MayLeave a_cut []
  pub no_longer : ¬ MayLeave a_cut (1 ∷ 2 ∷ 3 ∷ 4 ∷ [])
  pub no_byte_before_the_cut : ¬ MayLeave a_cut (7 ∷ [])

-- a write that a sync follows
abbrev pub one_write_synced : List Event
one_write_synced = Wrote JournalA 1 (9 ∷ []) ∷ Synced JournalA ∷ []

abbrev pub another_synced : List Event
another_synced = Wrote JournalA 1 (9 ∷ []) ∷ Synced JournalB ∷ []

pub record StopsAfterASync : Type 0 where
  pub what_was_written : MayLeave one_write_synced (1 ∷ 9 ∷ 3 ∷ [])
  pub not_the_old_byte : ¬ MayLeave one_write_synced (1 ∷ 2 ∷ 3 ∷ [])
  -- a sync of another area does nothing here
  pub another_area : MayLeave another_synced (1 ∷ 2 ∷ 3 ∷ [])

-- the write failed, and the area then reads so
abbrev pub failed_write : List ℕ → List Event
failed_write bytes = Wrote JournalA 1 (9 ∷ []) ∷ Left JournalA bytes ∷ []

pub record LeftByFailures : Type 0 where
  -- where a stop could have left it
  pub what_a_stop_could_leave : KeepsModel (behind (failed_write (1 ∷ 0 ∷ 3 ∷ [])))
  pub not_another_byte : ¬ KeepsModel (behind (failed_write (0 ∷ 9 ∷ 3 ∷ [])))
  pub not_another_length : ¬ KeepsModel (behind (failed_write (1 ∷ 9 ∷ [])))
  -- behind a sync nothing else
  pub not_behind_a_sync : ¬ KeepsModel (behind (one_write_synced ++ Left JournalA (1 ∷ 2 ∷ 3 ∷ []) ∷ []))
  -- what is left is read, and isn't on the disk yet
  pub is_read : seen (behind (failed_write (1 ∷ 0 ∷ 3 ∷ []))) JournalA ≡ 1 ∷ 0 ∷ 3 ∷ []
  pub is_not_synced : MayLeave (failed_write (1 ∷ 0 ∷ 3 ∷ [])) (1 ∷ 2 ∷ 3 ∷ [])
