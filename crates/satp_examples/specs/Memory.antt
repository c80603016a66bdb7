-- Devices in memory: which calls fail, where they stop, and which image a restart picks.
use Rattle.std.specs.Prelude.{◌≡◌, ℕ, List, [], ◌∷◌, Some, None, Ok, Err, true, false}
use Rattle.satp_base.specs.Trail.{settled, wrote}
use Rattle.satp_base.specs.declared.ledger.ActFault.TheVariants.{Failed, OutOfOrder}
use Rattle.satp_base.specs.declared.ledger.Entry.TheVariants.{Locked}
use Rattle.satp_memory.specs.Calling.{Calling, begun, cleared, failed, fresh, is_due, is_refused, naming, succeeded, wanting}
use Rattle.satp_memory.specs.Picks.{Picks}
use Rattle.satp_memory.specs.Sites.{ActEnds, LedgerEnds}
use Rattle.satp_memory.specs.Steps.{IsPicked}
use Rattle.satp_memory.specs.Stopping.{is_reached, pick_of, reached_alone, stop_after}
use Rattle.satp_examples.specs.Disks.{three}

-- ---- calls

pub record CallsThatFail : Type 0 where
  pub the_named_one : is_due (naming 1 fresh) ≡ true
  pub not_one_before : is_due (naming 2 fresh) ≡ false
  pub behind_the_first : is_due (succeeded (naming 2 fresh)) ≡ true
  pub not_one_behind : is_due (failed (naming 1 fresh)) ≡ false
  pub not_where_cleared : is_due (cleared (naming 1 fresh)) ≡ false
  pub each_behind_a_stop : is_refused true fresh ≡ true
  pub counts_of_a_success : begun false fresh ≡ record fresh { count = 1 }
  pub counts_of_a_failure : begun false (naming 1 fresh) ≡ record { count = 1; faults = 1; wants = 0; last_failed = Some 1; named = 1 ∷ [] }
  pub counts_behind_a_stop : begun true fresh ≡ record fresh { count = 1; faults = 1; last_failed = Some 1 }
  -- the last one that failed is told, also after one that succeeded
  pub the_last_that_failed : succeeded (failed (naming 1 fresh)) ≡ record { count = 2; faults = 1; wants = 0; last_failed = Some 1; named = 1 ∷ [] }
  pub the_later_of_two : failed (failed fresh) ≡ record fresh { count = 2; faults = 2; last_failed = Some 2 }
  -- want of memory is a fault that is counted beside
  pub counts_without_memory : wanting (begun false fresh) ≡ record fresh { count = 1; faults = 1; wants = 1; last_failed = Some 1 }
  pub counts_where_it_fails_anyway : wanting (begun true fresh) ≡ record fresh { count = 1; faults = 2; wants = 1; last_failed = Some 1 }

pub record CallsOnLedgers : Type 0 where
  pub done : LedgerEnds {T = ℕ} {E = ℕ} false true fresh (succeeded fresh) (Ok 0)
  pub failed_where_named : LedgerEnds {T = ℕ} {E = ℕ} true true fresh (failed fresh) (Err 0)
  pub failed_where_not_founded : LedgerEnds {T = ℕ} {E = ℕ} false false fresh (failed fresh) (Err 0)
  pub without_memory : LedgerEnds {T = ℕ} {E = ℕ} false true fresh (wanting (succeeded fresh)) (Err 0)
  pub without_memory_where_not_founded : LedgerEnds {T = ℕ} {E = ℕ} false false fresh (wanting (failed fresh)) (Err 0)
  pub not_merely_wanting_where_not_founded : ¬ LedgerEnds {T = ℕ} {E = ℕ} false false fresh (wanting (succeeded fresh)) (Err 0)
  pub without_memory_where_named : LedgerEnds {T = ℕ} {E = ℕ} true true fresh (wanting (failed fresh)) (Err 0)
  pub not_done_where_named : (new : Calling) → ¬ LedgerEnds {T = ℕ} {E = ℕ} true true fresh new (Ok 0)
  pub not_done_where_not_founded : (new : Calling) → ¬ LedgerEnds {T = ℕ} {E = ℕ} false false fresh new (Ok 0)
  pub not_failed_for_nothing : ¬ LedgerEnds {T = ℕ} {E = ℕ} false true fresh (failed fresh) (Err 0)
  pub not_without_memory_where_named : ¬ LedgerEnds {T = ℕ} {E = ℕ} true true fresh (wanting (succeeded fresh)) (Err 0)
  pub out_of_order : ActEnds {T = ℕ} false true fresh (failed fresh) (Err (OutOfOrder Locked))
  pub not_out_of_order_where_named : ¬ ActEnds {T = ℕ} true true fresh (failed fresh) (Err (OutOfOrder Locked))
  pub not_failed_out_of_order : ¬ ActEnds {T = ℕ} false true fresh (failed fresh) (Err Failed)

-- ---- stops

pub record StopsOfADisk : Type 0 where
  -- one event behind two, and then no more
  pub not_before : is_reached (Some (stop_after 2 1 0)) 2 ≡ false
  pub there : is_reached (Some (stop_after 2 1 0)) 3 ≡ true
  pub never : is_reached None 3 ≡ false
  pub stays : reached_alone (Some (stop_after 2 1 7)) 3 ≡ Some (stop_after 2 1 7)
  pub goes : reached_alone (Some (stop_after 2 1 7)) 2 ≡ None
  pub its_pick : pick_of (Some (stop_after 2 1 7)) ≡ 7
  pub no_pick : pick_of None ≡ 1

-- ---- picks

-- of 1, 2 and 3 at the last sync, since when 9 was written over 2 and 4 behind the end
abbrev pub PicksHere : ℕ → List ℕ → Type 0
PicksHere pick image = Picks three (1 ∷ 9 ∷ 3 ∷ 4 ∷ []) (0 ∷ 1 ∷ 0 ∷ 1 ∷ []) pick image

abbrev pub PicksBehindAWrite : ℕ → List ℕ → Type 0
PicksBehindAWrite pick image = IsPicked (wrote (settled three) 1 (9 ∷ [])) pick image

pub record PickedImages : Type 0 where
  pub old : PicksHere 0 three
  pub new : PicksHere 1 (1 ∷ 9 ∷ 3 ∷ 4 ∷ [])
  pub filled : PicksHere 7 (1 ∷ 7 ∷ 3 ∷ 7 ∷ [])
  pub filled_with_its_low_byte : PicksHere 257 (1 ∷ 1 ∷ 3 ∷ 1 ∷ [])
  pub not_new_by_0 : ¬ PicksHere 0 (1 ∷ 9 ∷ 3 ∷ 4 ∷ [])
  pub not_old_by_1 : ¬ PicksHere 1 three
  pub not_in_part : ¬ PicksHere 7 (1 ∷ 9 ∷ 3 ∷ 7 ∷ [])
  pub not_what_was_synced : ¬ PicksHere 7 (7 ∷ 7 ∷ 3 ∷ 7 ∷ [])
  pub not_shorter : ¬ PicksHere 7 (1 ∷ 7 ∷ 3 ∷ [])
  pub the_old_write : PicksBehindAWrite 0 three
  pub the_new_write : PicksBehindAWrite 1 (1 ∷ 9 ∷ 3 ∷ [])
  pub not_the_old_by_1 : ¬ PicksBehindAWrite 1 three
  pub not_the_written_byte : ¬ PicksBehindAWrite 7 (1 ∷ 9 ∷ 3 ∷ [])
  pub not_another_byte : ¬ PicksBehindAWrite 7 (7 ∷ 7 ∷ 3 ∷ [])
