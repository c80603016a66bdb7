-- A gateway that is set up in an empty area, in one that has a record, and in a damaged one.
use Rattle.std.specs.Prelude.{ℕ, [], ◌∷◌, Some, None, Ok, Err}
use Rattle.satp_base.specs.Acts.{founded}
use Rattle.satp_base.specs.Calls.{Told, call_failed, made}
use Rattle.satp_base.specs.Segments.{append_events}
use Rattle.satp_base.specs.declared.area.Area.TheVariants.{JournalA}
use Rattle.satp_base.specs.declared.area.Event.TheVariants.{Wrote, Synced}
use Rattle.satp_base.specs.declared.ledger.LedgerKind.TheVariants.{Accounts}
use Rattle.satp_points.specs.States.{Tells, tells}
use Rattle.satp_gateway.specs.SettingUp.{DecidedBy, FoundsOnce, Plan, SetUpAnswers, VacantAnswers, founds, plan_of}
use Rattle.satp_gateway.specs.declared.fault.SetUpFault.TheVariants.{Already, Damaged, Site, Memory}
use Rattle.satp_examples.specs.Appending.{closed, damaged, uncalled}
use Rattle.satp_examples.specs.Journals.{d}
use Rattle.satp_examples.specs.Ledgers.{with_gold}

-- the record is `d`
abbrev pub plan : Plan
plan = plan_of d Accounts with_gold

abbrev pub empty : Told
empty = uncalled []

-- the journal's gate was written
abbrev pub opened : Told
opened = made 5 (Synced JournalA ∷ Wrote JournalA 0 (0 ∷ []) ∷ Synced JournalA ∷ []) empty

-- the ledger was founded, and then the record was stored
abbrev pub set_up : Told
set_up = made 4 (append_events JournalA 0 d) (founds plan opened)

-- the record was stored, and no ledger was founded
abbrev pub without_ledger : Told
without_ledger = made 4 (append_events JournalA 0 d) opened

abbrev pub there : Told
there = made 3 (Synced JournalA ∷ []) (uncalled closed)

pub record AnswersToSetUps : Type 0 where
  pub done : SetUpAnswers plan (tells (Some empty) None) (tells (Some set_up) (Some (founded with_gold))) (Ok tt)
  pub already : SetUpAnswers plan (tells (Some (uncalled closed)) None) (tells (Some there) None) (Err Already)
  pub no_memory : SetUpAnswers plan (tells (Some empty) None) (tells (Some opened) None) (Err Memory)
  pub no_memory_for_the_journal : SetUpAnswers plan (tells (Some empty) None) (tells (Some (made 2 (Synced JournalA ∷ []) empty)) None) (Err Memory)
  pub damaged_journal : SetUpAnswers plan (tells (Some (uncalled damaged)) None) (tells (Some (made 3 (Synced JournalA ∷ []) (uncalled damaged))) None) (Err (Damaged 6))
  pub founding_failed : SetUpAnswers plan (tells (Some empty) None) (tells (Some (call_failed [] opened)) None) (Err Site)
  -- over the open journal
  pub over_a_vacancy : VacantAnswers plan (tells (Some opened) None) (tells (Some set_up) (Some (founded with_gold))) (Ok tt)
  pub not_there_over_a_vacancy : (new : Tells) → ¬ VacantAnswers plan (tells (Some opened) None) new (Err Already)
  pub not_without_memory_after_the_founding : ¬ VacantAnswers plan (tells (Some opened) None) (tells (Some (founds plan opened)) None) (Err Memory)
  pub not_done_without_its_ledger : ¬ SetUpAnswers plan (tells (Some empty) None) (tells (Some set_up) None) (Ok tt)
  pub not_done_without_a_founding : ¬ SetUpAnswers plan (tells (Some empty) None) (tells (Some without_ledger) (Some (founded with_gold))) (Ok tt)
  pub not_already_and_founded : ¬ SetUpAnswers plan (tells (Some (uncalled closed)) None) (tells (Some there) (Some (founded with_gold))) (Err Already)
  pub not_without_memory_and_founded : ¬ SetUpAnswers plan (tells (Some empty) None) (tells (Some (founds plan opened)) None) (Err Memory)
  pub not_damaged_where_whole : (at : ℕ) → ¬ SetUpAnswers plan (tells (Some (uncalled closed)) None) (tells (Some there) None) (Err (Damaged at))

pub record DecidedByBytes : Type 0 where
  pub nothing_there : DecidedBy [] (Ok tt)
  pub a_record : DecidedBy closed (Err Already)
  pub damage : DecidedBy damaged (Err (Damaged 6))
  pub a_failure : DecidedBy closed (Err Site)
  pub not_already_on_nothing : ¬ DecidedBy [] (Err Already)
  pub not_done_over_a_record : ¬ DecidedBy closed (Ok tt)
  pub not_already_on_damage : ¬ DecidedBy damaged (Err Already)
  pub not_damaged_elsewhere : ¬ DecidedBy damaged (Err (Damaged 0))

pub record FoundingsOfSetUps : Type 0 where
  pub one : FoundsOnce plan (Some empty) (Some set_up)
  pub none : FoundsOnce plan (Some (uncalled closed)) (Some there)
  pub not_two : ¬ FoundsOnce plan (Some empty) (Some (founds plan set_up))
  pub not_over_a_record : ¬ FoundsOnce plan (Some (uncalled closed)) (Some (founds plan there))
