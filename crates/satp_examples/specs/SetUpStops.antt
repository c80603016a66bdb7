-- What a stop leaves of a set-up whose record is `d`, at each of its events.
use Rattle.std.specs.Prelude.{List, [], ◌∷◌, ◌++◌, Some, Ok, Err}
use Rattle.satp_base.specs.Calls.{Told, made}
use Rattle.satp_base.specs.Segments.{append_events}
use Rattle.satp_base.specs.declared.area.Area.TheVariants.{JournalA}
use Rattle.satp_base.specs.declared.area.Event.{Event}
use Rattle.satp_base.specs.declared.area.Event.TheVariants.{Founded, Wrote}
use Rattle.satp_gateway.specs.SetUpStops.{SetUpStops, VacantRests, VacantStops}
use Rattle.satp_gateway.specs.SettingUp.{RestsSetUp, SetUpDecided}
use Rattle.satp_gateway.specs.declared.fault.SetUpFault.TheVariants.{Already}
use Rattle.satp_examples.specs.Appending.{closed, uncalled}
use Rattle.satp_examples.specs.Journals.{abc, d}
use Rattle.satp_examples.specs.Segments.{synced}
use Rattle.satp_examples.specs.SetUps.{empty, opened, plan, set_up, there}

-- the journal is opened in an empty area
abbrev pub opens : List Event
opens = synced ∷ Wrote JournalA 0 (0 ∷ []) ∷ synced ∷ []

abbrev pub stores : List Event
stores = append_events JournalA 0 d

-- a set-up over this has come to these events
abbrev pub SetsUpBy : Told → List Event → Type 0
SetsUpBy old events = SetUpStops plan (Some old) (Some (made 9 events old))

pub record StopsOfASetUp : Type 0 where
  pub whole : SetUpStops plan (Some empty) (Some set_up)
  pub over_a_record : SetUpStops plan (Some (uncalled closed)) (Some there)
  pub not_stored_before_the_founding : ¬ SetsUpBy empty (opens ++ stores ++ Founded ∷ [])
  pub not_another_record : ¬ SetsUpBy empty (opens ++ Founded ∷ append_events JournalA 0 (101 ∷ []))
  pub not_behind_another_record : ¬ SetsUpBy (uncalled closed) (synced ∷ Founded ∷ append_events JournalA 6 d)
  -- over the open journal
  pub over_a_vacancy : VacantStops plan (Some opened) (Some set_up)
  pub not_stored_over_a_vacancy_before_the_founding : ¬ VacantStops plan (Some opened) (Some (made 5 (stores ++ Founded ∷ []) opened))
  pub rests_over_a_vacancy : VacantRests plan (Some opened) (Some set_up)
  pub not_at_rest_unfounded : ¬ VacantRests plan (Some opened) (Some opened)
  pub rests : RestsSetUp plan (Some set_up)
  pub not_without_the_record : ¬ RestsSetUp plan (Some opened)
  pub not_with_a_record_more : ¬ RestsSetUp plan (Some (made 4 (append_events JournalA 4 abc) set_up))
  pub decided : SetUpDecided (Some (uncalled closed)) (Err Already)
  pub not_done_over_a_record : ¬ SetUpDecided (Some (uncalled closed)) (Ok tt)
