-- A site that stores `d` and then locks 250 units: the points at which it may stand, and where it may fail.
use Rattle.std.specs.Prelude.{List, [], ◌∷◌, ◌++◌}
use Rattle.satp_base.specs.Calls.{Told, ask_failed, call_failed, made}
use Rattle.satp_stops.specs.Stops.{FailsIn, Kept, RestsAmong, RestsIn, StandsAmong, StandsAt, Step, StopsIn, after_steps}
use Rattle.satp_stops.specs.Stops.Step.{Operates, Says, Stores}
use Rattle.satp_base.specs.Trail.{extended}
use Rattle.satp_base.specs.declared.area.Event.{Event}
use Rattle.satp_base.specs.declared.area.Event.TheVariants.{Acted}
use Rattle.satp_base.specs.declared.ledger.LedgerCall.{LedgerCall}
use Rattle.satp_base.specs.declared.ledger.LedgerCall.TheVariants.{Act}
use Rattle.satp_base.specs.declared.ledger.LedgerOp.TheVariants.{Lock, Burn}
use Rattle.satp_examples.specs.Appending.{append, at_rest}
use Rattle.satp_examples.specs.Calls.{failed_by}
use Rattle.satp_examples.specs.Journals.{d}
use Rattle.satp_examples.specs.Samples.{alpha_1, quarter}
use Rattle.satp_examples.specs.Segments.{frame, gate, synced}
use Rattle.satp_examples.specs.Stops.{kept}

abbrev pub locks : Step
locks = Operates Lock alpha_1 quarter

abbrev pub steps : List Step
steps = Stores d ∷ locks ∷ []

abbrev pub lock_event : Event
lock_event = Acted Lock alpha_1 quarter

-- behind these events the site stands at this point, with these steps still to come
abbrev pub StandsBehind : List Event → Kept → List Step → Type 0
StandsBehind events k rest = StandsAt (extended at_rest.trail events) k rest

pub record PointsOfSteps : Type 0 where
  pub at_first : StandsBehind [] kept steps
  -- the payload is there or not
  pub in_the_write_of_the_gate : StandsBehind (frame ∷ synced ∷ gate ∷ []) kept steps
  pub behind_the_append : StandsBehind append (after_steps kept (Stores d ∷ [])) (locks ∷ [])
  pub behind_the_lock : StandsBehind (append ++ lock_event ∷ []) (after_steps kept steps) []
  pub not_where_another_step_is_next : ¬ StandsBehind (frame ∷ synced ∷ gate ∷ []) kept (Says ∷ steps)
  pub not_without_the_payload : ¬ StandsBehind append kept (locks ∷ [])
  pub not_without_the_lock : ¬ StandsBehind (append ++ lock_event ∷ []) (after_steps kept (Stores d ∷ [])) (locks ∷ [])
  pub not_before_the_lock : ¬ StandsBehind append (after_steps kept steps) []

-- after these events it has come to this point, at rest or within the next append
abbrev pub RestsAfter : List Event → Kept → List Step → Type 0
RestsAfter events k rest = RestsIn (extended at_rest.trail events) k rest

pub record PointsAtRest : Type 0 where
  pub at_first : RestsAfter [] kept steps
  pub in_the_write_of_the_gate : RestsAfter (frame ∷ synced ∷ gate ∷ []) kept steps
  pub after_the_append : RestsAfter append (after_steps kept (Stores d ∷ [])) (locks ∷ [])
  pub not_at_rest_in_the_write : ¬ RestsAfter (frame ∷ synced ∷ gate ∷ []) kept (Says ∷ steps)
  pub not_without_the_lock : ¬ RestsAfter (append ++ lock_event ∷ []) (after_steps kept (Stores d ∷ [])) (locks ∷ [])

-- behind these events the site stands at some point
abbrev pub StandsSomewhere : List Event → Type 0
StandsSomewhere events = StandsAmong (extended at_rest.trail events) kept steps

pub record SomePointOfSteps : Type 0 where
  pub at_the_second : StandsSomewhere append
  pub not_locked_before_the_payload_is_stored : ¬ StandsSomewhere (lock_event ∷ [])

-- after these events it has come to some point
abbrev pub RestsSomewhere : List Event → Type 0
RestsSomewhere events = RestsAmong (extended at_rest.trail events) kept steps

pub record SomePointAtRest : Type 0 where
  pub in_the_write_of_the_gate : RestsSomewhere (frame ∷ synced ∷ gate ∷ [])
  pub at_the_second : RestsSomewhere append
  pub not_locked_before_the_payload_is_stored : ¬ RestsSomewhere (lock_event ∷ [])

-- ---- failures

abbrev pub lock_call : LedgerCall
lock_call = Act Lock alpha_1 quarter

abbrev pub appended : Told
appended = made 4 append at_rest

-- of the two steps one failed, and this is told
abbrev pub FailsAndTells : Told → Type 0
FailsAndTells new = StopsIn kept steps at_rest new

pub record FailuresOfSteps : Type 0 where
  pub at_the_first_sync : FailsAndTells (failed_by 2 (frame ∷ []) at_rest)
  pub at_the_lock : FailsAndTells (ask_failed lock_call [] appended)
  pub at_the_lock_that_took_effect : FailsAndTells (ask_failed lock_call (lock_event ∷ []) appended)
  pub at_the_lock_that_was_only_counted : FailsAndTells (call_failed [] appended)
  pub not_at_the_lock_without_the_append : ¬ FailsAndTells (ask_failed lock_call [] at_rest)
  pub not_without_a_call : ¬ FailsAndTells at_rest
  pub not_of_no_steps : ¬ StopsIn kept [] at_rest (call_failed [] at_rest)
  -- an operation out of order has no event to take effect
  pub not_a_burn_that_took_effect : ¬ FailsIn kept (Operates Burn alpha_1 quarter) at_rest (ask_failed (Act Burn alpha_1 quarter) (Acted Burn alpha_1 quarter ∷ []) at_rest)
