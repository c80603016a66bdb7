-- The steps of a site, their events, and the points at which it may stop.
use Rattle.std.specs.Prelude.{◌≡◌, ℕ, List, [], ◌∷◌, ◌++◌}
use Rattle.satp_base.specs.Calls.{made}
use Rattle.satp_base.specs.Segments.{append_events}
use Rattle.satp_stops.specs.Stops.{AllPayloads, FailsIn, IsInNext, Kept, NextStands, after_steps, segments, step_events, told_steps}
use Rattle.satp_stops.specs.Stops.Step.{Operates, Says, Stores}
use Rattle.satp_base.specs.declared.area.Area.TheVariants.{JournalA}
use Rattle.satp_base.specs.declared.area.Event.TheVariants.{Acted}
use Rattle.satp_base.specs.declared.ledger.LedgerOp.TheVariants.{Lock, Burn}
use Rattle.satp_examples.specs.Calls.{two_calls}
use Rattle.satp_examples.specs.Journals.{abc, abc_then, d}
use Rattle.satp_examples.specs.Ledgers.{new_book}
use Rattle.satp_examples.specs.Samples.{alpha_1, quarter}

-- `abc` is stored in the journal, and the ledger is new
abbrev pub kept : Kept
kept = record { area = JournalA; payloads = abc ∷ []; ledger = new_book }

pub record StepsOfASite : Type 0 where
  pub stored : after_steps kept (Says ∷ Stores d ∷ []) ≡ record { area = JournalA; payloads = abc ∷ d ∷ []; ledger = new_book }
  pub in_their_order : segments kept (Stores d ∷ Says ∷ Stores abc ∷ []) ≡ append_events JournalA 6 d ++ append_events JournalA 10 abc
  pub locked : step_events kept (Operates Lock alpha_1 quarter) ≡ Acted Lock alpha_1 quarter ∷ []
  -- an operation that changes nothing has no event
  pub out_of_order : step_events kept (Operates Burn alpha_1 quarter) ≡ []
  pub eight_calls : told_steps kept (Stores d ∷ Stores abc ∷ []) two_calls ≡ made 4 (append_events JournalA 10 abc) (made 4 (append_events JournalA 6 d) two_calls)
  -- what only says something can't fail
  pub says : ¬ FailsIn kept Says two_calls two_calls
  pub payloads : AllPayloads (Stores d ∷ Says ∷ [])
  pub no_empty_payload : ¬ AllPayloads (Stores [] ∷ [])

pub record PointsOfAStop : Type 0 where
  -- the next append is there already
  pub the_next_append : NextStands (Stores d ∷ []) (abc ∷ []) (abc_then (1 ∷ 0 ∷ 1 ∷ 100 ∷ 0 ∷ []))
  pub not_another : ¬ NextStands (Stores abc ∷ []) (abc ∷ []) (abc_then (1 ∷ 0 ∷ 1 ∷ 100 ∷ 0 ∷ []))
  pub not_before_another_step : ¬ NextStands (Says ∷ Stores d ∷ []) (abc ∷ []) (abc_then (1 ∷ 0 ∷ 1 ∷ 100 ∷ 0 ∷ []))

-- a stop in the write of the gate before `d` left 7 there
abbrev pub seven_then_d : List ℕ
seven_then_d = abc_then (7 ∷ 0 ∷ 1 ∷ 100 ∷ 0 ∷ [])

pub record ImagesOfTheNextAppend : Type 0 where
  pub in_the_write_of_the_gate : IsInNext (Stores d ∷ []) (abc ∷ []) seven_then_d
  pub at_rest : IsInNext (Stores d ∷ []) (abc ∷ []) (abc_then (0 ∷ []))
  pub not_of_another : ¬ IsInNext (Stores abc ∷ []) (abc ∷ []) seven_then_d
  pub not_before_another_step : ¬ IsInNext (Says ∷ Stores d ∷ []) (abc ∷ []) seven_then_d
