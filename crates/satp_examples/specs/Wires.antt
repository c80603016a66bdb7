-- What streams and wires tell.
use Rattle.std.specs.Prelude.{◌≡◌, ℕ, ◌-◌, ◌^◌, List, [], ◌∷◌, Option, Some, None, Result, Ok, Err, true, false}
use Rattle.satp_base.specs.Streams.{Gains, HasCause, Rose, TakesFront, is_last}
use Rattle.satp_base.specs.Wires.{Conversation, MayMiss, Traffic, called, hears, missed, says}
use Rattle.satp_base.specs.declared.wire.Dial.TheVariants.{Accept}

-- ---- counts of faults

abbrev pub failed : Result ℕ ℕ
failed = Err 0

abbrev pub succeeded : Result ℕ ℕ
succeeded = Ok 0

pub record CausesOfFaults : Type 0 where
  pub rose : Rose 3 4
  pub at_the_end_of_its_type : Rose (2 ^ 64 - 1) (2 ^ 64 - 1)
  pub not_without_a_rise : ¬ Rose 3 3
  pub fault : HasCause 3 4 failed
  pub success : HasCause 3 3 succeeded
  pub no_fault_without_a_rise : ¬ HasCause 3 3 failed
  pub no_rise_by_a_success : ¬ HasCause 3 4 succeeded
  pub no_fall : ¬ HasCause 3 2 failed

-- ---- streams

pub record ReadsAndWrites : Type 0 where
  pub the_front : TakesFront (Some (1 ∷ 2 ∷ 3 ∷ [])) (1 ∷ 2 ∷ 0 ∷ 0 ∷ []) 2 (Some (3 ∷ []))
  pub none_at_the_end : TakesFront (Some []) (0 ∷ 0 ∷ []) 0 (Some [])
  pub none_without_room : TakesFront (Some (1 ∷ [])) [] 0 (Some (1 ∷ []))
  pub not_other_bytes : ¬ TakesFront (Some (1 ∷ 2 ∷ 3 ∷ [])) (2 ∷ 1 ∷ 0 ∷ 0 ∷ []) 2 (Some (3 ∷ []))
  pub not_read_twice : ¬ TakesFront (Some (1 ∷ 2 ∷ 3 ∷ [])) (1 ∷ 2 ∷ 0 ∷ 0 ∷ []) 2 (Some (2 ∷ 3 ∷ []))
  pub not_none_before_the_end : ¬ TakesFront (Some (1 ∷ [])) (0 ∷ 0 ∷ []) 0 (Some (1 ∷ []))
  pub not_past_the_end : (rest : Option (List ℕ)) → ¬ TakesFront (Some (1 ∷ [])) (1 ∷ 0 ∷ []) 2 rest
  pub a_part_is_taken : Gains (Some (1 ∷ [])) (2 ∷ 3 ∷ []) 1 (Some (1 ∷ 2 ∷ []))
  pub nothing_is_taken : Gains (Some (1 ∷ [])) [] 0 (Some (1 ∷ []))
  pub not_none_of_a_piece : ¬ Gains (Some (1 ∷ [])) (2 ∷ 3 ∷ []) 0 (Some (1 ∷ []))
  pub not_before_the_others : ¬ Gains (Some (1 ∷ [])) (2 ∷ 3 ∷ []) 1 (Some (2 ∷ 1 ∷ []))
  pub not_all_of_it : ¬ Gains (Some (1 ∷ [])) (2 ∷ 3 ∷ []) 1 (Some (1 ∷ 2 ∷ 3 ∷ []))

abbrev pub one_byte : Result ℕ ℕ
one_byte = Ok 1

-- a read into so much room, after which the source isn't read again
pub record LastReads : Type 0 where
  pub the_end : is_last 2 succeeded ≡ true
  pub a_fault : is_last 2 failed ≡ true
  pub not_some_bytes : is_last 2 one_byte ≡ false
  -- without room nothing is found out
  pub not_none_without_room : is_last 0 succeeded ≡ false

-- ---- wires

abbrev pub talk : List ℕ → List ℕ → Conversation
talk heard said = record { heard = heard; said = said; ended = false }

-- one connection is over, and a second one is open
abbrev pub two_talks : Traffic
two_talks = record { conversations = talk (1 ∷ []) (2 ∷ []) ∷ talk (3 ∷ []) [] ∷ []; dials = Accept ∷ Accept ∷ [] }

pub record TrafficOnWires : Type 0 where
  -- bytes are heard and said on the last connection, behind those before
  pub heard : hears (4 ∷ []) false two_talks ≡ record two_talks { conversations = talk (1 ∷ []) (2 ∷ []) ∷ talk (3 ∷ 4 ∷ []) [] ∷ [] }
  pub said : says (5 ∷ []) two_talks ≡ record two_talks { conversations = talk (1 ∷ []) (2 ∷ []) ∷ talk (3 ∷ []) (5 ∷ []) ∷ [] }
  pub ended : hears [] true two_talks ≡ record two_talks { conversations = talk (1 ∷ []) (2 ∷ []) ∷ record (talk (3 ∷ []) []) { ended = true } ∷ [] }
  pub opened : called Accept two_talks ≡ record { conversations = talk (1 ∷ []) (2 ∷ []) ∷ talk (3 ∷ []) [] ∷ talk [] [] ∷ []; dials = Accept ∷ Accept ∷ Accept ∷ [] }
  -- a failed call opens nothing
  pub not_opened : missed Accept two_talks ≡ record two_talks { dials = Accept ∷ Accept ∷ Accept ∷ [] }
  pub may_be_told : MayMiss Accept (Some two_talks) (Some (missed Accept two_talks))
  pub may_be_missed : MayMiss Accept (Some two_talks) (Some two_talks)
  pub may_not_open : ¬ MayMiss Accept (Some two_talks) (Some (called Accept two_talks))
  pub may_not_end_the_telling : ¬ MayMiss Accept (Some two_talks) None
