-- Images of a journal, byte by byte: what they stand for, where they are damaged, and which of them an opening may mend.
use Rattle.std.specs.Prelude.{ℕ, List, [], ◌∷◌}
use Rattle.satp_base.specs.Format.{Damage, IsMendable, NoRecord, SplitsOff, Stands}

-- the payloads `abc` and `d`
abbrev pub abc : List ℕ
abc = 97 ∷ 98 ∷ 99 ∷ []

abbrev pub d : List ℕ
d = 100 ∷ []

-- the record of `abc`, with this gate behind it
abbrev pub abc_then : List ℕ → List ℕ
abc_then behind = 1 ∷ 0 ∷ 3 ∷ 97 ∷ 98 ∷ 99 ∷ behind

pub record StandsForLists : Type 0 where
  -- no byte, and one byte, whatever it is, stand for no payload
  pub no_byte : Stands [] []
  pub one_closed_gate : Stands (0 ∷ []) []
  pub one_open_gate : Stands (1 ∷ []) []
  -- what stands behind a closed gate is passed over
  pub behind_closed_gate : Stands (0 ∷ 0 ∷ 11 ∷ 6 ∷ 5 ∷ []) []
  pub one_payload : Stands (abc_then (0 ∷ [])) (abc ∷ [])
  pub two_payloads : Stands (abc_then (1 ∷ 0 ∷ 1 ∷ 100 ∷ 0 ∷ [])) (abc ∷ d ∷ [])
  -- each gate but 1 is closed
  pub gate_of_seven : Stands (abc_then (7 ∷ 0 ∷ 1 ∷ 100 ∷ 0 ∷ [])) (abc ∷ [])
  -- the list is the whole one, and no other
  pub not_the_shorter : ¬ Stands (abc_then (1 ∷ 0 ∷ 1 ∷ 100 ∷ 0 ∷ [])) (abc ∷ [])
  pub not_past_the_gate : ¬ Stands (abc_then (7 ∷ 0 ∷ 1 ∷ 100 ∷ 0 ∷ [])) (abc ∷ d ∷ [])
  pub not_in_another_order : ¬ Stands (abc_then (1 ∷ 0 ∷ 1 ∷ 100 ∷ 0 ∷ [])) (d ∷ abc ∷ [])

pub record DamagedImages : Type 0 where
  -- the payload isn't there in full
  pub byte_of_payload_missing : Damage (1 ∷ 0 ∷ 3 ∷ 97 ∷ 98 ∷ []) 0
  -- the payload is there and the next gate isn't
  pub next_gate_missing : Damage (abc_then []) 0
  -- no length stands behind the second gate
  pub open_gate_without_record : Damage (abc_then (1 ∷ [])) 6
  -- a length out of range
  pub length_of_zero : Damage (1 ∷ 0 ∷ 0 ∷ 0 ∷ []) 0
  -- the place is that of the gate, and such an image stands for no list
  pub not_at_the_first_gate : ¬ Damage (abc_then (1 ∷ [])) 0
  pub stands_for_nothing : (payloads : List (List ℕ)) → ¬ Stands (abc_then (1 ∷ [])) payloads
  -- with the gate closed it is whole
  pub whole_is_not_damaged : (at : ℕ) → ¬ Damage (abc_then (0 ∷ [])) at

pub record RecordsSplitOff : Type 0 where
  -- length, payload and at least one byte more
  pub record_and_gate : SplitsOff (0 ∷ 3 ∷ 97 ∷ 98 ∷ 99 ∷ 0 ∷ []) abc (0 ∷ [])
  pub a_byte_less : NoRecord (0 ∷ 3 ∷ 97 ∷ 98 ∷ 99 ∷ [])
  -- another length
  pub not_a_shorter_payload : ¬ SplitsOff (0 ∷ 3 ∷ 97 ∷ 98 ∷ 99 ∷ 0 ∷ []) (97 ∷ 98 ∷ []) (99 ∷ 0 ∷ [])

pub record MendableImages : Type 0 where
  pub empty : IsMendable []
  -- the gate at the end of the list is 0
  pub at_rest : IsMendable (abc_then (0 ∷ 9 ∷ []))
  -- a stop in a gate's write: behind it stands a whole record
  pub gate_being_written : IsMendable (abc_then (7 ∷ 0 ∷ 1 ∷ 100 ∷ 0 ∷ []))
  -- behind such a gate the record lacks its last byte
  pub gate_before_no_record : ¬ IsMendable (abc_then (7 ∷ 0 ∷ 1 ∷ 100 ∷ []))
  -- damage isn't mended
  pub damaged : ¬ IsMendable (abc_then (1 ∷ []))
