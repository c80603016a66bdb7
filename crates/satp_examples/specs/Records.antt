-- Records and their payloads, byte by byte.
use Rattle.std.proofs.Common.{refl, lit≤}
use Rattle.std.specs.Prelude.{◌≡◌, ℕ, List, [], ◌∷◌, ◌++◌, codes, replicate, Ok, Err}
use Rattle.satp_base.specs.declared.address.Address.{Address}
use Rattle.satp_base.specs.declared.ledger.LedgerKind.TheVariants.{Outputs}
use Rattle.satp_base.specs.declared.ledger.LedgerOp.TheVariants.{Lock}
use Rattle.satp_base.specs.declared.message.Kind.TheVariants.{TransferProposal, ProposalReceipt, Recover}
use Rattle.satp_base.specs.declared.message.Role.TheVariants.{Recipient}
use Rattle.satp_base.specs.declared.name.Name.{Name}
use Rattle.satp_base.specs.declared.record.Cause.TheVariants.{MintCapped}
use Rattle.satp_base.specs.declared.record.Rec.{Rec}
use Rattle.satp_base.specs.declared.record.Rec.TheVariants as rec
use Rattle.satp_base.specs.declared.record.Way.TheVariants.{Back}
use Rattle.satp_records.specs.Formats.{IsFormed, IsRefused, payload_of}
use Rattle.satp_records.specs.Reading.{whole}
use Rattle.satp_records.specs.declared.fault.RecordFault.TheVariants as fault
use Rattle.satp_records.specs.declared.stored.Stored.{Stored}
use Rattle.satp_records.specs.declared.stored.Stored.TheVariants as stored
use Rattle.satp_examples.specs.Samples.{alpha, alpha_1, ann, beta, gold, quarter, units}

-- the address `b:1`, kept in 64 bytes
abbrev pub at_b : Address
at_b = record { bytes = codes "b:1" ++ replicate 61 0; count = 3; valid = refl }

abbrev pub setup : Name → List ℕ → Stored
setup peer key = stored.Setup (record { name = alpha; peer = peer; at = at_b; key = key })

-- a record of the session alpha.1
abbrev pub of_session : Rec → List ℕ → Stored
of_session r text = stored.Session alpha_1 r text

-- the session's bytes: its gateway's name behind its length, and four bytes of number
abbrev pub session_bytes : List ℕ
session_bytes = 5 ∷ codes "alpha" ++ 0 ∷ 0 ∷ 0 ∷ 1 ∷ []

-- 250 units of gold, from ann to bob: eight bytes of amount, and three names
abbrev pub terms_bytes : List ℕ
terms_bytes = 0 ∷ 0 ∷ 0 ∷ 0 ∷ 0 ∷ 0 ∷ 0 ∷ 250 ∷ 4 ∷ codes "gold" ++ 3 ∷ codes "bob" ++ 3 ∷ codes "ann"

pub record PayloadsOfRecords : Type 0 where
  pub a_setup : payload_of (setup beta (replicate 32 7)) ≡ 0 ∷ 5 ∷ codes "alpha" ++ 4 ∷ codes "beta" ++ 3 ∷ codes "b:1" ++ 32 ∷ replicate 32 7
  pub a_beginning : payload_of (of_session (rec.Began Recipient quarter) (codes "x.y")) ≡ 1 ∷ session_bytes ++ 1 ∷ terms_bytes ++ 0 ∷ 3 ∷ codes "x.y"
  pub a_message_taken : payload_of (of_session (rec.Took ProposalReceipt) (codes "x.y")) ≡ 2 ∷ session_bytes ++ 2 ∷ 0 ∷ 3 ∷ codes "x.y"
  pub a_message_made : payload_of (of_session (rec.Made ProposalReceipt) (codes "x.y")) ≡ 3 ∷ session_bytes ++ 2 ∷ 0 ∷ 3 ∷ codes "x.y"
  pub an_operation : payload_of (of_session (rec.Did Lock) []) ≡ 4 ∷ session_bytes ++ 1 ∷ []
  pub a_decision : payload_of (of_session (rec.Chose (Back MintCapped)) []) ≡ 5 ∷ session_bytes ++ 7 ∷ []
  pub a_rescue : payload_of (of_session rec.Rescue []) ≡ 6 ∷ session_bytes
  pub a_kind_of_ledger : payload_of (stored.Kind Outputs) ≡ 16 ∷ 2 ∷ []
  pub an_asset : payload_of (stored.Asset gold 1000) ≡ 17 ∷ 4 ∷ codes "gold" ++ 0 ∷ 0 ∷ 0 ∷ 0 ∷ 0 ∷ 0 ∷ 3 ∷ 232 ∷ []
  pub a_hold : payload_of (stored.Hold gold ann (units 500 (lit≤ tt) (lit≤ tt))) ≡ 18 ∷ 4 ∷ codes "gold" ++ 3 ∷ codes "ann" ++ 0 ∷ 0 ∷ 0 ∷ 0 ∷ 0 ∷ 0 ∷ 1 ∷ 244 ∷ []
  pub an_act : payload_of (stored.Act Lock alpha_1 quarter) ≡ 19 ∷ 1 ∷ session_bytes ++ terms_bytes

pub record RecordsToStore : Type 0 where
  pub a_setup : IsFormed (setup beta (replicate 32 7))
  pub not_its_own_peer : ¬ IsFormed (setup alpha (replicate 32 7))
  pub no_key_of_31 : ¬ IsFormed (setup beta (replicate 31 7))
  pub no_key_of_65 : ¬ IsFormed (setup beta (replicate 65 7))
  pub a_message : IsFormed (of_session (rec.Took ProposalReceipt) (codes "x"))
  -- a proposal is a session's first record, and recovery stands in no chain
  pub no_proposal_taken : ¬ IsFormed (of_session (rec.Took TransferProposal) (codes "x"))
  pub no_recovery_made : ¬ IsFormed (of_session (rec.Made Recover) (codes "x"))
  pub no_message_without_text : ¬ IsFormed (of_session (rec.Took ProposalReceipt) [])
  pub no_longer_text : ¬ IsFormed (of_session (rec.Took ProposalReceipt) (replicate 2049 65))
  pub a_rescue : IsFormed (of_session rec.Rescue [])
  pub no_text_of_a_rescue : ¬ IsFormed (of_session rec.Rescue (codes "x"))
  pub no_cap_of_0 : ¬ IsFormed (stored.Asset gold 0)

pub record PayloadsRead : Type 0 where
  pub a_rescue : whole (6 ∷ session_bytes) ≡ Ok (6, codes "alpha" ∷ (0 ∷ 0 ∷ 0 ∷ 1 ∷ []) ∷ [])
  pub no_byte : whole [] ≡ Err (fault.Short 0)
  pub a_byte_less : whole (6 ∷ 5 ∷ codes "alpha" ++ 0 ∷ 0 ∷ 0 ∷ []) ≡ Err (fault.Short 10)
  pub a_byte_more : whole (6 ∷ session_bytes ++ 0 ∷ []) ≡ Err (fault.Extra 11)
  pub no_such_kind : whole (7 ∷ session_bytes) ≡ Err (fault.Kind 7)
  -- the place is that of the field
  pub no_session_0 : whole (6 ∷ 5 ∷ codes "alpha" ++ 0 ∷ 0 ∷ 0 ∷ 0 ∷ []) ≡ Err (fault.Value 7)
  pub no_name : whole (6 ∷ 5 ∷ codes "Alpha" ++ 0 ∷ 0 ∷ 0 ∷ 1 ∷ []) ≡ Err (fault.Value 1)
  pub no_length_0 : whole (6 ∷ 0 ∷ []) ≡ Err (fault.Value 1)
  pub proposal_taken : whole (2 ∷ session_bytes ++ 1 ∷ 0 ∷ 1 ∷ 120 ∷ []) ≡ Err (fault.Value 11)

pub record PayloadsRefused : Type 0 where
  pub no_byte : IsRefused [] (fault.Short 0)
  pub no_such_kind : IsRefused (7 ∷ []) (fault.Kind 7)
  pub not_another_kind : ¬ IsRefused (7 ∷ []) (fault.Kind 6)
  pub name_cut : IsRefused (6 ∷ 5 ∷ codes "alph") (fault.Short 6)
  pub not_at_its_field : ¬ IsRefused (6 ∷ 5 ∷ codes "alph") (fault.Short 1)
