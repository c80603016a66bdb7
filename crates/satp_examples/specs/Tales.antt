-- Tales, and lists of kinds that are none by one kind.
use Rattle.std.specs.Prelude.{◌≡◌, [], ◌∷◌, ◌++◌, take, true, false}
use Rattle.satp_base.specs.Tales.{IsTale, eleven, is_committed, is_rolled_back, is_whole}
use Rattle.satp_base.specs.declared.message.Kind.TheVariants.{TransferProposal, ProposalReceipt, TransferCommence, Reject, Rollback, RollbackAck, Recover}

pub record ThreeForms : Type 0 where
  pub no_message : IsTale []
  pub all_eleven : IsTale eleven
  pub rollback_behind_two : IsTale (take 2 eleven ++ Rollback ∷ [])
  pub rolled_back_behind_eight : IsTale (take 8 eleven ++ Rollback ∷ RollbackAck ∷ [])
  pub rejected_behind_one : IsTale (take 1 eleven ++ Reject ∷ Rollback ∷ RollbackAck ∷ [])
  pub reject_behind_seven : IsTale (take 7 eleven ++ Reject ∷ [])
  pub not_without_a_proposal : ¬ IsTale (ProposalReceipt ∷ [])
  pub not_past_a_kind : ¬ IsTale (TransferProposal ∷ TransferCommence ∷ [])
  pub not_behind_the_last : ¬ IsTale (eleven ++ Rollback ∷ [])
  -- the origin rolls back behind a message of the recipient, and up to place 8
  pub no_rollback_behind_its_own : ¬ IsTale (take 1 eleven ++ Rollback ∷ [])
  pub no_rollback_behind_ten : ¬ IsTale (take 10 eleven ++ Rollback ∷ [])
  -- the recipient rejects behind a message of the origin, and up to place 7
  pub no_reject_behind_its_own : ¬ IsTale (take 2 eleven ++ Reject ∷ [])
  pub no_reject_behind_nine : ¬ IsTale (take 9 eleven ++ Reject ∷ [])
  pub no_second_rollback : ¬ IsTale (take 2 eleven ++ Rollback ∷ Rollback ∷ [])
  pub no_recovery : ¬ IsTale (TransferProposal ∷ Recover ∷ [])

pub record EndsOfTales : Type 0 where
  pub committed : is_committed eleven ≡ true
  pub rolled_back : is_rolled_back (take 2 eleven ++ Rollback ∷ RollbackAck ∷ []) ≡ true
  pub both_are_whole : (is_whole eleven ≡ true) × (is_whole (take 2 eleven ++ Rollback ∷ RollbackAck ∷ []) ≡ true)
  pub ten_are_not : is_whole (take 10 eleven) ≡ false
  pub unacknowledged : is_whole (take 2 eleven ++ Rollback ∷ []) ≡ false
