-- What the sides of a session answer: after an operation, to an abort, to a rescue, and by a message that is due.
use Rattle.std.specs.Prelude.{◌≡◌, [], ◌∷◌, ◌++◌, true, false, Some, None, Ok, Err}
use Rattle.satp_base.specs.Chains.{made_part, reason_of}
use Rattle.satp_base.specs.Roles.{IsReached, IsReason, abort_of, after_of, rescues}
use Rattle.satp_base.specs.declared.ledger.Answer.TheVariants as answer
use Rattle.satp_base.specs.declared.ledger.Entry.TheVariants.{Released}
use Rattle.satp_base.specs.declared.ledger.LedgerOp.TheVariants.{Lock, Burn, Mint}
use Rattle.satp_base.specs.declared.message.Kind.TheVariants as kind
use Rattle.satp_base.specs.declared.message.Part.TheVariants as part
use Rattle.satp_base.specs.declared.message.Reason.TheVariants as reason
use Rattle.satp_base.specs.declared.message.Role.TheVariants.{Origin, Recipient}
use Rattle.satp_base.specs.declared.record.Cause.TheVariants.{Aborted, LockRefused, MintCapped, LedgerTaken}
use Rattle.satp_base.specs.declared.record.Rec.TheVariants.{Took, Did, Chose, Rescue}
use Rattle.satp_base.specs.declared.record.Way.TheVariants.{Commit, Back}
use Rattle.satp_examples.specs.Roles.{origin, ready, recipient, up_to_ready, up_to_the_lock}

pub record RecordsOfAnswers : Type 0 where
  pub done : after_of Burn answer.Done ≡ Did Burn
  pub no_funds : after_of Lock (answer.NoFunds 7) ≡ Chose (Back LockRefused)
  pub taken_at_the_origin : after_of Lock (answer.Taken Released) ≡ Chose (Back LockRefused)
  pub taken_at_the_recipient : after_of Mint (answer.Taken Released) ≡ Chose (Back LedgerTaken)
  pub capped_is_not_taken : ¬ (after_of Mint (answer.Capped 7) ≡ Chose (Back LedgerTaken))

pub record AnswersToAborts : Type 0 where
  -- up to the commit at the origin, and up to its readiness at the recipient
  pub in_time : abort_of Origin (origin up_to_ready) ≡ Ok (Some (Chose (Back Aborted)))
  pub too_late : abort_of Origin (origin (up_to_ready ++ Chose Commit ∷ [])) ≡ Err (record { place = 9 })
  pub not_ready : abort_of Recipient (recipient []) ≡ Ok (Some (Chose (Back Aborted)))
  pub ready_is_too_late : abort_of Recipient (recipient ready) ≡ Err (record { place = 8 })
  -- nothing more where the session is on its way back: by a decision, or since the origin rolls back
  pub turned : abort_of Origin (origin (up_to_the_lock ++ Chose (Back LockRefused) ∷ [])) ≡ Ok None
  pub rolled_back : abort_of Recipient (recipient (ready ++ Took kind.Rollback ∷ [])) ≡ Ok None

pub record RescuesOfSides : Type 0 where
  pub once : rescues Origin (origin up_to_the_lock) ≡ true
  pub not_twice : rescues Origin (origin (up_to_the_lock ++ Rescue ∷ [])) ≡ false
  pub not_after_a_decision : rescues Origin (origin (up_to_ready ++ Chose Commit ∷ [])) ≡ false
  pub not_the_recipient : rescues Recipient (recipient []) ≡ false

pub record ViewsThatAreReached : Type 0 where
  pub at_the_lock : IsReached Origin (origin up_to_the_lock)
  -- a view of the other role isn't
  pub not_of_the_other : ¬ IsReached Recipient (origin [])

pub record PartsThatAreMade : Type 0 where
  pub plain : made_part None kind.CommenceAck ≡ part.Plain kind.CommenceAck
  pub capped : made_part (Some (Back MintCapped)) kind.Reject ≡ part.Reject reason.MintCapped
  pub aborted : reason_of (Some (Back Aborted)) ≡ reason.Aborted
  pub not_another_reason : ¬ (reason_of (Some (Back LedgerTaken)) ≡ reason.MintCapped)
  pub by_its_name : IsReason MintCapped reason.MintCapped
  pub not_by_another : ¬ IsReason MintCapped reason.Aborted
