-- What the sides of a session do next, step by step, and which record may come.
use Rattle.std.specs.Prelude.{◌≡◌, List, [], ◌∷◌, ◌++◌, take, true, false, Some, None}
use Rattle.satp_base.specs.Roles.{After, AreAllowed, RoleRule, next_of}
use Rattle.satp_base.specs.Tales.{eleven}
use Rattle.satp_base.specs.Views.{KeepsTale, begin, nothing_done, push, view_from, view_of}
use Rattle.satp_base.specs.declared.ledger.Answer.TheVariants as answer
use Rattle.satp_base.specs.declared.ledger.Entry.TheVariants.{Locked}
use Rattle.satp_base.specs.declared.ledger.LedgerOp.TheVariants.{Lock, Burn, Mint, Assign, Release}
use Rattle.satp_base.specs.declared.message.Kind.TheVariants.{TransferProposal, ProposalReceipt, TransferCommence, CommenceAck, LockAssert, LockReceipt, CommitPrepare, CommitReady, CommitFinal, CommitFinalAck, TransferComplete, Rollback}
use Rattle.satp_base.specs.declared.message.Role.TheVariants.{Origin, Recipient}
use Rattle.satp_base.specs.declared.record.Cause.TheVariants.{Aborted, LockRefused, Rejected, MintCapped, UnknownAsset}
use Rattle.satp_base.specs.declared.record.Next.TheVariants.{Append, Act, Wait, Ended}
use Rattle.satp_base.specs.declared.record.Rec.{Rec}
use Rattle.satp_base.specs.declared.record.Rec.TheVariants.{Began, Took, Made, Did, Chose, Rescue}
use Rattle.satp_base.specs.declared.record.Way.TheVariants.{Commit, Back}
use Rattle.satp_base.specs.declared.view.View.{View}
use Rattle.satp_examples.specs.Samples.{quarter}

-- ---- views

pub record ViewsOfRecords : Type 0 where
  pub begun : view_of (Began Origin quarter ∷ []) ≡ Some (begin Origin quarter)
  pub a_message : push (begin Origin quarter) (Took ProposalReceipt) ≡ record { role = Origin; terms = quarter; tale = TransferProposal ∷ ProposalReceipt ∷ []; done = nothing_done; way = None; rescue = false }
  pub an_operation : push (begin Origin quarter) (Did Lock) ≡ record (begin Origin quarter) { done = record nothing_done { lock = true } }
  pub a_decision : push (begin Origin quarter) (Chose Commit) ≡ record (begin Origin quarter) { way = Some Commit }
  pub a_rescue : push (begin Origin quarter) Rescue ≡ record (begin Origin quarter) { rescue = true }
  pub not_without_a_beginning : view_of (Took ProposalReceipt ∷ []) ≡ None
  pub keeps_the_tale : KeepsTale (take 1 eleven) (Took ProposalReceipt)
  pub breaks_the_tale : ¬ KeepsTale (take 1 eleven) (Took TransferCommence)

-- ---- next

-- the origin's view behind these records, and the recipient's
abbrev pub origin : List Rec → View
origin records = view_from (begin Origin quarter) records

abbrev pub recipient : List Rec → View
recipient records = view_from (begin Recipient quarter) records

-- the origin has the acknowledgement of its commence
abbrev pub up_to_the_lock : List Rec
up_to_the_lock = Took ProposalReceipt ∷ Made TransferCommence ∷ Took CommenceAck ∷ []

-- the recipient is ready
abbrev pub up_to_ready : List Rec
up_to_ready = up_to_the_lock ++ Did Lock ∷ Made LockAssert ∷ Took LockReceipt ∷ Made CommitPrepare ∷ Took CommitReady ∷ []

abbrev pub up_to_the_mint : List Rec
up_to_the_mint = Made ProposalReceipt ∷ Took TransferCommence ∷ Made CommenceAck ∷ Took LockAssert ∷ Made LockReceipt ∷ Took CommitPrepare ∷ []

abbrev pub ready : List Rec
ready = up_to_the_mint ++ Did Mint ∷ Made CommitReady ∷ []

pub record NextSteps : Type 0 where
  pub waits : next_of Origin (origin []) ≡ Wait
  pub answers : next_of Recipient (recipient []) ≡ Append (Made ProposalReceipt)
  pub locks_first : next_of Origin (origin up_to_the_lock) ≡ Act Lock
  pub then_asserts : next_of Origin (origin (up_to_the_lock ++ Did Lock ∷ [])) ≡ Append (Made LockAssert)
  pub mints_first : next_of Recipient (recipient up_to_the_mint) ≡ Act Mint
  pub then_is_ready : next_of Recipient (recipient (up_to_the_mint ++ Did Mint ∷ [])) ≡ Append (Made CommitReady)
  -- nothing is burnt before the origin has decided
  pub decides_first : next_of Origin (origin up_to_ready) ≡ Append (Chose Commit)
  pub then_burns : next_of Origin (origin (up_to_ready ++ Chose Commit ∷ [])) ≡ Act Burn
  pub assigns_last : next_of Recipient (recipient (ready ++ Took CommitFinal ∷ [])) ≡ Act Assign
  -- a lock is released before the rollback is said
  pub releases_first : next_of Origin (origin (up_to_the_lock ++ Did Lock ∷ Chose (Back Aborted) ∷ [])) ≡ Act Release
  pub then_rolls_back : next_of Origin (origin (up_to_the_lock ++ Did Lock ∷ Chose (Back Aborted) ∷ Did Release ∷ [])) ≡ Append (Made Rollback)
  pub ended : next_of Recipient (recipient (ready ++ Took CommitFinal ∷ Did Assign ∷ Made CommitFinalAck ∷ Took TransferComplete ∷ [])) ≡ Ended

-- ---- the rule

abbrev pub OriginMay : List Rec → Rec → Type 0
OriginMay records r = RoleRule Origin (origin records) r

abbrev pub RecipientMay : List Rec → Rec → Type 0
RecipientMay records r = RoleRule Recipient (recipient records) r

pub record RecordsThatMayCome : Type 0 where
  pub all_up_to_ready : AreAllowed Origin (begin Origin quarter) up_to_ready
  -- the table's record, and no later one
  pub the_next_one : RecipientMay [] (Made ProposalReceipt)
  pub not_the_one_behind : ¬ RecipientMay [] (Made CommenceAck)
  -- an answer of the ledger: done, or refused
  pub locked : OriginMay up_to_the_lock (Did Lock)
  pub refused : OriginMay up_to_the_lock (Chose (Back LockRefused))
  pub not_another_operation : ¬ OriginMay up_to_the_lock (Did Burn)
  pub not_another_cause : ¬ OriginMay up_to_the_lock (Chose (Back Rejected))
  pub not_said_before_it_is_done : ¬ OriginMay up_to_the_lock (Made LockAssert)
  pub capped : RecipientMay up_to_the_mint (Chose (Back MintCapped))
  -- a message of the peer, where the tale goes on with it
  pub taken : OriginMay [] (Took ProposalReceipt)
  pub not_out_of_order : ¬ OriginMay [] (Took CommenceAck)
  pub not_its_own : ¬ OriginMay up_to_the_lock (Took LockAssert)
  -- an abort, up to a decision; the recipient's up to its readiness
  pub origin_aborts : OriginMay up_to_ready (Chose (Back Aborted))
  pub not_behind_a_decision : ¬ OriginMay (up_to_ready ++ Chose Commit ∷ []) (Chose (Back Aborted))
  pub recipient_aborts : RecipientMay up_to_the_mint (Chose (Back Aborted))
  pub not_behind_ready : ¬ RecipientMay ready (Chose (Back Aborted))
  -- no burn before the decision, and none before the recipient is ready
  pub no_burn_undecided : ¬ OriginMay up_to_ready (Did Burn)
  pub no_commit_before_ready : ¬ OriginMay (take 7 up_to_ready) (Chose Commit)
  -- only an origin is rescued, once
  pub rescued : OriginMay up_to_the_lock Rescue
  pub not_twice : ¬ OriginMay (up_to_the_lock ++ Rescue ∷ []) Rescue
  pub not_the_recipient : ¬ RecipientMay [] Rescue

pub record AnswersAndRecords : Type 0 where
  pub done : After Burn answer.Done (Did Burn)
  pub unknown : After Mint answer.UnknownAsset (Chose (Back UnknownAsset))
  pub not_done : ¬ After Lock (answer.Taken Locked) (Did Lock)
