-- What due work looks at in a view, and the tests of it.
use Rattle.std.proofs.Common.{ℕ, zero, suc, Bool, true, false, List, [], ◌∷◌, Option, Some, if◌then◌else◌}
use Rattle.satp_base.specs.declared.message.Kind.{Kind}
use Rattle.satp_base.specs.declared.message.Kind.TheVariants.{TransferProposal, ProposalReceipt, TransferCommence, CommenceAck, LockAssert, LockReceipt, CommitPrepare, CommitReady, CommitFinal, CommitFinalAck, TransferComplete, Reject, Rollback, RollbackAck}
use Rattle.satp_base.specs.declared.message.Role.{Role}
use Rattle.satp_base.specs.declared.message.Role.TheVariants.{Origin, Recipient}
use Rattle.satp_base.specs.declared.ledger.LedgerOp.{LedgerOp}
use Rattle.satp_base.specs.declared.ledger.LedgerOp.TheVariants.{Lock, Burn, Mint, Assign, Release}
use Rattle.satp_base.specs.declared.record.Cause.TheVariants.{LockRefused, Rejected, Rescued, UnknownAsset, MintCapped, LedgerTaken}
use Rattle.satp_base.specs.declared.record.Way.{Way}
use Rattle.satp_base.specs.declared.record.Way.TheVariants.{Commit, Back}
use Rattle.satp_base.specs.declared.record.Rec.{Rec}
use Rattle.satp_base.specs.declared.record.Rec.TheVariants.{Began, Took, Made, Did, Chose, Rescue}
use Rattle.satp_base.specs.declared.record.Next.{Next}
use Rattle.satp_base.specs.declared.record.Next.TheVariants.{Append, Act, Wait, Ended}
use Rattle.satp_base.specs.declared.view.Done.{Done}
use Rattle.satp_base.specs.declared.view.View.{View}
use Rattle.satp_base.specs.Roles.{Line, both, either, first_line, is_aborted, is_back, is_commit, line, negate, no_way}
use Rattle.satp_base.specs.Tales.{has, is_by, is_kind, kind_eq, last_of}
use Rattle.satp_base.specs.Views.{with_done}
use Rattle.satp_base.proofs.Finite.{all_of, andthen}
use Rattle.satp_sides.proofs.Lists.{bools, lasts, ways}

-- the last kind, the flags, and whether commit-prepare stands in the tale
pub record Look : Type 0 where
  pub last : Option Kind
  pub way : Option Way
  pub done : Done
  pub rescue : Bool
  pub prepared : Bool

abbrev pub look_of : View → Look
look_of v = record { last = last_of v.tale; way = v.way; done = v.done; rescue = v.rescue; prepared = has CommitPrepare v.tale }

abbrev pub is_over : Option Kind → Bool
is_over k = if is_kind TransferComplete k then true else is_kind RollbackAck k

abbrev pub origin_lines : Look → List Line
origin_lines l =
    line (is_over l.last) Ended
    ∷ line (both (is_back l.way) (negate l.done.release)) (Act Release)
    ∷ line (both (is_back l.way) (is_by Recipient l.last)) (Append (Made Rollback))
    ∷ line (both (is_commit l.way) (both (is_kind CommitReady l.last) (negate l.done.burn))) (Act Burn)
    ∷ line (both (is_commit l.way) (is_kind CommitReady l.last)) (Append (Made CommitFinal))
    ∷ line (is_kind CommitFinalAck l.last) (Append (Made TransferComplete))
    ∷ line (both (no_way l.way) (is_kind Reject l.last)) (Append (Chose (Back Rejected)))
    ∷ line (both (no_way l.way) (is_kind CommitReady l.last)) (Append (Chose Commit))
    ∷ line (both (no_way l.way) (both (is_by Recipient l.last) l.rescue)) (Append (Chose (Back Rescued)))
    ∷ line (is_kind ProposalReceipt l.last) (Append (Made TransferCommence))
    ∷ line (both (is_kind CommenceAck l.last) (negate l.done.lock)) (Act Lock)
    ∷ line (is_kind CommenceAck l.last) (Append (Made LockAssert))
    ∷ line (is_kind LockReceipt l.last) (Append (Made CommitPrepare))
    ∷ []

abbrev pub releases : Look → Bool
releases l = both l.prepared (both (negate l.done.release) (either (no_way l.way) (is_aborted l.way)))

abbrev pub recipient_lines : Look → List Line
recipient_lines l =
    line (is_over l.last) Ended
    ∷ line (both (is_kind Rollback l.last) (releases l)) (Act Release)
    ∷ line (is_kind Rollback l.last) (Append (Made RollbackAck))
    ∷ line (both (is_back l.way) (releases l)) (Act Release)
    ∷ line (both (is_back l.way) (is_by Origin l.last)) (Append (Made Reject))
    ∷ line (is_kind TransferProposal l.last) (Append (Made ProposalReceipt))
    ∷ line (is_kind TransferCommence l.last) (Append (Made CommenceAck))
    ∷ line (is_kind LockAssert l.last) (Append (Made LockReceipt))
    ∷ line (both (is_kind CommitPrepare l.last) (negate l.done.mint)) (Act Mint)
    ∷ line (is_kind CommitPrepare l.last) (Append (Made CommitReady))
    ∷ line (both (is_kind CommitFinal l.last) (negate l.done.assign)) (Act Assign)
    ∷ line (is_kind CommitFinal l.last) (Append (Made CommitFinalAck))
    ∷ []

abbrev pub next_at : Role → Look → Next
next_at Origin l = first_line (origin_lines l)
next_at Recipient l = first_line (recipient_lines l)

-- ---- one record more

abbrev pub with_kind : Look → Kind → Look
with_kind l k = record { last = Some k; way = l.way; done = l.done; rescue = l.rescue; prepared = if l.prepared then true else kind_eq CommitPrepare k }

abbrev pub pushed : Look → Rec → Look
pushed l (Began role terms) = l
pushed l (Took k) = with_kind l k
pushed l (Made k) = with_kind l k
pushed l (Did op) = record { last = l.last; way = l.way; done = with_done op l.done; rescue = l.rescue; prepared = l.prepared }
pushed l (Chose way) = record { last = l.last; way = Some way; done = l.done; rescue = l.rescue; prepared = l.prepared }
pushed l Rescue = record { last = l.last; way = l.way; done = l.done; rescue = true; prepared = l.prepared }

-- the records that an operation's answers give
abbrev pub recs_after : LedgerOp → List Rec
recs_after Lock = Did Lock ∷ Chose (Back LockRefused) ∷ []
recs_after Mint = Did Mint ∷ Chose (Back UnknownAsset) ∷ Chose (Back MintCapped) ∷ Chose (Back LedgerTaken) ∷ []
recs_after op = Did op ∷ []

-- ---- tests

abbrev pub rests : Next → Bool
rests Wait = true
rests Ended = true
rests (Append r) = false
rests (Act op) = false

abbrev pub turn_ok : (ℕ → ℕ → Look → Bool) → ℕ → ℕ → Look → Next → Bool
turn_ok ok (suc recs) acts l (Append r) = ok recs acts (pushed l r)
turn_ok ok zero acts l (Append r) = false
turn_ok ok (suc recs) (suc acts) l (Act op) = all_of (λ r. ok recs acts (pushed l r)) (recs_after op)
turn_ok ok (suc recs) zero l (Act op) = false
turn_ok ok zero acts l (Act op) = false
turn_ok ok recs acts l Wait = true
turn_ok ok recs acts l Ended = true

-- within so many turns, records and operations nothing is due
abbrev pub due_ok : Role → ℕ → ℕ → ℕ → Look → Bool
due_ok role zero recs acts l = rests (next_at role l)
due_ok role (suc n) recs acts l = turn_ok (due_ok role n) recs acts l (next_at role l)

abbrev pub made_by : Role → Look → Next → Bool
made_by role l (Append (Made k)) = rests (next_at role (with_kind l k))
made_by role l next = true

-- after a message that was due nothing is due
abbrev pub made_ok : Role → Look → Bool
made_ok role l = made_by role l (next_at role l)

abbrev pub look_ok : Role → Look → Bool
look_ok role l = andthen (due_ok role 3 3 2 l) (λ _. made_ok role l)

-- ---- all looks of a role: what its table doesn't look at stays a variable

abbrev pub origin_look : Bool → Bool → Bool → Option Kind → Option Way → Bool → Bool → Bool → Bool → Look
origin_look mint assign prepared last way lock burn release rescue =
    record { last = last; way = way; done = record { lock = lock; burn = burn; mint = mint; assign = assign; release = release }; rescue = rescue; prepared = prepared }

abbrev pub origins_ok : Bool → Bool → Bool → Bool
origins_ok mint assign prepared =
    all_of (λ last. all_of (λ way. all_of (λ lock. all_of (λ burn. all_of (λ release. all_of (λ rescue.
    look_ok Origin (origin_look mint assign prepared last way lock burn release rescue)) bools) bools) bools) bools) ways) lasts

abbrev pub recipient_look : Bool → Bool → Bool → Option Kind → Option Way → Bool → Bool → Bool → Bool → Look
recipient_look lock burn rescue last way mint assign release prepared =
    record { last = last; way = way; done = record { lock = lock; burn = burn; mint = mint; assign = assign; release = release }; rescue = rescue; prepared = prepared }

abbrev pub recipients_ok : Bool → Bool → Bool → Bool
recipients_ok lock burn rescue =
    all_of (λ last. all_of (λ way. all_of (λ mint. all_of (λ assign. all_of (λ release. all_of (λ prepared.
    look_ok Recipient (recipient_look lock burn rescue last way mint assign release prepared)) bools) bools) bools) bools) ways) lasts
