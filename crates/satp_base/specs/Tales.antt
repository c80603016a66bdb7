-- The kinds of a chain's messages in their order, and the three forms of a tale.
use Rattle.std.specs.Prelude.{ℕ, zero, suc, ◌+◌, ◌*◌, ◌<◌, ◌≤◌, ◌==◌, Bool, true, false, List, [], ◌∷◌, ◌++◌, take, slice_get, Option, Some, None, if◌then◌else◌}
use Rattle.satp_base.specs.declared.message.Kind.{Kind}
use Rattle.satp_base.specs.declared.message.Kind.TheVariants.{TransferProposal, ProposalReceipt, TransferCommence, CommenceAck, LockAssert, LockReceipt, CommitPrepare, CommitReady, CommitFinal, CommitFinalAck, TransferComplete, Reject, Rollback, RollbackAck, Recover, RecoverUpdate, RecoverSuccess}
use Rattle.satp_base.specs.declared.message.Role.{Role}
use Rattle.satp_base.specs.declared.message.Role.TheVariants.{Origin, Recipient}

-- the eleven kinds of a transfer, in the order of their places
abbrev pub eleven : List Kind
eleven = TransferProposal ∷ ProposalReceipt ∷ TransferCommence ∷ CommenceAck ∷ LockAssert ∷ LockReceipt ∷ CommitPrepare ∷ CommitReady ∷ CommitFinal ∷ CommitFinalAck ∷ TransferComplete ∷ []

-- A tale is a prefix of the eleven kinds;
-- or such a prefix of length 2, 4, 6 or 8, and behind it a rollback and its acknowledgement, which may be there in part;
-- or such a prefix of length 1, 3, 5 or 7, and behind it a reject, a rollback and its acknowledgement, which may be there in part.
pub data IsTale : List Kind → Type 0 where
  Onward : (n : ℕ) → n ≤ 11 → IsTale (take n eleven)
  Rolling : (k m : ℕ) → k < 4 → m ≤ 2 → IsTale (take (2 * k + 2) eleven ++ take m (Rollback ∷ RollbackAck ∷ []))
  Rejecting : (k m : ℕ) → k < 4 → m ≤ 3 → IsTale (take (2 * k + 1) eleven ++ take m (Reject ∷ Rollback ∷ RollbackAck ∷ []))

-- the number of a kind, by which two kinds are compared
abbrev pub kind_code : Kind → ℕ
kind_code TransferProposal = 0
kind_code ProposalReceipt = 1
kind_code TransferCommence = 2
kind_code CommenceAck = 3
kind_code LockAssert = 4
kind_code LockReceipt = 5
kind_code CommitPrepare = 6
kind_code CommitReady = 7
kind_code CommitFinal = 8
kind_code CommitFinalAck = 9
kind_code TransferComplete = 10
kind_code Reject = 11
kind_code Rollback = 12
kind_code RollbackAck = 13
kind_code Recover = 14
kind_code RecoverUpdate = 15
kind_code RecoverSuccess = 16

abbrev pub kind_eq : Kind → Kind → Bool
kind_eq k j = kind_code k == kind_code j

-- who makes the messages of a kind; the recovery kinds stand in no chain, and either side makes them
abbrev pub maker : Kind → Option Role
maker TransferProposal = Some Origin
maker ProposalReceipt = Some Recipient
maker TransferCommence = Some Origin
maker CommenceAck = Some Recipient
maker LockAssert = Some Origin
maker LockReceipt = Some Recipient
maker CommitPrepare = Some Origin
maker CommitReady = Some Recipient
maker CommitFinal = Some Origin
maker CommitFinalAck = Some Recipient
maker TransferComplete = Some Origin
maker Reject = Some Recipient
maker Rollback = Some Origin
maker RollbackAck = Some Recipient
maker Recover = None
maker RecoverUpdate = None
maker RecoverSuccess = None

-- the other side
abbrev pub other : Role → Role
other Origin = Recipient
other Recipient = Origin

-- the role is this one
abbrev pub is_role : Role → Option Role → Bool
is_role role None = false
is_role Origin (Some Origin) = true
is_role Origin (Some Recipient) = false
is_role Recipient (Some Origin) = false
is_role Recipient (Some Recipient) = true

-- the side makes the messages of this kind
abbrev pub makes : Role → Kind → Bool
makes role k = is_role role (maker k)

-- the kind at a place, from 1
abbrev pub kind_at : List Kind → ℕ → Option Kind
kind_at tale zero = None
kind_at tale (suc n) = slice_get tale n

-- the kind stands in the tale
abbrev pub has : Kind → List Kind → Bool
has k [] = false
has k (j ∷ tale) = if kind_eq k j then true else has k tale

abbrev pub last_of : List Kind → Option Kind
last_of [] = None
last_of (k ∷ []) = Some k
last_of (k ∷ j ∷ tale) = last_of (j ∷ tale)

abbrev pub is_kind : Kind → Option Kind → Bool
is_kind k None = false
is_kind k (Some j) = kind_eq k j

abbrev pub is_by : Role → Option Kind → Bool
is_by role None = false
is_by role (Some j) = makes role j

-- the last message is of this kind
abbrev pub last_is : Kind → List Kind → Bool
last_is k tale = is_kind k (last_of tale)

-- the last message is one of this side
abbrev pub last_by : Role → List Kind → Bool
last_by role tale = is_by role (last_of tale)

-- how a session has ended is read off the last kind
abbrev pub is_committed : List Kind → Bool
is_committed tale = last_is TransferComplete tale

abbrev pub is_rolled_back : List Kind → Bool
is_rolled_back tale = last_is RollbackAck tale

abbrev pub is_whole : List Kind → Bool
is_whole tale = if is_committed tale then true else is_rolled_back tale

-- which kind may come behind which: what the code tests, one kind at a time
abbrev pub follows : Kind → Kind → Bool
follows TransferProposal ProposalReceipt = true
follows TransferProposal Reject = true
follows ProposalReceipt TransferCommence = true
follows ProposalReceipt Rollback = true
follows TransferCommence CommenceAck = true
follows TransferCommence Reject = true
follows CommenceAck LockAssert = true
follows CommenceAck Rollback = true
follows LockAssert LockReceipt = true
follows LockAssert Reject = true
follows LockReceipt CommitPrepare = true
follows LockReceipt Rollback = true
follows CommitPrepare CommitReady = true
follows CommitPrepare Reject = true
follows CommitReady CommitFinal = true
follows CommitReady Rollback = true
follows CommitFinal CommitFinalAck = true
follows CommitFinalAck TransferComplete = true
follows Reject Rollback = true
follows Rollback RollbackAck = true
follows _ _ = false

-- which kind may come behind the last one, where there is one: a tale begins with the proposal
abbrev pub comes_behind : Option Kind → Kind → Bool
comes_behind None k = kind_eq k TransferProposal
comes_behind (Some j) k = follows j k
