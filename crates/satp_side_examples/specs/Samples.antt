-- A session that the examples share: alpha is its origin and beta its recipient. Its texts may be any.
use Rattle.std.proofs.Common.{refl, lit≤}
use Rattle.std.specs.Prelude.{ℕ, ◌++◌, ◌-◌, List, [], ◌∷◌, codes, length, replicate, IsTrue}
use Rattle.satp_base.specs.Chains.{message_at}
use Rattle.satp_base.specs.Money.{Book}
use Rattle.satp_base.specs.Names.{holds_name}
use Rattle.satp_base.specs.declared.ledger.LedgerOp.TheVariants.{Lock, Burn, Mint, Assign, Release}
use Rattle.satp_base.specs.declared.message.Body.{Body}
use Rattle.satp_base.specs.declared.message.Kind.TheVariants.{ProposalReceipt, TransferCommence, CommenceAck, LockAssert, LockReceipt, CommitPrepare, CommitReady, CommitFinal, CommitFinalAck, TransferComplete, Reject, Rollback, RollbackAck}
use Rattle.satp_base.specs.declared.message.Link.{Link}
use Rattle.satp_base.specs.declared.message.Message.{Message}
use Rattle.satp_base.specs.declared.message.Part.{Part}
use Rattle.satp_base.specs.declared.message.Role.TheVariants.{Origin, Recipient}
use Rattle.satp_base.specs.declared.message.Terms.{Terms}
use Rattle.satp_base.specs.declared.name.Name.{Name}
use Rattle.satp_base.specs.declared.record.Cause.TheVariants.{LockRefused, MintCapped}
use Rattle.satp_base.specs.declared.record.Rec.{Rec}
use Rattle.satp_base.specs.declared.record.Rec.TheVariants.{Began, Took, Made, Did, Chose}
use Rattle.satp_base.specs.declared.record.Way.TheVariants.{Commit, Back}
use Rattle.satp_base.specs.declared.session.SessionId.{SessionId}
use Rattle.satp_sides.specs.Points.{Party, Side, Stored, Text, stored}

-- a name is kept in 32 bytes, zeros after its own
abbrev kept_in_32 : List ℕ → List ℕ
kept_in_32 text = text ++ replicate (32 - length text) 0

abbrev named : (text : List ℕ) → IsTrue (holds_name (length text) (kept_in_32 text)) → Name
named text valid = record { bytes = kept_in_32 text; count = length text; valid = valid }

abbrev pub alpha : Name
alpha = named (codes "alpha") refl

abbrev pub beta : Name
beta = named (codes "beta") refl

abbrev pub gamma : Name
gamma = named (codes "gamma") refl

abbrev pub alpha_1 : SessionId
alpha_1 = record { gateway = alpha; number = 1; low = lit≤ tt; high = lit≤ tt }

abbrev pub alpha_9 : SessionId
alpha_9 = record { gateway = alpha; number = 9; low = lit≤ tt; high = lit≤ tt }

abbrev pub beta_1 : SessionId
beta_1 = record { gateway = beta; number = 1; low = lit≤ tt; high = lit≤ tt }

abbrev pub gamma_1 : SessionId
gamma_1 = record { gateway = gamma; number = 1; low = lit≤ tt; high = lit≤ tt }

abbrev pub at_alpha : List ℕ → Party
at_alpha key = record { name = alpha; peer = beta; key = key }

abbrev pub at_beta : List ℕ → Party
at_beta key = record { name = beta; peer = alpha; key = key }

abbrev pub side : List Stored → Book → Side
side records book = record { records = records; book = book }

-- the session's message at a place, after a text with that link
abbrev pub chain_message : ℕ → Link → Part → Message
chain_message place previous part = message_at alpha_1 beta place previous part

-- the session's message of recovery, from alpha to beta and from beta to alpha
abbrev pub from_alpha : SessionId → Body → Message
from_alpha s body = record { session = s; sender = alpha; receiver = beta; body = body }

abbrev pub from_beta : SessionId → Body → Message
from_beta s body = record { session = s; sender = beta; receiver = alpha; body = body }

-- ---- records; the text at each place is `text` of it

abbrev pub note : Rec → Stored
note r = stored alpha_1 r []

-- beta's records of a session that is committed
abbrev pub beta_records : Terms → (ℕ → Text) → List Stored
beta_records terms text =
    stored alpha_1 (Began Recipient terms) (text 1)
    ∷ stored alpha_1 (Made ProposalReceipt) (text 2)
    ∷ stored alpha_1 (Took TransferCommence) (text 3)
    ∷ stored alpha_1 (Made CommenceAck) (text 4)
    ∷ stored alpha_1 (Took LockAssert) (text 5)
    ∷ stored alpha_1 (Made LockReceipt) (text 6)
    ∷ stored alpha_1 (Took CommitPrepare) (text 7)
    ∷ note (Did Mint)
    ∷ stored alpha_1 (Made CommitReady) (text 8)
    ∷ stored alpha_1 (Took CommitFinal) (text 9)
    ∷ note (Did Assign)
    ∷ stored alpha_1 (Made CommitFinalAck) (text 10)
    ∷ stored alpha_1 (Took TransferComplete) (text 11)
    ∷ []

-- and alpha's
abbrev pub alpha_records : Terms → (ℕ → Text) → List Stored
alpha_records terms text =
    stored alpha_1 (Began Origin terms) (text 1)
    ∷ stored alpha_1 (Took ProposalReceipt) (text 2)
    ∷ stored alpha_1 (Made TransferCommence) (text 3)
    ∷ stored alpha_1 (Took CommenceAck) (text 4)
    ∷ note (Did Lock)
    ∷ stored alpha_1 (Made LockAssert) (text 5)
    ∷ stored alpha_1 (Took LockReceipt) (text 6)
    ∷ stored alpha_1 (Made CommitPrepare) (text 7)
    ∷ stored alpha_1 (Took CommitReady) (text 8)
    ∷ note (Chose Commit)
    ∷ note (Did Burn)
    ∷ stored alpha_1 (Made CommitFinal) (text 9)
    ∷ stored alpha_1 (Took CommitFinalAck) (text 10)
    ∷ stored alpha_1 (Made TransferComplete) (text 11)
    ∷ []

-- alpha's records of a session whose lock its ledger refused
abbrev pub refused_at_alpha : Terms → (ℕ → Text) → List Stored
refused_at_alpha terms text =
    stored alpha_1 (Began Origin terms) (text 1)
    ∷ stored alpha_1 (Took ProposalReceipt) (text 2)
    ∷ stored alpha_1 (Made TransferCommence) (text 3)
    ∷ stored alpha_1 (Took CommenceAck) (text 4)
    ∷ note (Chose (Back LockRefused))
    ∷ note (Did Release)
    ∷ stored alpha_1 (Made Rollback) (text 5)
    ∷ stored alpha_1 (Took RollbackAck) (text 6)
    ∷ []

-- beta's records of a session whose mint its ledger refused
abbrev pub capped_at_beta : Terms → (ℕ → Text) → List Stored
capped_at_beta terms text =
    stored alpha_1 (Began Recipient terms) (text 1)
    ∷ stored alpha_1 (Made ProposalReceipt) (text 2)
    ∷ stored alpha_1 (Took TransferCommence) (text 3)
    ∷ stored alpha_1 (Made CommenceAck) (text 4)
    ∷ stored alpha_1 (Took LockAssert) (text 5)
    ∷ stored alpha_1 (Made LockReceipt) (text 6)
    ∷ stored alpha_1 (Took CommitPrepare) (text 7)
    ∷ note (Chose (Back MintCapped))
    ∷ stored alpha_1 (Made Reject) (text 8)
    ∷ stored alpha_1 (Took Rollback) (text 9)
    ∷ stored alpha_1 (Made RollbackAck) (text 10)
    ∷ []
