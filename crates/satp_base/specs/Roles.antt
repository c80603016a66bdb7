-- What each side does next, and which record may come.
use Rattle.std.specs.Prelude.{◌≡◌, ◌↔◌, Bool, true, false, IsTrue, IsFalse, ℕ, List, [], ◌∷◌, ◌++◌, Option, Some, None, Result, Ok, Err, if◌then◌else◌}
use Rattle.satp_base.specs.declared.message.Kind.TheVariants.{TransferProposal, ProposalReceipt, TransferCommence, CommenceAck, LockAssert, LockReceipt, CommitPrepare, CommitReady, CommitFinal, CommitFinalAck, TransferComplete, Reject, Rollback, RollbackAck}
use Rattle.satp_base.specs.declared.message.Reason.{Reason}
use Rattle.satp_base.specs.declared.message.Reason.TheVariants as reason
use Rattle.satp_base.specs.declared.message.Role.{Role}
use Rattle.satp_base.specs.declared.message.Role.TheVariants.{Origin, Recipient}
use Rattle.satp_base.specs.declared.message.Terms.{Terms}
use Rattle.satp_base.specs.declared.ledger.LedgerOp.{LedgerOp}
use Rattle.satp_base.specs.declared.ledger.LedgerOp.TheVariants.{Lock, Burn, Mint, Assign, Release}
use Rattle.satp_base.specs.declared.ledger.Answer.{Answer}
use Rattle.satp_base.specs.declared.ledger.Answer.TheVariants as answer
use Rattle.satp_base.specs.declared.record.Cause.{Cause}
use Rattle.satp_base.specs.declared.record.Cause.TheVariants.{Aborted, LockRefused, Rejected, Rescued, UnknownAsset, MintCapped, LedgerTaken}
use Rattle.satp_base.specs.declared.record.Way.{Way}
use Rattle.satp_base.specs.declared.record.Way.TheVariants.{Commit, Back}
use Rattle.satp_base.specs.declared.record.Rec.{Rec}
use Rattle.satp_base.specs.declared.record.Rec.TheVariants.{Took, Made, Did, Chose, Rescue}
use Rattle.satp_base.specs.declared.record.TooLate.{TooLate}
use Rattle.satp_base.specs.declared.record.Next.{Next}
use Rattle.satp_base.specs.declared.record.Next.TheVariants.{Append, Act, Wait, Ended}
use Rattle.satp_base.specs.declared.view.View.{View}
use Rattle.satp_base.specs.Acts.{MayAnswer}
use Rattle.satp_base.specs.Chains.{reason_of}
use Rattle.satp_base.specs.Tales.{IsTale, has, last_is, last_by, is_whole, maker, other}
use Rattle.satp_base.specs.Views.{KeepsTale, begin, push, view_from}

abbrev pub both : Bool → Bool → Bool
both true b = b
both false b = false

abbrev pub either : Bool → Bool → Bool
either true b = true
either false b = b

abbrev pub negate : Bool → Bool
negate true = false
negate false = true

-- ---- what was decided

abbrev pub no_way : Option Way → Bool
no_way None = true
no_way (Some way) = false

abbrev pub is_commit : Option Way → Bool
is_commit None = false
is_commit (Some Commit) = true
is_commit (Some (Back cause)) = false

abbrev pub is_back : Option Way → Bool
is_back None = false
is_back (Some Commit) = false
is_back (Some (Back cause)) = true

-- the session is on its way back already
abbrev pub is_turned : View → Bool
is_turned v = either (is_back v.way) (has Rollback v.tale)

abbrev pub is_abort : Cause → Bool
is_abort Aborted = true
is_abort LockRefused = false
is_abort Rejected = false
is_abort Rescued = false
is_abort UnknownAsset = false
is_abort MintCapped = false
is_abort LedgerTaken = false

abbrev pub is_aborted : Option Way → Bool
is_aborted None = false
is_aborted (Some Commit) = false
is_aborted (Some (Back cause)) = is_abort cause

-- ---- the tables

-- a line of a table: where it fits, and what is next there
pub record Line : Type 0 where
  pub fits : Bool
  pub next : Next

abbrev pub line : Bool → Next → Line
line fits next = record { fits = fits; next = next }

-- the first line that fits counts; where none does, the last message is the side's own, and it waits
abbrev pub first_line : List Line → Next
first_line [] = Wait
first_line (l ∷ ls) = if l.fits then l.next else first_line ls

-- what the origin does next
abbrev pub origin_table : View → List Line
origin_table v =
    line (is_whole v.tale) Ended
    ∷ line (both (is_back v.way) (negate v.done.release)) (Act Release)
    ∷ line (both (is_back v.way) (last_by Recipient v.tale)) (Append (Made Rollback))
    ∷ line (both (is_commit v.way) (both (last_is CommitReady v.tale) (negate v.done.burn))) (Act Burn)
    ∷ line (both (is_commit v.way) (last_is CommitReady v.tale)) (Append (Made CommitFinal))
    ∷ line (last_is CommitFinalAck v.tale) (Append (Made TransferComplete))
    ∷ line (both (no_way v.way) (last_is Reject v.tale)) (Append (Chose (Back Rejected)))
    ∷ line (both (no_way v.way) (last_is CommitReady v.tale)) (Append (Chose Commit))
    ∷ line (both (no_way v.way) (both (last_by Recipient v.tale) v.rescue)) (Append (Chose (Back Rescued)))
    ∷ line (last_is ProposalReceipt v.tale) (Append (Made TransferCommence))
    ∷ line (both (last_is CommenceAck v.tale) (negate v.done.lock)) (Act Lock)
    ∷ line (last_is CommenceAck v.tale) (Append (Made LockAssert))
    ∷ line (last_is LockReceipt v.tale) (Append (Made CommitPrepare))
    ∷ []

-- a release is due at the recipient
abbrev pub release_due : View → Bool
release_due v = both (has CommitPrepare v.tale) (both (negate v.done.release) (either (no_way v.way) (is_aborted v.way)))

-- what the recipient does next
abbrev pub recipient_table : View → List Line
recipient_table v =
    line (is_whole v.tale) Ended
    ∷ line (both (last_is Rollback v.tale) (release_due v)) (Act Release)
    ∷ line (last_is Rollback v.tale) (Append (Made RollbackAck))
    ∷ line (both (is_back v.way) (release_due v)) (Act Release)
    ∷ line (both (is_back v.way) (last_by Origin v.tale)) (Append (Made Reject))
    ∷ line (last_is TransferProposal v.tale) (Append (Made ProposalReceipt))
    ∷ line (last_is TransferCommence v.tale) (Append (Made CommenceAck))
    ∷ line (last_is LockAssert v.tale) (Append (Made LockReceipt))
    ∷ line (both (last_is CommitPrepare v.tale) (negate v.done.mint)) (Act Mint)
    ∷ line (last_is CommitPrepare v.tale) (Append (Made CommitReady))
    ∷ line (both (last_is CommitFinal v.tale) (negate v.done.assign)) (Act Assign)
    ∷ line (last_is CommitFinal v.tale) (Append (Made CommitFinalAck))
    ∷ []

abbrev pub next_of : Role → View → Next
next_of Origin v = first_line (origin_table v)
next_of Recipient v = first_line (recipient_table v)

-- ---- after an operation

-- the record behind an answer that the operation may have
abbrev pub After : LedgerOp → Answer → Rec → Type 0
After op answer.Done r = r ≡ Did op
After Lock (answer.NoFunds free) r = r ≡ Chose (Back LockRefused)
After Lock (answer.Taken entry) r = r ≡ Chose (Back LockRefused)
After Mint answer.UnknownAsset r = r ≡ Chose (Back UnknownAsset)
After Mint (answer.Capped total) r = r ≡ Chose (Back MintCapped)
After Mint (answer.Taken entry) r = r ≡ Chose (Back LedgerTaken)
After _ _ r = ⊥

-- The same as a function. Of an answer that the operation may not have it says nothing that matters.
abbrev pub after_of : LedgerOp → Answer → Rec
after_of op answer.Done = Did op
after_of op (answer.NoFunds free) = Chose (Back LockRefused)
after_of op answer.UnknownAsset = Chose (Back UnknownAsset)
after_of op (answer.Capped total) = Chose (Back MintCapped)
after_of Lock (answer.Taken entry) = Chose (Back LockRefused)
after_of op (answer.Taken entry) = Chose (Back LedgerTaken)

-- ---- which record may come

-- the records that may come beside the table's: a message of the peer, an abort, and a rescue
abbrev pub Other : Role → View → Rec → Type 0
Other role v (Took kind) = (maker kind ≡ Some (other role)) × IsTale (v.tale ++ kind ∷ [])
Other Origin v (Chose (Back Aborted)) = IsTrue (no_way v.way) × IsFalse (is_whole v.tale)
Other Recipient v (Chose (Back Aborted)) = IsTrue (no_way v.way) × IsFalse (has CommitReady v.tale) × IsFalse (has Rollback v.tale)
Other Origin v Rescue = IsTrue (no_way v.way) × IsFalse v.rescue × IsFalse (is_whole v.tale)
Other _ v _ = ⊥

-- Which record may come next behind records with this view: the table's, one that an operation's answer gives, or another one.
pub data RoleRule (role : Role) (v : View) (r : Rec) : Type 0 where
  Due : next_of role v ≡ Append r → RoleRule role v r
  Answered : (op : LedgerOp) (answer : Answer) → next_of role v ≡ Act op → After op answer r → RoleRule role v r
  Free : Other role v r → RoleRule role v r

-- the side may enter a recovery round: only an origin does, once, and before it has decided
abbrev pub rescues : Role → View → Bool
rescues Origin v = both (no_way v.way) (both (negate v.rescue) (negate (is_whole v.tale)))
rescues Recipient v = false

-- each of the records may come behind those before it
abbrev pub AreAllowed : Role → View → List Rec → Type 0
AreAllowed role v [] = Unit {0}
AreAllowed role v (r ∷ rs) = RoleRule role v r × AreAllowed role (push v r) rs

-- the view of allowed records, from the beginning of a session under some terms
pub record IsReached (role : Role) (v : View) : Type 0 where
  pub terms : Terms
  pub recs : List Rec
  pub allowed : AreAllowed role (begin role terms) recs
  pub view : v ≡ view_from (begin role terms) recs

-- ---- an abort

-- An abort comes too late: the origin has committed; or the recipient has said that it is ready, and the origin hasn't turned back.
abbrev pub is_late : Role → View → Bool
is_late Origin v = is_commit v.way
is_late Recipient v = both (has CommitReady v.tale) (negate (has Rollback v.tale))

-- the place of the message that decides it
abbrev pub late_place : Role → ℕ
late_place Origin = 9
late_place Recipient = 8

-- what a side that is asked to turn back answers: too late; no record where the session is on its way back; else the decision
abbrev pub abort_of : Role → View → Result (Option Rec) TooLate
abort_of role v = if is_late role v then Err (record { place = late_place role }) else if is_turned v then Ok None else Ok (Some (Chose (Back Aborted)))

-- ---- laws

-- Behind any list of allowed records the kinds are a tale, and a further record that is allowed keeps them one.
abbrev pub LawTales : Role → Type 0
LawTales role =
    (terms : Terms) (rs : List Rec) → AreAllowed role (begin role terms) rs
    → IsTale (view_from (begin role terms) rs).tale
    × ((r : Rec) → RoleRule role (view_from (begin role terms) rs) r → KeepsTale (view_from (begin role terms) rs).tale r)

-- The record behind an answer is what the function gives of an answer that the operation may have.
abbrev pub AnswersGiveRecords : Type 0
AnswersGiveRecords = (op : LedgerOp) (a : Answer) (r : Rec) → After op a r ↔ (MayAnswer op a × (r ≡ after_of op a))

-- a rescue may come exactly where the side may enter a recovery round
abbrev pub RescuesAsRuled : Type 0
RescuesAsRuled = (role : Role) (v : View) → IsTrue (rescues role v) ↔ RoleRule role v Rescue

-- in a view that is reached the record that an abort gives may come
abbrev pub LawAborts : Role → Type 0
LawAborts role = (v : View) (r : Rec) → IsReached role v → abort_of role v ≡ Ok (Some r) → RoleRule role v r

-- the reason is the cause by its name
abbrev pub IsReason : Cause → Reason → Type 0
IsReason Aborted reason.Aborted = Unit {0}
IsReason UnknownAsset reason.UnknownAsset = Unit {0}
IsReason MintCapped reason.MintCapped = Unit {0}
IsReason LedgerTaken reason.LedgerTaken = Unit {0}
IsReason _ _ = ⊥

-- A recipient decides nothing but to turn back, and the reason that its reject names is why.
abbrev pub LawReasons : Type 0
LawReasons = (v : View) (way : Way) → IsReached Recipient v → v.way ≡ Some way → (cause : Cause) × (way ≡ Back cause) × IsReason cause (reason_of (Some way))
