-- What is due may come.
use Rattle.std.proofs.Common.{◌≡◌, Bool, true, false, List, Option, Some, refl, sym, subst}
use Rattle.satp_base.specs.Canonical.{part_kind}
use Rattle.satp_base.specs.Chains.{made_part, next_text}
use Rattle.satp_base.specs.Forms.{IsPart, is_plain}
use Rattle.satp_base.specs.Roles.{RoleRule, after_of, either, next_of}
use Rattle.satp_base.specs.Roles.RoleRule.{Due, Answered}
use Rattle.satp_base.specs.Tales.{kind_eq}
use Rattle.satp_base.specs.declared.ledger.Answer.{Answer}
use Rattle.satp_base.specs.declared.ledger.Answer.TheVariants as answer
use Rattle.satp_base.specs.declared.ledger.LedgerOp.{LedgerOp}
use Rattle.satp_base.specs.declared.ledger.LedgerOp.TheVariants.{Lock, Burn, Mint, Assign, Release}
use Rattle.satp_base.specs.declared.message.Kind.{Kind}
use Rattle.satp_base.specs.declared.message.Kind.TheVariants.{TransferProposal, ProposalReceipt, TransferCommence, CommenceAck, LockAssert, LockReceipt, CommitPrepare, CommitReady, CommitFinal, CommitFinalAck, TransferComplete, Reject, Rollback, RollbackAck, Recover, RecoverUpdate, RecoverSuccess}
use Rattle.satp_base.specs.declared.message.Role.{Role}
use Rattle.satp_base.specs.declared.message.Role.TheVariants.{Origin, Recipient}
use Rattle.satp_base.specs.declared.record.Next.{Next}
use Rattle.satp_base.specs.declared.record.Next.TheVariants.{Append}
use Rattle.satp_base.specs.declared.record.Rec.{Rec}
use Rattle.satp_base.specs.declared.record.Rec.TheVariants.{Began, Took, Made, Did, Chose, Rescue}
use Rattle.satp_base.specs.declared.record.Way.{Way}
use Rattle.satp_base.specs.declared.session.SessionId.{SessionId}
use Rattle.satp_base.specs.declared.view.View.{View}
use Rattle.satp_base.proofs.RecordLaws.{gives-after}
use Rattle.satp_base.proofs.RoleLemmas.{role-gives}
use Rattle.satp_sides.specs.Due.{due_text}
use Rattle.satp_sides.specs.Logs.{IsNote, MayCome}
use Rattle.satp_sides.specs.Logs.MayCome.{Makes, Notes}
use Rattle.satp_sides.specs.Points.{Party, Slot, Stored, chain_in, recipient_at, stored, view_in}
use Rattle.satp_point_laws.specs.PointLaws.{DueMayCome}
use Rattle.satp_point_laws.proofs.Slots.{slot-parts}

-- ---- a message that is made has a formed part of its kind

part-of : (way : Option Way) (k : Kind) → part_kind (made_part way k) ≡ k
part-of way = elim [ TransferProposal ↦ refl | ProposalReceipt ↦ refl | TransferCommence ↦ refl | CommenceAck ↦ refl | LockAssert ↦ refl | LockReceipt ↦ refl | CommitPrepare ↦ refl | CommitReady ↦ refl | CommitFinal ↦ refl | CommitFinalAck ↦ refl | TransferComplete ↦ refl | Reject ↦ refl | Rollback ↦ refl | RollbackAck ↦ refl | Recover ↦ refl | RecoverUpdate ↦ refl | RecoverSuccess ↦ refl ]

part-formed : (way : Option Way) (k : Kind) → either (is_plain k) (kind_eq k Reject) ≡ true → IsPart (made_part way k)
part-formed way Reject h = tt
part-formed way ProposalReceipt h = refl
part-formed way TransferCommence h = refl
part-formed way CommenceAck h = refl
part-formed way LockAssert h = refl
part-formed way LockReceipt h = refl
part-formed way CommitPrepare h = refl
part-formed way CommitReady h = refl
part-formed way CommitFinal h = refl
part-formed way CommitFinalAck h = refl
part-formed way TransferComplete h = refl
part-formed way Rollback h = refl
part-formed way RollbackAck h = refl
part-formed way TransferProposal h = absurd (cc h)
part-formed way Recover h = absurd (cc h)
part-formed way RecoverUpdate h = absurd (cc h)
part-formed way RecoverSuccess h = absurd (cc h)

-- ---- what tables make due: messages of formed kinds, and decisions

abbrev due_rec : Rec → Bool
due_rec (Made k) = either (is_plain k) (kind_eq k Reject)
due_rec (Chose way) = true
due_rec r = false

due_next : Next → Bool
due_next (Append r) = due_rec r
due_next next = true

each-due : (role : Role) (v : View) → due_next (next_of role v) ≡ true
unfolding due_next
each-due Origin v = role-gives due_next Origin v refl refl
each-due Recipient v = role-gives due_next Recipient v refl refl

is-due : (role : Role) (v : View) (r : Rec) → next_of role v ≡ Append r → due_rec r ≡ true
unfolding due_next
is-due role v r e = subst (λ n. due_next n ≡ true) e (each-due role v)

made-may : (p : Party) (s : SessionId) (xs : List Stored) (l : Slot) (k : Kind) → view_in s xs ≡ Some l.view → chain_in s xs ≡ l.texts → next_of l.view.role l.view ≡ Append (Made k) → due_rec (Made k) ≡ true → MayCome p xs (stored s (Made k) (due_text p s l (Made k)))
made-may p s xs l k named texts e formed =
    let part = made_part l.view.way k in
    let kind = part-of l.view.way k in
    let may = Makes s l.view part named (subst (λ j. RoleRule l.view.role l.view (Made j)) (sym kind) (Due e)) (part-formed l.view.way k formed) in
    let of_kind = subst (λ j. MayCome p xs (stored s (Made j) (next_text s (recipient_at p l.view.role) p.key (chain_in s xs) part))) kind may in
    subst (λ ts. MayCome p xs (stored s (Made k) (next_text s (recipient_at p l.view.role) p.key ts part))) texts of_kind

due-may : (p : Party) (s : SessionId) (xs : List Stored) (l : Slot) (r : Rec) → view_in s xs ≡ Some l.view → chain_in s xs ≡ l.texts → next_of l.view.role l.view ≡ Append r → due_rec r ≡ true → MayCome p xs (stored s r (due_text p s l r))
due-may p s xs l (Made k) named texts e h = made-may p s xs l k named texts e h
due-may p s xs l (Chose way) named texts e h = Notes s l.view (Chose way) named (Due e) tt
due-may p s xs l (Began role terms) named texts e h = absurd (cc h)
due-may p s xs l (Took k) named texts e h = absurd (cc h)
due-may p s xs l (Did op) named texts e h = absurd (cc h)
due-may p s xs l Rescue named texts e h = absurd (cc h)

-- ---- the record after an answer

after-note : (op : LedgerOp) (a : Answer) → IsNote (after_of op a)
after-note op answer.Done = tt
after-note op (answer.NoFunds free) = tt
after-note op answer.UnknownAsset = tt
after-note op (answer.Capped total) = tt
after-note Lock (answer.Taken entry) = tt
after-note Burn (answer.Taken entry) = tt
after-note Mint (answer.Taken entry) = tt
after-note Assign (answer.Taken entry) = tt
after-note Release (answer.Taken entry) = tt

pub due-may-come : DueMayCome
due-may-come p s xs l e =
    let (named, texts) = slot-parts s xs l e in
    record {
      append = λ r next. due-may p s xs l r named texts next (is-due l.view.role l.view r next);
      act = λ op a next may. Notes s l.view (after_of op a) named (Answered op a next (gives-after op a (after_of op a) may refl)) (after-note op a);
    }
