-- Which messages the role's rule lets a side take and make.
use Rattle.std.proofs.Common.{◌≡◌, Bool, true, false, List, [], ◌∷◌, ◌++◌, Option, Some, refl, subst, inl, inr}
use Rattle.satp_base.specs.Roles.{RoleRule, next_of}
use Rattle.satp_base.specs.Roles.RoleRule.{Due, Answered, Free}
use Rattle.satp_base.specs.Tales.{IsTale, comes_behind, last_of, maker, makes, other}
use Rattle.satp_base.specs.declared.message.Kind.{Kind}
use Rattle.satp_base.specs.declared.message.Kind.TheVariants.{TransferProposal, ProposalReceipt, TransferCommence, CommenceAck, LockAssert, LockReceipt, CommitPrepare, CommitReady, CommitFinal, CommitFinalAck, TransferComplete, Reject, Rollback, RollbackAck, Recover, RecoverUpdate, RecoverSuccess}
use Rattle.satp_base.specs.declared.message.Role.{Role}
use Rattle.satp_base.specs.declared.message.Role.TheVariants.{Origin, Recipient}
use Rattle.satp_base.specs.declared.record.Next.{Next}
use Rattle.satp_base.specs.declared.record.Next.TheVariants.{Append}
use Rattle.satp_base.specs.declared.record.Rec.TheVariants.{Took, Made}
use Rattle.satp_base.specs.declared.view.View.{View}
use Rattle.satp_base.proofs.RoleLemmas.{after-shape, makes-is, role-gives}
use Rattle.satp_base.proofs.TaleTable.{extends-by}

takes_not : Next → Bool
takes_not (Append (Took k)) = false
takes_not _ = true

never_takes : (role : Role) (v : View) → takes_not (next_of role v) ≡ true
unfolding takes_not
never_takes Origin v = role-gives takes_not Origin v refl refl
never_takes Recipient v = role-gives takes_not Recipient v refl refl

no_take : (role : Role) (v : View) (k : Kind) → next_of role v ≡ Append (Took k) → ⊥
unfolding takes_not
no_take role v k e = let h = subst (λ n. takes_not n ≡ true) e (never_takes role v) in cc h

pub took-rule : (role : Role) (v : View) (k : Kind) → RoleRule role v (Took k) → (maker k ≡ Some (other role)) × IsTale (v.tale ++ k ∷ [])
took-rule role v k (Due e) = absurd (no_take role v k e)
took-rule role v k (Answered op a e x) = elim (after-shape op a (Took k) x) [ inl q ↦ absurd (cc q) | inr q ↦ absurd (cc q.1) ]
took-rule Origin v k (Free o) = o
took-rule Recipient v k (Free o) = o

own_made : Role → Next → Bool
own_made role (Append (Made k)) = makes role k
own_made role _ = true

made_own : (role : Role) (v : View) → own_made role (next_of role v) ≡ true
unfolding own_made
made_own Origin v = role-gives (own_made Origin) Origin v refl refl
made_own Recipient v = role-gives (own_made Recipient) Recipient v refl refl

-- what a side makes is of its own kinds
pub made-rule : (role : Role) (v : View) (k : Kind) → RoleRule role v (Made k) → maker k ≡ Some role
unfolding own_made
made-rule role v k (Due e) = makes-is role k (subst (λ n. own_made role n ≡ true) e (made_own role v))
made-rule role v k (Answered op a e x) = elim (after-shape op a (Made k) x) [ inl q ↦ absurd (cc q) | inr q ↦ absurd (cc q.1) ]
made-rule Origin v k (Free o) = absurd o
made-rule Recipient v k (Free o) = absurd o

-- what comes after a message is no proposal
follows-not : (l : Option Kind) (j : Kind) → l ≡ Some j → comes_behind l TransferProposal ≡ true → ⊥
follows-not l j e h = by j (subst (λ o. comes_behind o TransferProposal ≡ true) e h)
  where
    by : (j : Kind) → comes_behind (Some j) TransferProposal ≡ true → ⊥
    by TransferProposal h = cc h
    by ProposalReceipt h = cc h
    by TransferCommence h = cc h
    by CommenceAck h = cc h
    by LockAssert h = cc h
    by LockReceipt h = cc h
    by CommitPrepare h = cc h
    by CommitReady h = cc h
    by CommitFinal h = cc h
    by CommitFinalAck h = cc h
    by TransferComplete h = cc h
    by Reject h = cc h
    by Rollback h = cc h
    by RollbackAck h = cc h
    by Recover h = cc h
    by RecoverUpdate h = cc h
    by RecoverSuccess h = cc h

has-last : (k : Kind) (t : List Kind) → (j : Kind) × (last_of (k ∷ t) ≡ Some j)
has-last k [] = (k, refl)
has-last k (j ∷ t) = has-last j t

pub no-proposal : (k : Kind) (t : List Kind) (j : Kind) → IsTale (k ∷ t) → IsTale ((k ∷ t) ++ j ∷ []) → j ≡ TransferProposal → ⊥
no-proposal k t j h g e = let (i, l) = has-last k t in follows-not (last_of (k ∷ t)) i l (subst (λ x. comes_behind (last_of (k ∷ t)) x ≡ true) e (extends-by (k ∷ t) j h g))
