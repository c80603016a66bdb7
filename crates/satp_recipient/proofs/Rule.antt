-- What the recipient's rule allows, record by record.
use Rattle.std.proofs.Common.{◌≡◌, Bool, true, false, List, [], ◌∷◌, ◌++◌, Option, Some, None, refl, sym, ap, subst, ◌∙◌, ◌⊎◌, inl, inr, ◌↔◌, IsTrue}
use Rattle.satp_base.specs.declared.message.Kind.{Kind}
use Rattle.satp_base.specs.declared.message.Role.{Role}
use Rattle.satp_base.specs.declared.message.Role.TheVariants.{Origin, Recipient}
use Rattle.satp_base.specs.declared.message.Terms.{Terms}
use Rattle.satp_base.specs.declared.ledger.LedgerOp.{LedgerOp}
use Rattle.satp_base.specs.declared.ledger.LedgerOp.TheVariants.{Lock, Burn, Mint, Assign, Release}
use Rattle.satp_base.specs.declared.ledger.Answer.{Answer}
use Rattle.satp_base.specs.declared.ledger.Answer.TheVariants as answer
use Rattle.satp_base.specs.declared.ledger.Entry.TheVariants.{Absent}
use Rattle.satp_base.specs.declared.record.Cause.{Cause}
use Rattle.satp_base.specs.declared.record.Cause.TheVariants.{Aborted, LockRefused, Rejected, Rescued, UnknownAsset, MintCapped, LedgerTaken}
use Rattle.satp_base.specs.declared.record.Way.{Way}
use Rattle.satp_base.specs.declared.record.Way.TheVariants.{Commit, Back}
use Rattle.satp_base.specs.declared.record.Rec.{Rec}
use Rattle.satp_base.specs.declared.record.Rec.TheVariants.{Began, Took, Made, Did, Chose, Rescue}
use Rattle.satp_base.specs.declared.record.Next.{Next}
use Rattle.satp_base.specs.declared.record.Next.TheVariants.{Append, Act, Wait, Ended}
use Rattle.satp_base.specs.declared.view.View.{View}
use Rattle.satp_base.specs.Tales.{IsTale, maker, makes}
use Rattle.satp_base.specs.Roles.{next_of, After, Other, RoleRule}
use Rattle.satp_base.specs.Roles.RoleRule.{Due, Answered, Free}
use Rattle.satp_base.proofs.RoleLemmas.{role-gives, makes-is, is-makes}

-- the same rule, by the record
abbrev pub MayCome : View → Rec → Type 0
MayCome v (Took kind) = (maker kind ≡ Some Origin) × IsTale (v.tale ++ kind ∷ [])
MayCome v (Made kind) = next_of Recipient v ≡ Append (Made kind)
MayCome v (Did op) = next_of Recipient v ≡ Act op
MayCome v (Chose (Back Aborted)) = Other Recipient v (Chose (Back Aborted))
MayCome v (Chose (Back UnknownAsset)) = next_of Recipient v ≡ Act Mint
MayCome v (Chose (Back MintCapped)) = next_of Recipient v ≡ Act Mint
MayCome v (Chose (Back LedgerTaken)) = next_of Recipient v ≡ Act Mint
MayCome v _ = ⊥

-- the table appends messages alone, and never locks
abbrev appends_made : Next → Bool
appends_made (Append (Made kind)) = true
appends_made (Act Lock) = false
appends_made (Append _) = false
appends_made _ = true

made_alone : (v : View) → appends_made (next_of Recipient v) ≡ true
made_alone v = role-gives appends_made Recipient v refl refl

from_due : (v : View) (r : Rec) → next_of Recipient v ≡ Append r → appends_made (Append r) ≡ true
from_due v r e = subst (λ n. appends_made n ≡ true) e (made_alone v)

no_lock : (v : View) → next_of Recipient v ≡ Act Lock → ⊥
no_lock v e = let h = subst (λ n. appends_made n ≡ true) e (made_alone v) in cc h

by_due : (v : View) (r : Rec) → appends_made (Append r) ≡ true → next_of Recipient v ≡ Append r → MayCome v r
by_due v (Made kind) h e = e
by_due v _ h e = absurd (cc h)

by_answer : (v : View) (op : LedgerOp) (a : Answer) (r : Rec) → next_of Recipient v ≡ Act op → After op a r → MayCome v r
by_answer v op answer.Done r e x = subst (MayCome v) (sym x) e
by_answer v Lock (answer.NoFunds free) r e x = absurd (no_lock v e)
by_answer v Lock (answer.Taken entry) r e x = absurd (no_lock v e)
by_answer v Mint answer.UnknownAsset r e x = subst (MayCome v) (sym x) e
by_answer v Mint (answer.Capped total) r e x = subst (MayCome v) (sym x) e
by_answer v Mint (answer.Taken entry) r e x = subst (MayCome v) (sym x) e
by_answer v _ _ r e x = absurd x

by_other : (v : View) (r : Rec) → Other Recipient v r → MayCome v r
by_other v (Took kind) o = o
by_other v (Chose (Back Aborted)) o = o
by_other v _ o = absurd o

pub may-come : (v : View) (r : Rec) → RoleRule Recipient v r → MayCome v r
may-come v r (Due e) = by_due v r (from_due v r e) e
may-come v r (Answered op a e x) = by_answer v op a r e x
may-come v r (Free o) = by_other v r o

pub rule-allows : (v : View) (r : Rec) → MayCome v r → RoleRule Recipient v r
rule-allows v (Took kind) h = Free h
rule-allows v (Made kind) h = Due h
rule-allows v (Did op) h = Answered op answer.Done h refl
rule-allows v (Chose (Back Aborted)) h = Free h
rule-allows v (Chose (Back UnknownAsset)) h = Answered Mint answer.UnknownAsset h refl
rule-allows v (Chose (Back MintCapped)) h = Answered Mint (answer.Capped 0) h refl
rule-allows v (Chose (Back LedgerTaken)) h = Answered Mint (answer.Taken Absent) h refl
rule-allows v _ h = absurd h

-- ---- a test that decides whether the record may come

abbrev pub Decides : Bool → View → Rec → Type 0
Decides b v r = IsTrue b ↔ RoleRule Recipient v r

by_record : (b : Bool) (v : View) (r s : Rec) → r ≡ s → (IsTrue b ↔ MayCome v s) → Decides b v r
by_record b v r s e h = subst (Decides b v) (sym e) (λ t. rule-allows v s (h.0 t), λ q. h.1 (may-come v s q))

pub took : (b : Bool) (v : View) (r : Rec) (k : Kind) → r ≡ Took k → makes Origin k ≡ true → (IsTrue b ↔ IsTale (v.tale ++ k ∷ [])) → Decides b v r
took b v r k e m h = by_record b v r (Took k) e (λ t. (makes-is Origin k m, h.0 t), λ q. h.1 q.1)

pub took_not : (b : Bool) (v : View) (r : Rec) (k : Kind) → r ≡ Took k → b ≡ makes Origin k → b ≡ false → Decides b v r
took_not b v r k e m n = by_record b v r (Took k) e (λ t. absurd (cc (t, n)), λ q. m ∙ is-makes Origin k q.0)

pub made : (b : Bool) (v : View) (r : Rec) (k : Kind) → r ≡ Made k → (IsTrue b ↔ (next_of Recipient v ≡ Append (Made k))) → Decides b v r
made b v r k e h = by_record b v r (Made k) e h

pub did : (b : Bool) (v : View) (r : Rec) (op : LedgerOp) → r ≡ Did op → (IsTrue b ↔ (next_of Recipient v ≡ Act op)) → Decides b v r
did b v r op e h = by_record b v r (Did op) e h

pub minted_not : (b : Bool) (v : View) (c : Cause) → (c ≡ UnknownAsset) ⊎ ((c ≡ MintCapped) ⊎ (c ≡ LedgerTaken)) → (IsTrue b ↔ (next_of Recipient v ≡ Act Mint)) → Decides b v (Chose (Back c))
minted_not b v c (inl e) h = by_record b v (Chose (Back c)) (Chose (Back UnknownAsset)) (ap (λ x. Chose (Back x)) e) h
minted_not b v c (inr (inl e)) h = by_record b v (Chose (Back c)) (Chose (Back MintCapped)) (ap (λ x. Chose (Back x)) e) h
minted_not b v c (inr (inr e)) h = by_record b v (Chose (Back c)) (Chose (Back LedgerTaken)) (ap (λ x. Chose (Back x)) e) h

pub not_its : (v : View) (c : Cause) → (c ≡ LockRefused) ⊎ ((c ≡ Rejected) ⊎ (c ≡ Rescued)) → Decides false v (Chose (Back c))
not_its v c (inl e) = by_record false v (Chose (Back c)) (Chose (Back LockRefused)) (ap (λ x. Chose (Back x)) e) (λ t. absurd (cc t), λ q. absurd q)
not_its v c (inr (inl e)) = by_record false v (Chose (Back c)) (Chose (Back Rejected)) (ap (λ x. Chose (Back x)) e) (λ t. absurd (cc t), λ q. absurd q)
not_its v c (inr (inr e)) = by_record false v (Chose (Back c)) (Chose (Back Rescued)) (ap (λ x. Chose (Back x)) e) (λ t. absurd (cc t), λ q. absurd q)

pub commits_not : (v : View) → Decides false v (Chose Commit)
commits_not v = (λ t. absurd (cc t), λ q. absurd (may-come v (Chose Commit) q))

pub begins_not : (v : View) (r : Rec) (role : Role) (terms : Terms) → r ≡ Began role terms → Decides false v r
begins_not v r role terms e = by_record false v r (Began role terms) e (λ t. absurd (cc t), λ q. absurd q)

pub rescues_not : (v : View) (r : Rec) → r ≡ Rescue → Decides false v r
rescues_not v r e = by_record false v r Rescue e (λ t. absurd (cc t), λ q. absurd q)

pub chose : (b : Bool) (v : View) (r : Rec) (w : Way) → r ≡ Chose w → Decides b v (Chose w) → Decides b v r
chose b v r w e h = subst (Decides b v) (sym e) h
