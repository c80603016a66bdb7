-- What the origin's rule allows, record by record.
use Rattle.std.proofs.Common.{◌≡◌, Bool, true, false, List, [], ◌∷◌, ◌++◌, Option, Some, None, refl, sym, ap, subst, ◌∙◌, ◌⊎◌, inl, inr, ◌↔◌, IsTrue}
use Rattle.satp_base.specs.declared.message.Kind.{Kind}
use Rattle.satp_base.specs.declared.message.Role.{Role}
use Rattle.satp_base.specs.declared.message.Role.TheVariants.{Origin, Recipient}
use Rattle.satp_base.specs.declared.message.Terms.{Terms}
use Rattle.satp_base.specs.declared.ledger.LedgerOp.{LedgerOp}
use Rattle.satp_base.specs.declared.ledger.LedgerOp.TheVariants.{Lock, Burn, Mint, Assign, Release}
use Rattle.satp_base.specs.declared.ledger.Answer.{Answer}
use Rattle.satp_base.specs.declared.ledger.Answer.TheVariants as answer
use Rattle.satp_base.specs.declared.record.Cause.{Cause}
use Rattle.satp_base.specs.declared.record.Cause.TheVariants.{Aborted, LockRefused, Rejected, Rescued, UnknownAsset, MintCapped, LedgerTaken}
use Rattle.satp_base.specs.declared.record.Way.{Way}
use Rattle.satp_base.specs.declared.record.Way.TheVariants.{Commit, Back}
use Rattle.satp_base.specs.declared.record.Rec.{Rec}
use Rattle.satp_base.specs.declared.record.Rec.TheVariants.{Began, Took, Made, Did, Chose, Rescue}
use Rattle.satp_base.specs.declared.record.Next.{Next}
use Rattle.satp_base.specs.declared.record.Next.TheVariants.{Append, Act, Wait, Ended}
use Rattle.satp_base.specs.declared.view.View.{View}
use Rattle.satp_base.specs.Tales.{IsTale, maker, makes}
use Rattle.satp_base.specs.Roles.{next_of, After, Other, RoleRule}
use Rattle.satp_base.specs.Roles.RoleRule.{Due, Answered, Free}
use Rattle.satp_base.proofs.RoleLemmas.{role-gives, makes-is, is-makes}

-- the same rule, by the record
abbrev pub MayCome : View → Rec → Type 0
MayCome v (Took kind) = (maker kind ≡ Some Recipient) × IsTale (v.tale ++ kind ∷ [])
MayCome v (Made kind) = next_of Origin v ≡ Append (Made kind)
MayCome v (Did op) = next_of Origin v ≡ Act op
MayCome v (Chose Commit) = next_of Origin v ≡ Append (Chose Commit)
MayCome v (Chose (Back Aborted)) = Other Origin v (Chose (Back Aborted))
MayCome v (Chose (Back LockRefused)) = next_of Origin v ≡ Act Lock
MayCome v (Chose (Back Rejected)) = next_of Origin v ≡ Append (Chose (Back Rejected))
MayCome v (Chose (Back Rescued)) = next_of Origin v ≡ Append (Chose (Back Rescued))
MayCome v Rescue = Other Origin v Rescue
MayCome v _ = ⊥

-- the table appends messages and three decisions, and never mints
abbrev is_its : Next → Bool
is_its (Append (Made kind)) = true
is_its (Append (Chose Commit)) = true
is_its (Append (Chose (Back Rejected))) = true
is_its (Append (Chose (Back Rescued))) = true
is_its (Append _) = false
is_its (Act Mint) = false
is_its _ = true

its_alone : (v : View) → is_its (next_of Origin v) ≡ true
its_alone v = role-gives is_its Origin v refl refl

from_due : (v : View) (r : Rec) → next_of Origin v ≡ Append r → is_its (Append r) ≡ true
from_due v r e = subst (λ n. is_its n ≡ true) e (its_alone v)

no_mint : (v : View) → next_of Origin v ≡ Act Mint → ⊥
no_mint v e = let h = subst (λ n. is_its n ≡ true) e (its_alone v) in cc h

by_due : (v : View) (r : Rec) → is_its (Append r) ≡ true → next_of Origin v ≡ Append r → MayCome v r
by_due v (Made kind) h e = e
by_due v (Chose Commit) h e = e
by_due v (Chose (Back Rejected)) h e = e
by_due v (Chose (Back Rescued)) h e = e
by_due v _ h e = absurd (cc h)

by_answer : (v : View) (op : LedgerOp) (a : Answer) (r : Rec) → next_of Origin v ≡ Act op → After op a r → MayCome v r
by_answer v op answer.Done r e x = subst (MayCome v) (sym x) e
by_answer v Lock (answer.NoFunds free) r e x = subst (MayCome v) (sym x) e
by_answer v Lock (answer.Taken entry) r e x = subst (MayCome v) (sym x) e
by_answer v Mint answer.UnknownAsset r e x = absurd (no_mint v e)
by_answer v Mint (answer.Capped total) r e x = absurd (no_mint v e)
by_answer v Mint (answer.Taken entry) r e x = absurd (no_mint v e)
by_answer v _ _ r e x = absurd x

by_other : (v : View) (r : Rec) → Other Origin v r → MayCome v r
by_other v (Took kind) o = o
by_other v (Chose (Back Aborted)) o = o
by_other v Rescue o = o
by_other v _ o = absurd o

pub may-come : (v : View) (r : Rec) → RoleRule Origin v r → MayCome v r
may-come v r (Due e) = by_due v r (from_due v r e) e
may-come v r (Answered op a e x) = by_answer v op a r e x
may-come v r (Free o) = by_other v r o

pub rule-allows : (v : View) (r : Rec) → MayCome v r → RoleRule Origin v r
rule-allows v (Took kind) h = Free h
rule-allows v (Made kind) h = Due h
rule-allows v (Did op) h = Answered op answer.Done h refl
rule-allows v (Chose Commit) h = Due h
rule-allows v (Chose (Back Aborted)) h = Free h
rule-allows v (Chose (Back LockRefused)) h = Answered Lock (answer.NoFunds 0) h refl
rule-allows v (Chose (Back Rejected)) h = Due h
rule-allows v (Chose (Back Rescued)) h = Due h
rule-allows v Rescue h = Free h
rule-allows v _ h = absurd h

-- ---- a test that decides whether the record may come

abbrev pub Decides : Bool → View → Rec → Type 0
Decides b v r = IsTrue b ↔ RoleRule Origin v r

by_record : (b : Bool) (v : View) (r s : Rec) → r ≡ s → (IsTrue b ↔ MayCome v s) → Decides b v r
by_record b v r s e h = subst (Decides b v) (sym e) (λ t. rule-allows v s (h.0 t), λ q. h.1 (may-come v s q))

pub took : (b : Bool) (v : View) (r : Rec) (k : Kind) → r ≡ Took k → makes Recipient k ≡ true → (IsTrue b ↔ IsTale (v.tale ++ k ∷ [])) → Decides b v r
took b v r k e m h = by_record b v r (Took k) e (λ t. (makes-is Recipient k m, h.0 t), λ q. h.1 q.1)

pub took_not : (b : Bool) (v : View) (r : Rec) (k : Kind) → r ≡ Took k → b ≡ makes Recipient k → b ≡ false → Decides b v r
took_not b v r k e m n = by_record b v r (Took k) e (λ t. absurd (cc (t, n)), λ q. m ∙ is-makes Recipient k q.0)

pub did : (b : Bool) (v : View) (r : Rec) (op : LedgerOp) → r ≡ Did op → (IsTrue b ↔ (next_of Origin v ≡ Act op)) → Decides b v r
did b v r op e h = by_record b v r (Did op) e h

pub refused : (b : Bool) (v : View) (c : Cause) → c ≡ LockRefused → (IsTrue b ↔ (next_of Origin v ≡ Act Lock)) → Decides b v (Chose (Back c))
refused b v c e h = by_record b v (Chose (Back c)) (Chose (Back LockRefused)) (ap (λ x. Chose (Back x)) e) h

pub not_its : (v : View) (c : Cause) → (c ≡ UnknownAsset) ⊎ ((c ≡ MintCapped) ⊎ (c ≡ LedgerTaken)) → Decides false v (Chose (Back c))
not_its v c (inl e) = by_record false v (Chose (Back c)) (Chose (Back UnknownAsset)) (ap (λ x. Chose (Back x)) e) (λ t. absurd (cc t), λ q. absurd q)
not_its v c (inr (inl e)) = by_record false v (Chose (Back c)) (Chose (Back MintCapped)) (ap (λ x. Chose (Back x)) e) (λ t. absurd (cc t), λ q. absurd q)
not_its v c (inr (inr e)) = by_record false v (Chose (Back c)) (Chose (Back LedgerTaken)) (ap (λ x. Chose (Back x)) e) (λ t. absurd (cc t), λ q. absurd q)

pub commits : (b : Bool) (v : View) (w : Way) → w ≡ Commit → (IsTrue b ↔ (next_of Origin v ≡ Append (Chose w))) → Decides b v (Chose w)
commits b v w e h = by_record b v (Chose w) (Chose Commit) (ap Chose e) (subst (λ x. IsTrue b ↔ (next_of Origin v ≡ Append (Chose x))) e h)

pub begins_not : (v : View) (r : Rec) (role : Role) (terms : Terms) → r ≡ Began role terms → Decides false v r
begins_not v r role terms e = by_record false v r (Began role terms) e (λ t. absurd (cc t), λ q. absurd q)

pub rescues : (b : Bool) (v : View) (r : Rec) → r ≡ Rescue → (IsTrue b ↔ Other Origin v Rescue) → Decides b v r
rescues b v r e h = by_record b v r Rescue e h

pub chose : (b : Bool) (v : View) (r : Rec) (w : Way) → r ≡ Chose w → Decides b v (Chose w) → Decides b v r
chose b v r w e h = subst (Decides b v) (sym e) h
