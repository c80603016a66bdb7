-- What the tables of both roles give at all, and what the rule allows, record by record.
use Rattle.std.proofs.Common.{◌≡◌, Bool, true, false, List, [], ◌∷◌, Option, Some, refl, ap, ◌∙◌, ◌⊎◌, inl, inr, if◌then◌else◌}
use Rattle.satp_base.specs.declared.message.Kind.{Kind}
use Rattle.satp_base.specs.declared.message.Role.{Role}
use Rattle.satp_base.specs.declared.message.Role.TheVariants.{Origin, Recipient}
use Rattle.satp_base.specs.declared.ledger.LedgerOp.{LedgerOp}
use Rattle.satp_base.specs.declared.ledger.LedgerOp.TheVariants.{Lock, Mint}
use Rattle.satp_base.specs.declared.ledger.Answer.{Answer}
use Rattle.satp_base.specs.declared.ledger.Answer.TheVariants as answer
use Rattle.satp_base.specs.declared.record.Cause.{Cause}
use Rattle.satp_base.specs.declared.record.Cause.TheVariants.{LockRefused, UnknownAsset, MintCapped, LedgerTaken}
use Rattle.satp_base.specs.declared.record.Way.{Way}
use Rattle.satp_base.specs.declared.record.Way.TheVariants.{Back}
use Rattle.satp_base.specs.declared.record.Rec.{Rec}
use Rattle.satp_base.specs.declared.record.Rec.TheVariants.{Did, Chose}
use Rattle.satp_base.specs.declared.record.Next.{Next}
use Rattle.satp_base.specs.declared.record.Next.TheVariants.{Wait}
use Rattle.satp_base.specs.declared.view.View.{View}
use Rattle.satp_base.specs.Tales.{maker, makes, is_role}
use Rattle.satp_base.specs.Roles.{Line, first_line, origin_table, recipient_table, next_of, After}
use Rattle.satp_base.proofs.Finite.{all_of, andthen-left, andthen-right}

-- ---- what a table gives

abbrev pub nexts : List Line → List Next
nexts [] = []
nexts (l ∷ ls) = l.next ∷ nexts ls

abbrev pub table_of : Role → View → List Line
table_of Origin v = origin_table v
table_of Recipient v = recipient_table v

-- what holds of each line's next, and of Wait, holds of what the table gives
pub table-gives : (f : Next → Bool) (ls : List Line) → all_of f (nexts ls) ≡ true → f Wait ≡ true → f (first_line ls) ≡ true
table-gives f [] h w = w
table-gives f (l ∷ ls) h w = by_line l.fits (table-gives f ls (andthen-right (f l.next) (λ _. all_of f (nexts ls)) h) w)
  where
    by_line : (fits : Bool) → f (first_line ls) ≡ true → f (if fits then l.next else first_line ls) ≡ true
    by_line true rest = andthen-left (f l.next) (λ _. all_of f (nexts ls)) h
    by_line false rest = rest

pub role-gives : (f : Next → Bool) (role : Role) (v : View) → all_of f (nexts (table_of role v)) ≡ true → f Wait ≡ true → f (next_of role v) ≡ true
role-gives f Origin v h w = table-gives f (origin_table v) h w
role-gives f Recipient v h w = table-gives f (recipient_table v) h w

-- ---- the record behind an answer

pub after-shape : (op : LedgerOp) (a : Answer) (r : Rec) → After op a r → (r ≡ Did op) ⊎ ((c : Cause) × (r ≡ Chose (Back c)))
after-shape op answer.Done r x = inl x
after-shape Lock (answer.NoFunds free) r x = inr (LockRefused, x)
after-shape Lock (answer.Taken entry) r x = inr (LockRefused, x)
after-shape Mint answer.UnknownAsset r x = inr (UnknownAsset, x)
after-shape Mint (answer.Capped total) r x = inr (MintCapped, x)
after-shape Mint (answer.Taken entry) r x = inr (LedgerTaken, x)
after-shape _ _ r x = absurd x

-- the answers behind a Did and behind each decision
pub after-did : (op o : LedgerOp) (a : Answer) → After op a (Did o) → op ≡ o
after-did op o answer.Done x = cc x
after-did Lock o (answer.NoFunds free) x = absurd (cc x)
after-did Lock o (answer.Taken entry) x = absurd (cc x)
after-did Mint o answer.UnknownAsset x = absurd (cc x)
after-did Mint o (answer.Capped total) x = absurd (cc x)
after-did Mint o (answer.Taken entry) x = absurd (cc x)
after-did _ o _ x = absurd x

pub after-chose : (op : LedgerOp) (a : Answer) (w : Way) → After op a (Chose w) → ((op ≡ Lock) × (w ≡ Back LockRefused)) ⊎ ((op ≡ Mint) × ((w ≡ Back UnknownAsset) ⊎ (w ≡ Back MintCapped) ⊎ (w ≡ Back LedgerTaken)))
after-chose op answer.Done w x = absurd (cc x)
after-chose Lock (answer.NoFunds free) w x = inl (refl, cc x)
after-chose Lock (answer.Taken entry) w x = inl (refl, cc x)
after-chose Mint answer.UnknownAsset w x = inr (refl, inl (cc x))
after-chose Mint (answer.Capped total) w x = inr (refl, inr (inl (cc x)))
after-chose Mint (answer.Taken entry) w x = inr (refl, inr (inr (cc x)))
after-chose _ _ w x = absurd x

-- ---- who makes a kind

is_role-is : (role : Role) (o : Option Role) → is_role role o ≡ true → o ≡ Some role
is_role-is Origin (Some Origin) h = refl
is_role-is Recipient (Some Recipient) h = refl
is_role-is _ _ h = absurd (cc h)

is_role-refl : (role : Role) → is_role role (Some role) ≡ true
is_role-refl Origin = refl
is_role-refl Recipient = refl

pub makes-is : (role : Role) (k : Kind) → makes role k ≡ true → maker k ≡ Some role
makes-is role k h = is_role-is role (maker k) h

pub is-makes : (role : Role) (k : Kind) → maker k ≡ Some role → makes role k ≡ true
is-makes role k h = ap (is_role role) h ∙ is_role-refl role
