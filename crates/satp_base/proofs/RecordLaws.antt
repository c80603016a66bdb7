-- What the rule says of answers, rescues and aborts, as functions.
use Rattle.std.proofs.Common.{◌≡◌, Bool, true, false, IsTrue, List, [], ◌∷◌, Option, Some, None, Result, Ok, Err, if◌then◌else◌, refl, ap, subst, sym, ◌∙◌, ◌↔◌}
use Rattle.satp_base.specs.declared.message.Role.{Role}
use Rattle.satp_base.specs.declared.message.Role.TheVariants.{Origin, Recipient}
use Rattle.satp_base.specs.declared.ledger.LedgerOp.{LedgerOp}
use Rattle.satp_base.specs.declared.ledger.LedgerOp.TheVariants.{Lock, Burn, Mint, Assign, Release}
use Rattle.satp_base.specs.declared.ledger.Answer.{Answer}
use Rattle.satp_base.specs.declared.ledger.Answer.TheVariants as answer
use Rattle.satp_base.specs.declared.message.Kind.TheVariants.{Rollback}
use Rattle.satp_base.specs.declared.record.Cause.TheVariants.{Aborted}
use Rattle.satp_base.specs.declared.record.Way.TheVariants.{Back}
use Rattle.satp_base.specs.declared.record.TooLate.{TooLate}
use Rattle.satp_base.specs.declared.record.Rec.{Rec}
use Rattle.satp_base.specs.declared.record.Rec.TheVariants.{Chose, Rescue}
use Rattle.satp_base.specs.declared.record.Next.{Next}
use Rattle.satp_base.specs.declared.record.Next.TheVariants.{Append}
use Rattle.satp_base.specs.declared.view.View.{View}
use Rattle.satp_base.specs.Acts.{MayAnswer}
use Rattle.satp_base.specs.Roles.{After, Other, RoleRule, abort_of, after_of, both, either, is_back, is_late, negate, next_of, no_way, rescues}
use Rattle.satp_base.specs.Roles.RoleRule.{Due, Answered, Free}
use Rattle.satp_base.specs.Tales.{has, is_whole}
use Rattle.satp_base.proofs.RoleLemmas.{role-gives}

-- ---- answers

pub after-gives : (op : LedgerOp) (a : Answer) (r : Rec) → After op a r → MayAnswer op a × (r ≡ after_of op a)
after-gives op answer.Done r x = (tt, x)
after-gives Lock (answer.NoFunds free) r x = (tt, x)
after-gives Lock (answer.Taken entry) r x = (tt, x)
after-gives Mint answer.UnknownAsset r x = (tt, x)
after-gives Mint (answer.Capped total) r x = (tt, x)
after-gives Mint (answer.Taken entry) r x = (tt, x)
after-gives _ _ r x = absurd x

pub gives-after : (op : LedgerOp) (a : Answer) (r : Rec) → MayAnswer op a → r ≡ after_of op a → After op a r
gives-after op answer.Done r m x = x
gives-after Lock (answer.NoFunds free) r m x = x
gives-after Lock (answer.Taken entry) r m x = x
gives-after Mint answer.UnknownAsset r m x = x
gives-after Mint (answer.Capped total) r m x = x
gives-after Mint (answer.Taken entry) r m x = x
gives-after _ _ r m x = absurd m

-- ---- rescues

abbrev no_rescue : Next → Bool
no_rescue (Append Rescue) = false
no_rescue _ = true

never_due : (role : Role) (v : View) → next_of role v ≡ Append Rescue → ⊥
never_due Origin v e = let h = subst (λ n. no_rescue n ≡ true) e (role-gives no_rescue Origin v refl refl) in cc h
never_due Recipient v e = let h = subst (λ n. no_rescue n ≡ true) e (role-gives no_rescue Recipient v refl refl) in cc h

all_three : (a b c : Bool) → both a (both (negate b) (negate c)) ≡ true → (a ≡ true) × (b ≡ false) × (c ≡ false)
all_three true false false e = (refl, refl, refl)
all_three _ _ _ e = absurd (cc e)

three_all : (a b c : Bool) → a ≡ true → b ≡ false → c ≡ false → both a (both (negate b) (negate c)) ≡ true
three_all a b c x y z = rw (x, y, z) refl

pub rescue-allowed : (role : Role) (v : View) → IsTrue (rescues role v) → RoleRule role v Rescue
rescue-allowed Origin v h = Free (all_three _ _ _ h)
rescue-allowed Recipient v h = absurd (cc h)

not_answered : (op : LedgerOp) (a : Answer) → After op a Rescue → ⊥
not_answered op answer.Done x = cc x
not_answered Lock (answer.NoFunds free) x = cc x
not_answered Lock (answer.Taken entry) x = cc x
not_answered Mint answer.UnknownAsset x = cc x
not_answered Mint (answer.Capped total) x = cc x
not_answered Mint (answer.Taken entry) x = cc x
not_answered _ _ x = absurd x

pub allowed-rescue : (role : Role) (v : View) → RoleRule role v Rescue → IsTrue (rescues role v)
allowed-rescue role v (Due e) = absurd (never_due role v e)
allowed-rescue role v (Answered op a e x) = absurd (not_answered op a x)
allowed-rescue Origin v (Free o) = three_all _ _ _ o.0 o.1 o.2
allowed-rescue Recipient v (Free o) = absurd o

-- ---- aborts

-- what the views are like in which an abort gives a record
pub record GivesAnAbort (role : Role) (v : View) (r : Rec) : Type 0 where
  pub in_time : is_late role v ≡ false
  pub no_way_back : is_back v.way ≡ false
  pub no_rollback : has Rollback v.tale ≡ false
  pub record_is : r ≡ Chose (Back Aborted)

given : (late back rollback : Bool) (fault : TooLate) (r : Rec) → (if late then Err fault else if either back rollback then Ok None else Ok (Some (Chose (Back Aborted)))) ≡ Ok (Some r)
    → (late ≡ false) × (back ≡ false) × (rollback ≡ false) × (r ≡ Chose (Back Aborted))
given true back rollback fault r e = absurd (cc e)
given false true rollback fault r e = absurd (cc e)
given false false true fault r e = absurd (cc e)
given false false false fault r e = (refl, refl, refl, cc (sym e))

pub gives-abort : (role : Role) (v : View) (r : Rec) → abort_of role v ≡ Ok (Some r) → GivesAnAbort role v r
gives-abort role v r e = let g = given (is_late role v) (is_back v.way) (has Rollback v.tale) _ r e in record { in_time = g.0; no_way_back = g.1; no_rollback = g.2; record_is = g.3 }
