-- What due work keeps of a half: its terms, and its tale's kinds.
use Rattle.std.proofs.Common.{◌≡◌, ℕ, zero, suc, ◌≤◌, true, false, List, [], ◌∷◌, ◌++◌, length, Option, Some, None, refl, ap, ◌∙◌, arith}
use Rattle.std.proofs.lemmas.List.{length_push}
use Rattle.satp_base.proofs.TaleLemmas.{last-push}
use Rattle.satp_base.specs.Roles.{after_of, next_of}
use Rattle.satp_base.specs.Tales.{is_by, last_by, maker, other}
use Rattle.satp_base.specs.Views.{push}
use Rattle.satp_base.specs.declared.ledger.Answer.{Answer}
use Rattle.satp_base.specs.declared.ledger.LedgerOp.{LedgerOp}
use Rattle.satp_base.specs.declared.message.Kind.{Kind}
use Rattle.satp_base.specs.declared.message.Role.{Role}
use Rattle.satp_base.specs.declared.message.Role.TheVariants.{Origin, Recipient}
use Rattle.satp_base.specs.declared.record.Next.{Next}
use Rattle.satp_base.specs.declared.record.Next.TheVariants.{Append, Act, Wait, Ended}
use Rattle.satp_base.specs.declared.record.Rec.{Rec}
use Rattle.satp_base.specs.declared.record.Rec.TheVariants.{Began, Took, Made, Did, Chose, Rescue}
use Rattle.satp_base.specs.declared.view.View.{View}
use Rattle.satp_sides.specs.Halves.{Half, after_record}
use Rattle.satp_sides.proofs.Records.{push-head}
use Rattle.satp_rounds.specs.Funds.{Funds, answer_now, worked_by, worked_on, worked_within}

-- the terms stay, and no message goes
pub record Grows (h new : Half) : Type 0 where
  pub terms : new.view.terms ≡ h.view.terms
  pub longer : length h.view.tale ≤ length new.view.tale

pub grows-none : (h : Half) → Grows h h
grows-none h = record { terms = refl; longer = omega arith }

pub grows-then : (h k new : Half) → Grows h k → Grows k new → Grows h new
grows-then h k new x y = let a = x.longer in let b = y.longer in record { terms = y.terms ∙ x.terms; longer = omega (arith, a, b) }

tale-push : (v : View) (r : Rec) → length v.tale ≤ length (push v r).tale
tale-push v (Began role terms) = omega arith
tale-push v (Took k) = let h = length_push v.tale k in omega (arith, h)
tale-push v (Made k) = let h = length_push v.tale k in omega (arith, h)
tale-push v (Did op) = omega arith
tale-push v (Chose way) = omega arith
tale-push v Rescue = omega arith

pub grows-record : (h : Half) (r : Rec) → Grows h (after_record h r)
grows-record h r = let k = push-head h.view r in record { terms = k.1; longer = tale-push h.view r }

module _ (role : Role) (f : Funds) (n : ℕ) (more : (h : Half) → Grows h (worked_within n role f h)) where
  on-grows : (h : Half) (op : LedgerOp) (o : Option Answer) → Grows h (worked_on (worked_within n role f) h op o)
  on-grows h op None = grows-none h
  on-grows h op (Some a) = grows-then h _ _ (let k = grows-record h (after_of op a) in record { terms = k.terms; longer = k.longer }) (more _)

  by-grows : (h : Half) (next : Next) → Grows h (worked_by (worked_within n role f) f h next)
  by-grows h (Append r) = grows-then h _ _ (grows-record h r) (more _)
  by-grows h (Act op) = on-grows h op (answer_now f op h.entry)
  by-grows h Wait = grows-none h
  by-grows h Ended = grows-none h

pub work-grows : (n : ℕ) (role : Role) (f : Funds) (h : Half) → Grows h (worked_within n role f h)
work-grows zero role f h = grows-none h
work-grows (suc n) role f h = by-grows role f n (work-grows n role f) h (next_of role h.view)

-- ---- two tales

-- one tale is the other, or longer by one message of the side that it is of
pub data Near (role : Role) (mine peer : List Kind) : Type 0 where
  Equal : mine ≡ peer → Near role mine peer
  Mine : (k : Kind) → maker k ≡ Some role → mine ≡ peer ++ k ∷ [] → Near role mine peer
  Peer : (k : Kind) → maker k ≡ Some (other role) → peer ≡ mine ++ k ∷ [] → Near role mine peer

made-by : (role : Role) (o : Option Role) → o ≡ Some role → (k : Kind) → maker k ≡ o → is_by (other role) (Some k) ≡ false
made-by = λ role o e k h. go role k (h ∙ e)
  where
    go : (role : Role) (k : Kind) → maker k ≡ Some role → is_by (other role) (Some k) ≡ false
    go Origin k e = rw e refl
    go Recipient k e = rw e refl

-- the last message of a tale isn't the other side's
pub not-last : (role : Role) (t : List Kind) (k : Kind) → maker k ≡ Some role → last_by (other role) (t ++ k ∷ []) ≡ false
not-last role t k m = ap (is_by (other role)) (last-push t k) ∙ made-by role (Some role) refl k m

pub is-last : (role : Role) (t : List Kind) (k : Kind) → maker k ≡ Some role → last_by role (t ++ k ∷ []) ≡ true
is-last role t k m = ap (is_by role) (last-push t k) ∙ go role k m
  where
    go : (role : Role) (k : Kind) → maker k ≡ Some role → is_by role (Some k) ≡ true
    go Origin k e = rw e refl
    go Recipient k e = rw e refl

-- A side that took its peer's last message, and says its own last one then, is ahead by that.
pub ahead-by : (role : Role) (mine peer old : List Kind) (k : Kind) → Near role mine peer → peer ≡ old ++ k ∷ [] → maker k ≡ Some (other role) → length peer ≤ length mine → last_by role mine ≡ true
    → (j : Kind) × (mine ≡ peer ++ j ∷ []) × (maker j ≡ Some role)
ahead-by role mine peer old k (Mine j m e) p mk long own = (j, e, m)
ahead-by role mine peer old k (Peer j m e) p mk long own = absurd (let h = length_push mine j in let x = ap length e in omega (arith, h, x, long))
ahead-by role mine peer old k (Equal e) p mk long own = absurd (cc (own, ap (last_by role) (e ∙ p), ap (λ r. last_by r (old ++ k ∷ [])) (twice role), not-last (other role) old k mk))
  where
    twice : (role : Role) → role ≡ other (other role)
    twice Origin = refl
    twice Recipient = refl
