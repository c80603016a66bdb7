-- Each session is counted once.
use Rattle.std.proofs.Common.{◌≡◌, ℕ, suc, ◌+◌, Bool, true, false, List, [], ◌∷◌, length, Option, Some, None, refl, ap, arith}
use Rattle.std.specs.Prelude.{filter, is_some, not, if◌then◌else◌}
use Rattle.satp_base.proofs.Finite.{In}
use Rattle.satp_base.proofs.Finite.In.{here, there}
use Rattle.satp_base.specs.Tales.{is_committed, is_kind, is_rolled_back, is_whole, last_of}
use Rattle.satp_base.specs.declared.message.Kind.{Kind}
use Rattle.satp_base.specs.declared.message.Kind.TheVariants.{TransferComplete, RollbackAck}
use Rattle.satp_base.specs.declared.session.SessionId.{SessionId}
use Rattle.satp_base.specs.declared.view.View.{View}
use Rattle.satp_drill_runs.specs.Reports.{count_of}
use Rattle.satp_sides.specs.Points.{tale_of}

-- one of three holds
pub data IsOneOf (x y z : Bool) : Type 0 where
  First : x ≡ true → y ≡ false → z ≡ false → IsOneOf x y z
  Second : x ≡ false → y ≡ true → z ≡ false → IsOneOf x y z
  Third : x ≡ false → y ≡ false → z ≡ true → IsOneOf x y z

pub count-yes : (test : SessionId → Bool) (s : SessionId) (ss : List SessionId) → test s ≡ true → count_of test (s ∷ ss) ≡ suc (count_of test ss)
count-yes test s ss e = ap (λ (b : Bool). length (if b then s ∷ filter test ss else filter test ss)) e

count-no : (test : SessionId → Bool) (s : SessionId) (ss : List SessionId) → test s ≡ false → count_of test (s ∷ ss) ≡ count_of test ss
count-no test s ss e = ap (λ (b : Bool). length (if b then s ∷ filter test ss else filter test ss)) e

module _ (x y z : SessionId → Bool) where
  one-more : (s : SessionId) (ss : List SessionId) → IsOneOf (x s) (y s) (z s) → count_of x ss + (count_of y ss + count_of z ss) ≡ length ss → count_of x (s ∷ ss) + (count_of y (s ∷ ss) + count_of z (s ∷ ss)) ≡ suc (length ss)
  one-more s ss (First a b c) e = let p = count-yes x s ss a in let q = count-no y s ss b in let r = count-no z s ss c in by _ _ _ _ _ _ (length ss) p q r e
    where
      by : (k l m i j n t : ℕ) → k ≡ suc i → l ≡ j → m ≡ n → i + (j + n) ≡ t → k + (l + m) ≡ suc t
      by k l m i j n t p q r e = omega (arith, p, q, r, e)
  one-more s ss (Second a b c) e = let p = count-no x s ss a in let q = count-yes y s ss b in let r = count-no z s ss c in by _ _ _ _ _ _ (length ss) p q r e
    where
      by : (k l m i j n t : ℕ) → k ≡ i → l ≡ suc j → m ≡ n → i + (j + n) ≡ t → k + (l + m) ≡ suc t
      by k l m i j n t p q r e = omega (arith, p, q, r, e)
  one-more s ss (Third a b c) e = let p = count-no x s ss a in let q = count-no y s ss b in let r = count-yes z s ss c in by _ _ _ _ _ _ (length ss) p q r e
    where
      by : (k l m i j n t : ℕ) → k ≡ i → l ≡ j → m ≡ suc n → i + (j + n) ≡ t → k + (l + m) ≡ suc t
      by k l m i j n t p q r e = omega (arith, p, q, r, e)

  pub sum-of : (ss : List SessionId) → ((s : SessionId) → In s ss → IsOneOf (x s) (y s) (z s)) → count_of x ss + (count_of y ss + count_of z ss) ≡ length ss
  sum-of [] h = refl
  sum-of (s ∷ ss) h = one-more s ss (h s here) (sum-of ss (λ t i. h t (there i)))

-- ---- a session that is begun has a whole tale, which is of one end

apart : (o : Option Kind) → is_kind TransferComplete o ≡ true → is_kind RollbackAck o ≡ false
apart None h = refl
apart (Some TransferComplete) h = refl
apart (Some k) h = absurd (cc h)

by-tale : (t : List Kind) (x y : Bool) → is_committed t ≡ x → is_rolled_back t ≡ y → (if x then true else y) ≡ true → IsOneOf (is_committed t) (is_rolled_back t) false
by-tale t true y e f h = First e (apart (last_of t) e) refl
by-tale t false true e f h = Second e f refl
by-tale t false false e f h = absurd (cc h)

pub sorted : (o : Option View) → (is_some o ≡ true → is_whole (tale_of o) ≡ true) → IsOneOf (is_committed (tale_of o)) (is_rolled_back (tale_of o)) (not (is_some o))
sorted None h = Third refl refl refl
sorted (Some v) h = by-tale v.tale (is_committed v.tale) (is_rolled_back v.tale) refl refl (h refl)
