-- The answers of a recovery round by cases, and the same as functions.
use Rattle.std.proofs.Common.{◌≡◌, ◌≢◌, ◌⊎◌, inl, inr, ℕ, zero, suc, ◌+◌, ◌-◌, ◌<◌, ◌≤◌, ◌==◌, Bool, true, false, List, Option, Some, None, Result, Ok, Err, refl, ap, subst, sym, ◌∙◌, arith}
use Rattle.std.specs.Prelude.{nat_lt, min}
use Rattle.std.specs.Str.{bytes_eq}
use Rattle.std.specs.Cmp.Lexicographic.{same_text}
use Rattle.std.proofs.lemmas.Bool.{both_ways, cases_lt, eq-eqb, le-ltb, lt-ltb, ne_eqb}
use Rattle.std.proofs.lemmas.Cmp.{nat_list_eq_equiv}
use Rattle.std.proofs.Math.Nat.{min_comm, min-eq_left}
use Rattle.satp_base.specs.Verdicts.{same_link}
use Rattle.satp_base.specs.declared.head.Head.{Head}
use Rattle.satp_base.specs.declared.message.Link.{Link}
use Rattle.satp_recovery.specs.Rounds.{Agrees, Answers, IsApart, Takes, agree_of, answer_of, take_of}
use Rattle.satp_recovery.specs.Rounds.IsApart.{IsLonger, IsShorter}
use Rattle.satp_recovery.specs.Rounds.Answers.{Apart as answer_apart, OneMore, AsMany as answer_as_many, OneFewer, OtherLast as answer_other, OtherBefore}
use Rattle.satp_recovery.specs.Rounds.Takes.{Apart as take_apart, Adopts, AsMany as take_as_many, Resends, NoneCame, TooMany, NoneWanted}
use Rattle.satp_recovery.specs.Rounds.Agrees.{Apart as agree_apart, Same, OtherLast as agree_other}
use Rattle.satp_recovery.specs.declared.choice.RecoveryFault.{RecoveryFault}
use Rattle.satp_recovery.specs.declared.choice.RecoveryFault.TheVariants.{Longer, Shorter, OtherHash, EntryRefused}
use Rattle.satp_recovery.specs.declared.choice.Step.{Step}
use Rattle.satp_recovery.specs.declared.choice.Step.TheVariants.{Resend, Adopt, Equal}

-- ---- links

link_is : (a b : Link) → same_link a b ≡ true → a ≡ b
link_is a b e = ap (λ (bytes : List ℕ). let l : Link = record { 0 = bytes } in l) (same_text _ _ (sym e))

is_link : (a b : Link) → a ≡ b → same_link a b ≡ true
is_link a b e = subst (λ (l : Link). same_link a l ≡ true) e (nat_list_eq_equiv.refl a.0)

not_link : (a b : Link) → a ≢ b → same_link a b ≡ false
not_link a b n = none (same_link a b) (λ e. n (link_is a b e))
  where
    none : (t : Bool) → (t ≡ true → ⊥) → t ≡ false
    none true k = absurd (k refl)
    none false k = refl

-- ---- what the cases say is what the functions answer

pub answers-by : (h : Head) (n : ℕ) (last : Link) (r : Result ℕ RecoveryFault) → Answers h n last r → r ≡ answer_of h n last
answers-by h n last r (answer_apart fault (IsLonger far)) = rw (lt-ltb (h.length + 1) n far) refl
answers-by h n last r (answer_apart fault (IsShorter far)) = rw (le-ltb (h.length + 1) n (omega (arith, far)), lt-ltb (n + 1) h.length far) refl
answers-by h n last r (OneMore e) = rw (le-ltb (h.length + 1) n (omega (arith, e)), le-ltb (n + 1) h.length (omega (arith, e)), lt-ltb h.length n (omega (arith, e))) (ap Ok (omega (arith, e)))
answers-by h n last r (answer_as_many e same) =
    rw (le-ltb (h.length + 1) n (omega (arith, e)), le-ltb (n + 1) h.length (omega (arith, e)), le-ltb h.length n (omega (arith, e)), eq-eqb n h.length e, is_link last h.last same) (ap Ok (omega (arith, e)))
answers-by h n last r (OneFewer e same) =
    rw (le-ltb (h.length + 1) n (omega (arith, e)), le-ltb (n + 1) h.length (omega (arith, e)), le-ltb h.length n (omega (arith, e)), ne_eqb n h.length (λ k. omega (arith, e, k)), is_link last h.before same) (ap Ok (omega (arith, e)))
answers-by h n last r (answer_other e other) =
    rw (le-ltb (h.length + 1) n (omega (arith, e)), le-ltb (n + 1) h.length (omega (arith, e)), le-ltb h.length n (omega (arith, e)), eq-eqb n h.length e, not_link last h.last other) refl
answers-by h n last r (OtherBefore e other) =
    rw (le-ltb (h.length + 1) n (omega (arith, e)), le-ltb (n + 1) h.length (omega (arith, e)), le-ltb h.length n (omega (arith, e)), ne_eqb n h.length (λ k. omega (arith, e, k)), not_link last h.before other) refl

least-left : (a b : ℕ) → a ≤ b → min a b ≡ a
least-left a b h = min-eq_left h

least-right : (a b : ℕ) → b ≤ a → min a b ≡ b
least-right a b h = min_comm a b ∙ min-eq_left h

refused : (kept given entries right place : ℕ) → min (given - kept) entries ≡ right → place ≡ kept + right + 1 → place ≡ kept + min (given - kept) entries + 1
refused kept given entries right place e is = is ∙ ap (λ (m : ℕ). kept + m + 1) (sym e)

pub takes-by : (h : Head) (n entries : ℕ) (r : Result Step RecoveryFault) → Takes h n entries r → r ≡ take_of h n entries
takes-by h n entries r (take_apart fault (IsLonger far)) = rw (lt-ltb (h.length + 1) n far) refl
takes-by h n entries r (take_apart fault (IsShorter far)) = rw (le-ltb (h.length + 1) n (omega (arith, far)), lt-ltb (n + 1) h.length far) refl
takes-by h n entries r (Adopts e k) =
    rw (le-ltb (h.length + 1) n (omega (arith, e)), le-ltb (n + 1) h.length (omega (arith, e)), lt-ltb h.length n (omega (arith, e)), eq-eqb entries (n - h.length) (omega (arith, e, k))) refl
takes-by h n entries r (take_as_many e k) =
    rw (le-ltb (h.length + 1) n (omega (arith, e)), le-ltb (n + 1) h.length (omega (arith, e)), le-ltb h.length n (omega (arith, e)), eq-eqb n h.length e, eq-eqb entries (n - h.length) (omega (arith, e, k))) refl
takes-by h n entries r (Resends e k) =
    rw (le-ltb (h.length + 1) n (omega (arith, e)), le-ltb (n + 1) h.length (omega (arith, e)), le-ltb h.length n (omega (arith, e)), ne_eqb n h.length (λ same. omega (arith, e, same)), eq-eqb entries (n - h.length) (omega (arith, e, k))) refl
takes-by h n entries r (NoneCame e k) =
    rw (le-ltb (h.length + 1) n (omega (arith, e)), le-ltb (n + 1) h.length (omega (arith, e)), ne_eqb entries (n - h.length) (λ same. omega (arith, e, k, same)))
    (ap (λ (p : ℕ). Err (EntryRefused p)) (refused h.length n entries 0 (h.length + 1) (least-right (n - h.length) entries (omega (arith, k)) ∙ k) (omega arith)))
takes-by h n entries r (TooMany e k) =
    rw (le-ltb (h.length + 1) n (omega (arith, e)), le-ltb (n + 1) h.length (omega (arith, e)), ne_eqb entries (n - h.length) (λ same. omega (arith, e, k, same)))
    (ap (λ (p : ℕ). Err (EntryRefused p)) (refused h.length n entries 1 (h.length + 2) (least-left (n - h.length) entries (omega (arith, e, k)) ∙ omega (arith, e)) (omega arith)))
takes-by h n entries r (NoneWanted e near k) =
    rw (le-ltb (h.length + 1) n (omega (arith, e)), le-ltb (n + 1) h.length (omega (arith, near)), ne_eqb entries (n - h.length) (λ same. omega (arith, e, k, same)))
    (ap (λ (p : ℕ). Err (EntryRefused p)) (refused h.length n entries 0 (h.length + 1) (least-left (n - h.length) entries (omega (arith, e, k)) ∙ omega (arith, e)) (omega arith)))

pub agrees-by : (h : Head) (n : ℕ) (last : Link) (r : Result (Unit {0}) RecoveryFault) → Agrees h n last r → r ≡ agree_of h n last
agrees-by h n last r (agree_apart fault (IsLonger far)) = rw (lt-ltb (h.length + 0) n far) refl
agrees-by h n last r (agree_apart fault (IsShorter far)) = rw (le-ltb (h.length + 0) n (omega (arith, far)), lt-ltb (n + 0) h.length far) refl
agrees-by h n last r (Same e same) = rw (le-ltb (h.length + 0) n (omega (arith, e)), le-ltb (n + 0) h.length (omega (arith, e)), is_link last h.last same) refl
agrees-by h n last r (agree_other e other) = rw (le-ltb (h.length + 0) n (omega (arith, e)), le-ltb (n + 0) h.length (omega (arith, e)), not_link last h.last other) refl

-- ---- each function answers by one of the cases

-- how far apart two lengths are
data IsNear (most kept given : ℕ) : Type 0 where
  Fault : (fault : RecoveryFault) → IsApart most kept given fault → IsNear most kept given
  Near : given ≤ kept + most → kept ≤ given + most → IsNear most kept given

near : (most kept given : ℕ) → IsNear most kept given
near most kept given = elim (cases_lt (kept + most) given) [
  | inl far ↦ Fault _ (IsLonger far)
  | inr close ↦ elim (cases_lt (given + most) kept) [ inl far ↦ Fault _ (IsShorter far) | inr low ↦ Near close low ]
]

links : (a b : Link) → (a ≡ b) ⊎ (a ≢ b)
links a b = decided (same_link a b) refl
  where
    decided : (t : Bool) → same_link a b ≡ t → (a ≡ b) ⊎ (a ≢ b)
    decided true e = inl (link_is a b e)
    decided false e = inr (λ same. both_ways _ e (is_link a b same))

answered : (h : Head) (n : ℕ) (last : Link) → (r : Result ℕ RecoveryFault) × Answers h n last r
answered h n last = by_length (near 1 h.length n)
  where
    by_link : n ≤ h.length → h.length ≤ n + 1 → (n < h.length) ⊎ (h.length ≤ n) → (last ≡ h.last) ⊎ (last ≢ h.last) → (last ≡ h.before) ⊎ (last ≢ h.before) → (r : Result ℕ RecoveryFault) × Answers h n last r
    by_link high low (inl fewer) l (inl same) = (_, OneFewer (omega (arith, low, fewer)) same)
    by_link high low (inl fewer) l (inr other) = (_, OtherBefore (omega (arith, low, fewer)) other)
    by_link high low (inr as_many) (inl same) b = (_, answer_as_many (omega (arith, high, as_many)) same)
    by_link high low (inr as_many) (inr other) b = (_, answer_other (omega (arith, high, as_many)) other)

    by_more : n ≤ h.length + 1 → h.length ≤ n + 1 → (h.length < n) ⊎ (n ≤ h.length) → (r : Result ℕ RecoveryFault) × Answers h n last r
    by_more high low (inl more) = (_, OneMore (omega (arith, high, more)))
    by_more high low (inr within) = by_link within low (cases_lt n h.length) (links last h.last) (links last h.before)

    by_length : IsNear 1 h.length n → (r : Result ℕ RecoveryFault) × Answers h n last r
    by_length (Fault fault apart) = (_, answer_apart fault apart)
    by_length (Near high low) = by_more high low (cases_lt h.length n)

taken : (h : Head) (n entries : ℕ) → (r : Result Step RecoveryFault) × Takes h n entries r
taken h n entries = by_length (near 1 h.length n)
  where
    by_fewer : n ≤ h.length → h.length ≤ n + 1 → entries ≡ 0 → (n < h.length) ⊎ (h.length ≤ n) → (r : Result Step RecoveryFault) × Takes h n entries r
    by_fewer high low none (inl fewer) = (_, Resends (omega (arith, low, fewer)) none)
    by_fewer high low none (inr as_many) = (_, take_as_many (omega (arith, high, as_many)) none)

    by_more : n ≤ h.length + 1 → h.length ≤ n + 1 → (h.length < n) ⊎ (n ≤ h.length) → (0 < entries) ⊎ (entries ≤ 0) → (1 < entries) ⊎ (entries ≤ 1) → (r : Result Step RecoveryFault) × Takes h n entries r
    by_more high low (inl more) (inr none) t = (_, NoneCame (omega (arith, high, more)) (omega (arith, none)))
    by_more high low (inl more) (inl some) (inl many) = (_, TooMany (omega (arith, high, more)) many)
    by_more high low (inl more) (inl some) (inr one) = (_, Adopts (omega (arith, high, more)) (omega (arith, some, one)))
    by_more high low (inr within) (inl some) t = (_, NoneWanted within low some)
    by_more high low (inr within) (inr none) t = by_fewer within low (omega (arith, none)) (cases_lt n h.length)

    by_length : IsNear 1 h.length n → (r : Result Step RecoveryFault) × Takes h n entries r
    by_length (Fault fault apart) = (_, take_apart fault apart)
    by_length (Near high low) = by_more high low (cases_lt h.length n) (cases_lt 0 entries) (cases_lt 1 entries)

agreed : (h : Head) (n : ℕ) (last : Link) → (r : Result (Unit {0}) RecoveryFault) × Agrees h n last r
agreed h n last = by_length (near 0 h.length n) (links last h.last)
  where
    by_length : IsNear 0 h.length n → (last ≡ h.last) ⊎ (last ≢ h.last) → (r : Result (Unit {0}) RecoveryFault) × Agrees h n last r
    by_length (Fault fault apart) l = (_, agree_apart fault apart)
    by_length (Near high low) (inl same) = (_, Same (omega (arith, high, low)) same)
    by_length (Near high low) (inr other) = (_, agree_other (omega (arith, high, low)) other)

pub by-answers : (h : Head) (n : ℕ) (last : Link) (r : Result ℕ RecoveryFault) → r ≡ answer_of h n last → Answers h n last r
by-answers h n last r e = let (s, case) = answered h n last in subst (Answers h n last) (answers-by h n last s case ∙ sym e) case

pub by-takes : (h : Head) (n entries : ℕ) (r : Result Step RecoveryFault) → r ≡ take_of h n entries → Takes h n entries r
by-takes h n entries r e = let (s, case) = taken h n entries in subst (Takes h n entries) (takes-by h n entries s case ∙ sym e) case

pub by-agrees : (h : Head) (n : ℕ) (last : Link) (r : Result (Unit {0}) RecoveryFault) → r ≡ agree_of h n last → Agrees h n last r
by-agrees h n last r e = let (s, case) = agreed h n last in subst (Agrees h n last) (agrees-by h n last s case ∙ sym e) case
