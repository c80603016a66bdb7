-- The tales as a list, and how each goes on.
use Rattle.std.proofs.Common.{◌≡◌, ℕ, zero, suc, ◌+◌, ◌*◌, ◌<◌, ◌≤◌, nat_le, Bool, true, false, List, [], ◌∷◌, ◌++◌, take, length, refl, sym, subst, ◌∙◌, arith, inl, inr}
use Rattle.std.proofs.lemmas.Bool.Decides.{nat_tests}
use Rattle.satp_base.specs.declared.message.Kind.{Kind}
use Rattle.satp_base.specs.declared.message.Kind.TheVariants.{TransferProposal, ProposalReceipt, TransferCommence, CommenceAck, LockAssert, LockReceipt, CommitPrepare, CommitReady, CommitFinal, CommitFinalAck, TransferComplete, Reject, Rollback, RollbackAck, Recover, RecoverUpdate, RecoverSuccess}
use Rattle.satp_base.specs.Tales.{IsTale, comes_behind, eleven, kind_eq, last_of}
use Rattle.satp_base.specs.Tales.IsTale.{Onward, Rolling, Rejecting}
use Rattle.satp_base.proofs.Finite.{andthen, same_bool, all_of, any_of, bind, In, andthen-left, andthen-right, andthen-make, same_bool-is, all_of-at, any_of-in, In-append, from_bind, one_is}
use Rattle.satp_base.proofs.Finite.In.{here, there}

abbrev pub all_kinds : List Kind
all_kinds = TransferProposal ∷ ProposalReceipt ∷ TransferCommence ∷ CommenceAck ∷ LockAssert ∷ LockReceipt ∷ CommitPrepare ∷ CommitReady ∷ CommitFinal ∷ CommitFinalAck ∷ TransferComplete ∷ Reject ∷ Rollback ∷ RollbackAck ∷ Recover ∷ RecoverUpdate ∷ RecoverSuccess ∷ []

abbrev pub rolling : ℕ → ℕ → List Kind
rolling k m = take (2 * k + 2) eleven ++ take m (Rollback ∷ RollbackAck ∷ [])

abbrev pub rejecting : ℕ → ℕ → List Kind
rejecting k m = take (2 * k + 1) eleven ++ take m (Reject ∷ Rollback ∷ RollbackAck ∷ [])

abbrev upto11 : List ℕ
upto11 = 1 ∷ 2 ∷ 3 ∷ 4 ∷ 5 ∷ 6 ∷ 7 ∷ 8 ∷ 9 ∷ 10 ∷ 11 ∷ []

abbrev below4 : List ℕ
below4 = 0 ∷ 1 ∷ 2 ∷ 3 ∷ []

abbrev onward_tales : List (List Kind)
onward_tales = bind (1 ∷ 2 ∷ 3 ∷ 4 ∷ 5 ∷ 6 ∷ 7 ∷ 8 ∷ 9 ∷ 10 ∷ 11 ∷ []) (λ n. take n eleven ∷ [])

abbrev rolling_tales : List (List Kind)
rolling_tales = bind (0 ∷ 1 ∷ 2 ∷ 3 ∷ []) (λ k. bind (1 ∷ 2 ∷ []) (λ m. rolling k m ∷ []))

abbrev rejecting_tales : List (List Kind)
rejecting_tales = bind (0 ∷ 1 ∷ 2 ∷ 3 ∷ []) (λ k. bind (1 ∷ 2 ∷ 3 ∷ []) (λ m. rejecting k m ∷ []))

-- the tales of at least one kind
abbrev pub begun_tales : List (List Kind)
begun_tales = ◌++◌ onward_tales (◌++◌ rolling_tales rejecting_tales)

abbrev pub tales : List (List Kind)
tales = [] ∷ begun_tales

abbrev pub tale_eq : List Kind → List Kind → Bool
tale_eq [] [] = true
tale_eq [] (k ∷ t) = false
tale_eq (k ∷ t) [] = false
tale_eq (k ∷ t) (j ∷ u) = andthen (kind_eq k j) (λ _. tale_eq t u)

abbrev pub is_tale : List Kind → Bool
is_tale t = any_of (tale_eq t) tales

-- ---- equal kinds and tales

pub kind_eq-is : (k j : Kind) → kind_eq k j ≡ true → k ≡ j
kind_eq-is TransferProposal TransferProposal h = refl
kind_eq-is ProposalReceipt ProposalReceipt h = refl
kind_eq-is TransferCommence TransferCommence h = refl
kind_eq-is CommenceAck CommenceAck h = refl
kind_eq-is LockAssert LockAssert h = refl
kind_eq-is LockReceipt LockReceipt h = refl
kind_eq-is CommitPrepare CommitPrepare h = refl
kind_eq-is CommitReady CommitReady h = refl
kind_eq-is CommitFinal CommitFinal h = refl
kind_eq-is CommitFinalAck CommitFinalAck h = refl
kind_eq-is TransferComplete TransferComplete h = refl
kind_eq-is Reject Reject h = refl
kind_eq-is Rollback Rollback h = refl
kind_eq-is RollbackAck RollbackAck h = refl
kind_eq-is Recover Recover h = refl
kind_eq-is RecoverUpdate RecoverUpdate h = refl
kind_eq-is RecoverSuccess RecoverSuccess h = refl
kind_eq-is _ _ h = absurd (cc h)

pub kind_eq-refl : (k : Kind) → kind_eq k k ≡ true
kind_eq-refl = elim [ TransferProposal ↦ refl | ProposalReceipt ↦ refl | TransferCommence ↦ refl | CommenceAck ↦ refl | LockAssert ↦ refl | LockReceipt ↦ refl | CommitPrepare ↦ refl | CommitReady ↦ refl | CommitFinal ↦ refl | CommitFinalAck ↦ refl | TransferComplete ↦ refl | Reject ↦ refl | Rollback ↦ refl | RollbackAck ↦ refl | Recover ↦ refl | RecoverUpdate ↦ refl | RecoverSuccess ↦ refl ]

pub tale_eq-is : (t u : List Kind) → tale_eq t u ≡ true → t ≡ u
tale_eq-is [] [] h = refl
tale_eq-is [] (k ∷ u) h = absurd (cc h)
tale_eq-is (k ∷ t) [] h = absurd (cc h)
tale_eq-is (k ∷ t) (j ∷ u) h = cc (kind_eq-is k j (andthen-left (kind_eq k j) (λ _. tale_eq t u) h), tale_eq-is t u (andthen-right (kind_eq k j) (λ _. tale_eq t u) h))

pub tale_eq-refl : (t : List Kind) → tale_eq t t ≡ true
tale_eq-refl [] = refl
tale_eq-refl (k ∷ t) = andthen-make (kind_eq k k) (λ _. tale_eq t t) (kind_eq-refl k) (tale_eq-refl t)

pub in_all_kinds : (k : Kind) → In k all_kinds
in_all_kinds k = found k (all-found k)
  where
    found : (k : Kind) → any_of (kind_eq k) all_kinds ≡ true → In k all_kinds
    found k h = let (j, i, e) = any_of-in (kind_eq k) all_kinds h in subst (λ v. In v all_kinds) (sym (kind_eq-is k j e)) i

    all-found : (k : Kind) → any_of (kind_eq k) all_kinds ≡ true
    all-found = elim [ TransferProposal ↦ refl | ProposalReceipt ↦ refl | TransferCommence ↦ refl | CommenceAck ↦ refl | LockAssert ↦ refl | LockReceipt ↦ refl | CommitPrepare ↦ refl | CommitReady ↦ refl | CommitFinal ↦ refl | CommitFinalAck ↦ refl | TransferComplete ↦ refl | Reject ↦ refl | Rollback ↦ refl | RollbackAck ↦ refl | Recover ↦ refl | RecoverUpdate ↦ refl | RecoverSuccess ↦ refl ]

-- ---- the list holds the tales, and no other list

is_tale-in : (t : List Kind) → is_tale t ≡ true → In t tales
is_tale-in t h = let (u, i, e) = any_of-in (tale_eq t) tales h in subst (λ v. In v tales) (sym (tale_eq-is t u e)) i

onward : (n : ℕ) → n ≤ 11 → is_tale (take n eleven) ≡ true
onward zero h = refl
onward (suc zero) h = refl
onward (suc (suc zero)) h = refl
onward (suc (suc (suc zero))) h = refl
onward (suc (suc (suc (suc zero)))) h = refl
onward (suc (suc (suc (suc (suc zero))))) h = refl
onward (suc (suc (suc (suc (suc (suc zero)))))) h = refl
onward (suc (suc (suc (suc (suc (suc (suc zero))))))) h = refl
onward (suc (suc (suc (suc (suc (suc (suc (suc zero)))))))) h = refl
onward (suc (suc (suc (suc (suc (suc (suc (suc (suc zero))))))))) h = refl
onward (suc (suc (suc (suc (suc (suc (suc (suc (suc (suc zero)))))))))) h = refl
onward (suc (suc (suc (suc (suc (suc (suc (suc (suc (suc (suc zero))))))))))) h = refl
onward (suc (suc (suc (suc (suc (suc (suc (suc (suc (suc (suc (suc n)))))))))))) h = absurd (omega arith)

in_below4 : (k : ℕ) → k < 4 → In k below4
in_below4 zero h = here
in_below4 (suc zero) h = there here
in_below4 (suc (suc zero)) h = there (there here)
in_below4 (suc (suc (suc zero))) h = there (there (there here))
in_below4 (suc (suc (suc (suc k)))) h = absurd (omega arith)

rolls : all_of (λ k. all_of (λ m. is_tale (rolling k m)) (0 ∷ 1 ∷ 2 ∷ [])) below4 ≡ true
rolls = refl

rejects : all_of (λ k. all_of (λ m. is_tale (rejecting k m)) below4) below4 ≡ true
rejects = refl

in_upto2 : (m : ℕ) → m ≤ 2 → In m (0 ∷ 1 ∷ 2 ∷ [])
in_upto2 zero h = here
in_upto2 (suc zero) h = there here
in_upto2 (suc (suc zero)) h = there (there here)
in_upto2 (suc (suc (suc m))) h = absurd (omega arith)

IsTale-is_tale : (t : List Kind) → IsTale t → is_tale t ≡ true
IsTale-is_tale _ (Onward n h) = onward n h
IsTale-is_tale _ (Rolling k m h g) = all_of-at (λ m. is_tale (rolling k m)) (in_upto2 m g) (all_of-at (λ k. all_of (λ m. is_tale (rolling k m)) (0 ∷ 1 ∷ 2 ∷ [])) (in_below4 k h) rolls)
IsTale-is_tale _ (Rejecting k m h g) = all_of-at (λ m. is_tale (rejecting k m)) (in_below4 m (omega arith)) (all_of-at (λ k. all_of (λ m. is_tale (rejecting k m)) below4) (in_below4 k h) rejects)

pub tale-in : (t : List Kind) → IsTale t → In t tales
tale-in t h = is_tale-in t (IsTale-is_tale t h)

le-of : (m n : ℕ) → nat_le m n ≡ true → m ≤ n
le-of m n h = grind (arith, nat_tests)

begun-is : (t : List Kind) → In t begun_tales → IsTale t
begun-is t i =
    elim (In-append onward_tales i) [
      | inl j ↦
          (let (n, k, l) = from_bind (λ n. take n eleven ∷ []) upto11 j in
          subst IsTale (sym (one_is l)) (Onward n (le-of n 11 (all_of-at (λ n. nat_le n 11) k refl))))
      | inr j ↦ elim (In-append rolling_tales j) [
        | inl j' ↦
            (let (k, a, r) = from_bind (λ k. bind (1 ∷ 2 ∷ []) (λ m. rolling k m ∷ [])) below4 j' in
            let (m, b, l) = from_bind (λ m. rolling k m ∷ []) (1 ∷ 2 ∷ []) r in
            subst IsTale (sym (one_is l)) (Rolling k m (le-of (suc k) 4 (all_of-at (λ k. nat_le (suc k) 4) a refl)) (le-of m 2 (all_of-at (λ m. nat_le m 2) b refl))))
        | inr j' ↦
            (let (k, a, r) = from_bind (λ k. bind (1 ∷ 2 ∷ 3 ∷ []) (λ m. rejecting k m ∷ [])) below4 j' in
            let (m, b, l) = from_bind (λ m. rejecting k m ∷ []) (1 ∷ 2 ∷ 3 ∷ []) r in
            subst IsTale (sym (one_is l)) (Rejecting k m (le-of (suc k) 4 (all_of-at (λ k. nat_le (suc k) 4) a refl)) (le-of m 3 (all_of-at (λ m. nat_le m 3) b refl))))
      ]
    ]

pub tale-is : (t : List Kind) → In t tales → IsTale t
tale-is t here = Onward 0 (le-of 0 11 refl)
tale-is t (there i) = begun-is t i

-- ---- which kinds a tale goes on by

goes_on : all_of (λ t. all_of (λ k. same_bool (comes_behind (last_of t) k) (is_tale (t ++ k ∷ []))) all_kinds) tales ≡ true
goes_on = refl

-- a tale goes on by a kind exactly where the kind may come behind its last one
goes_on-at : (t : List Kind) (k : Kind) → IsTale t → comes_behind (last_of t) k ≡ is_tale (t ++ k ∷ [])
goes_on-at t k h = same_bool-is _ _ (all_of-at (λ k. same_bool (comes_behind (last_of t) k) (is_tale (t ++ k ∷ []))) (in_all_kinds k) (all_of-at (λ t. all_of (λ k. same_bool (comes_behind (last_of t) k) (is_tale (t ++ k ∷ []))) all_kinds) (tale-in t h) goes_on))

pub extends-is : (t : List Kind) (k : Kind) → IsTale t → comes_behind (last_of t) k ≡ true → IsTale (t ++ k ∷ [])
extends-is t k h e = tale-is (t ++ k ∷ []) (is_tale-in (t ++ k ∷ []) (sym (goes_on-at t k h) ∙ e))

pub extends-by : (t : List Kind) (k : Kind) → IsTale t → IsTale (t ++ k ∷ []) → comes_behind (last_of t) k ≡ true
extends-by t k h e = goes_on-at t k h ∙ IsTale-is_tale (t ++ k ∷ []) e

short : all_of (λ t. nat_le (length t) 11) tales ≡ true
short = refl

pub tale-short : (t : List Kind) → IsTale t → length t ≤ 11
tale-short t h = le-of (length t) 11 (all_of-at (λ t. nat_le (length t) 11) (tale-in t h) short)
