-- The deals that steps lead to from the first one.
use Rattle.std.proofs.Common.{◌≡◌, ◌⊎◌, inl, inr, ℕ, suc, Bool, true, false, List, [], ◌∷◌, refl, sym, subst}
use Rattle.satp_base.specs.declared.ledger.Entry.{Entry}
use Rattle.satp_base.specs.declared.ledger.Entry.TheVariants.{Absent, Locked, Burnt, Minted, Assigned, Released}
use Rattle.satp_base.specs.declared.message.Role.{Role}
use Rattle.satp_base.specs.declared.message.Role.TheVariants.{Origin, Recipient}
use Rattle.satp_base.proofs.Finite.{all_of, any_of, any_of-in, all_of-at, implies, implies-use, In}
use Rattle.satp_base.proofs.Finite.In.{here, there}
use Rattle.satp_world.specs.Deal.{Deal, Decision, DealRun, DealStep, DealWithin, IsDealAmong, LawDeals, all_deals, deal, untouched}
use Rattle.satp_world.specs.Deal.DealRun.{Rests, Goes}
use Rattle.satp_world.specs.Deal.DealStep.{Locks, Mints, Readies, Commits, Origin_backs, Recipient_backs, Burns, Assigns, Origin_releases, Recipient_releases}
use Rattle.satp_world.specs.Deal.DealWithin.{At_first, Later}
use Rattle.satp_world.specs.Deal.IsDealAmong.{Here, There}
use Rattle.satp_world.proofs.HalfTest.{deal_eq}
use Rattle.std.specs.Prelude.{◌≢◌}
use Rattle.satp_base.specs.Roles.{both, either, negate}
use Rattle.satp_sides.specs.Halves.{entry_is}
use Rattle.satp_world.proofs.DealSteps.{deal-is}
use Rattle.satp_world.proofs.HalfTest.{decision_is}
use Rattle.satp_world.proofs.Logic.{both-make, negate-make}

-- ---- the list holds what steps lead to

abbrev among : Deal → Bool
among d = any_of (deal_eq d) all_deals

in-list : (d : Deal) (ds : List Deal) → In d ds → IsDealAmong d ds
in-list d _ here = Here
in-list d _ (there {xs = xs} i) = There (in-list d xs i)

list-in : (d : Deal) (ds : List Deal) → IsDealAmong d ds → In d ds
list-in d _ Here = here
list-in d _ (There {ds = ds} i) = there (list-in d ds i)

among-is : (d : Deal) → among d ≡ true → IsDealAmong d all_deals
among-is d h = let (c, i, e) = any_of-in (deal_eq d) all_deals h in subst (λ x. IsDealAmong x all_deals) (sym (deal-is d c e)) (in-list c all_deals i)

-- where the condition holds of a deal in the list, the changed one is in the list
abbrev closed : (Deal → Bool) → (Deal → Deal) → Deal → Bool
closed condition effect d = implies (condition d) (among (effect d))

stays : (condition : Deal → Bool) (effect : Deal → Deal) → all_of (closed condition effect) all_deals ≡ true → (d : Deal) → IsDealAmong d all_deals → condition d ≡ true → IsDealAmong (effect d) all_deals
stays condition effect all d i h = among-is (effect d) (implies-use _ _ (all_of-at (closed condition effect) (list-in d all_deals i) all) h)

same : (e f : Entry) → e ≡ f → entry_is e f ≡ true
same e f p = subst (λ x. entry_is x f ≡ true) (sym p) (self f)
  where
    self : (x : Entry) → entry_is x x ≡ true
    self = elim [ Absent ↦ refl | Locked ↦ refl | Burnt ↦ refl | Minted ↦ refl | Assigned ↦ refl | Released ↦ refl ]

same-way : (v w : Decision) → v ≡ w → decision_is v w ≡ true
same-way v w p = subst (λ x. decision_is x w ≡ true) (sym p) (self w)
  where
    self : (x : Decision) → decision_is x x ≡ true
    self = elim [ Decision.Open ↦ refl | Decision.Commit ↦ refl | Decision.Back ↦ refl ]

not-commit : (v : Decision) → v ≢ Decision.Commit → negate (decision_is v Decision.Commit) ≡ true
not-commit Decision.Open h = refl
not-commit Decision.Commit h = absurd (h refl)
not-commit Decision.Back h = refl

one-of : (e f g : Entry) → (e ≡ f) ⊎ (e ≡ g) → either (entry_is e f) (entry_is e g) ≡ true
one-of e f g (inl p) = subst (λ b. either b (entry_is e g) ≡ true) (sym (same e f p)) refl
one-of e f g (inr p) = right (entry_is e f) (same e g p)
  where
    right : (b : Bool) → entry_is e g ≡ true → either b (entry_is e g) ≡ true
    right true h = refl
    right false h = h

step-stays : (d e : Deal) (role : Role) → IsDealAmong d all_deals → DealStep d role e → IsDealAmong e all_deals
step-stays d _ _ i (Locks a v) = stays (λ c. both (entry_is c.a Absent) (negate (decision_is c.v Decision.Commit))) (λ c. record c { a = Locked }) refl d i (both-make _ _ (same _ _ a) (not-commit _ v))
step-stays d _ _ i (Mints a b) = stays (λ c. both (either (entry_is c.a Locked) (entry_is c.a Released)) (entry_is c.b Absent)) (λ c. record c { b = Minted }) refl d i (both-make _ _ (one-of _ _ _ a) (same _ _ b))
step-stays d _ _ i (Readies b) = stays (λ c. entry_is c.b Minted) (λ c. record c { ready = true }) refl d i (same _ _ b)
step-stays d _ _ i (Commits v ready a) =
    stays (λ c. both (decision_is c.v Decision.Open) (both c.ready (entry_is c.a Locked))) (λ c. record c { v = Decision.Commit }) refl d i (both-make _ _ (same-way _ _ v) (both-make _ _ ready (same _ _ a)))
step-stays d _ _ i (Origin_backs v) = stays (λ c. decision_is c.v Decision.Open) (λ c. record c { v = Decision.Back }) refl d i (same-way _ _ v)
step-stays d _ _ i (Recipient_backs v ready) = stays (λ c. both (decision_is c.v Decision.Open) (negate c.ready)) (λ c. record c { v = Decision.Back }) refl d i (both-make _ _ (same-way _ _ v) (negate-make _ ready))
step-stays d _ _ i (Burns v a) = stays (λ c. both (decision_is c.v Decision.Commit) (entry_is c.a Locked)) (λ c. record c { a = Burnt }) refl d i (both-make _ _ (same-way _ _ v) (same _ _ a))
step-stays d _ _ i (Assigns a b) = stays (λ c. both (entry_is c.a Burnt) (entry_is c.b Minted)) (λ c. record c { b = Assigned }) refl d i (both-make _ _ (same _ _ a) (same _ _ b))
step-stays d _ _ i (Origin_releases v a) =
    stays (λ c. both (decision_is c.v Decision.Back) (either (entry_is c.a Absent) (entry_is c.a Locked))) (λ c. record c { a = Released }) refl d i (both-make _ _ (same-way _ _ v) (one-of _ _ _ a))
step-stays d _ _ i (Recipient_releases v b) =
    stays (λ c. both (decision_is c.v Decision.Back) (either (entry_is c.b Absent) (entry_is c.b Minted))) (λ c. record c { b = Released }) refl d i (both-make _ _ (same-way _ _ v) (one-of _ _ _ b))

run-among : (d : Deal) → DealRun untouched d → IsDealAmong d all_deals
run-among _ Rests = Here
run-among d (Goes c _ role r s) = step-stays c d role (run-among c r) s

-- ---- and steps lead to each of them

module _ (n : ℕ) where
  lock : DealWithin (suc n) (deal Locked Absent Decision.Open false)
  lock = Later n untouched _ Origin (At_first n) (Locks refl (λ e. cc e))

  mint : DealWithin (suc (suc n)) (deal Locked Minted Decision.Open false)
  mint = Later (suc n) _ _ Recipient lock (Mints (inl refl) refl)

  make_ready : DealWithin (suc (suc (suc n))) (deal Locked Minted Decision.Open true)
  make_ready = Later (suc (suc n)) _ _ Recipient mint (Readies refl)

  commit : DealWithin (suc (suc (suc (suc n)))) (deal Locked Minted Decision.Commit true)
  commit = Later (suc (suc (suc n))) _ _ Origin make_ready (Commits refl refl refl)

  burn : DealWithin (suc (suc (suc (suc (suc n))))) (deal Burnt Minted Decision.Commit true)
  burn = Later (suc (suc (suc (suc n)))) _ _ Origin commit (Burns refl refl)

  assign : DealWithin (suc (suc (suc (suc (suc (suc n)))))) (deal Burnt Assigned Decision.Commit true)
  assign = Later (suc (suc (suc (suc (suc n))))) _ _ Recipient burn (Assigns refl refl)

  back : DealWithin (suc n) (deal Absent Absent Decision.Back false)
  back = Later n untouched _ Origin (At_first n) (Origin_backs refl)

  back_lock : DealWithin (suc (suc n)) (deal Locked Absent Decision.Back false)
  back_lock = Later (suc n) _ _ Origin lock (Origin_backs refl)

  back_mint : DealWithin (suc (suc (suc n))) (deal Locked Minted Decision.Back false)
  back_mint = Later (suc (suc n)) _ _ Origin mint (Origin_backs refl)

  back_ready : DealWithin (suc (suc (suc (suc n)))) (deal Locked Minted Decision.Back true)
  back_ready = Later (suc (suc (suc n))) _ _ Origin make_ready (Origin_backs refl)

abbrev Each : List Deal → Type 0
Each [] = Unit {0}
Each (d ∷ ds) = DealWithin 6 d × Each ds

each-at : (d : Deal) (ds : List Deal) → Each ds → IsDealAmong d ds → DealWithin 6 d
each-at d _ h Here = h.0
each-at d _ h (There {ds = ds} i) = each-at d ds h.1 i

each : Each all_deals
each = (
  At_first 6,
  (
    lock 5,
    (
      mint 4,
      (
        make_ready 3,
        (
          commit 2,
          (
            burn 1,
            (
              assign 0,
              (
                back 5,
                (
                  Later 5 _ _ Recipient (back 4) (Recipient_releases refl (inl refl)),
                  (
                    back_lock 4,
                    (
                      back_mint 3,
                      (
                        back_ready 2,
                        (
                          Later 5 _ _ Recipient (back_mint 2) (Recipient_releases refl (inr refl)),
                          (
                            Later 5 _ _ Recipient (back_ready 1) (Recipient_releases refl (inr refl)),
                            (
                              Later 5 _ _ Origin (back 4) (Origin_releases refl (inl refl)),
                              (
                                Later 5 _ _ Origin (back_mint 2) (Origin_releases refl (inr refl)),
                                (
                                  Later 5 _ _ Origin (back_ready 1) (Origin_releases refl (inr refl)),
                                  (
                                    Later 5 _ _ Recipient (Later 4 _ _ Origin (back_mint 1) (Origin_releases refl (inr refl))) (Recipient_releases refl (inr refl)),
                                    (
                                      Later 5 _ _ Recipient (Later 4 _ _ Origin (back_ready 0) (Origin_releases refl (inr refl))) (Recipient_releases refl (inr refl)),
                                      tt,
                                    ),
                                  ),
                                ),
                              ),
                            ),
                          ),
                        ),
                      ),
                    ),
                  ),
                ),
              ),
            ),
          ),
        ),
      ),
    ),
  ),
)

within-run : (n : ℕ) (d : Deal) → DealWithin n d → DealRun untouched d
within-run _ _ (At_first n) = Rests
within-run _ d (Later n c _ role w s) = Goes c d role (within-run n c w) s

pub law_deals : LawDeals
law_deals = (λ d. (run-among d, λ i. within-run 6 d (each-at d all_deals each i)), λ d i. each-at d all_deals each i)
