-- The test of a deal's step decides the step.
use Rattle.std.proofs.Common.{◌≡◌, ◌≢◌, Bool, true, refl, sym, subst, ◌⊎◌, inl, inr}
use Rattle.satp_base.specs.declared.message.Role.{Role}
use Rattle.satp_base.specs.declared.message.Role.TheVariants.{Origin, Recipient}
use Rattle.satp_base.specs.declared.ledger.Entry.{Entry}
use Rattle.satp_base.specs.declared.ledger.Entry.TheVariants.{Absent, Locked, Burnt, Minted, Assigned, Released}
use Rattle.satp_base.specs.Roles.{either, negate}
use Rattle.satp_sides.specs.Halves.{entry_is}
use Rattle.satp_world.specs.Sessions.{GoesOn}
use Rattle.satp_world.specs.Deal.{Deal, Decision, DealStep}
use Rattle.satp_world.specs.Deal.DealStep.{Locks, Mints, Readies, Commits, Origin_backs, Recipient_backs, Burns, Assigns, Origin_releases, Recipient_releases}
use Rattle.satp_base.proofs.Finite.{andthen, same_bool, same_bool-is, andthen-left, andthen-right, orelse-split}
use Rattle.satp_world.proofs.HalfTest.{deal_eq, deal_test, decision_is, steps, some_of}
use Rattle.satp_world.proofs.Logic.{negate-use, either-split}

pub entry-is : (e f : Entry) → entry_is e f ≡ true → e ≡ f
entry-is Absent Absent h = refl
entry-is Locked Locked h = refl
entry-is Burnt Burnt h = refl
entry-is Minted Minted h = refl
entry-is Assigned Assigned h = refl
entry-is Released Released h = refl
entry-is _ _ h = absurd (cc h)

pub decision-is : (v w : Decision) → decision_is v w ≡ true → v ≡ w
decision-is Decision.Open Decision.Open h = refl
decision-is Decision.Commit Decision.Commit h = refl
decision-is Decision.Back Decision.Back h = refl
decision-is _ _ h = absurd (cc h)

not_commit : (v : Decision) → negate (decision_is v Decision.Commit) ≡ true → v ≢ Decision.Commit
not_commit Decision.Open h = λ e. cc e
not_commit Decision.Commit h = absurd (cc h)
not_commit Decision.Back h = λ e. cc e

deal-path : (d c : Deal) → d.a ≡ c.a → d.b ≡ c.b → d.v ≡ c.v → d.ready ≡ c.ready → d ≡ c
deal-path d c p q r s = λ i. record { a = p i; b = q i; v = r i; ready = s i }

pub deal-is : (d c : Deal) → deal_eq d c ≡ true → d ≡ c
deal-is d c h =
    let p = andthen-left (entry_is d.a c.a) (λ _. andthen (entry_is d.b c.b) λ _. andthen (decision_is d.v c.v) λ _. same_bool d.ready c.ready) h in
    let h1 = andthen-right (entry_is d.a c.a) (λ _. andthen (entry_is d.b c.b) λ _. andthen (decision_is d.v c.v) λ _. same_bool d.ready c.ready) h in
    let q = andthen-left (entry_is d.b c.b) (λ _. andthen (decision_is d.v c.v) λ _. same_bool d.ready c.ready) h1 in
    let h2 = andthen-right (entry_is d.b c.b) (λ _. andthen (decision_is d.v c.v) λ _. same_bool d.ready c.ready) h1 in
    let r = andthen-left (decision_is d.v c.v) (λ _. same_bool d.ready c.ready) h2 in
    let s = andthen-right (decision_is d.v c.v) (λ _. same_bool d.ready c.ready) h2 in
    deal-path d c (entry-is _ _ p) (entry-is _ _ q) (decision-is _ _ r) (same_bool-is _ _ s)

entry-either : (e f g : Entry) → either (entry_is e f) (entry_is e g) ≡ true → (e ≡ f) ⊎ (e ≡ g)
entry-either e f g h = elim (either-split (entry_is e f) (entry_is e g) h) [ inl p ↦ inl (entry-is e f p) | inr p ↦ inr (entry-is e g p) ]

-- one tried step: where the deal is the changed one and the rest of the test holds
tried : (role : Role) (d c e : Deal) (more : Unit {0} → Bool) → (more tt ≡ true → DealStep d role e) → andthen (deal_eq c e) more ≡ true → DealStep d role c
tried role d c e more make h = subst (DealStep d role) (sym (deal-is c e (andthen-left (deal_eq c e) more h))) (make (andthen-right (deal_eq c e) more h))

origin-step : (d c : Deal) → some_of (steps Origin d c) ≡ true → DealStep d Origin c
origin-step d c h =
    elim (orelse-split (andthen (deal_eq c (record d { a = Locked })) λ _. andthen (entry_is d.a Absent) λ _. negate (decision_is d.v Decision.Commit)) _ h) [
      | inl p ↦ tried Origin d c (record d { a = Locked }) (λ _. andthen (entry_is d.a Absent) λ _. negate (decision_is d.v Decision.Commit)) (λ q. Locks (entry-is _ _ (andthen-left (entry_is d.a Absent) (λ _. negate (decision_is d.v Decision.Commit)) q)) (not_commit _ (andthen-right (entry_is d.a Absent) (λ _. negate (decision_is d.v Decision.Commit)) q))) p
      | inr h1 ↦ elim (orelse-split (andthen (deal_eq c (record d { v = Decision.Commit })) λ _. andthen (decision_is d.v Decision.Open) λ _. andthen d.ready λ _. entry_is d.a Locked) _ h1) [
        | inl p ↦ tried Origin d c (record d { v = Decision.Commit }) (λ _. andthen (decision_is d.v Decision.Open) λ _. andthen d.ready λ _. entry_is d.a Locked) (λ q. let q1 = andthen-right (decision_is d.v Decision.Open) (λ _. andthen d.ready λ _. entry_is d.a Locked) q in Commits (decision-is _ _ (andthen-left (decision_is d.v Decision.Open) (λ _. andthen d.ready λ _. entry_is d.a Locked) q)) (andthen-left d.ready (λ _. entry_is d.a Locked) q1) (entry-is _ _ (andthen-right d.ready (λ _. entry_is d.a Locked) q1))) p
        | inr h2 ↦ elim (orelse-split (andthen (deal_eq c (record d { v = Decision.Back })) λ _. decision_is d.v Decision.Open) _ h2) [
          | inl p ↦ tried Origin d c (record d { v = Decision.Back }) (λ _. decision_is d.v Decision.Open) (λ q. Origin_backs (decision-is _ _ q)) p
          | inr h3 ↦ elim (orelse-split (andthen (deal_eq c (record d { a = Burnt })) λ _. andthen (decision_is d.v Decision.Commit) λ _. entry_is d.a Locked) _ h3) [
            | inl p ↦ tried Origin d c (record d { a = Burnt }) (λ _. andthen (decision_is d.v Decision.Commit) λ _. entry_is d.a Locked) (λ q. Burns (decision-is _ _ (andthen-left (decision_is d.v Decision.Commit) (λ _. entry_is d.a Locked) q)) (entry-is _ _ (andthen-right (decision_is d.v Decision.Commit) (λ _. entry_is d.a Locked) q))) p
            | inr h4 ↦ elim (orelse-split (andthen (deal_eq c (record d { a = Released })) λ _. andthen (decision_is d.v Decision.Back) λ _. either (entry_is d.a Absent) (entry_is d.a Locked)) _ h4) [
              | inl p ↦ tried Origin d c (record d { a = Released }) (λ _. andthen (decision_is d.v Decision.Back) λ _. either (entry_is d.a Absent) (entry_is d.a Locked)) (λ q. Origin_releases (decision-is _ _ (andthen-left (decision_is d.v Decision.Back) (λ _. either (entry_is d.a Absent) (entry_is d.a Locked)) q)) (entry-either _ _ _ (andthen-right (decision_is d.v Decision.Back) (λ _. either (entry_is d.a Absent) (entry_is d.a Locked)) q))) p
              | inr h5 ↦ absurd (cc h5)
            ]
          ]
        ]
      ]
    ]

recipient-step : (d c : Deal) → some_of (steps Recipient d c) ≡ true → DealStep d Recipient c
recipient-step d c h =
    elim (orelse-split (andthen (deal_eq c (record d { b = Minted })) λ _. andthen (either (entry_is d.a Locked) (entry_is d.a Released)) λ _. entry_is d.b Absent) _ h) [
      | inl p ↦ tried Recipient d c (record d { b = Minted }) (λ _. andthen (either (entry_is d.a Locked) (entry_is d.a Released)) λ _. entry_is d.b Absent) (λ q. Mints (entry-either _ _ _ (andthen-left (either (entry_is d.a Locked) (entry_is d.a Released)) (λ _. entry_is d.b Absent) q)) (entry-is _ _ (andthen-right (either (entry_is d.a Locked) (entry_is d.a Released)) (λ _. entry_is d.b Absent) q))) p
      | inr h1 ↦ elim (orelse-split (andthen (deal_eq c (record d { ready = true })) λ _. entry_is d.b Minted) _ h1) [
        | inl p ↦ tried Recipient d c (record d { ready = true }) (λ _. entry_is d.b Minted) (λ q. Readies (entry-is _ _ q)) p
        | inr h2 ↦ elim (orelse-split (andthen (deal_eq c (record d { v = Decision.Back })) λ _. andthen (decision_is d.v Decision.Open) λ _. negate d.ready) _ h2) [
          | inl p ↦ tried Recipient d c (record d { v = Decision.Back }) (λ _. andthen (decision_is d.v Decision.Open) λ _. negate d.ready) (λ q. Recipient_backs (decision-is _ _ (andthen-left (decision_is d.v Decision.Open) (λ _. negate d.ready) q)) (negate-use _ (andthen-right (decision_is d.v Decision.Open) (λ _. negate d.ready) q))) p
          | inr h3 ↦ elim (orelse-split (andthen (deal_eq c (record d { b = Assigned })) λ _. andthen (entry_is d.a Burnt) λ _. entry_is d.b Minted) _ h3) [
            | inl p ↦ tried Recipient d c (record d { b = Assigned }) (λ _. andthen (entry_is d.a Burnt) λ _. entry_is d.b Minted) (λ q. Assigns (entry-is _ _ (andthen-left (entry_is d.a Burnt) (λ _. entry_is d.b Minted) q)) (entry-is _ _ (andthen-right (entry_is d.a Burnt) (λ _. entry_is d.b Minted) q))) p
            | inr h4 ↦ elim (orelse-split (andthen (deal_eq c (record d { b = Released })) λ _. andthen (decision_is d.v Decision.Back) λ _. either (entry_is d.b Absent) (entry_is d.b Minted)) _ h4) [
              | inl p ↦ tried Recipient d c (record d { b = Released }) (λ _. andthen (decision_is d.v Decision.Back) λ _. either (entry_is d.b Absent) (entry_is d.b Minted)) (λ q. Recipient_releases (decision-is _ _ (andthen-left (decision_is d.v Decision.Back) (λ _. either (entry_is d.b Absent) (entry_is d.b Minted)) q)) (entry-either _ _ _ (andthen-right (decision_is d.v Decision.Back) (λ _. either (entry_is d.b Absent) (entry_is d.b Minted)) q))) p
              | inr h5 ↦ absurd (cc h5)
            ]
          ]
        ]
      ]
    ]

pub goes_on : (role : Role) (d c : Deal) → deal_test role d c ≡ true → GoesOn role d c
goes_on role d c h = elim (orelse-split (deal_eq c d) (λ _. some_of (steps role d c)) h) [ inl p ↦ inl (deal-is c d p) | inr p ↦ inr (by_role role p) ]
  where
    by_role : (r : Role) → some_of (steps r d c) ≡ true → DealStep d r c
    by_role Origin k = origin-step d c k
    by_role Recipient k = recipient-step d c k
