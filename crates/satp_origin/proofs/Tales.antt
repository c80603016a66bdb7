-- The rule keeps a tale a tale: what the table gives, by the last kind and what was decided.
use Rattle.std.proofs.Common.{◌≡◌, Bool, true, false, List, [], ◌∷◌, ◌++◌, Option, Some, None, refl, sym, ap, subst, ◌∙◌, ◌⊎◌, inl, inr, if◌then◌else◌}
use Rattle.satp_base.specs.declared.message.Kind.{Kind}
use Rattle.satp_base.specs.declared.message.Kind.TheVariants.{TransferProposal, ProposalReceipt, TransferCommence, CommenceAck, LockAssert, LockReceipt, CommitPrepare, CommitReady, CommitFinal, CommitFinalAck, TransferComplete, Reject, Rollback, RollbackAck}
use Rattle.satp_base.specs.declared.message.Role.TheVariants.{Origin, Recipient}
use Rattle.satp_base.specs.declared.message.Terms.{Terms}
use Rattle.satp_base.specs.declared.ledger.LedgerOp.TheVariants.{Lock, Burn, Release}
use Rattle.satp_base.specs.declared.record.Cause.{Cause}
use Rattle.satp_base.specs.declared.record.Cause.TheVariants.{Aborted, LockRefused, Rejected, Rescued}
use Rattle.satp_base.specs.declared.record.Way.{Way}
use Rattle.satp_base.specs.declared.record.Way.TheVariants.{Commit, Back}
use Rattle.satp_base.specs.declared.record.Rec.{Rec}
use Rattle.satp_base.specs.declared.record.Rec.TheVariants.{Began, Took, Made, Did, Chose, Rescue}
use Rattle.satp_base.specs.declared.record.Next.{Next}
use Rattle.satp_base.specs.declared.record.Next.TheVariants.{Append, Act, Wait, Ended}
use Rattle.satp_base.specs.declared.view.View.{View}
use Rattle.satp_base.specs.Tales.{IsTale, comes_behind, has, kind_eq, is_kind, is_by, last_of, last_is, maker}
use Rattle.satp_base.specs.Views.{KeepsTale, begin, push, view_from}
use Rattle.satp_base.specs.Roles.{AreAllowed, LawTales, RoleRule, both, either, first_line, is_back, is_commit, line, negate, next_of, no_way}
use Rattle.satp_base.proofs.Finite.{In, all_of, bind, implies, all_of-at, implies-use, In-bind}
use Rattle.satp_base.proofs.Finite.In.{here, there}
use Rattle.satp_base.proofs.TaleTable.{all_kinds, tales, in_all_kinds, tale-in, tale-is, extends-is}
use Rattle.satp_origin.proofs.Rule.{MayCome, may-come}

-- ---- the table by what it looks at

abbrev table_by : Option Kind → Option Way → Bool → Bool → Bool → Bool → Next
table_by last way release burn lock rescue =
    first_line (
    line (if is_kind TransferComplete last then true else is_kind RollbackAck last) Ended
    ∷ line (both (is_back way) (negate release)) (Act Release)
    ∷ line (both (is_back way) (is_by Recipient last)) (Append (Made Rollback))
    ∷ line (both (is_commit way) (both (is_kind CommitReady last) (negate burn))) (Act Burn)
    ∷ line (both (is_commit way) (is_kind CommitReady last)) (Append (Made CommitFinal))
    ∷ line (is_kind CommitFinalAck last) (Append (Made TransferComplete))
    ∷ line (both (no_way way) (is_kind Reject last)) (Append (Chose (Back Rejected)))
    ∷ line (both (no_way way) (is_kind CommitReady last)) (Append (Chose Commit))
    ∷ line (both (no_way way) (both (is_by Recipient last) rescue)) (Append (Chose (Back Rescued)))
    ∷ line (is_kind ProposalReceipt last) (Append (Made TransferCommence))
    ∷ line (both (is_kind CommenceAck last) (negate lock)) (Act Lock)
    ∷ line (is_kind CommenceAck last) (Append (Made LockAssert))
    ∷ line (is_kind LockReceipt last) (Append (Made CommitPrepare))
    ∷ [])

-- What is made may come behind the last kind, where no way back stands behind commit-final; commit-final is made on the
-- way to a commit alone; a decision is made where there is none; Commit behind commit-ready, and a lock is due behind
-- commence-ack.
abbrev next_fits : Option Kind → Option Way → Next → Bool
next_fits last way (Append (Made kind)) = implies (negate (both (is_back way) (is_kind CommitFinalAck last))) (both (comes_behind last kind) (implies (kind_eq CommitFinal kind) (is_commit way)))
next_fits last way (Append (Chose Commit)) = is_kind CommitReady last
next_fits last way (Append (Chose (Back cause))) = no_way way
next_fits last way (Act Lock) = is_kind CommenceAck last
next_fits last way _ = true

abbrev bools : List Bool
bools = true ∷ false ∷ []

abbrev lasts : List (Option Kind)
lasts = None ∷ bind all_kinds (λ k. Some k ∷ [])

all_fit : (way : Option Way) → all_of (λ last. all_of (λ release. all_of (λ burn. all_of (λ lock. all_of (λ rescue. next_fits last way (table_by last way release burn lock rescue)) bools) bools) bools) bools) lasts ≡ true
all_fit None = refl
all_fit (Some Commit) = refl
all_fit (Some (Back cause)) = refl

in_bools : (b : Bool) → In b bools
in_bools true = here
in_bools false = there here

in_lasts : (last : Option Kind) → In last lasts
in_lasts None = here
in_lasts (Some k) = there (In-bind (λ k. Some k ∷ []) (in_all_kinds k) here)

fits : (last : Option Kind) (way : Option Way) (release burn lock rescue : Bool) → next_fits last way (table_by last way release burn lock rescue) ≡ true
fits last way release burn lock rescue =
    all_of-at (λ rescue. next_fits last way (table_by last way release burn lock rescue)) (in_bools rescue)
    (all_of-at (λ lock. all_of (λ rescue. next_fits last way (table_by last way release burn lock rescue)) bools) (in_bools lock)
    (all_of-at (λ burn. all_of (λ lock. all_of (λ rescue. next_fits last way (table_by last way release burn lock rescue)) bools) bools) (in_bools burn)
    (all_of-at (λ release. all_of (λ burn. all_of (λ lock. all_of (λ rescue. next_fits last way (table_by last way release burn lock rescue)) bools) bools) bools) (in_bools release)
    (all_of-at (λ last. all_of (λ release. all_of (λ burn. all_of (λ lock. all_of (λ rescue. next_fits last way (table_by last way release burn lock rescue)) bools) bools) bools) bools) (in_lasts last) (all_fit way)))))

next-fits : (v : View) → next_fits (last_of v.tale) v.way (next_of Origin v) ≡ true
next-fits v = fits (last_of v.tale) v.way v.done.release v.done.burn v.done.lock v.rescue

-- ---- kinds that stand in a tale

-- a kind in a longer tale is the last one, or stood there before
has-behind : (k j : Kind) (t : List Kind) → has k (t ++ j ∷ []) ≡ true → (has k t ≡ true) ⊎ (kind_eq k j ≡ true)
has-behind k j [] h = inr (alone (kind_eq k j) h)
  where
    alone : (b : Bool) → (if b then true else false) ≡ true → b ≡ true
    alone true h = refl
    alone false h = h
has-behind k j (i ∷ t) h = go (kind_eq k i) h (has-behind k j t)
  where
    go : (b : Bool) → (if b then true else has k (t ++ j ∷ [])) ≡ true → (has k (t ++ j ∷ []) ≡ true → (has k t ≡ true) ⊎ (kind_eq k j ≡ true)) → ((if b then true else has k t) ≡ true) ⊎ (kind_eq k j ≡ true)
    go true h f = inl refl
    go false h f = f h

has-more : (k : Kind) (t u : List Kind) → has k t ≡ true → has k (t ++ u) ≡ true
has-more k [] u h = absurd (cc h)
has-more k (j ∷ t) u h = go (kind_eq k j) h (has-more k t u)
  where
    go : (b : Bool) → (if b then true else has k t) ≡ true → (has k t ≡ true → has k (t ++ u) ≡ true) → (if b then true else has k (t ++ u)) ≡ true
    go true h f = refl
    go false h f = f h

final_test : all_of (λ t. implies (last_is CommitFinalAck t) (has CommitFinal t)) tales ≡ true
final_test = refl

ack_test : all_of (λ t. implies (last_is CommenceAck t) (negate (has CommitFinal t))) tales ≡ true
ack_test = refl

ready_test : all_of (λ t. implies (last_is CommitReady t) (has CommitReady t)) tales ≡ true
ready_test = refl

not-true : (b : Bool) → negate b ≡ true → b ≡ false
not-true true h = absurd (cc h)
not-true false h = refl

to-not : (b : Bool) → b ≡ false → negate b ≡ true
to-not true h = absurd (cc h)
to-not false h = refl

-- the recipient's kinds aren't commit-final
not_final : (k : Kind) → maker k ≡ Some Recipient → kind_eq CommitFinal k ≡ true → ⊥
not_final CommitFinal h e = cc h
not_final _ h e = cc e

-- ---- what holds behind any list of allowed records

pub record Keeps (v : View) : Type 0 where
  pub tale : IsTale v.tale
  pub final : has CommitFinal v.tale ≡ true → is_commit v.way ≡ true
  pub ready : is_commit v.way ≡ true → has CommitReady v.tale ≡ true

not_both : (way : Option Way) → is_commit way ≡ true → is_back way ≡ true → ⊥
not_both None p q = cc p
not_both (Some Commit) p q = cc q
not_both (Some (Back cause)) p q = cc p

undecided : (way : Option Way) → no_way way ≡ true → is_commit way ≡ true → ⊥
undecided None p q = cc q
undecided (Some w) p q = cc p

-- no way back stands behind commit-final
not_acked : (v : View) → Keeps v → both (is_back v.way) (is_kind CommitFinalAck (last_of v.tale)) ≡ false
not_acked v k = go (is_back v.way) (is_kind CommitFinalAck (last_of v.tale)) refl refl
  where
    go : (b c : Bool) → is_back v.way ≡ b → is_kind CommitFinalAck (last_of v.tale) ≡ c → both b c ≡ false
    go false c p q = refl
    go true false p q = refl
    go true true p q = absurd (not_both v.way (k.final (implies-use _ _ (all_of-at (λ t. implies (last_is CommitFinalAck t) (has CommitFinal t)) (tale-in v.tale k.tale) final_test) q)) p)

record Makes (v : View) (kind : Kind) : Type 0 where
  behind : comes_behind (last_of v.tale) kind ≡ true
  final : kind_eq CommitFinal kind ≡ true → is_commit v.way ≡ true

both_parts : (a b : Bool) → both a b ≡ true → (a ≡ true) × (b ≡ true)
both_parts true b h = (refl, h)
both_parts false b h = absurd (cc h)

makes : (v : View) (kind : Kind) → Keeps v → next_of Origin v ≡ Append (Made kind) → Makes v kind
makes v kind k e =
    let h = subst (λ n. next_fits (last_of v.tale) v.way n ≡ true) e (next-fits v) in
    let p = both_parts _ _ (implies-use _ _ h (to-not _ (not_acked v k))) in
    record { behind = p.0; final = λ q. implies-use _ _ p.1 q }

-- a decision to turn back, where nothing was decided
turns : (v : View) (c : Cause) → Keeps v → no_way v.way ≡ true → Keeps (push v (Chose (Back c)))
turns v c k n = record { tale = k.tale; final = λ h. absurd (undecided v.way n (k.final h)); ready = λ h. absurd (cc h) }

decides_back : (v : View) (c : Cause) → Keeps v → next_of Origin v ≡ Append (Chose (Back c)) → Keeps (push v (Chose (Back c)))
decides_back v c k e = turns v c k (subst (λ n. next_fits (last_of v.tale) v.way n ≡ true) e (next-fits v))

-- a lock that was refused: nothing is final behind commence-ack
refused : (v : View) → Keeps v → next_of Origin v ≡ Act Lock → Keeps (push v (Chose (Back LockRefused)))
refused v k e =
    let h = subst (λ n. next_fits (last_of v.tale) v.way n ≡ true) e (next-fits v) in
    let n = not-true _ (implies-use _ _ (all_of-at (λ t. implies (last_is CommenceAck t) (negate (has CommitFinal t))) (tale-in v.tale k.tale) ack_test) h) in
    record { tale = k.tale; final = λ q. absurd (cc (q, n)); ready = λ q. absurd (cc q) }

commits : (v : View) → Keeps v → next_of Origin v ≡ Append (Chose Commit) → Keeps (push v (Chose Commit))
commits v k e =
    let h = subst (λ n. next_fits (last_of v.tale) v.way n ≡ true) e (next-fits v) in
    record { tale = k.tale; final = λ q. refl; ready = λ q. implies-use _ _ (all_of-at (λ t. implies (last_is CommitReady t) (has CommitReady t)) (tale-in v.tale k.tale) ready_test) h }

step : (v : View) (r : Rec) → Keeps v → MayCome v r → KeepsTale v.tale r × Keeps (push v r)
step v (Took kind) k m = (
  m.1,
  record {
    tale = m.1;
    final = λ h. elim (has-behind CommitFinal kind v.tale h) [ inl p ↦ k.final p | inr p ↦ absurd (not_final kind m.0 p) ];
    ready = λ h. has-more CommitReady v.tale (kind ∷ []) (k.ready h);
  },
)
step v (Made kind) k m =
    let h = makes v kind k m in
    let t = extends-is v.tale kind k.tale h.behind in (
      t,
      record {
        tale = t;
        final = λ q. elim (has-behind CommitFinal kind v.tale q) [ inl p ↦ k.final p | inr p ↦ h.final p ];
        ready = λ q. has-more CommitReady v.tale (kind ∷ []) (k.ready q);
      },
    )
step v (Did op) k m = (tt, record { tale = k.tale; final = k.final; ready = k.ready })
step v (Chose Commit) k m = (tt, commits v k m)
step v (Chose (Back Aborted)) k m = (tt, turns v Aborted k m.0)
step v (Chose (Back LockRefused)) k m = (tt, refused v k m)
step v (Chose (Back Rejected)) k m = (tt, decides_back v Rejected k m)
step v (Chose (Back Rescued)) k m = (tt, decides_back v Rescued k m)
step v Rescue k m = (tt, record { tale = k.tale; final = k.final; ready = k.ready })
step v _ k m = absurd m

pub keeps_from : (v : View) (rs : List Rec) → Keeps v → AreAllowed Origin v rs → Keeps (view_from v rs)
keeps_from v [] k h = k
keeps_from v (r ∷ rs) k h = keeps_from (push v r) rs (step v r k (may-come v r h.0)).1 h.1

pub begins : (terms : Terms) → Keeps (begin Origin terms)
begins terms = record { tale = tale-is (TransferProposal ∷ []) (there here); final = λ h. absurd (cc h); ready = λ h. absurd (cc h) }

pub law_tales : LawTales Origin
law_tales terms rs h =
    let k = keeps_from (begin Origin terms) rs (begins terms) h in
    (k.tale, λ r q. (step (view_from (begin Origin terms) rs) r k (may-come _ r q)).0)
