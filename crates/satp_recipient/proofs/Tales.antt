-- The rule keeps a tale a tale: what the table gives, by the last kind and what was decided.
use Rattle.std.proofs.Common.{◌≡◌, Bool, true, false, List, [], ◌∷◌, ◌++◌, Option, Some, None, refl, sym, ap, subst, ◌∙◌, ◌⊎◌, inl, inr, if◌then◌else◌}
use Rattle.satp_base.specs.declared.message.Kind.{Kind}
use Rattle.satp_base.specs.declared.message.Kind.TheVariants.{TransferProposal, ProposalReceipt, TransferCommence, CommenceAck, LockAssert, LockReceipt, CommitPrepare, CommitReady, CommitFinal, CommitFinalAck, TransferComplete, Reject, Rollback, RollbackAck}
use Rattle.satp_base.specs.declared.message.Role.TheVariants.{Origin, Recipient}
use Rattle.satp_base.specs.declared.message.Terms.{Terms}
use Rattle.satp_base.specs.declared.ledger.LedgerOp.TheVariants.{Mint, Assign, Release}
use Rattle.satp_base.specs.declared.record.Cause.{Cause}
use Rattle.satp_base.specs.declared.record.Cause.TheVariants.{Aborted, UnknownAsset, MintCapped, LedgerTaken}
use Rattle.satp_base.specs.declared.record.Way.TheVariants.{Commit, Back}
use Rattle.satp_base.specs.declared.record.Rec.{Rec}
use Rattle.satp_base.specs.declared.record.Rec.TheVariants.{Began, Took, Made, Did, Chose, Rescue}
use Rattle.satp_base.specs.declared.record.Next.{Next}
use Rattle.satp_base.specs.declared.record.Next.TheVariants.{Append, Act, Wait, Ended}
use Rattle.satp_base.specs.declared.view.View.{View}
use Rattle.satp_base.specs.Tales.{IsTale, comes_behind, has, kind_eq, is_kind, is_by, last_of, last_is, maker}
use Rattle.satp_base.specs.Views.{KeepsTale, begin, push, view_from}
use Rattle.satp_base.specs.Roles.{AreAllowed, LawTales, RoleRule, both, first_line, is_back, line, negate, next_of, release_due}
use Rattle.satp_base.proofs.Finite.{In, all_of, bind, implies, all_of-at, implies-use, In-bind}
use Rattle.satp_base.proofs.Finite.In.{here, there}
use Rattle.satp_base.proofs.TaleTable.{all_kinds, tales, in_all_kinds, tale-in, tale-is, extends-is}
use Rattle.satp_recipient.proofs.Rule.{MayCome, may-come}

-- ---- the table by what it looks at

abbrev table_by : Option Kind → Bool → Bool → Bool → Bool → Next
table_by last back due mint assign =
    first_line (
    line (if is_kind TransferComplete last then true else is_kind RollbackAck last) Ended
    ∷ line (both (is_kind Rollback last) due) (Act Release)
    ∷ line (is_kind Rollback last) (Append (Made RollbackAck))
    ∷ line (both back due) (Act Release)
    ∷ line (both back (is_by Origin last)) (Append (Made Reject))
    ∷ line (is_kind TransferProposal last) (Append (Made ProposalReceipt))
    ∷ line (is_kind TransferCommence last) (Append (Made CommenceAck))
    ∷ line (is_kind LockAssert last) (Append (Made LockReceipt))
    ∷ line (both (is_kind CommitPrepare last) (negate mint)) (Act Mint)
    ∷ line (is_kind CommitPrepare last) (Append (Made CommitReady))
    ∷ line (both (is_kind CommitFinal last) (negate assign)) (Act Assign)
    ∷ line (is_kind CommitFinal last) (Append (Made CommitFinalAck))
    ∷ [])

-- What is made may come behind the last kind, where no way back stands behind commit-final; nobody is ready on the way
-- back; and a mint is due behind commit-prepare alone.
abbrev next_fits : Option Kind → Bool → Next → Bool
next_fits last back (Append (Made kind)) = implies (negate (both back (is_kind CommitFinal last))) (both (comes_behind last kind) (negate (both back (kind_eq CommitReady kind))))
next_fits last back (Act Mint) = is_kind CommitPrepare last
next_fits last back _ = true

abbrev bools : List Bool
bools = true ∷ false ∷ []

abbrev lasts : List (Option Kind)
lasts = None ∷ bind all_kinds (λ k. Some k ∷ [])

all_fit : all_of (λ last. all_of (λ back. all_of (λ due. all_of (λ mint. all_of (λ assign. next_fits last back (table_by last back due mint assign)) bools) bools) bools) bools) lasts ≡ true
all_fit = refl

in_bools : (b : Bool) → In b bools
in_bools true = here
in_bools false = there here

in_lasts : (last : Option Kind) → In last lasts
in_lasts None = here
in_lasts (Some k) = there (In-bind (λ k. Some k ∷ []) (in_all_kinds k) here)

fits : (last : Option Kind) (back due mint assign : Bool) → next_fits last back (table_by last back due mint assign) ≡ true
fits last back due mint assign =
    all_of-at (λ assign. next_fits last back (table_by last back due mint assign)) (in_bools assign)
    (all_of-at (λ mint. all_of (λ assign. next_fits last back (table_by last back due mint assign)) bools) (in_bools mint)
    (all_of-at (λ due. all_of (λ mint. all_of (λ assign. next_fits last back (table_by last back due mint assign)) bools) bools) (in_bools due)
    (all_of-at (λ back. all_of (λ due. all_of (λ mint. all_of (λ assign. next_fits last back (table_by last back due mint assign)) bools) bools) bools) (in_bools back)
    (all_of-at (λ last. all_of (λ back. all_of (λ due. all_of (λ mint. all_of (λ assign. next_fits last back (table_by last back due mint assign)) bools) bools) bools) bools) (in_lasts last) all_fit))))

next-fits : (v : View) → next_fits (last_of v.tale) (is_back v.way) (next_of Recipient v) ≡ true
next-fits v = fits (last_of v.tale) (is_back v.way) (release_due v) v.done.mint v.done.assign

-- ---- kinds that stand in a tale

has-behind_not : (k j : Kind) (t : List Kind) → has k t ≡ false → kind_eq k j ≡ false → has k (t ++ j ∷ []) ≡ false
has-behind_not k j [] h e = rw e
has-behind_not k j (i ∷ t) h e = go (kind_eq k i) h (has-behind_not k j t)
  where
    go : (b : Bool) → (if b then true else has k t) ≡ false → (has k t ≡ false → kind_eq k j ≡ false → has k (t ++ j ∷ []) ≡ false) → (if b then true else has k (t ++ j ∷ [])) ≡ false
    go true h f = h
    go false h f = f h e

final_test : all_of (λ t. implies (last_is CommitFinal t) (has CommitReady t)) tales ≡ true
final_test = refl

prepare_test : all_of (λ t. implies (last_is CommitPrepare t) (negate (has CommitReady t))) tales ≡ true
prepare_test = refl

not-true : (b : Bool) → negate b ≡ true → b ≡ false
not-true true h = absurd (cc h)
not-true false h = refl

to-not : (b : Bool) → b ≡ false → negate b ≡ true
to-not true h = absurd (cc h)
to-not false h = refl

-- the origin's kinds aren't commit-ready
not_ready : (k : Kind) → maker k ≡ Some Origin → kind_eq CommitReady k ≡ false
not_ready TransferProposal h = refl
not_ready TransferCommence h = refl
not_ready LockAssert h = refl
not_ready CommitPrepare h = refl
not_ready CommitFinal h = refl
not_ready TransferComplete h = refl
not_ready Rollback h = refl
not_ready _ h = absurd (cc h)

-- ---- what holds behind any list of allowed records

record Keeps (v : View) : Type 0 where
  tale : IsTale v.tale
  back : is_back v.way ≡ true → has CommitReady v.tale ≡ false

-- no way back stands behind commit-final
not_final : (v : View) → Keeps v → both (is_back v.way) (is_kind CommitFinal (last_of v.tale)) ≡ false
not_final v k = go (is_back v.way) (is_kind CommitFinal (last_of v.tale)) refl refl
  where
    go : (b c : Bool) → is_back v.way ≡ b → is_kind CommitFinal (last_of v.tale) ≡ c → both b c ≡ false
    go false c p q = refl
    go true false p q = refl
    go true true p q = let ready = implies-use _ _ (all_of-at (λ t. implies (last_is CommitFinal t) (has CommitReady t)) (tale-in v.tale k.tale) final_test) q in absurd (cc (k.back p, ready))

record Makes (v : View) (kind : Kind) : Type 0 where
  behind : comes_behind (last_of v.tale) kind ≡ true
  ready : both (is_back v.way) (kind_eq CommitReady kind) ≡ false

both_parts : (a b : Bool) → both a b ≡ true → (a ≡ true) × (b ≡ true)
both_parts true b h = (refl, h)
both_parts false b h = absurd (cc h)

makes : (v : View) (kind : Kind) → Keeps v → next_of Recipient v ≡ Append (Made kind) → Makes v kind
makes v kind k e =
    let h = subst (λ n. next_fits (last_of v.tale) (is_back v.way) n ≡ true) e (next-fits v) in
    let p = both_parts _ _ (implies-use _ _ h (to-not _ (not_final v k))) in
    record { behind = p.0; ready = not-true _ p.1 }

ready_not : (a b : Bool) → both a b ≡ false → a ≡ true → b ≡ false
ready_not true b h e = h
ready_not false b h e = absurd (cc e)

-- behind an asked mint nobody was ready
asked : (v : View) → Keeps v → next_of Recipient v ≡ Act Mint → has CommitReady v.tale ≡ false
asked v k e =
    let h = subst (λ n. next_fits (last_of v.tale) (is_back v.way) n ≡ true) e (next-fits v) in
    not-true _ (implies-use _ _ (all_of-at (λ t. implies (last_is CommitPrepare t) (negate (has CommitReady t))) (tale-in v.tale k.tale) prepare_test) h)

step : (v : View) (r : Rec) → Keeps v → MayCome v r → KeepsTale v.tale r × Keeps (push v r)
step v (Took kind) k m = (m.1, record { tale = m.1; back = λ b. has-behind_not CommitReady kind v.tale (k.back b) (not_ready kind m.0) })
step v (Made kind) k m =
    let h = makes v kind k m in
    let t = extends-is v.tale kind k.tale h.behind in
    (t, record { tale = t; back = λ b. has-behind_not CommitReady kind v.tale (k.back b) (ready_not _ _ h.ready b) })
step v (Did op) k m = (tt, record { tale = k.tale; back = k.back })
step v (Chose (Back Aborted)) k m = (tt, record { tale = k.tale; back = λ b. m.1 })
step v (Chose (Back UnknownAsset)) k m = (tt, record { tale = k.tale; back = λ b. asked v k m })
step v (Chose (Back MintCapped)) k m = (tt, record { tale = k.tale; back = λ b. asked v k m })
step v (Chose (Back LedgerTaken)) k m = (tt, record { tale = k.tale; back = λ b. asked v k m })
step v _ k m = absurd m

keeps_from : (v : View) (rs : List Rec) → Keeps v → AreAllowed Recipient v rs → Keeps (view_from v rs)
keeps_from v [] k h = k
keeps_from v (r ∷ rs) k h = keeps_from (push v r) rs (step v r k (may-come v r h.0)).1 h.1

begins : (terms : Terms) → Keeps (begin Recipient terms)
begins terms = record { tale = tale-is (TransferProposal ∷ []) (there here); back = λ b. absurd (cc b) }

pub law_tales : LawTales Recipient
law_tales terms rs h =
    let k = keeps_from (begin Recipient terms) rs (begins terms) h in
    (k.tale, λ r q. (step (view_from (begin Recipient terms) rs) r k (may-come _ r q)).0)
