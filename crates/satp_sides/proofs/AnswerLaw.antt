-- What is due is answered on each entry that one side's invariant allows.
use Rattle.std.proofs.Common.{◌≡◌, ℕ, Bool, true, false, cond, nat_le, List, Option, Some, None, refl, sym, subst, ◌∙◌, ◌+◌}
use Rattle.satp_base.specs.LedgerRule.{entry_of, is_always_answered, mint_on, moves, operation, operation_on, stays}
use Rattle.satp_base.specs.Money.{Book, cap_of, free_of, total_of}
use Rattle.satp_base.specs.Roles.{both, either, is_aborted, is_back, negate, no_way}
use Rattle.satp_base.specs.Tales.{IsTale, has, last_is, last_of}
use Rattle.satp_base.specs.declared.ledger.Answer.{Answer}
use Rattle.satp_base.specs.declared.ledger.Answer.TheVariants.{Done, NoFunds, UnknownAsset, Capped, Taken}
use Rattle.satp_base.specs.declared.ledger.Entry.{Entry}
use Rattle.satp_base.specs.declared.ledger.Entry.TheVariants.{Absent, Locked, Burnt, Minted, Assigned, Released}
use Rattle.satp_base.specs.declared.ledger.LedgerOp.{LedgerOp}
use Rattle.satp_base.specs.declared.ledger.LedgerOp.TheVariants.{Lock, Burn, Mint, Assign, Release}
use Rattle.satp_base.specs.declared.message.Kind.{Kind}
use Rattle.satp_base.specs.declared.message.Kind.TheVariants.{LockAssert, CommitReady, CommitFinal, Rollback}
use Rattle.satp_base.specs.declared.message.Role.TheVariants.{Origin, Recipient}
use Rattle.satp_base.specs.declared.message.Terms.{Terms}
use Rattle.satp_base.specs.declared.record.Next.{Next}
use Rattle.satp_base.specs.declared.record.Next.TheVariants.{Act}
use Rattle.satp_base.specs.declared.record.Way.{Way}
use Rattle.satp_base.specs.declared.session.SessionId.{SessionId}
use Rattle.satp_base.specs.declared.view.View.{View}
use Rattle.satp_base.proofs.Finite.{all_of, all_of-at, andthen-make, implies, implies-make, implies-use}
use Rattle.satp_base.proofs.TaleTable.{tale-in, tales}
use Rattle.satp_sides.specs.DueLaws.{DueIsAnswered, IsAnswered}
use Rattle.satp_sides.specs.Halves.{OriginStands, RecipientStands, can_do, half}
use Rattle.satp_sides.proofs.AnswerCheck.{origins_answered, recipients_answered}
use Rattle.satp_sides.proofs.AnswerTable.{answers, origin_answers, origin_fits, recipient_answers, recipient_fits}
use Rattle.satp_sides.proofs.DueLaw.{next-is}
use Rattle.satp_sides.proofs.DueTable.{Look, look_of, next_at, origin_look, recipient_look}
use Rattle.satp_sides.proofs.Lists.{bools, entries, in_bools, in_entries, in_lasts, in_ways, ways}

-- ---- the function answers

abbrev Answered : Book → LedgerOp → SessionId → Terms → Entry → Type 0
Answered b op s t e = (a : Answer) × ((operation_on b op s t e).answer ≡ Some a)

locked : (b : Book) (s : SessionId) (t : Terms) (free : ℕ) (c : Bool) → (a : Answer) × ((cond c (moves b Lock s t) (stays b (Some (NoFunds free)))).answer ≡ Some a)
locked b s t free true = (Done, refl)
locked b s t free false = (NoFunds free, refl)

minted : (b : Book) (s : SessionId) (t : Terms) (total : ℕ) (c : Bool) → (a : Answer) × ((cond c (moves b Mint s t) (stays b (Some (Capped total)))).answer ≡ Some a)
minted b s t total true = (Done, refl)
minted b s t total false = (Capped total, refl)

minted-on : (b : Book) (s : SessionId) (t : Terms) (total : ℕ) (known : Option ℕ) → (a : Answer) × ((mint_on b s t total known).answer ≡ Some a)
minted-on b s t total None = (UnknownAsset, refl)
minted-on b s t total (Some cap) = minted b s t total (nat_le (total + t.amount.number) cap)

answered-by : (b : Book) (s : SessionId) (t : Terms) (op : LedgerOp) (e : Entry) → either (is_always_answered op) (can_do op e) ≡ true → Answered b op s t e
answered-by b s t Lock Absent h = locked b s t (free_of b t.asset t.originator) (nat_le t.amount.number (free_of b t.asset t.originator))
answered-by b s t Lock Locked h = (Done, refl)
answered-by b s t Lock e h = (Taken e, refl)
answered-by b s t Mint Absent h = minted-on b s t (total_of b t.asset) (cap_of b.genesis t.asset)
answered-by b s t Mint Minted h = (Done, refl)
answered-by b s t Mint e h = (Taken e, refl)
answered-by b s t Burn Locked h = (Done, refl)
answered-by b s t Burn Burnt h = (Done, refl)
answered-by b s t Burn e h = absurd (cc h)
answered-by b s t Assign Minted h = (Done, refl)
answered-by b s t Assign Assigned h = (Done, refl)
answered-by b s t Assign e h = absurd (cc h)
answered-by b s t Release Absent h = (Done, refl)
answered-by b s t Release Locked h = (Done, refl)
answered-by b s t Release Minted h = (Done, refl)
answered-by b s t Release Released h = (Done, refl)
answered-by b s t Release e h = absurd (cc h)

is-answered : (b : Book) (op : LedgerOp) (s : SessionId) (v : View) (next : Next) → next ≡ Act op → answers (entry_of b.entries s) next ≡ true → IsAnswered b op s v
unfolding operation
is-answered b op s v next e h = answered-by b s v.terms op (entry_of b.entries s) (subst (λ n. answers (entry_of b.entries s) n ≡ true) e h)

-- ---- every look and entry passes

origin-answers : (l : Look) (e : Entry) → origin_answers l e ≡ true
origin-answers l e =
    let d = l.done in
    let a = all_of-at (λ last. all_of (λ way. all_of (λ lock. all_of (λ burn. all_of (λ release. all_of (λ rescue. all_of (λ e. origin_answers (origin_look d.mint d.assign l.prepared last way lock burn release rescue) e) entries) bools) bools) bools) bools) ways) (in_lasts l.last) (origins_answered d.mint d.assign l.prepared) in
    let b = all_of-at (λ way. all_of (λ lock. all_of (λ burn. all_of (λ release. all_of (λ rescue. all_of (λ e. origin_answers (origin_look d.mint d.assign l.prepared l.last way lock burn release rescue) e) entries) bools) bools) bools) bools) (in_ways l.way) a in
    let c = all_of-at (λ lock. all_of (λ burn. all_of (λ release. all_of (λ rescue. all_of (λ e. origin_answers (origin_look d.mint d.assign l.prepared l.last l.way lock burn release rescue) e) entries) bools) bools) bools) (in_bools d.lock) b in
    let f = all_of-at (λ burn. all_of (λ release. all_of (λ rescue. all_of (λ e. origin_answers (origin_look d.mint d.assign l.prepared l.last l.way d.lock burn release rescue) e) entries) bools) bools) (in_bools d.burn) c in
    let g = all_of-at (λ release. all_of (λ rescue. all_of (λ e. origin_answers (origin_look d.mint d.assign l.prepared l.last l.way d.lock d.burn release rescue) e) entries) bools) (in_bools d.release) f in
    let h = all_of-at (λ rescue. all_of (λ e. origin_answers (origin_look d.mint d.assign l.prepared l.last l.way d.lock d.burn d.release rescue) e) entries) (in_bools l.rescue) g in
    all_of-at (λ e. origin_answers l e) (in_entries e) h

recipient-answers : (l : Look) (e : Entry) → recipient_answers l e ≡ true
recipient-answers l e =
    let d = l.done in
    let a = all_of-at (λ last. all_of (λ way. all_of (λ mint. all_of (λ assign. all_of (λ release. all_of (λ prepared. all_of (λ e. recipient_answers (recipient_look d.lock d.burn l.rescue last way mint assign release prepared) e) entries) bools) bools) bools) bools) ways) (in_lasts l.last) (recipients_answered d.lock d.burn l.rescue) in
    let b = all_of-at (λ way. all_of (λ mint. all_of (λ assign. all_of (λ release. all_of (λ prepared. all_of (λ e. recipient_answers (recipient_look d.lock d.burn l.rescue l.last way mint assign release prepared) e) entries) bools) bools) bools) bools) (in_ways l.way) a in
    let c = all_of-at (λ mint. all_of (λ assign. all_of (λ release. all_of (λ prepared. all_of (λ e. recipient_answers (recipient_look d.lock d.burn l.rescue l.last l.way mint assign release prepared) e) entries) bools) bools) bools) (in_bools d.mint) b in
    let f = all_of-at (λ assign. all_of (λ release. all_of (λ prepared. all_of (λ e. recipient_answers (recipient_look d.lock d.burn l.rescue l.last l.way d.mint assign release prepared) e) entries) bools) bools) (in_bools d.assign) c in
    let g = all_of-at (λ release. all_of (λ prepared. all_of (λ e. recipient_answers (recipient_look d.lock d.burn l.rescue l.last l.way d.mint d.assign release prepared) e) entries) bools) (in_bools d.release) f in
    let h = all_of-at (λ prepared. all_of (λ e. recipient_answers (recipient_look d.lock d.burn l.rescue l.last l.way d.mint d.assign d.release prepared) e) entries) (in_bools l.prepared) g in
    all_of-at (λ e. recipient_answers l e) (in_entries e) h

-- ---- tales

-- what holds of each tale's last kind
tale-fact : (f : List Kind → Bool) (t : List Kind) → all_of f tales ≡ true → IsTale t → f t ≡ true
tale-fact f t all h = all_of-at f (tale-in t h) all

ready-asserted : (t : List Kind) → IsTale t → last_is CommitReady t ≡ true → has LockAssert t ≡ true
ready-asserted t h = implies-use _ _ (tale-fact (λ u. implies (last_is CommitReady u) (has LockAssert u)) t refl h)

final-ready : (t : List Kind) → IsTale t → has CommitFinal t ≡ true → has CommitReady t ≡ true
final-ready t h = implies-use _ _ (tale-fact (λ u. implies (has CommitFinal u) (has CommitReady u)) t refl h)

last-final : (t : List Kind) → IsTale t → last_is CommitFinal t ≡ true → has CommitFinal t ≡ true
last-final t h = implies-use _ _ (tale-fact (λ u. implies (last_is CommitFinal u) (has CommitFinal u)) t refl h)

final-alone : (t : List Kind) → IsTale t → has CommitFinal t ≡ true → has Rollback t ≡ false
final-alone t h e = not-true (has Rollback t) (implies-use _ _ (tale-fact (λ u. implies (has CommitFinal u) (negate (has Rollback u))) t refl h) e)
  where
    not-true : (b : Bool) → negate b ≡ true → b ≡ false
    not-true true k = absurd (cc k)
    not-true false k = refl

last-rollback : (t : List Kind) → IsTale t → last_is Rollback t ≡ true → has Rollback t ≡ true
last-rollback t h = implies-use _ _ (tale-fact (λ u. implies (last_is Rollback u) (has Rollback u)) t refl h)

-- ---- ways

negate-of : (b : Bool) → b ≡ false → negate b ≡ true
negate-of true h = absurd (cc h)
negate-of false h = refl

-- where each of two cases of a test is refuted the test fails
refuted : (b : Bool) → (b ≡ true → ⊥) → negate b ≡ true
refuted true h = absurd (h refl)
refuted false h = refl

no-way-back : (w : Option Way) → no_way w ≡ true → is_back w ≡ true → ⊥
no-way-back None h e = cc e
no-way-back (Some w) h e = cc h

no-way-abort : (w : Option Way) → no_way w ≡ true → is_aborted w ≡ true → ⊥
no-way-abort None h e = cc e
no-way-abort (Some w) h e = cc h

both-parts : (a b : Bool) → both a b ≡ true → (a ≡ true) × (b ≡ true)
both-parts true b h = (refl, h)
both-parts false b h = absurd (cc h)

-- ---- the invariants

origin-fits : (v : View) (e : Entry) → OriginStands (half v e) → origin_fits (last_of v.tale) v.way e ≡ true
origin-fits v e k =
    andthen-make _ _ (negate-of _ k.never_minted)
    (andthen-make _ _ (negate-of _ k.never_assigned)
    (andthen-make _ _ (implies-make _ _ k.burnt)
    (andthen-make _ _ (implies-make _ _ k.released)
    (implies-make _ _ (λ ready. negate-of _ (k.lock_entry (k.asserted (ready-asserted v.tale k.tale ready))))))))

recipient-fits : (v : View) (e : Entry) → RecipientStands (half v e) → recipient_fits (last_of v.tale) v.way e ≡ true
recipient-fits v e k =
    andthen-make _ _ (negate-of _ k.never_locked)
    (andthen-make _ _ (negate-of _ k.never_burnt)
    (andthen-make _ _ (implies-make _ _ (λ final. negate-of _ (k.mint_entry (k.ready (ready final)))))
    (andthen-make _ _ (implies-make _ _ (λ final. refuted _ (λ r. not-released final (both-parts _ _ (k.released r)).1)))
    (andthen-make _ _ (implies-make _ _ (λ back. refuted _ (λ a. cc (final-alone v.tale k.tale (k.assigned a), last-rollback v.tale k.tale back))))
    (implies-make _ _ (λ back. refuted _ (λ a. no-way-back v.way (k.too_late (final-ready v.tale k.tale (k.assigned a))) back)))))))
  where
    ready : last_is CommitFinal v.tale ≡ true → has CommitReady v.tale ≡ true
    ready final = final-ready v.tale k.tale (last-final v.tale k.tale final)

    not-released : last_is CommitFinal v.tale ≡ true → either (has Rollback v.tale) (is_aborted v.way) ≡ true → ⊥
    not-released final h = by (has Rollback v.tale) refl h
      where
        by : (b : Bool) → has Rollback v.tale ≡ b → either b (is_aborted v.way) ≡ true → ⊥
        by true e h = cc (e, final-alone v.tale k.tale (last-final v.tale k.tale final))
        by false e h = no-way-abort v.way (k.too_late (ready final)) h

pub due-answered : DueIsAnswered
due-answered = (
  λ s v b op k e. is-answered b op s v (next_at Origin (look_of v)) (sym (next-is Origin v) ∙ e)
      (implies-use _ _ (origin-answers (look_of v) (entry_of b.entries s)) (origin-fits v (entry_of b.entries s) k)),
  λ s v b op k e. is-answered b op s v (next_at Recipient (look_of v)) (sym (next-is Recipient v) ∙ e)
      (implies-use _ _ (recipient-answers (look_of v) (entry_of b.entries s)) (recipient-fits v (entry_of b.entries s) k)),
)
