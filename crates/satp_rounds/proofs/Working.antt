-- Due work by texts and ledgers is due work by kinds.
use Rattle.std.proofs.Common.{◌≡◌, ◌≢◌, ℕ, zero, suc, ◌+◌, Bool, true, false, [], Option, Some, None, option_map, refl, sym, ap, subst, ◌∙◌, if◌then◌else◌, inl, inr}
use Rattle.std.specs.Prelude.{nat_le}
use Rattle.satp_base.proofs.RoleLemmas.{role-gives}
use Rattle.satp_base.specs.LedgerRule.{entry_of, mint_on, moves, operation, operation_on, result_of, stays}
use Rattle.satp_base.specs.Money.{Book, cap_of, free_of, total_of}
use Rattle.satp_base.specs.Roles.{after_of, next_of}
use Rattle.satp_base.specs.Views.{push}
use Rattle.satp_base.specs.declared.ledger.Answer.{Answer}
use Rattle.satp_base.specs.declared.ledger.Answer.TheVariants as answer
use Rattle.satp_base.specs.declared.ledger.Entry.{Entry}
use Rattle.satp_base.specs.declared.ledger.Entry.TheVariants.{Absent, Locked, Burnt, Minted, Assigned, Released}
use Rattle.satp_base.specs.declared.ledger.LedgerOp.{LedgerOp}
use Rattle.satp_base.specs.declared.ledger.LedgerOp.TheVariants.{Lock, Burn, Mint, Assign, Release}
use Rattle.satp_base.specs.declared.message.Role.{Role}
use Rattle.satp_base.specs.declared.message.Role.TheVariants.{Origin, Recipient}
use Rattle.satp_base.specs.declared.message.Terms.{Terms}
use Rattle.satp_base.specs.declared.record.Next.{Next}
use Rattle.satp_base.specs.declared.record.Next.TheVariants.{Append, Act, Wait, Ended}
use Rattle.satp_base.specs.declared.record.Rec.{Rec}
use Rattle.satp_base.specs.declared.session.SessionId.{SessionId}
use Rattle.satp_base.specs.declared.view.View.{View}
use Rattle.satp_money.proofs.RuleLaw.{gives-rule}
use Rattle.satp_money.proofs.StepLaw.{step_is}
use Rattle.satp_sides.proofs.Records.{push-head}
use Rattle.satp_sides.specs.Due.{Due, due_answered, due_by, due_text, due_within}
use Rattle.satp_sides.specs.Halves.{Agrees, Half, half}
use Rattle.satp_sides.specs.Points.{Appends, Acts, Party, Side, Slot, Text, moved, moved_by, noted, stored}
use Rattle.satp_world.proofs.RuleMoves.{agrees-by, entry-moved}
use Rattle.satp_rounds.specs.LedgerFunds.{LedgersAnswerSo, is_own_op, lock_now, plain, room_by, room_now, funds_of}
use Rattle.satp_rounds.specs.Funds.{Funds, Enough, Over, answer_now, entry_after, lock_answer, mint_answer, worked_by, worked_on, worked_within}

-- ---- what ledgers answer now

-- the ledger of a side answers as the funds say, as long as the session has no entry
abbrev pub Agreed : Role → Funds → Book → Terms → Type 0
Agreed Origin f b terms = lock_now b terms ≡ f.lock
Agreed Recipient f b terms = room_now b terms ≡ f.mint

abbrev pub Fits : Role → Funds → SessionId → Terms → Book → Type 0
Fits role f s terms b = entry_of b.entries s ≡ Absent → Agreed role f b terms

lock-by : (b : Book) (s : SessionId) (terms : Terms) (free : ℕ) (l : Bool)
    → option_map plain (if l then moves b Lock s terms else stays b (Some (answer.NoFunds free))).answer ≡ Some (lock_answer l)
lock-by b s terms free true = refl
lock-by b s terms free false = refl

mint-if : (b : Book) (s : SessionId) (terms : Terms) (total : ℕ) (l : Bool)
    → option_map plain (if l then moves b Mint s terms else stays b (Some (answer.Capped total))).answer ≡ Some (mint_answer (if l then Enough else Over))
mint-if b s terms total true = refl
mint-if b s terms total false = refl

mint-by : (b : Book) (s : SessionId) (terms : Terms) (total : ℕ) (cap : Option ℕ)
    → option_map plain (mint_on b s terms total cap).answer ≡ Some (mint_answer (room_by total terms.amount.number cap))
mint-by b s terms total None = refl
mint-by b s terms total (Some cap) = mint-if b s terms total (nat_le (total + terms.amount.number) cap)

-- what the ledger answers is what is said by kinds, but for amounts
plain-on : (role : Role) (f : Funds) (b : Book) (s : SessionId) (terms : Terms) (op : LedgerOp) (e : Entry) → is_own_op role op ≡ true → (e ≡ Absent → Agreed role f b terms)
    → option_map plain (operation_on b op s terms e).answer ≡ answer_now f op e
plain-on Origin f b s terms Lock Absent own h = lock-by b s terms (free_of b terms.asset terms.originator) (lock_now b terms) ∙ ap (λ l. Some (lock_answer l)) (h refl)
plain-on Recipient f b s terms Mint Absent own h = mint-by b s terms (total_of b terms.asset) (cap_of b.genesis terms.asset) ∙ ap (λ l. Some (mint_answer l)) (h refl)
plain-on Origin f b s terms Mint e own h = absurd (cc own)
plain-on Recipient f b s terms Lock e own h = absurd (cc own)
plain-on Origin f b s terms Lock Locked own h = refl
plain-on Origin f b s terms Lock Burnt own h = refl
plain-on Origin f b s terms Lock Minted own h = refl
plain-on Origin f b s terms Lock Assigned own h = refl
plain-on Origin f b s terms Lock Released own h = refl
plain-on Recipient f b s terms Mint Locked own h = refl
plain-on Recipient f b s terms Mint Burnt own h = refl
plain-on Recipient f b s terms Mint Minted own h = refl
plain-on Recipient f b s terms Mint Assigned own h = refl
plain-on Recipient f b s terms Mint Released own h = refl
plain-on role f b s terms Burn Absent own h = refl
plain-on role f b s terms Burn Locked own h = refl
plain-on role f b s terms Burn Burnt own h = refl
plain-on role f b s terms Burn Minted own h = refl
plain-on role f b s terms Burn Assigned own h = refl
plain-on role f b s terms Burn Released own h = refl
plain-on role f b s terms Assign Absent own h = refl
plain-on role f b s terms Assign Locked own h = refl
plain-on role f b s terms Assign Burnt own h = refl
plain-on role f b s terms Assign Minted own h = refl
plain-on role f b s terms Assign Assigned own h = refl
plain-on role f b s terms Assign Released own h = refl
plain-on role f b s terms Release Absent own h = refl
plain-on role f b s terms Release Locked own h = refl
plain-on role f b s terms Release Burnt own h = refl
plain-on role f b s terms Release Minted own h = refl
plain-on role f b s terms Release Assigned own h = refl
plain-on role f b s terms Release Released own h = refl

pub plain-now : (role : Role) (f : Funds) (b : Book) (s : SessionId) (terms : Terms) (op : LedgerOp) → is_own_op role op ≡ true → Fits role f s terms b
    → option_map plain (operation b op s terms).answer ≡ answer_now f op (entry_of b.entries s)
unfolding operation
plain-now role f b s terms op own h = plain-on role f b s terms op (entry_of b.entries s) own h

pub ledgers-answer : LedgersAnswerSo
ledgers-answer Origin a b s terms op own = plain-now Origin (funds_of a b terms) a s terms op own (λ h. refl)
ledgers-answer Recipient a b s terms op own = plain-now Recipient (funds_of a b terms) b s terms op own (λ h. refl)

-- the record after an answer, and the entry, don't depend on amounts
record-plain : (op : LedgerOp) (a : Answer) → after_of op (plain a) ≡ after_of op a
record-plain op answer.Done = refl
record-plain op (answer.NoFunds free) = refl
record-plain op answer.UnknownAsset = refl
record-plain op (answer.Capped total) = refl
record-plain op (answer.Taken entry) = refl

entry-plain : (op : LedgerOp) (e : Entry) (a : Answer) → entry_after op e (plain a) ≡ entry_after op e a
entry-plain op e answer.Done = refl
entry-plain op e (answer.NoFunds free) = refl
entry-plain op e answer.UnknownAsset = refl
entry-plain op e (answer.Capped total) = refl
entry-plain op e (answer.Taken entry) = refl

entry-agreed : (op : LedgerOp) (e : Entry) (a : Answer) (new : Entry) → Agrees op e a new → new ≡ entry_after op e a
entry-agreed op e answer.Done new h = h.1
entry-agreed Lock e (answer.NoFunds free) new h = h.1
entry-agreed Lock e (answer.Taken entry) new h = h.3
entry-agreed Mint e answer.UnknownAsset new h = h.1
entry-agreed Mint e (answer.Capped total) new h = h.1
entry-agreed Mint e (answer.Taken entry) new h = h.3
entry-agreed _ e _ new h = absurd h

entry-now : (b : Book) (op : LedgerOp) (s : SessionId) (terms : Terms) (a : Answer) → (operation b op s terms).answer ≡ Some a
    → entry_of (operation b op s terms).after.entries s ≡ entry_after op (entry_of b.entries s) a
entry-now b op s terms a e =
    let new = (operation b op s terms).after in
    entry-agreed op (entry_of b.entries s) a (entry_of new.entries s) (agrees-by b op s terms a new (gives-rule b op s terms a new (e, refl)))

-- an entry that isn't there was not moved
not-absent : (op : LedgerOp) → result_of op ≢ Absent
not-absent Lock = λ e. cc e
not-absent Burn = λ e. cc e
not-absent Mint = λ e. cc e
not-absent Assign = λ e. cc e
not-absent Release = λ e. cc e

fits-after : (role : Role) (f : Funds) (b : Book) (s : SessionId) (terms : Terms) (op : LedgerOp) → Fits role f s terms b → Fits role f s terms (operation b op s terms).after
fits-after role f b s terms op h = elim (step_is b op s terms) [
  | inl k ↦ subst (Fits role f s terms) (sym k.1) h
  | inr k ↦ λ none. absurd (not-absent op (sym (entry-moved b op s terms) ∙ ap (λ (x : Book). entry_of x.entries s) (sym k.3) ∙ none))
]

-- ---- what is due is the side's own

abbrev own_next : Role → Next → Bool
own_next role (Append r) = true
own_next role (Act op) = is_own_op role op
own_next role Wait = true
own_next role Ended = true

own-op : (role : Role) (v : View) (op : LedgerOp) → next_of role v ≡ Act op → is_own_op role op ≡ true
own-op role v op e = subst (λ n. own_next role n ≡ true) e (each role)
  where
    each : (r : Role) → own_next r (next_of r v) ≡ true
    each Origin = role-gives (own_next Origin) Origin v refl refl
    each Recipient = role-gives (own_next Recipient) Recipient v refl refl

-- ---- turn by turn

-- After due work by texts and ledgers the session is where it is by kinds.
pub record IsWorked (role : Role) (f : Funds) (s : SessionId) (side : Side) (d : Due) (h : Half) : Type 0 where
  pub half : half d.slot.view (entry_of (moved_by side d.moves).book.entries s) ≡ h
  pub fits : Fits role f s d.slot.view.terms (moved_by side d.moves).book
  pub role_is : d.slot.view.role ≡ role

module _ (p : Party) (role : Role) (f : Funds) (s : SessionId) where
  abbrev Works : ℕ → Type 0
  Works n = (side : Side) (l : Slot) → l.view.role ≡ role → Fits role f s l.view.terms side.book → (due_within n p s l side.book).in_order ≡ true
      → IsWorked role f s side (due_within n p s l side.book) (worked_within n role f (half l.view (entry_of side.book.entries s)))

  module _ (n : ℕ) (more : Works n) where
    record-works : (side : Side) (l : Slot) (r : Rec) (t : Text) → l.view.role ≡ role → Fits role f s l.view.terms side.book → (due_within n p s (noted l s r t) side.book).in_order ≡ true
        → IsWorked role f s (moved side (Appends (stored s r t))) (due_within n p s (noted l s r t) side.book) (worked_within n role f (half (push l.view r) (entry_of side.book.entries s)))
    record-works side l r t is h order =
        let k = push-head l.view r in
        more (moved side (Appends (stored s r t))) (noted l s r t) (k.0 ∙ is) (subst (λ ts. Fits role f s ts side.book) (sym k.1) h) order

    answer-works : (side : Side) (l : Slot) (op : LedgerOp) → l.view.role ≡ role → Fits role f s l.view.terms side.book → is_own_op role op ≡ true
        → (o : Option Answer) → (operation side.book op s l.view.terms).answer ≡ o → (due_answered (due_within n p s) s l side.book op o).in_order ≡ true
        → IsWorked role f s side (due_answered (due_within n p s) s l side.book op o) (worked_on (worked_within n role f) (half l.view (entry_of side.book.entries s)) op (option_map plain o))
    answer-works side l op is h own None e order = absurd (cc order)
    answer-works side l op is h own (Some a) e order =
        let acted = moved side (Acts s op l.view.terms) in
        let d = due_answered (due_within n p s) s l side.book op (Some a) in
        let there = record-works acted l (after_of op a) [] is (fits-after role f side.book s l.view.terms op h) order in
        let entry = entry-now side.book op s l.view.terms a e ∙ sym (entry-plain op (entry_of side.book.entries s) a) in
        let here : IsWorked role f s side d (worked_within n role f (half (push l.view (after_of op a)) (entry_of acted.book.entries s))) = record { half = there.half; fits = there.fits; role_is = there.role_is } in
        subst (λ r. IsWorked role f s side d (worked_within n role f (half (push l.view r) (entry_after op (entry_of side.book.entries s) (plain a))))) (sym (record-plain op a))
        (subst (λ x. IsWorked role f s side d (worked_within n role f (half (push l.view (after_of op a)) x))) entry here)

    next-works : (side : Side) (l : Slot) (next : Next) → l.view.role ≡ role → Fits role f s l.view.terms side.book → next_of role l.view ≡ next → (due_by (due_within n p s) p s l side.book next).in_order ≡ true
        → IsWorked role f s side (due_by (due_within n p s) p s l side.book next) (worked_by (worked_within n role f) f (half l.view (entry_of side.book.entries s)) next)
    next-works side l (Append r) is h e order = let k = record-works side l r (due_text p s l r) is h order in record { half = k.half; fits = k.fits; role_is = k.role_is }
    next-works side l (Act op) is h e order =
        let own = own-op role l.view op e in
        subst (λ o. IsWorked role f s side (due_by (due_within n p s) p s l side.book (Act op)) (worked_on (worked_within n role f) (half l.view (entry_of side.book.entries s)) op o))
        (plain-now role f side.book s l.view.terms op own h) (answer-works side l op is h own (operation side.book op s l.view.terms).answer refl order)
    next-works side l Wait is h e order = record { half = refl; fits = h; role_is = is }
    next-works side l Ended is h e order = record { half = refl; fits = h; role_is = is }

  pub works : (n : ℕ) → Works n
  works zero side l is h order = record { half = refl; fits = h; role_is = is }
  works (suc n) side l is h order =
      let same = ap (λ r. next_of r l.view) (sym is) in
      subst (λ x. (due_by (due_within n p s) p s l side.book x).in_order ≡ true → IsWorked role f s side (due_by (due_within n p s) p s l side.book x) (worked_within (suc n) role f (half l.view (entry_of side.book.entries s)))) same
      (next-works n (works n) side l (next_of role l.view) is h refl) order
