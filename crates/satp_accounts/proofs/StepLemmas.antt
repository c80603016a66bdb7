-- What each line of the table does to owners' amounts.
use Rattle.std.proofs.Common.{◌≡◌, ℕ, ◌+◌, ◌-◌, ◌≤◌, ◌&&◌, Bool, true, false, List, None, ap, subst, sym, ◌∙◌, arith}
use Rattle.std.specs.Prelude.{unwrap_or}
use Rattle.std.specs.FinMap.{from_entries, insert}
use Rattle.satp_base.specs.Founding.{counted, equal_names}
use Rattle.satp_base.specs.Ledgers.{Entries}
use Rattle.satp_base.specs.LedgerRule.{entry_of, terms_of}
use Rattle.satp_base.specs.Money.{Book}
use Rattle.satp_base.specs.Numbers.{greatest_amount}
use Rattle.satp_base.specs.declared.ledger.Entry.TheVariants.{Absent}
use Rattle.satp_base.specs.declared.ledger.LedgerOp.{LedgerOp}
use Rattle.satp_base.specs.declared.ledger.LedgerOp.TheVariants.{Lock}
use Rattle.satp_base.specs.declared.message.Terms.{Terms}
use Rattle.satp_base.specs.declared.session.SessionId.{SessionId}
use Rattle.satp_money.specs.Amounts.{Agrees}
use Rattle.satp_money.specs.Steps.{is_giving, receiver, with_result}
use Rattle.satp_money.specs.declared.owned.Owned.{Owned}
use Rattle.satp_money.proofs.Maps as maps
use Rattle.satp_money.proofs.Steps.{Rises, give_agrees, give_fits, receiver_asset, take_agrees}
use Rattle.satp_accounts.specs.Owners.{Amounts, amount_at, owned_cmp, sum_at}
use Rattle.satp_accounts.proofs.OwnerLemmas.{amount_changed, amount_within, exact_owned, owned_total, sum_changed}

-- ---- amounts that rise or fall

rises : (c : Bool) (f f' x n : ℕ) → f' + counted c x ≡ f + counted c (x + n) → f' ≡ f + counted c n
rises true f f' x n e = omega arith
rises false f f' x n e = omega arith

falls : (c : Bool) (f f' x n : ℕ) → n ≤ x → f' + counted c x ≡ f + counted c (x - n) → f ≡ f' + counted c n
falls true f f' x n l e = omega arith
falls false f f' x n l e = omega arith

abbrev pub raised : Amounts → Owned → ℕ → Amounts
raised n o more = insert n o (amount_at n o.asset o.owner + more)

abbrev pub lowered : Amounts → Owned → ℕ → Amounts
lowered n o less = insert n o (amount_at n o.asset o.owner - less)

pub raised_rises : (n : Amounts) (o : Owned) (more : ℕ) → Rises o more (amount_at n) (amount_at (raised n o more)) (sum_at n) (sum_at (raised n o more))
raised_rises n o more = record {
  each = λ a q. rises (equal_names a o.asset && equal_names q o.owner) _ _ _ _ (amount_changed n o (amount_at n o.asset o.owner + more) a q);
  all = λ a. rises (equal_names a o.asset) _ _ _ _ (sum_changed n o (amount_at n o.asset o.owner + more) a);
}

lowered_rises : (n : Amounts) (o : Owned) (less : ℕ) → less ≤ amount_at n o.asset o.owner → Rises o less (amount_at (lowered n o less)) (amount_at n) (sum_at (lowered n o less)) (sum_at n)
lowered_rises n o less enough = record {
  each = λ a q. falls (equal_names a o.asset && equal_names q o.owner) _ _ _ _ enough (amount_changed n o (amount_at n o.asset o.owner - less) a q);
  all = λ a. falls (equal_names a o.asset) _ _ _ _ enough (sum_changed n o (amount_at n o.asset o.owner - less) a);
}

-- ---- bounds

pub raise_fits : (b : Book) (op : LedgerOp) (s : SessionId) (t : Terms) (n : Amounts) (o : Owned) → Agrees b (amount_at n) (sum_at n) → is_giving op (entry_of b.entries s) ≡ true → t ≡ terms_of b.entries s t → o ≡ receiver op t
    → amount_at n o.asset o.owner + t.amount.number ≤ greatest_amount
raise_fits b op s t n o h giving holds to =
    bound _ _ _ t.amount.number (amount_within n o.asset o.owner) (ap (sum_at n) (ap (λ (x : Owned). x.asset) to ∙ receiver_asset op t)) (give_fits b op s t (amount_at n) (sum_at n) h giving holds)
  where
    bound : (f x y k : ℕ) {most : ℕ} → f ≤ x → x ≡ y → y + k ≤ most → f + k ≤ most
    bound f x y k l e m = omega arith

-- ---- the books after an operation that moved an amount

pub give_done : (b : Book) (op : LedgerOp) (s : SessionId) (t : Terms) (n n' : Amounts) (m' : Entries) (o : Owned) (v : ℕ) → Agrees b (amount_at n) (sum_at n) → is_giving op (entry_of b.entries s) ≡ true → t ≡ terms_of b.entries s t
    → o ≡ receiver op t → v ≡ amount_at n o.asset o.owner + t.amount.number → n' ≡ insert n o v → m' ≡ (with_result b op s t).entries → Agrees (record b { entries = m' }) (amount_at n') (sum_at n')
give_done b op s t n n' m' o v h giving holds to is e f =
    let put : n' ≡ raised n (receiver op t) t.amount.number = e ∙ ap (insert n o) is ∙ ap (λ x. raised n x t.amount.number) to in
    let next = raised n (receiver op t) t.amount.number in
    subst (λ m. Agrees (record b { entries = m }) (amount_at n') (sum_at n')) (sym f)
    (subst (λ x. Agrees (with_result b op s t) (amount_at x) (sum_at x)) (sym put)
    (give_agrees b s (amount_at n) (amount_at next) (sum_at n) (sum_at next) op t h giving holds (raised_rises n (receiver op t) t.amount.number)))

pub take_done : (b : Book) (s : SessionId) (t : Terms) (n n' : Amounts) (m' : Entries) (v : ℕ) → Agrees b (amount_at n) (sum_at n) → entry_of b.entries s ≡ Absent → t.amount.number ≤ amount_at n t.asset t.originator
    → v ≡ amount_at n t.asset t.originator - t.amount.number → n' ≡ insert n (receiver Lock t) v → m' ≡ (with_result b Lock s t).entries → Agrees (record b { entries = m' }) (amount_at n') (sum_at n')
take_done b s t n n' m' v h none enough is e f =
    let next = lowered n (receiver Lock t) t.amount.number in
    subst (λ m. Agrees (record b { entries = m }) (amount_at n') (sum_at n')) (sym f)
    (subst (λ x. Agrees (with_result b Lock s t) (amount_at x) (sum_at x)) (sym (e ∙ ap (insert n (receiver Lock t)) is))
    (take_agrees b s (amount_at n) (amount_at next) (sum_at n) (sum_at next) t h none (lowered_rises n (receiver Lock t) t.amount.number enough)))

pub some_amount : (es : List (Owned × ℕ)) (o : Owned) (n : ℕ) → 1 ≤ n → n ≤ amount_at (from_entries {R = owned_cmp} es) o.asset o.owner → maps.value_at owned_cmp owned_total exact_owned es o ≡ None → ⊥
some_amount es o n one most none = absurd (omega (arith, ap (λ x. unwrap_or x 0) (maps.get_value owned_cmp owned_total exact_owned es o ∙ none)))
