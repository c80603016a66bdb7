-- An operation changes an entry exactly where the entry is another one behind it.
use Rattle.std.proofs.Common.{◌≡◌, ◌≢◌, ◌⊎◌, ℕ, ◌+◌, nat_le, ◌↔◌, IsTrue, not, Bool, true, false, cond, Option, Some, None, refl, ap, sym, ◌∙◌, inl, inr}
use Rattle.std.specs.Option.{option_map_or}
use Rattle.std.specs.FinMap.{get, get-insert}
use Rattle.std.specs.Cmp.{eq_by_cmp_equiv}
use Rattle.satp_base.specs.Ledgers.{Entries}
use Rattle.satp_base.specs.LedgerRule.{LedgerRule, Operation, entry_of, leads, lock_on, mint_on, moved, moved_entries, operation, operation_on, result_of, terms_of}
use Rattle.satp_base.specs.Money.{Book, cap_of, free_of, total_of}
use Rattle.satp_base.specs.declared.ledger.Answer.{Answer}
use Rattle.satp_base.specs.declared.ledger.Answer.TheVariants.{Done, NoFunds, Capped}
use Rattle.satp_base.specs.declared.ledger.Entry.{Entry}
use Rattle.satp_base.specs.declared.ledger.Entry.TheVariants.{Absent, Locked, Burnt, Minted, Assigned, Released}
use Rattle.satp_base.specs.declared.ledger.LedgerEntry.{LedgerEntry}
use Rattle.satp_base.specs.declared.ledger.LedgerOp.{LedgerOp}
use Rattle.satp_base.specs.declared.ledger.LedgerOp.TheVariants.{Lock, Burn, Mint, Assign, Release}
use Rattle.satp_base.specs.declared.message.Terms.{Terms}
use Rattle.satp_base.specs.declared.session.SessionId.{SessionId}
use Rattle.satp_base.proofs.RuleLemmas.{rule-gives}
use Rattle.satp_base.proofs.SessionLemmas.{sessions_total}

-- an operation leaves the ledger, or moves an entry by a line of the table
abbrev Moves : Book → LedgerOp → SessionId → Terms → Entry → Operation → Type 0
Moves b op s t entry o = ((o.changes ≡ false) × (o.after ≡ b)) ⊎ ((o.changes ≡ true) × (leads op entry ≡ true) × (o.after ≡ moved b op s t) × (o.answer ≡ Some Done))

lock_moves : (b : Book) (s : SessionId) (t : Terms) (free : ℕ) → Moves b Lock s t Absent (lock_on b s t free)
lock_moves b s t free = at (nat_le t.amount.number free)
  where
    at : (c : Bool) → Moves b Lock s t Absent (cond c (record { answer = Some Done; changes = true; after = moved b Lock s t }) (record { answer = Some (NoFunds free); changes = false; after = b }))
    at true = inr (refl, refl, refl, refl)
    at false = inl (refl, refl)

mint_moves : (b : Book) (s : SessionId) (t : Terms) (total : ℕ) (cap : Option ℕ) → Moves b Mint s t Absent (mint_on b s t total cap)
mint_moves b s t total None = inl (refl, refl)
mint_moves b s t total (Some cap) = at (nat_le (total + t.amount.number) cap)
  where
    at : (c : Bool) → Moves b Mint s t Absent (cond c (record { answer = Some Done; changes = true; after = moved b Mint s t }) (record { answer = Some (Capped total); changes = false; after = b }))
    at true = inr (refl, refl, refl, refl)
    at false = inl (refl, refl)

moves_on : (b : Book) (op : LedgerOp) (s : SessionId) (t : Terms) (entry : Entry) → Moves b op s t entry (operation_on b op s t entry)
moves_on b Lock s t Absent = lock_moves b s t (free_of b t.asset t.originator)
moves_on b Lock s t Locked = inl (refl, refl)
moves_on b Lock s t entry = inl (refl, refl)
moves_on b Burn s t Locked = inr (refl, refl, refl, refl)
moves_on b Burn s t Burnt = inl (refl, refl)
moves_on b Burn s t entry = inl (refl, refl)
moves_on b Mint s t Absent = mint_moves b s t (total_of b t.asset) (cap_of b.genesis t.asset)
moves_on b Mint s t Minted = inl (refl, refl)
moves_on b Mint s t entry = inl (refl, refl)
moves_on b Assign s t Minted = inr (refl, refl, refl, refl)
moves_on b Assign s t Assigned = inl (refl, refl)
moves_on b Assign s t entry = inl (refl, refl)
moves_on b Release s t Absent = inr (refl, refl, refl, refl)
moves_on b Release s t Locked = inr (refl, refl, refl, refl)
moves_on b Release s t Minted = inr (refl, refl, refl, refl)
moves_on b Release s t Released = inl (refl, refl)
moves_on b Release s t entry = inl (refl, refl)

moves_of : (b : Book) (op : LedgerOp) (s : SessionId) (t : Terms) → Moves b op s t (entry_of b.entries s) (operation b op s t)
unfolding operation
moves_of b op s t = moves_on b op s t (entry_of b.entries s)

-- the entry behind a line of the table
result_there : (entries : Entries) (op : LedgerOp) (s : SessionId) (t : Terms) → entry_of (moved_entries entries op s t) s ≡ result_of op
result_there entries op s t =
    let v : LedgerEntry = record { entry = result_of op; terms = terms_of entries s t } in
    ap (λ (x : Option LedgerEntry). option_map_or (λ (k : LedgerEntry). k.entry) x Absent) (get-insert sessions_total entries s v s ∙ ap (λ c. cond c (Some v) (get entries s)) ((eq_by_cmp_equiv sessions_total).refl s))

no_line_to_result : (op : LedgerOp) → leads op (result_of op) ≡ false
no_line_to_result Lock = refl
no_line_to_result Burn = refl
no_line_to_result Mint = refl
no_line_to_result Assign = refl
no_line_to_result Release = refl

apart : (op : LedgerOp) (entry : Entry) → leads op entry ≡ true → result_of op ≡ entry → ⊥
apart op entry leads_to e = let both = sym (no_line_to_result op) ∙ ap (leads op) e ∙ leads_to in cc

pub other_where_changed : (b c : Book) (op : LedgerOp) (s : SessionId) (t : Terms) (a : Answer) → LedgerRule b op s t a c → (operation b op s t).changes ≡ true → entry_of c.entries s ≢ entry_of b.entries s
other_where_changed b c op s t a rule changes same = at (moves_of b op s t)
  where
    is : c ≡ (operation b op s t).after
    is = (rule-gives b op s t a c rule).1

    at : Moves b op s t (entry_of b.entries s) (operation b op s t) → ⊥
    at (inl h) = let both = sym h.0 ∙ changes in cc
    at (inr h) = apart op (entry_of b.entries s) h.1 (sym (result_there b.entries op s t) ∙ ap (λ (x : Book). entry_of x.entries s) (sym (is ∙ h.2)) ∙ same)

pub same_where_not : (b c : Book) (op : LedgerOp) (s : SessionId) (t : Terms) (a : Answer) → LedgerRule b op s t a c → (operation b op s t).changes ≡ false → c ≡ b
same_where_not b c op s t a rule stays = at (moves_of b op s t)
  where
    at : Moves b op s t (entry_of b.entries s) (operation b op s t) → c ≡ b
    at (inl h) = (rule-gives b op s t a c rule).1 ∙ h.1
    at (inr h) = absurd (let both = sym h.0 ∙ stays in cc)

-- whether the entry is another one is whether it changed
pub changed_is : (b c : Book) (op : LedgerOp) (s : SessionId) (t : Terms) (a : Answer) (other : Bool) → LedgerRule b op s t a c → (other ≡ true → entry_of c.entries s ≢ entry_of b.entries s) → (other ≡ false → entry_of c.entries s ≡ entry_of b.entries s)
    → other ≡ (operation b op s t).changes
changed_is b c op s t a other rule yes' no' = at other (operation b op s t).changes refl refl
  where
    at : (x y : Bool) → other ≡ x → (operation b op s t).changes ≡ y → other ≡ (operation b op s t).changes
    at true true p q = p ∙ sym q
    at false false p q = p ∙ sym q
    at true false p q = absurd (yes' p (ap (λ (x : Book). entry_of x.entries s) (same_where_not b c op s t a rule q)))
    at false true p q = absurd (other_where_changed b c op s t a rule q (no' p))

pub changed_by : (b c : Book) (op : LedgerOp) (s : SessionId) (t : Terms) (a : Answer) (after before : Entry) (same : Bool) → LedgerRule b op s t a c → after ≡ entry_of c.entries s → before ≡ entry_of b.entries s → IsTrue same ↔ (after ≡ before) → not same ≡ (operation b op s t).changes
changed_by b c op s t a after before true rule is was same = changed_is b c op s t a false rule (λ e. absurd cc) (λ e. sym is ∙ same.0 refl ∙ was)
changed_by b c op s t a after before false rule is was same = changed_is b c op s t a true rule (λ e both. absurd (let bad = same.1 (is ∙ both ∙ sym was) in cc)) (λ e. absurd cc)

same_answer : (a b : Answer) → Some a ≡ Some b → a ≡ b
same_answer a b e = cc

-- only what is answered with Done changes an entry
pub done_where_changed : (b c : Book) (op : LedgerOp) (s : SessionId) (t : Terms) (a : Answer) → LedgerRule b op s t a c → (operation b op s t).changes ≡ true → a ≡ Done
done_where_changed b c op s t a rule changes = at (moves_of b op s t)
  where
    at : Moves b op s t (entry_of b.entries s) (operation b op s t) → a ≡ Done
    at (inl h) = absurd (let both = sym h.0 ∙ changes in cc)
    at (inr h) = same_answer a Done (sym (rule-gives b op s t a c rule).0 ∙ h.3)
