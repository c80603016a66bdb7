-- Whether an operation changes an entry, by what was there and what was answered.
use Rattle.std.proofs.Common.{◌≡◌, ℕ, ◌+◌, nat_le, Bool, true, false, cond, Option, Some, None, refl, sym, ap, ◌∙◌}
use Rattle.satp_base.specs.LedgerRule.{LedgerRule, entry_of, mint_on, moved, moves, operation, operation_on, stays}
use Rattle.satp_base.specs.Money.{Book, cap_of, free_of, total_of}
use Rattle.satp_base.specs.declared.ledger.Answer.{Answer}
use Rattle.satp_base.specs.declared.ledger.Answer.TheVariants.{Done, NoFunds, UnknownAsset, Capped, Taken}
use Rattle.satp_base.specs.declared.ledger.Entry.{Entry}
use Rattle.satp_base.specs.declared.ledger.Entry.TheVariants.{Absent, Locked, Burnt, Minted, Assigned, Released}
use Rattle.satp_base.specs.declared.ledger.LedgerOp.{LedgerOp}
use Rattle.satp_base.specs.declared.ledger.LedgerOp.TheVariants.{Lock, Burn, Mint, Assign, Release}
use Rattle.satp_base.specs.declared.message.Terms.{Terms}
use Rattle.satp_base.specs.declared.session.SessionId.{SessionId}
use Rattle.satp_base.proofs.RuleLemmas.{rule-gives}
use Rattle.satp_memory.specs.Sites.{is_change}

-- ---- the operation itself

abbrev answer_changes : LedgerOp → Entry → Option Answer → Bool
answer_changes op entry None = false
answer_changes op entry (Some a) = is_change op entry a

lock_changes : (b : Book) (s : SessionId) (t : Terms) (fits : Bool) (free : ℕ) → (cond fits (moves b Lock s t) (stays b (Some (NoFunds free)))).changes ≡ answer_changes Lock Absent (cond fits (moves b Lock s t) (stays b (Some (NoFunds free)))).answer
lock_changes b s t true free = refl
lock_changes b s t false free = refl

mint_changes : (b : Book) (s : SessionId) (t : Terms) (total : ℕ) (known : Option ℕ) → (mint_on b s t total known).changes ≡ answer_changes Mint Absent (mint_on b s t total known).answer
mint_changes b s t total None = refl
mint_changes b s t total (Some cap) = by_fit (nat_le (total + t.amount.number) cap)
  where
    by_fit : (fits : Bool) → (cond fits (moves b Mint s t) (stays b (Some (Capped total)))).changes ≡ answer_changes Mint Absent (cond fits (moves b Mint s t) (stays b (Some (Capped total)))).answer
    by_fit true = refl
    by_fit false = refl

changes_on : (b : Book) (op : LedgerOp) (s : SessionId) (t : Terms) (entry : Entry) → (operation_on b op s t entry).changes ≡ answer_changes op entry (operation_on b op s t entry).answer
changes_on b Lock s t Absent = lock_changes b s t (nat_le t.amount.number (free_of b t.asset t.originator)) (free_of b t.asset t.originator)
changes_on b Lock s t Locked = refl
changes_on b Lock s t Burnt = refl
changes_on b Lock s t Minted = refl
changes_on b Lock s t Assigned = refl
changes_on b Lock s t Released = refl
changes_on b Burn s t Absent = refl
changes_on b Burn s t Locked = refl
changes_on b Burn s t Burnt = refl
changes_on b Burn s t Minted = refl
changes_on b Burn s t Assigned = refl
changes_on b Burn s t Released = refl
changes_on b Mint s t Absent = mint_changes b s t (total_of b t.asset) (cap_of b.genesis t.asset)
changes_on b Mint s t Locked = refl
changes_on b Mint s t Burnt = refl
changes_on b Mint s t Minted = refl
changes_on b Mint s t Assigned = refl
changes_on b Mint s t Released = refl
changes_on b Assign s t Absent = refl
changes_on b Assign s t Locked = refl
changes_on b Assign s t Burnt = refl
changes_on b Assign s t Minted = refl
changes_on b Assign s t Assigned = refl
changes_on b Assign s t Released = refl
changes_on b Release s t Absent = refl
changes_on b Release s t Locked = refl
changes_on b Release s t Burnt = refl
changes_on b Release s t Minted = refl
changes_on b Release s t Assigned = refl
changes_on b Release s t Released = refl

-- the book behind it is the one before, or the one with the entry moved
abbrev pub book_by : Bool → Book → LedgerOp → SessionId → Terms → Book
book_by changes b op s t = cond changes (moved b op s t) b

lock_after : (b : Book) (s : SessionId) (t : Terms) (fits : Bool) (free : ℕ) → (cond fits (moves b Lock s t) (stays b (Some (NoFunds free)))).after ≡ book_by (cond fits (moves b Lock s t) (stays b (Some (NoFunds free)))).changes b Lock s t
lock_after b s t true free = refl
lock_after b s t false free = refl

mint_after : (b : Book) (s : SessionId) (t : Terms) (total : ℕ) (known : Option ℕ) → (mint_on b s t total known).after ≡ book_by (mint_on b s t total known).changes b Mint s t
mint_after b s t total None = refl
mint_after b s t total (Some cap) = by_fit (nat_le (total + t.amount.number) cap)
  where
    by_fit : (fits : Bool) → (cond fits (moves b Mint s t) (stays b (Some (Capped total)))).after ≡ book_by (cond fits (moves b Mint s t) (stays b (Some (Capped total)))).changes b Mint s t
    by_fit true = refl
    by_fit false = refl

after_on : (b : Book) (op : LedgerOp) (s : SessionId) (t : Terms) (entry : Entry) → (operation_on b op s t entry).after ≡ book_by (operation_on b op s t entry).changes b op s t
after_on b Lock s t Absent = lock_after b s t (nat_le t.amount.number (free_of b t.asset t.originator)) (free_of b t.asset t.originator)
after_on b Lock s t Locked = refl
after_on b Lock s t Burnt = refl
after_on b Lock s t Minted = refl
after_on b Lock s t Assigned = refl
after_on b Lock s t Released = refl
after_on b Burn s t Absent = refl
after_on b Burn s t Locked = refl
after_on b Burn s t Burnt = refl
after_on b Burn s t Minted = refl
after_on b Burn s t Assigned = refl
after_on b Burn s t Released = refl
after_on b Mint s t Absent = mint_after b s t (total_of b t.asset) (cap_of b.genesis t.asset)
after_on b Mint s t Locked = refl
after_on b Mint s t Burnt = refl
after_on b Mint s t Minted = refl
after_on b Mint s t Assigned = refl
after_on b Mint s t Released = refl
after_on b Assign s t Absent = refl
after_on b Assign s t Locked = refl
after_on b Assign s t Burnt = refl
after_on b Assign s t Minted = refl
after_on b Assign s t Assigned = refl
after_on b Assign s t Released = refl
after_on b Release s t Absent = refl
after_on b Release s t Locked = refl
after_on b Release s t Burnt = refl
after_on b Release s t Minted = refl
after_on b Release s t Assigned = refl
after_on b Release s t Released = refl

pub operation-after : (b : Book) (op : LedgerOp) (s : SessionId) (t : Terms) → (operation b op s t).after ≡ book_by (operation b op s t).changes b op s t
unfolding operation
operation-after b op s t = after_on b op s t (entry_of b.entries s)

operation-changes : (b : Book) (op : LedgerOp) (s : SessionId) (t : Terms) → (operation b op s t).changes ≡ answer_changes op (entry_of b.entries s) (operation b op s t).answer
unfolding operation
operation-changes b op s t = changes_on b op s t (entry_of b.entries s)

-- ---- the rule

pub rule-changes : (b : Book) (op : LedgerOp) (s : SessionId) (t : Terms) (a : Answer) (new : Book) → LedgerRule b op s t a new → is_change op (entry_of b.entries s) a ≡ (operation b op s t).changes
rule-changes b op s t a new h = sym (operation-changes b op s t ∙ ap (answer_changes op (entry_of b.entries s)) (rule-gives b op s t a new h).0)

pub rule-after : (b : Book) (op : LedgerOp) (s : SessionId) (t : Terms) (a : Answer) (new : Book) → LedgerRule b op s t a new → new ≡ (operation b op s t).after
rule-after b op s t a new h = (rule-gives b op s t a new h).1

pub rule-says : (b : Book) (op : LedgerOp) (s : SessionId) (t : Terms) (a : Answer) (new : Book) → LedgerRule b op s t a new → (operation b op s t).answer ≡ Some a
rule-says b op s t a new h = (rule-gives b op s t a new h).0

pub change-done : (op : LedgerOp) (entry : Entry) (a : Answer) → is_change op entry a ≡ true → a ≡ Done
change-done op entry Done e = refl
change-done op entry (NoFunds n) e = cc
change-done op entry UnknownAsset e = cc
change-done op entry (Capped n) e = cc
change-done op entry (Taken x) e = cc
