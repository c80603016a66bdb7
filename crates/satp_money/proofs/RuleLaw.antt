-- What the function gives is what the rule says, and what a step leaves.
use Rattle.std.proofs.Common.{◌≡◌, ◌≢◌, inl, inr, ℕ, ◌+◌, nat_le, Bool, true, false, cond, Option, Some, None, refl, subst, sym, ◌∙◌}
use Rattle.std.proofs.lemmas.Bool.{leb-true, leb-false}
use Rattle.satp_base.specs.LedgerRule.{Allows, IsOutOfOrder, LedgerRule, RuleOn, entry_of, is_always_answered, leads, mint_on, moves, operation, operation_on, result_of, stays}
use Rattle.satp_base.specs.Money.{Book, cap_of, free_of, total_of}
use Rattle.satp_base.specs.declared.ledger.Answer.{Answer}
use Rattle.satp_base.specs.declared.ledger.Answer.TheVariants.{Done, NoFunds, UnknownAsset, Capped, Taken}
use Rattle.satp_base.specs.declared.ledger.Entry.{Entry}
use Rattle.satp_base.specs.declared.ledger.Entry.TheVariants.{Absent, Locked, Burnt, Minted, Assigned, Released}
use Rattle.satp_base.specs.declared.ledger.LedgerOp.{LedgerOp}
use Rattle.satp_base.specs.declared.ledger.LedgerOp.TheVariants.{Lock, Burn, Mint, Assign, Release}
use Rattle.satp_base.specs.declared.message.Terms.{Terms}
use Rattle.satp_base.specs.declared.session.SessionId.{SessionId}
use Rattle.satp_base.proofs.RuleLemmas.{Gives}

never : false ≡ true → ⊥
never e = cc

none_some : {A : Type 0} (a : A) → ◌≡◌ {A = Option A} None (Some a) → ⊥
none_some a e = cc

some_none : {A : Type 0} (a : A) → ◌≡◌ {A = Option A} (Some a) None → ⊥
some_none a e = cc

same_some : {A : Type 0} (a b : A) → Some a ≡ Some b → a ≡ b
same_some a b e = cc

-- ---- what the function gives is what the rule says

module _ (b : Book) (s : SessionId) (t : Terms) (new : Book) where
  abbrev On : Entry → LedgerOp → Answer → Type 0
  On e op a = RuleOn b e op s t a new

  by_answer : (e : Entry) (op : LedgerOp) (shown a : Answer) → Some shown ≡ Some a → On e op shown → On e op a
  by_answer e op shown a h r = subst (On e op) (same_some shown a h) r

  lock_gives : (x : Bool) (a : Answer) → nat_le t.amount.number (free_of b t.asset t.originator) ≡ x → Gives (cond x (moves b Lock s t) (stays b (Some (NoFunds (free_of b t.asset t.originator))))) a new → On Absent Lock a
  lock_gives true a e g = by_answer Absent Lock Done a g.0 (inr (refl, leb-true _ _ e, g.1))
  lock_gives false a e g = by_answer Absent Lock (NoFunds (free_of b t.asset t.originator)) a g.0 (refl, refl, leb-false _ _ e, g.1)

  mint_known : (cap : ℕ) (x : Bool) (a : Answer) → cap_of b.genesis t.asset ≡ Some cap → nat_le (total_of b t.asset + t.amount.number) cap ≡ x
      → Gives (cond x (moves b Mint s t) (stays b (Some (Capped (total_of b t.asset))))) a new → On Absent Mint a
  mint_known cap true a k e g = by_answer Absent Mint Done a g.0 (inr (refl, (cap, k, leb-true _ _ e), g.1))
  mint_known cap false a k e g = by_answer Absent Mint (Capped (total_of b t.asset)) a g.0 (refl, refl, (cap, k, leb-false _ _ e), g.1)

  mint_gives : (known : Option ℕ) (a : Answer) → cap_of b.genesis t.asset ≡ known → Gives (mint_on b s t (total_of b t.asset) known) a new → On Absent Mint a
  mint_gives None a k g = by_answer Absent Mint UnknownAsset a g.0 (refl, k, g.1)
  mint_gives (Some cap) a k g = mint_known cap (nat_le (total_of b t.asset + t.amount.number) cap) a k refl g

  line : (e : Entry) (op : LedgerOp) (a : Answer) → leads op e ≡ true → Allows b op t → Gives (moves b op s t) a new → On e op a
  line e op a l w g = by_answer e op Done a g.0 (inr (l, w, g.1))

  same_entry : (e : Entry) (op : LedgerOp) (a : Answer) → e ≡ result_of op → Gives (stays b (Some Done)) a new → On e op a
  same_entry e op a is g = by_answer e op Done a g.0 (inl (is, g.1))

  gives_on : (e : Entry) (op : LedgerOp) (a : Answer) → Gives (operation_on b op s t e) a new → On e op a
  gives_on Absent Lock a g = lock_gives (nat_le t.amount.number (free_of b t.asset t.originator)) a refl g
  gives_on Locked Lock a g = same_entry Locked Lock a refl g
  gives_on Burnt Lock a g = by_answer Burnt Lock (Taken Burnt) a g.0 ((λ x. cc), (λ x. cc), refl, g.1)
  gives_on Minted Lock a g = by_answer Minted Lock (Taken Minted) a g.0 ((λ x. cc), (λ x. cc), refl, g.1)
  gives_on Assigned Lock a g = by_answer Assigned Lock (Taken Assigned) a g.0 ((λ x. cc), (λ x. cc), refl, g.1)
  gives_on Released Lock a g = by_answer Released Lock (Taken Released) a g.0 ((λ x. cc), (λ x. cc), refl, g.1)
  gives_on Absent Mint a g = mint_gives (cap_of b.genesis t.asset) a refl g
  gives_on Minted Mint a g = same_entry Minted Mint a refl g
  gives_on Locked Mint a g = by_answer Locked Mint (Taken Locked) a g.0 ((λ x. cc), (λ x. cc), refl, g.1)
  gives_on Burnt Mint a g = by_answer Burnt Mint (Taken Burnt) a g.0 ((λ x. cc), (λ x. cc), refl, g.1)
  gives_on Assigned Mint a g = by_answer Assigned Mint (Taken Assigned) a g.0 ((λ x. cc), (λ x. cc), refl, g.1)
  gives_on Released Mint a g = by_answer Released Mint (Taken Released) a g.0 ((λ x. cc), (λ x. cc), refl, g.1)
  gives_on Locked Burn a g = line Locked Burn a refl tt g
  gives_on Burnt Burn a g = same_entry Burnt Burn a refl g
  gives_on Minted Assign a g = line Minted Assign a refl tt g
  gives_on Assigned Assign a g = same_entry Assigned Assign a refl g
  gives_on Absent Release a g = line Absent Release a refl tt g
  gives_on Locked Release a g = line Locked Release a refl tt g
  gives_on Minted Release a g = line Minted Release a refl tt g
  gives_on Released Release a g = same_entry Released Release a refl g
  gives_on e op a g = absurd (none_some a g.0)

pub gives-rule : (b : Book) (op : LedgerOp) (s : SessionId) (t : Terms) (a : Answer) (new : Book) → Gives (operation b op s t) a new → LedgerRule b op s t a new
unfolding operation
gives-rule b op s t a new g = gives_on b s t new (entry_of b.entries s) op a g

-- ---- out of order

no_answer : (b : Book) (op : LedgerOp) (s : SessionId) (t : Terms) (e : Entry) → is_always_answered op ≡ false → e ≢ result_of op → leads op e ≡ false → (operation_on b op s t e).answer ≡ None
no_answer b Lock s t e a n l = absurd (never (sym a))
no_answer b Mint s t e a n l = absurd (never (sym a))
no_answer b Burn s t Locked a n l = absurd (never (sym l))
no_answer b Burn s t Burnt a n l = absurd (n refl)
no_answer b Assign s t Minted a n l = absurd (never (sym l))
no_answer b Assign s t Assigned a n l = absurd (n refl)
no_answer b Release s t Absent a n l = absurd (never (sym l))
no_answer b Release s t Locked a n l = absurd (never (sym l))
no_answer b Release s t Minted a n l = absurd (never (sym l))
no_answer b Release s t Released a n l = absurd (n refl)
no_answer b op s t e a n l = refl

pub order-none : (b : Book) (op : LedgerOp) (s : SessionId) (t : Terms) (e : Entry) → IsOutOfOrder b op s e → (e ≡ entry_of b.entries s) × ((operation b op s t).answer ≡ None)
unfolding operation
order-none b op s t e h = (h.found, no_answer b op s t (entry_of b.entries s) h.bound (λ x. h.other (h.found ∙ x)) (subst (λ x. leads op x ≡ false) h.found h.no_line))

-- no answer, and what that tells of the operation and the entry
abbrev Refuses : LedgerOp → Entry → Type 0
Refuses op e = (is_always_answered op ≡ false) × (e ≢ result_of op) × (leads op e ≡ false)

lock_answers : (b : Book) (s : SessionId) (t : Terms) (x : Bool) (free : ℕ) → (cond x (moves b Lock s t) (stays b (Some (NoFunds free)))).answer ≡ None → ⊥
lock_answers b s t true free e = some_none Done e
lock_answers b s t false free e = some_none (NoFunds free) e

mint_answers : (b : Book) (s : SessionId) (t : Terms) (total : ℕ) (known : Option ℕ) → (mint_on b s t total known).answer ≡ None → ⊥
mint_answers b s t total None e = some_none UnknownAsset e
mint_answers b s t total (Some cap) e = at (nat_le (total + t.amount.number) cap) e
  where
    at : (x : Bool) → (cond x (moves b Mint s t) (stays b (Some (Capped total)))).answer ≡ None → ⊥
    at true h = some_none Done h
    at false h = some_none (Capped total) h

refuses : (b : Book) (op : LedgerOp) (s : SessionId) (t : Terms) (e : Entry) → (operation_on b op s t e).answer ≡ None → Refuses op e
refuses b Lock s t Absent h = absurd (lock_answers b s t (nat_le t.amount.number (free_of b t.asset t.originator)) (free_of b t.asset t.originator) h)
refuses b Lock s t Locked h = absurd (some_none Done h)
refuses b Lock s t e h = absurd (cc h)
refuses b Mint s t Absent h = absurd (mint_answers b s t (total_of b t.asset) (cap_of b.genesis t.asset) h)
refuses b Mint s t Minted h = absurd (some_none Done h)
refuses b Mint s t e h = absurd (cc h)
refuses b Burn s t Locked h = absurd (some_none Done h)
refuses b Burn s t Burnt h = absurd (some_none Done h)
refuses b Burn s t e h = (refl, (λ x. cc), refl)
refuses b Assign s t Minted h = absurd (some_none Done h)
refuses b Assign s t Assigned h = absurd (some_none Done h)
refuses b Assign s t e h = (refl, (λ x. cc), refl)
refuses b Release s t Absent h = absurd (some_none Done h)
refuses b Release s t Locked h = absurd (some_none Done h)
refuses b Release s t Minted h = absurd (some_none Done h)
refuses b Release s t Released h = absurd (some_none Done h)
refuses b Release s t e h = (refl, (λ x. cc), refl)

pub none-order : (b : Book) (op : LedgerOp) (s : SessionId) (t : Terms) (e : Entry) → (e ≡ entry_of b.entries s) × ((operation b op s t).answer ≡ None) → IsOutOfOrder b op s e
unfolding operation
none-order b op s t e h =
    let r = subst (Refuses op) (sym h.0) (refuses b op s t (entry_of b.entries s) h.1) in
    record { found = h.0; bound = r.0; other = r.1; no_line = r.2 }
