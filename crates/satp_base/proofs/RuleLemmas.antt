-- The rule of ledgers by cases, and the same as a function.
use Rattle.std.proofs.Common.{◌≡◌, ◌≢◌, inl, inr, ℕ, ◌+◌, ◌<◌, ◌≤◌, true, false, cond, Option, Some, None, refl, ap, subst, sym, ◌∙◌}
use Rattle.std.proofs.lemmas.Bool.{le-leb, lt-leb}
use Rattle.satp_base.specs.Acts.{MayAnswer, MayRefuse}
use Rattle.satp_base.specs.LedgerRule.{Allows, IsOutOfOrder, LedgerRule, Operation, RuleOn, entry_of, leads, lock_on, mint_on, moved, moves, operation, operation_on, result_of, stays}
use Rattle.satp_base.specs.Money.{Book, cap_of, total_of}
use Rattle.satp_base.specs.declared.ledger.ActFault.TheVariants.{OutOfOrder}
use Rattle.satp_base.specs.declared.ledger.Answer.{Answer}
use Rattle.satp_base.specs.declared.ledger.Answer.TheVariants.{Done, NoFunds, UnknownAsset, Capped, Taken}
use Rattle.satp_base.specs.declared.ledger.Entry.{Entry}
use Rattle.satp_base.specs.declared.ledger.Entry.TheVariants.{Absent, Locked, Minted}
use Rattle.satp_base.specs.declared.ledger.LedgerOp.{LedgerOp}
use Rattle.satp_base.specs.declared.ledger.LedgerOp.TheVariants.{Lock, Burn, Mint, Assign, Release}
use Rattle.satp_base.specs.declared.message.Terms.{Terms}
use Rattle.satp_base.specs.declared.session.SessionId.{SessionId}

-- the operation has this answer and this ledger behind it
abbrev pub Gives : Operation → Answer → Book → Type 0
Gives o answer new = (o.answer ≡ Some answer) × (new ≡ o.after)

never : false ≡ true → ⊥
never e = cc

none_some : {A : Type 0} (a : A) → ◌≡◌ {A = Option A} None (Some a) → ⊥
none_some a e = cc

same_some : {A : Type 0} (a b : A) → Some a ≡ Some b → a ≡ b
same_some a b e = cc

-- ---- what the rule says is what the function gives

lock_moves : (b : Book) (s : SessionId) (t : Terms) (free : ℕ) → t.amount.number ≤ free → lock_on b s t free ≡ moves b Lock s t
lock_moves b s t free h = ap (λ x. cond x (moves b Lock s t) (stays b (Some (NoFunds free)))) (le-leb _ _ h)

lock_stays : (b : Book) (s : SessionId) (t : Terms) (free : ℕ) → free < t.amount.number → lock_on b s t free ≡ stays b (Some (NoFunds free))
lock_stays b s t free h = ap (λ x. cond x (moves b Lock s t) (stays b (Some (NoFunds free)))) (lt-leb _ _ h)

mint_moves : (b : Book) (s : SessionId) (t : Terms) (total cap : ℕ) (known : Option ℕ) → known ≡ Some cap → total + t.amount.number ≤ cap → mint_on b s t total known ≡ moves b Mint s t
mint_moves b s t total cap known e h = ap (mint_on b s t total) e ∙ ap (λ x. cond x (moves b Mint s t) (stays b (Some (Capped total)))) (le-leb _ _ h)

mint_stays : (b : Book) (s : SessionId) (t : Terms) (total cap : ℕ) (known : Option ℕ) → known ≡ Some cap → cap < total + t.amount.number → mint_on b s t total known ≡ stays b (Some (Capped total))
mint_stays b s t total cap known e h = ap (mint_on b s t total) e ∙ ap (λ x. cond x (moves b Mint s t) (stays b (Some (Capped total)))) (lt-leb _ _ h)

gives_by : (o p : Operation) (a : Answer) (new : Book) → o ≡ p → Gives p a new → Gives o a new
gives_by o p a new e g = subst (λ x. Gives x a new) (sym e) g

line_gives : (b : Book) (op : LedgerOp) (s : SessionId) (t : Terms) (entry : Entry) (new : Book) → leads op entry ≡ true → Allows b op t → new ≡ moved b op s t → Gives (operation_on b op s t entry) Done new
line_gives b Lock s t Absent new l a n = gives_by _ _ Done new (lock_moves b s t _ a) (refl, n)
line_gives b Burn s t Locked new l a n = (refl, n)
line_gives b Mint s t Absent new l a n = gives_by _ _ Done new (mint_moves b s t _ a.0 _ a.1 a.2) (refl, n)
line_gives b Assign s t Minted new l a n = (refl, n)
line_gives b Release s t Absent new l a n = (refl, n)
line_gives b Release s t Locked new l a n = (refl, n)
line_gives b Release s t Minted new l a n = (refl, n)
line_gives b op s t entry new l a n = absurd (never l)

result_gives : (b : Book) (op : LedgerOp) (s : SessionId) (t : Terms) (entry : Entry) (new : Book) → entry ≡ result_of op → new ≡ b → Gives (operation_on b op s t entry) Done new
result_gives b op s t entry new e n = subst (λ x. Gives (operation_on b op s t x) Done new) (sym e) (at op)
  where
    at : (o : LedgerOp) → Gives (operation_on b o s t (result_of o)) Done new
    at Lock = (refl, n)
    at Burn = (refl, n)
    at Mint = (refl, n)
    at Assign = (refl, n)
    at Release = (refl, n)

lock_taken : (b : Book) (s : SessionId) (t : Terms) (entry shown : Entry) (new : Book) → entry ≢ Absent → entry ≢ Locked → shown ≡ entry → new ≡ b → Gives (operation_on b Lock s t entry) (Taken shown) new
lock_taken b s t Absent shown new p q e n = absurd (p refl)
lock_taken b s t Locked shown new p q e n = absurd (q refl)
lock_taken b s t entry shown new p q e n = (ap (λ x. Some (Taken x)) (sym e), n)

mint_taken : (b : Book) (s : SessionId) (t : Terms) (entry shown : Entry) (new : Book) → entry ≢ Absent → entry ≢ Minted → shown ≡ entry → new ≡ b → Gives (operation_on b Mint s t entry) (Taken shown) new
mint_taken b s t Absent shown new p q e n = absurd (p refl)
mint_taken b s t Minted shown new p q e n = absurd (q refl)
mint_taken b s t entry shown new p q e n = (ap (λ x. Some (Taken x)) (sym e), n)

at_absent : (b : Book) (op : LedgerOp) (s : SessionId) (t : Terms) (entry : Entry) (a : Answer) (new : Book) → entry ≡ Absent → Gives (operation_on b op s t Absent) a new → Gives (operation_on b op s t entry) a new
at_absent b op s t entry a new e g = subst (λ x. Gives (operation_on b op s t x) a new) (sym e) g

rule_on : (b : Book) (entry : Entry) (op : LedgerOp) (s : SessionId) (t : Terms) (a : Answer) (new : Book) → RuleOn b entry op s t a new → Gives (operation_on b op s t entry) a new
rule_on b entry op s t Done new (inl h) = result_gives b op s t entry new h.0 h.1
rule_on b entry op s t Done new (inr h) = line_gives b op s t entry new h.0 h.1 h.2
rule_on b entry Lock s t (Taken shown) new h = lock_taken b s t entry shown new h.0 h.1 h.2 h.3
rule_on b entry Lock s t (NoFunds free) new h =
    at_absent b Lock s t entry (NoFunds free) new h.0
    (subst (λ x. Gives (lock_on b s t x) (NoFunds free) new) h.1 (gives_by _ _ (NoFunds free) new (lock_stays b s t free h.2) (refl, h.3)))
rule_on b entry Mint s t (Taken shown) new h = mint_taken b s t entry shown new h.0 h.1 h.2 h.3
rule_on b entry Mint s t UnknownAsset new h = at_absent b Mint s t entry UnknownAsset new h.0 (gives_by _ _ UnknownAsset new (ap (mint_on b s t (total_of b t.asset)) h.1) (refl, h.2))
rule_on b entry Mint s t (Capped total) new h =
    at_absent b Mint s t entry (Capped total) new h.0
    (subst (λ x. Gives (mint_on b s t x (cap_of b.genesis t.asset)) (Capped total) new) h.1 (gives_by _ _ (Capped total) new (mint_stays b s t total h.2.0 _ h.2.1 h.2.2) (refl, h.3)))
rule_on b entry op s t a new h = absurd h

pub rule-gives : (b : Book) (op : LedgerOp) (s : SessionId) (t : Terms) (a : Answer) (new : Book) → LedgerRule b op s t a new → Gives (operation b op s t) a new
unfolding operation
rule-gives b op s t a new h = rule_on b (entry_of b.entries s) op s t a new h

-- ---- what an operation may answer

answer_may : (b : Book) (entry : Entry) (op : LedgerOp) (s : SessionId) (t : Terms) (a : Answer) (new : Book) → RuleOn b entry op s t a new → MayAnswer op a
answer_may b entry op s t Done new h = tt
answer_may b entry Lock s t (Taken shown) new h = tt
answer_may b entry Lock s t (NoFunds free) new h = tt
answer_may b entry Mint s t (Taken shown) new h = tt
answer_may b entry Mint s t UnknownAsset new h = tt
answer_may b entry Mint s t (Capped total) new h = tt
answer_may b entry op s t a new h = absurd h

pub rule-may : (b : Book) (op : LedgerOp) (s : SessionId) (t : Terms) (a : Answer) (new : Book) → LedgerRule b op s t a new → MayAnswer op a
rule-may b op s t a new h = answer_may b (entry_of b.entries s) op s t a new h

pub order-may : (b : Book) (op : LedgerOp) (s : SessionId) (entry : Entry) → IsOutOfOrder b op s entry → MayRefuse op (OutOfOrder entry)
order-may b op s entry h = (h.bound, h.other, h.no_line)
