-- What a step does to what an owner is free to use.
use Rattle.std.proofs.Common.{◌≡◌, ◌⊎◌, inl, inr, ℕ, ◌+◌, ◌-◌, ◌≤◌, ◌&&◌, Bool, true, false, refl, ap, subst, sym, ◌∙◌, arith}
use Rattle.satp_base.specs.Founding.{counted, equal_names}
use Rattle.satp_base.specs.LedgerRule.{Allows, entry_of, leads, moved, operation, result_of, terms_of}
use Rattle.satp_base.specs.Money.{Book, free_of, held, is_given, is_taken}
use Rattle.satp_base.specs.Soundness.{IsSound}
use Rattle.satp_base.specs.declared.ledger.Entry.{Entry}
use Rattle.satp_base.specs.declared.ledger.Entry.TheVariants.{Absent, Locked, Minted}
use Rattle.satp_base.specs.declared.ledger.LedgerOp.{LedgerOp}
use Rattle.satp_base.specs.declared.ledger.LedgerOp.TheVariants.{Lock, Burn, Mint, Assign, Release}
use Rattle.satp_base.specs.declared.message.Terms.{Terms}
use Rattle.satp_base.specs.declared.name.Name.{Name}
use Rattle.satp_base.specs.declared.session.SessionId.{SessionId}
use Rattle.satp_base.proofs.GenesisLemmas.{equal_name}
use Rattle.satp_money.specs.Laws.{falls_by, rises_by}
use Rattle.satp_money.proofs.Counting.{sum_moved}
use Rattle.satp_money.proofs.Steps.{absent_terms}
use Rattle.satp_money.proofs.StepLaw.{Moves, Stays, step_is}
use Rattle.satp_money.proofs.TotalsLaw.{Room, lock_from, never, true_false}

-- ---- by a line of the table, of the part that is the originator's and the part that is the beneficiary's

abbrev falls_of : LedgerOp → ℕ → ℕ
falls_of Lock c = c
falls_of _ c = 0

abbrev rises_of : LedgerOp → Entry → ℕ → ℕ → ℕ
rises_of Assign e c d = d
rises_of Release Locked c d = c
rises_of _ e c d = 0

abbrev of_originator : Terms → Name → Name → Bool
of_originator t asset owner = equal_names asset t.asset && equal_names owner t.originator

abbrev of_beneficiary : Terms → Name → Name → Bool
of_beneficiary t asset owner = equal_names asset t.asset && equal_names owner t.beneficiary

falls_is : (op : LedgerOp) (t : Terms) (asset owner : Name) → falls_by op t asset owner ≡ falls_of op (counted (of_originator t asset owner) t.amount.number)
falls_is Lock t asset owner = refl
falls_is Burn t asset owner = refl
falls_is Mint t asset owner = refl
falls_is Assign t asset owner = refl
falls_is Release t asset owner = refl

rises_is : (op : LedgerOp) (e : Entry) (t : Terms) (asset owner : Name)
    → rises_by op e t asset owner ≡ rises_of op e (counted (of_originator t asset owner) t.amount.number) (counted (of_beneficiary t asset owner) t.amount.number)
rises_is Lock e t asset owner = refl
rises_is Burn e t asset owner = refl
rises_is Mint e t asset owner = refl
rises_is Assign e t asset owner = refl
rises_is Release Locked t asset owner = refl
rises_is Release e t asset owner = refl

balances : (op : LedgerOp) (e : Entry) (x y : Bool) (n H U G U' G' : ℕ) → leads op e ≡ true
    → U' + counted (is_taken e && x) n ≡ U + counted (is_taken (result_of op) && x) n → G' + counted (is_given e && y) n ≡ G + counted (is_given (result_of op) && y) n
    → U ≤ H + G → Room op (counted x n) ((H + G) - U) → ((H + G') - U') + falls_of op (counted x n) ≡ ((H + G) - U) + rises_of op e (counted x n) (counted y n)
balances Lock Absent x y n H U G U' G' l t g c r = omega arith
balances Burn Locked x y n H U G U' G' l t g c r = omega arith
balances Mint Absent x y n H U G U' G' l t g c r = omega arith
balances Assign Minted x y n H U G U' G' l t g c r = omega arith
balances Release Absent x y n H U G U' G' l t g c r = omega arith
balances Release Locked x y n H U G U' G' l t g c r = omega arith
balances Release Minted x y n H U G U' G' l t g c r = omega arith
balances op e x y n H U G U' G' l t g c r = absurd (never l)

-- ---- what is locked is free before

lock_room : (b : Book) (s : SessionId) (t : Terms) (asset owner : Name) → entry_of b.entries s ≡ Absent → t.amount.number ≤ free_of b t.asset t.originator
    → counted (of_originator (terms_of b.entries s t) asset owner) (terms_of b.entries s t).amount.number ≤ free_of b asset owner
lock_room b s t asset owner none enough =
    subst (λ (x : Terms). counted (of_originator x asset owner) x.amount.number ≤ free_of b asset owner) (sym (absent_terms b.entries s t none)) (at (equal_names asset t.asset) (equal_names owner t.originator) refl refl)
  where
    at : (c d : Bool) → equal_names asset t.asset ≡ c → equal_names owner t.originator ≡ d → counted (c && d) t.amount.number ≤ free_of b asset owner
    at true true e f = subst (λ (y : Name). t.amount.number ≤ free_of b y owner) (sym (equal_name asset t.asset e)) (subst (λ (y : Name). t.amount.number ≤ free_of b t.asset y) (sym (equal_name owner t.originator f)) enough)
    at true false e f = omega arith
    at false d e f = omega arith

room : (b : Book) (op : LedgerOp) (s : SessionId) (t : Terms) (asset owner : Name) → leads op (entry_of b.entries s) ≡ true → Allows b op t
    → Room op (counted (of_originator (terms_of b.entries s t) asset owner) (terms_of b.entries s t).amount.number) (free_of b asset owner)
room b Lock s t asset owner l w = lock_room b s t asset owner (lock_from _ l) w
room b Burn s t asset owner l w = tt
room b Mint s t asset owner l w = tt
room b Assign s t asset owner l w = tt
room b Release s t asset owner l w = tt

-- ---- the step

free_moved : (b : Book) (op : LedgerOp) (s : SessionId) (t : Terms) (asset owner : Name) → IsSound b → leads op (entry_of b.entries s) ≡ true → Allows b op t
    → free_of (moved b op s t) asset owner + falls_by op (terms_of b.entries s t) asset owner ≡ free_of b asset owner + rises_by op (entry_of b.entries s) (terms_of b.entries s t) asset owner
free_moved b op s t asset owner sound l w =
    let T = terms_of b.entries s t in
    ap (λ x. free_of (moved b op s t) asset owner + x) (falls_is op T asset owner)
    ∙ balances op (entry_of b.entries s) (of_originator T asset owner) (of_beneficiary T asset owner) T.amount.number (held b.genesis asset owner) _ _ _ _ l
    (sum_moved is_taken (λ x. of_originator x asset owner) refl b.entries op s t) (sum_moved is_given (λ x. of_beneficiary x asset owner) refl b.entries op s t)
    (sound.covered asset owner) (room b op s t asset owner l w)
    ∙ ap (λ x. free_of b asset owner + x) (sym (rises_is op (entry_of b.entries s) T asset owner))

pub free_moves : (b : Book) (op : LedgerOp) (s : SessionId) (t : Terms) (asset owner : Name) → IsSound b → (operation b op s t).changes ≡ true
    → free_of (operation b op s t).after asset owner + falls_by op (terms_of b.entries s t) asset owner ≡ free_of b asset owner + rises_by op (entry_of b.entries s) (terms_of b.entries s t) asset owner
free_moves b op s t asset owner sound changes = at (step_is b op s t)
  where
    at : Stays b (operation b op s t) ⊎ Moves b op s t (entry_of b.entries s) (operation b op s t)
        → free_of (operation b op s t).after asset owner + falls_by op (terms_of b.entries s t) asset owner ≡ free_of b asset owner + rises_by op (entry_of b.entries s) (terms_of b.entries s t) asset owner
    at (inl h) = absurd (true_false _ h.0 changes)
    at (inr h) = ap (λ (x : Book). free_of x asset owner + falls_by op (terms_of b.entries s t) asset owner) h.3 ∙ free_moved b op s t asset owner sound h.1 h.2
