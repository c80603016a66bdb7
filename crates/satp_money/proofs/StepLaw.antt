-- What a step leaves of the entries: one that is finished stays, and so do those of other sessions.
use Rattle.std.proofs.Common.{◌≡◌, ◌≢◌, ◌⊎◌, inl, inr, ℕ, ◌+◌, nat_le, Bool, true, false, cond, List, [], ◌∷◌, Option, Some, None, refl, ap, subst, sym, ◌∙◌}
use Rattle.std.proofs.lemmas.Bool.{leb-true}
use Rattle.std.specs.List.{AllByRecursion}
use Rattle.std.specs.FinMap.{get, get-insert}
use Rattle.std.specs.Option.{option_map_or}
use Rattle.std.specs.Ordering.{eq_by_cmp, is_eq}
use Rattle.std.specs.declared.cmp.Ordering.{Ordering}
use Rattle.std.specs.declared.cmp.Ordering.TheVariants.{Less, Equal, Greater}
use Rattle.satp_base.specs.Keys.{session_cmp}
use Rattle.satp_base.specs.LedgerRule.{Allows, Operation, entry_of, leads, mint_on, moved, moves, operation, operation_on, result_of, stays, terms_of}
use Rattle.satp_base.specs.Money.{Book, cap_of, free_of, total_of}
use Rattle.satp_base.specs.declared.ledger.Answer.TheVariants.{NoFunds, Capped}
use Rattle.satp_base.specs.declared.ledger.Entry.{Entry}
use Rattle.satp_base.specs.declared.ledger.Entry.TheVariants.{Absent, Locked, Burnt, Minted, Assigned, Released}
use Rattle.satp_base.specs.declared.ledger.LedgerEntry.{LedgerEntry}
use Rattle.satp_base.specs.declared.ledger.LedgerOp.{LedgerOp}
use Rattle.satp_base.specs.declared.ledger.LedgerOp.TheVariants.{Lock, Burn, Mint, Assign, Release}
use Rattle.satp_base.specs.declared.message.Terms.{Terms}
use Rattle.satp_base.specs.declared.session.SessionId.{SessionId}
use Rattle.satp_base.proofs.SessionLemmas.{exact_sessions, sessions_total}
use Rattle.satp_money.specs.Laws.{Act, book_after, is_finished}

never : false ≡ true → ⊥
never e = cc

-- ---- a step moves the entry by a line of the table, or leaves all

abbrev pub Stays : Book → Operation → Type 0
Stays b o = (o.changes ≡ false) × (o.after ≡ b)

abbrev pub Moves : Book → LedgerOp → SessionId → Terms → Entry → Operation → Type 0
Moves b op s t e o = (o.changes ≡ true) × (leads op e ≡ true) × Allows b op t × (o.after ≡ moved b op s t)

module _ (b : Book) (s : SessionId) (t : Terms) where
  lock_step : (x : Bool) → nat_le t.amount.number (free_of b t.asset t.originator) ≡ x → (answer : Operation) → answer ≡ cond x (moves b Lock s t) (stays b (Some (NoFunds (free_of b t.asset t.originator)))) → Stays b answer ⊎ Moves b Lock s t Absent answer
  lock_step true e o is = inr (ap (λ (y : Operation). y.changes) is, refl, leb-true _ _ e, ap (λ (y : Operation). y.after) is)
  lock_step false e o is = inl (ap (λ (y : Operation). y.changes) is, ap (λ (y : Operation). y.after) is)

  cap_step : (cap : ℕ) (x : Bool) → cap_of b.genesis t.asset ≡ Some cap → nat_le (total_of b t.asset + t.amount.number) cap ≡ x → (o : Operation) → o ≡ cond x (moves b Mint s t) (stays b (Some (Capped (total_of b t.asset)))) → Stays b o ⊎ Moves b Mint s t Absent o
  cap_step cap true k e o is = inr (ap (λ (y : Operation). y.changes) is, refl, (cap, k, leb-true _ _ e), ap (λ (y : Operation). y.after) is)
  cap_step cap false k e o is = inl (ap (λ (y : Operation). y.changes) is, ap (λ (y : Operation). y.after) is)

  mint_step : (known : Option ℕ) → cap_of b.genesis t.asset ≡ known → Stays b (mint_on b s t (total_of b t.asset) known) ⊎ Moves b Mint s t Absent (mint_on b s t (total_of b t.asset) known)
  mint_step None k = inl (refl, refl)
  mint_step (Some cap) k = cap_step cap (nat_le (total_of b t.asset + t.amount.number) cap) k refl _ refl

  step_on : (op : LedgerOp) (e : Entry) → Stays b (operation_on b op s t e) ⊎ Moves b op s t e (operation_on b op s t e)
  step_on Lock Absent = lock_step (nat_le t.amount.number (free_of b t.asset t.originator)) refl _ refl
  step_on Mint Absent = mint_step (cap_of b.genesis t.asset) refl
  step_on Burn Locked = inr (refl, refl, tt, refl)
  step_on Assign Minted = inr (refl, refl, tt, refl)
  step_on Release Absent = inr (refl, refl, tt, refl)
  step_on Release Locked = inr (refl, refl, tt, refl)
  step_on Release Minted = inr (refl, refl, tt, refl)
  step_on Lock Locked = inl (refl, refl)
  step_on Mint Minted = inl (refl, refl)
  step_on Burn Burnt = inl (refl, refl)
  step_on Assign Assigned = inl (refl, refl)
  step_on Release Released = inl (refl, refl)
  step_on op e = inl (refl, refl)

pub step_is : (b : Book) (op : LedgerOp) (s : SessionId) (t : Terms) → Stays b (operation b op s t) ⊎ Moves b op s t (entry_of b.entries s) (operation b op s t)
unfolding operation
step_is b op s t = step_on b s t op (entry_of b.entries s)

-- ---- entries that stay

no_line_from : (op : LedgerOp) (e : Entry) → is_finished e ≡ true → leads op e ≡ true → ⊥
no_line_from op Burnt f l = from_burnt op l
  where
    from_burnt : (o : LedgerOp) → leads o Burnt ≡ true → ⊥
    from_burnt Lock l = never l
    from_burnt Burn l = never l
    from_burnt Mint l = never l
    from_burnt Assign l = never l
    from_burnt Release l = never l
no_line_from op Assigned f l = from_assigned op l
  where
    from_assigned : (o : LedgerOp) → leads o Assigned ≡ true → ⊥
    from_assigned Lock l = never l
    from_assigned Burn l = never l
    from_assigned Mint l = never l
    from_assigned Assign l = never l
    from_assigned Release l = never l
no_line_from op Released f l = from_released op l
  where
    from_released : (o : LedgerOp) → leads o Released ≡ true → ⊥
    from_released Lock l = never l
    from_released Burn l = never l
    from_released Mint l = never l
    from_released Assign l = never l
    from_released Release l = never l
no_line_from op e f l = never f

is_equal : (r : Ordering) → is_eq r ≡ true → r ≡ Equal
is_equal Less e = absurd cc
is_equal Equal e = refl
is_equal Greater e = absurd cc

-- an entry of another session is the same behind a move
other_same : (b : Book) (op : LedgerOp) (s q : SessionId) (t : Terms) → q ≢ s → get (moved b op s t).entries q ≡ get b.entries q
other_same b op s q t apart = get-insert sessions_total b.entries s (record { entry = result_of op; terms = terms_of b.entries s t }) q ∙ at (eq_by_cmp session_cmp q s) refl
  where
    at : (x : Bool) → eq_by_cmp session_cmp q s ≡ x → cond x (Some (record { entry = result_of op; terms = terms_of b.entries s t })) (get b.entries q) ≡ get b.entries q
    at true e = absurd (apart (exact_sessions q s (is_equal (session_cmp q s) e)))
    at false e = refl

one_other : (b : Book) (op : LedgerOp) (s q : SessionId) (t : Terms) → q ≢ s → get (operation b op s t).after.entries q ≡ get b.entries q
one_other b op s q t apart = at (step_is b op s t)
  where
    at : Stays b (operation b op s t) ⊎ Moves b op s t (entry_of b.entries s) (operation b op s t) → get (operation b op s t).after.entries q ≡ get b.entries q
    at (inl h) = ap (λ (x : Book). get x.entries q) h.1
    at (inr h) = ap (λ (x : Book). get x.entries q) h.3 ∙ other_same b op s q t apart

one_finished : (b : Book) (op : LedgerOp) (s q : SessionId) (t : Terms) → is_finished (entry_of b.entries q) ≡ true → get (operation b op s t).after.entries q ≡ get b.entries q
one_finished b op s q t f = at (step_is b op s t)
  where
    at : Stays b (operation b op s t) ⊎ Moves b op s t (entry_of b.entries s) (operation b op s t) → get (operation b op s t).after.entries q ≡ get b.entries q
    at (inl h) = ap (λ (x : Book). get x.entries q) h.1
    at (inr h) = ap (λ (x : Book). get x.entries q) h.3 ∙ other_same b op s q t (λ e. no_line_from op (entry_of b.entries s) (subst (λ (x : SessionId). is_finished (entry_of b.entries x) ≡ true) e f) h.1)

pub finished_stays : (b : Book) (acts : List Act) (s : SessionId) → is_finished (entry_of b.entries s) ≡ true → get (book_after b acts).entries s ≡ get b.entries s
finished_stays b [] s f = refl
finished_stays b (a ∷ acts) s f =
    let one = one_finished b a.op a.session s a.terms f in
    finished_stays (operation b a.op a.session a.terms).after acts s (ap (λ (o : Option LedgerEntry). is_finished (option_map_or (λ (k : LedgerEntry). k.entry) o Absent)) one ∙ f) ∙ one

pub others_stay : (b : Book) (acts : List Act) (s : SessionId) → AllByRecursion (λ (a : Act). a.session ≢ s) acts → get (book_after b acts).entries s ≡ get b.entries s
others_stay b [] s h = refl
others_stay b (a ∷ acts) s h = others_stay (operation b a.op a.session a.terms).after acts s h.1 ∙ one_other b a.op a.session s a.terms (λ e. h.0 (sym e))
