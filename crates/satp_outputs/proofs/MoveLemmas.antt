-- What each line of the table does to the outputs and their numbers.
use Rattle.std.proofs.Common.{◌≡◌, inr, ℕ, zero, suc, ◌+◌, ◌*◌, ◌^◌, ◌<◌, ◌≤◌, ◌&&◌, ◌||◌, not, nat_lt, Bool, true, false, cond, List, [], ◌∷◌, ◌++◌, length, All, Result, Ok, Err, refl, ap, ap₂, subst, sym, ◌∙◌, arith}
use Rattle.std.specs.Prelude.{OnErr, OnOk}
use Rattle.std.specs.List.{AllByRecursion, sum_by}
use Rattle.std.specs.List.Sorted.{IsStrictlySortedBy}
use Rattle.std.specs.FinMap.{from_entries, insert}
use Rattle.std.specs.Map.{keys_of}
use Rattle.std.proofs.lemmas.Bool.{leb-false}
use Rattle.std.proofs.lemmas.List.Elements.{filter-append, recursion_from_All}
use Rattle.std.proofs.lemmas.List.Sums.{sum_by-le, sum_by-le-sum_by}
use Rattle.satp_base.specs.Founding.{counted, most_holds}
use Rattle.satp_base.specs.Keys.{session_cmp}
use Rattle.satp_base.specs.Ledgers.{Entries}
use Rattle.satp_base.specs.LedgerRule.{LedgerRule, entry_of, leads, result_of, terms_of}
use Rattle.satp_base.specs.Money.{Book, free_of, pledged, sum_entries}
use Rattle.satp_base.specs.Numbers.{greatest_amount}
use Rattle.satp_base.specs.declared.ledger.Answer.TheVariants.{Done}
use Rattle.satp_base.specs.declared.ledger.Entry.{Entry}
use Rattle.satp_base.specs.declared.ledger.Entry.TheVariants.{Absent, Locked, Burnt, Minted, Assigned, Released}
use Rattle.satp_base.specs.declared.ledger.LedgerEntry.{LedgerEntry}
use Rattle.satp_base.specs.declared.ledger.LedgerOp.{LedgerOp}
use Rattle.satp_base.specs.declared.ledger.LedgerOp.TheVariants.{Lock, Burn, Mint, Assign, Release}
use Rattle.satp_base.specs.declared.message.Terms.{Terms}
use Rattle.satp_base.specs.declared.name.Name.{Name}
use Rattle.satp_base.specs.declared.session.SessionId.{SessionId}
use Rattle.satp_base.proofs.SessionLemmas.{exact_sessions, sessions_total}
use Rattle.satp_money.specs.Amounts.{Agrees}
use Rattle.satp_money.specs.Steps.{is_giving, is_still, receiver, with_result}
use Rattle.satp_money.specs.declared.owned.Owned.{Owned}
use Rattle.satp_money.proofs.Counting.{sum_put_entry}
use Rattle.satp_money.proofs.Maps.{sorted_entries}
use Rattle.satp_money.proofs.Steps.{absent_terms, give_agrees, sum_most, take_agrees}
use Rattle.satp_outputs.specs.Steps.{EndsAt, above, most_made, most_made_by}
use Rattle.satp_outputs.specs.Unspent.{Numbered, Unspent, after_lock, asset_sum, is_own, own_below, own_sum, rest_of, stepped, untaken, with_change, with_output}
use Rattle.satp_outputs.specs.declared.output.Output.{Output}
use Rattle.satp_outputs.proofs.OutputLemmas.{give_rises, lock_rises, own_within, rest_is, sum_below, untaken_is}

not_given : (k n : ℕ) → nat_lt k n ≡ false → n ≤ k
not_given k n e = omega (arith, leb-false (suc k) n e)

never : false ≡ true → ⊥
never e = cc

-- ---- the outputs that an operation leaves

pub still_steps : (op : LedgerOp) (e : Entry) (t : Terms) (u : Unspent) → is_still op e ≡ true → u ≡ stepped op e t u
still_steps Burn Locked t u h = refl
still_steps Mint Absent t u h = refl
still_steps Release Absent t u h = refl
still_steps Release Minted t u h = refl
still_steps op e t u h = absurd (never h)

abbrev pub received : Owned → ℕ → Output
received o n = record { asset = o.asset; owner = o.owner; amount = n }

giving_steps : (op : LedgerOp) (e : Entry) (t : Terms) (u : Unspent) → is_giving op e ≡ true → with_output u (received (receiver op t) t.amount.number) ≡ stepped op e t u
giving_steps Assign Minted t u h = refl
giving_steps Release Locked t u h = refl
giving_steps op e t u h = absurd (never h)

pub give_steps : (op : LedgerOp) (e : Entry) (t : Terms) (u u' : Unspent) (o : Owned) → is_giving op e ≡ true → o ≡ receiver op t → u' ≡ with_output u (received o t.amount.number) → u' ≡ stepped op e t u
give_steps op e t u u' o h is made = made ∙ ap (λ (x : Owned). with_output u (received x t.amount.number)) is ∙ giving_steps op e t u h

pub same_steps : (op : LedgerOp) (e : Entry) (t : Terms) (u : Unspent) → e ≡ result_of op → u ≡ stepped op e t u
same_steps op e t u is = subst (λ (x : Entry). u ≡ stepped op x t u) (sym is) (at op)
  where
    at : (o : LedgerOp) → u ≡ stepped o (result_of o) t u
    at Lock = refl
    at Burn = refl
    at Mint = refl
    at Assign = refl
    at Release = refl

pub mint_steps : (e : Entry) (t : Terms) (u : Unspent) → u ≡ stepped Mint e t u
mint_steps Absent t u = refl
mint_steps Locked t u = refl
mint_steps Burnt t u = refl
mint_steps Minted t u = refl
mint_steps Assigned t u = refl
mint_steps Released t u = refl

-- ---- a lock

few_below : (es : List Numbered) (n m : ℕ) → n ≤ m → AllByRecursion (λ (e : Numbered). e.0 < n) es → AllByRecursion (λ (e : Numbered). e.0 < m) es
few_below [] n m l h = tt
few_below (e ∷ es) n m l h = (omega (arith, h.0, l), few_below es n m l h.1)

-- a taking ends at a number that was given
last_given : (u : Unspent) (asset owner : Name) (amount last rest : ℕ) → All (λ e. e.0 < u.next) u.outputs → EndsAt u.outputs asset owner amount last rest → nat_lt last u.next ≡ true
last_given u asset owner amount last rest below ends = at (nat_lt last u.next) refl
  where
    at : (b : Bool) → nat_lt last u.next ≡ b → b ≡ true
    at true e = refl
    at false e =
        let all = recursion_from_All (λ e'. e'.0 < u.next) u.outputs below in
        let past = not_given last u.next e in
        absurd (omega (arith, ends.needed, ends.enough, sum_below asset owner last u.outputs (few_below u.outputs u.next last past all), sum_below asset owner (suc last) u.outputs (few_below u.outputs u.next (suc last) (omega (arith, past)) all)))

lock_leaves : (u : Unspent) (t : Terms) (last rest : ℕ) → All (λ e. e.0 < u.next) u.outputs → EndsAt u.outputs t.asset t.originator t.amount.number last rest
    → above (with_change u t.asset t.originator rest) t.asset t.originator last ≡ with_change (untaken u t) t.asset t.originator rest
lock_leaves u t last zero below ends = ap (λ (es : List Numbered). record { outputs = es; next = u.next }) (untaken_is u.outputs t last zero ends)
lock_leaves u t last (suc n) below ends =
    ap (λ (es : List Numbered). record { outputs = es; next = u.next + 1 })
    (filter-append (λ (e : Numbered). nat_lt last e.0 || not (is_own t.asset t.originator e.1)) u.outputs ((u.next, change) ∷ [])
    ∙ ap₂ (λ (xs ys : List Numbered). xs ++ ys) (untaken_is u.outputs t last (suc n) ends) (ap (λ b. cond (b || not (is_own t.asset t.originator change)) ((u.next, change) ∷ []) []) (last_given u t.asset t.originator t.amount.number last (suc n) below ends)))
  where
    change : Output
    change = record { asset = t.asset; owner = t.originator; amount = suc n }

pub lock_steps : (u u' u'' : Unspent) (t : Terms) (last rest : ℕ) → All (λ e. e.0 < u.next) u.outputs → EndsAt u.outputs t.asset t.originator t.amount.number last rest → u' ≡ with_change u t.asset t.originator rest → u'' ≡ above u' t.asset t.originator last → u'' ≡ after_lock u t
lock_steps u u' u'' t last rest below ends e f =
    f ∙ ap (λ (x : Unspent). above x t.asset t.originator last) e ∙ lock_leaves u t last rest below ends ∙ ap (with_change (untaken u t) t.asset t.originator) (sym (rest_is u.outputs t last rest ends))

-- ---- amounts that agree with the book

pub give_done : (b : Book) (op : LedgerOp) (s : SessionId) (t : Terms) (u u' : Unspent) (m' : Entries) (o : Owned) → Agrees b (own_sum u.outputs) (asset_sum u.outputs) → is_giving op (entry_of b.entries s) ≡ true → t ≡ terms_of b.entries s t
    → o ≡ receiver op t → u' ≡ with_output u (received o t.amount.number) → m' ≡ (with_result b op s t).entries → Agrees (record b { entries = m' }) (own_sum u'.outputs) (asset_sum u'.outputs)
give_done b op s t u u' m' o h giving holds to made put =
    let is : u' ≡ with_output u (received (receiver op t) t.amount.number) = made ∙ ap (λ (x : Owned). with_output u (received x t.amount.number)) to in
    let next = with_output u (received (receiver op t) t.amount.number) in
    subst (λ m. Agrees (record b { entries = m }) (own_sum u'.outputs) (asset_sum u'.outputs)) (sym put)
    (subst (λ (x : Unspent). Agrees (with_result b op s t) (own_sum x.outputs) (asset_sum x.outputs)) (sym is)
    (give_agrees b s (own_sum u.outputs) (own_sum next.outputs) (asset_sum u.outputs) (asset_sum next.outputs) op t h giving holds (give_rises u (receiver op t) t.amount.number)))

pub take_done : (b : Book) (s : SessionId) (t : Terms) (u u' : Unspent) (m' : Entries) (last rest : ℕ) → Agrees b (own_sum u.outputs) (asset_sum u.outputs) → entry_of b.entries s ≡ Absent → EndsAt u.outputs t.asset t.originator t.amount.number last rest
    → u' ≡ after_lock u t → m' ≡ (with_result b Lock s t).entries → Agrees (record b { entries = m' }) (own_sum u'.outputs) (asset_sum u'.outputs)
take_done b s t u u' m' last rest h none ends is put =
    subst (λ m. Agrees (record b { entries = m }) (own_sum u'.outputs) (asset_sum u'.outputs)) (sym put)
    (subst (λ (x : Unspent). Agrees (with_result b Lock s t) (own_sum x.outputs) (asset_sum x.outputs)) (sym is)
    (take_agrees b s (own_sum u.outputs) (own_sum (after_lock u t).outputs) (asset_sum u.outputs) (asset_sum (after_lock u t).outputs) t h none (lock_rises u t last rest ends)))

-- ---- numbers

made_still : (op : LedgerOp) (e : Entry) → is_still op e ≡ true → most_made_by e ≤ most_made_by (result_of op)
made_still Burn Locked h = omega arith
made_still Mint Absent h = omega arith
made_still Release Absent h = omega arith
made_still Release Minted h = omega arith
made_still op e h = absurd (never h)

made_giving : (op : LedgerOp) (e : Entry) → is_giving op e ≡ true → most_made_by e + 1 ≤ most_made_by (result_of op)
made_giving Assign Minted h = omega arith
made_giving Release Locked h = omega arith
made_giving op e h = absurd (never h)

-- the numbers that were given, after a put that made so many more
put_numbers : (m m' : Entries) (op : LedgerOp) (s : SessionId) (t : Terms) (n n' more : ℕ) → n ≤ 1 + most_holds + sum_entries most_made m → n' ≤ n + more → most_made_by (entry_of m s) + more ≤ most_made_by (result_of op)
    → m' ≡ insert m s (record { entry = result_of op; terms = t }) → n' ≤ 1 + most_holds + sum_entries most_made m'
put_numbers m m' op s t n n' more h l made put =
    subst (λ x. n' ≤ 1 + most_holds + sum_entries most_made x) (sym put) (within _ _ _ _ _ _ h l made (sum_put_entry most_made_by refl m s (record { entry = result_of op; terms = t })))
  where
    within : (a b x y p q : ℕ) → a ≤ 1 + most_holds + x → b ≤ a + more → p + more ≤ q → y + p ≡ x + q → b ≤ 1 + most_holds + y
    within a b x y p q h' l' made' e = omega arith

pub still_numbers : {T E : Type 0} (r : Result T E) (m m' : Entries) (op : LedgerOp) (s : SessionId) (t : Terms) (n : ℕ) → n ≤ 1 + most_holds + sum_entries most_made m → is_still op (entry_of m s) ≡ true
    → OnOk r (m' ≡ insert m s (record { entry = result_of op; terms = t })) → OnErr r (m' ≡ m) → n ≤ 1 + most_holds + sum_entries most_made m'
still_numbers (Ok x) m m' op s t n h still ok err = put_numbers m m' op s t n n 0 h (omega arith) (omega (arith, made_still op (entry_of m s) still)) ok
still_numbers (Err x) m m' op s t n h still ok err = subst (λ (x : Entries). n ≤ 1 + most_holds + sum_entries most_made x) (sym err) h

pub give_numbers : (m m' : Entries) (op : LedgerOp) (s : SessionId) (t : Terms) (u u' : Unspent) (o : Output) → u.next ≤ 1 + most_holds + sum_entries most_made m → is_giving op (entry_of m s) ≡ true → u' ≡ with_output u o
    → m' ≡ insert m s (record { entry = result_of op; terms = t }) → u'.next ≤ 1 + most_holds + sum_entries most_made m'
give_numbers m m' op s t u u' o h giving made put = put_numbers m m' op s t u.next u'.next 1 h (omega (arith, ap (λ (x : Unspent). x.next) made)) (made_giving op (entry_of m s) giving) put

change_next : (u : Unspent) (asset owner : Name) (rest : ℕ) → (with_change u asset owner rest).next ≤ u.next + 1
change_next u asset owner zero = omega arith
change_next u asset owner (suc n) = omega arith

pub take_numbers : (m m' : Entries) (s : SessionId) (t : Terms) (u u' : Unspent) → u.next ≤ 1 + most_holds + sum_entries most_made m → entry_of m s ≡ Absent → u' ≡ after_lock u t
    → m' ≡ insert m s (record { entry = Locked; terms = t }) → u'.next ≤ 1 + most_holds + sum_entries most_made m'
take_numbers m m' s t u u' h none is put =
    put_numbers m m' Lock s t u.next u'.next 1 h (subst (λ (x : Unspent). x.next ≤ u.next + 1) (sym is) (change_next (untaken u t) t.asset t.originator (rest_of u.outputs t))) (subst (λ (e : Entry). most_made_by e + 1 ≤ 1) (sym none) (omega arith)) put

two_most : (e : Entry) → most_made_by e ≤ 2
two_most Absent = omega arith
two_most Locked = omega arith
two_most Burnt = omega arith
two_most Minted = omega arith
two_most Assigned = omega arith
two_most Released = omega arith

pub few_made : (es : List (SessionId × LedgerEntry)) (n : ℕ) → n ≤ 1 + most_holds + sum_entries most_made (from_entries {R = session_cmp} es) → IsStrictlySortedBy session_cmp (keys_of es) → length es < 2 ^ 63 → n < 2 ^ 66
few_made es n h sorted few =
    fits _ _ n h (ap (sum_by (λ (e : SessionId × LedgerEntry). most_made e.1)) (sorted_entries session_cmp sessions_total exact_sessions es sorted)) (sum_by-le (λ (e : SessionId × LedgerEntry). most_made e.1) 2 es (λ k d l. two_most _)) few
  where
    fits : (s x n' : ℕ) {k : ℕ} → n' ≤ 1 + most_holds + s → s ≡ x → x ≤ k * 2 → k < 2 ^ 63 → n' < 2 ^ 66
    fits s x n' p q l f = omega arith

-- ---- bounds

module _ (b : Book) (es : List Numbered) (h : Agrees b (own_sum es) (asset_sum es)) where
  pub asset_fits : (a : Name) → asset_sum es a ≤ greatest_amount
  asset_fits a = omega (arith, sum_most b (own_sum es) (asset_sum es) a h)

  pub own_fits : (a o : Name) → own_sum es a o ≤ greatest_amount
  own_fits a o = omega (arith, own_within es a o, asset_fits a)

  pub pledged_fits : (a : Name) → sum_entries (pledged a) b.entries ≤ greatest_amount
  pledged_fits a = omega (arith, sum_most b (own_sum es) (asset_sum es) a h)

-- ---- a lock by the rule

below_within : (es : List Numbered) (a o : Name) (n : ℕ) → own_below es a o n ≤ own_sum es a o
below_within es a o n = sum_by-le-sum_by _ _ es (λ e. part (nat_lt e.0 n) (is_own a o e.1) e.1.amount)
  where
    part : (x y : Bool) (k : ℕ) → counted (x && y) k ≤ counted y k
    part true y k = omega arith
    part false y k = omega arith

-- an amount whose taking ends is there
pub ends_within : (es : List Numbered) (a o : Name) (amount last rest : ℕ) → EndsAt es a o amount last rest → amount ≤ own_sum es a o
ends_within es a o amount last rest h = omega (arith, h.enough, below_within es a o (suc last))

pub lock_rule : (b new : Book) (s : SessionId) (t : Terms) → entry_of b.entries s ≡ Absent → t.amount.number ≤ free_of b t.asset t.originator → new ≡ with_result b Lock s t → LedgerRule b Lock s t Done new
lock_rule b new s t none enough put =
    inr (subst (λ (e : Entry). leads Lock e ≡ true) (sym none) refl, enough, put ∙ ap (λ (x : Terms). with_result b Lock s x) (sym (absent_terms b.entries s t none)))
