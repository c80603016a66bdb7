-- Numbers are given once.
use Rattle.std.proofs.Common.{◌≡◌, ℕ, zero, suc, ◌+◌, ◌<◌, ◌≤◌, ◌==◌, not, Bool, true, false, cond, List, [], ◌∷◌, ◌++◌, length, Option, Some, None, refl, ap, subst, sym, ◌∙◌, arith}
use Rattle.std.specs.List.{AllByRecursion, filter, fold}
use Rattle.std.specs.List.Sorted.{IsStrictlySortedBy}
use Rattle.std.specs.Map.{keys_of, lookup}
use Rattle.std.specs.Ordering.{nat_cmp}
use Rattle.std.specs.declared.cmp.Ordering.TheVariants.{Less}
use Rattle.std.proofs.lemmas.Bool.Decides.{nat_tests}
use Rattle.std.proofs.lemmas.List.Elements.{All-from_recursion}
use Rattle.std.proofs.lemmas.List.Sums.{fold-append}
use Rattle.satp_base.specs.declared.genesis.Hold.{Hold}
use Rattle.satp_base.specs.declared.ledger.Entry.{Entry}
use Rattle.satp_base.specs.declared.ledger.Entry.TheVariants.{Absent, Locked, Minted}
use Rattle.satp_base.specs.declared.ledger.LedgerOp.{LedgerOp}
use Rattle.satp_base.specs.declared.ledger.LedgerOp.TheVariants.{Lock, Assign, Release}
use Rattle.satp_base.specs.declared.message.Terms.{Terms}
use Rattle.satp_base.specs.declared.name.Name.{Name}
use Rattle.satp_outputs.specs.Laws.{AreNumbered, Follows}
use Rattle.satp_outputs.specs.Unspent.{Move, Numbered, Unspent, after_lock, first_unspent, is_taken, numbered, rest_of, stepped, unspent_after, untaken, with_change, with_output}
use Rattle.satp_outputs.specs.declared.output.Output.{Output}

abbrev IsAbove : ℕ → List Numbered → Type 0
IsAbove n es = AllByRecursion (λ (e : Numbered). n < e.0) es

abbrev IsBelow : ℕ → List Numbered → Type 0
IsBelow n es = AllByRecursion (λ (e : Numbered). e.0 < n) es

abbrev Ascends : List Numbered → Type 0
Ascends [] = Unit {0}
Ascends (e ∷ es) = IsAbove e.0 es × Ascends es

abbrev IsGood : Unspent → Type 0
IsGood u = Ascends u.outputs × IsBelow u.next u.outputs

-- ---- one more output

above_push : (k n : ℕ) (es : List Numbered) (o : Output) → k < n → IsAbove k es → IsAbove k (es ++ (n, o) ∷ [])
above_push k n [] o l h = (l, tt)
above_push k n (e ∷ es) o l h = (h.0, above_push k n es o l h.1)

ascends_push : (n : ℕ) (es : List Numbered) (o : Output) → Ascends es → IsBelow n es → Ascends (es ++ (n, o) ∷ [])
ascends_push n [] o a b = (tt, tt)
ascends_push n (e ∷ es) o a b = (above_push e.0 n es o b.0 a.0, ascends_push n es o a.1 b.1)

below_push : (n : ℕ) (es : List Numbered) (o : Output) → IsBelow n es → IsBelow (n + 1) (es ++ (n, o) ∷ [])
below_push n [] o h = (omega arith, tt)
below_push n (e ∷ es) o h = (omega (arith, h.0), below_push n es o h.1)

good_output : (u : Unspent) (o : Output) → IsGood u → IsGood (with_output u o)
good_output u o h = (ascends_push u.next u.outputs o h.0 h.1, below_push u.next u.outputs o h.1)

abbrev found : List Numbered → ℕ → Option Output
found es n = lookup (λ (k : ℕ). k == n) es

other_number : (k n : ℕ) → n < k → (k == n) ≡ false
other_number k n h = grind (arith, nat_tests)

found_push : (es : List Numbered) (k n : ℕ) (o x : Output) → n < k → found (es ++ (k, o) ∷ []) n ≡ Some x → found es n ≡ Some x
found_push [] k n o x l e = sym (ap (λ b. cond b (Some o) None) (other_number k n l)) ∙ e
found_push (y ∷ es) k n o x l e = at (y.0 == n) (found_push es k n o x l) e
  where
    at : (b : Bool) → (found (es ++ (k, o) ∷ []) n ≡ Some x → found es n ≡ Some x) → cond b (Some y.1) (found (es ++ (k, o) ∷ []) n) ≡ Some x → cond b (Some y.1) (found es n) ≡ Some x
    at true rest e' = e'
    at false rest e' = rest e'

follows_output : (u : Unspent) (o : Output) → Follows u (with_output u o)
follows_output u o = record { next = omega arith; same = λ n x l e. found_push u.outputs u.next n o x l e }

-- ---- outputs that are taken

above_filter : (p : Numbered → Bool) (n : ℕ) (es : List Numbered) → IsAbove n es → IsAbove n (filter p es)
above_filter p n [] h = tt
above_filter p n (e ∷ es) h = at (p e) (above_filter p n es h.1)
  where
    at : (b : Bool) → IsAbove n (filter p es) → IsAbove n (cond b (e ∷ filter p es) (filter p es))
    at true r = (h.0, r)
    at false r = r

below_filter : (p : Numbered → Bool) (n : ℕ) (es : List Numbered) → IsBelow n es → IsBelow n (filter p es)
below_filter p n [] h = tt
below_filter p n (e ∷ es) h = at (p e) (below_filter p n es h.1)
  where
    at : (b : Bool) → IsBelow n (filter p es) → IsBelow n (cond b (e ∷ filter p es) (filter p es))
    at true r = (h.0, r)
    at false r = r

ascends_filter : (p : Numbered → Bool) (es : List Numbered) → Ascends es → Ascends (filter p es)
ascends_filter p [] h = tt
ascends_filter p (e ∷ es) h = at (p e) (ascends_filter p es h.1) (above_filter p e.0 es h.0)
  where
    at : (b : Bool) → Ascends (filter p es) → IsAbove e.0 (filter p es) → Ascends (cond b (e ∷ filter p es) (filter p es))
    at true r above = (above, r)
    at false r above = r

none_found : (es : List Numbered) (n k : ℕ) → n ≤ k → IsAbove k es → found es n ≡ None
none_found [] n k l h = refl
none_found (e ∷ es) n k l h = ap (λ b. cond b (Some e.1) (found es n)) (other_number e.0 n (omega (arith, l, h.0))) ∙ none_found es n k l h.1

same_number : (k n : ℕ) → (k == n) ≡ true → n ≤ k
same_number k n h = grind (arith, nat_tests)

found_filter : (p : Numbered → Bool) (es : List Numbered) (n : ℕ) (x : Output) → Ascends es → found (filter p es) n ≡ Some x → found es n ≡ Some x
found_filter p [] n x h e = e
found_filter p (y ∷ es) n x h e = at (p y) (y.0 == n) refl (found_filter p es n x h.1) e
  where
    at : (b c : Bool) → (y.0 == n) ≡ c → (found (filter p es) n ≡ Some x → found es n ≡ Some x) → found (cond b (y ∷ filter p es) (filter p es)) n ≡ Some x → cond c (Some y.1) (found es n) ≡ Some x
    at true true is rest e' = sym (ap (λ d. cond d (Some y.1) (found (filter p es) n)) is) ∙ e'
    at true false is rest e' = rest (sym (ap (λ d. cond d (Some y.1) (found (filter p es) n)) is) ∙ e')
    at false true is rest e' = absurd (none_is_some x (sym (none_found es n y.0 (same_number y.0 n is) h.0) ∙ rest e'))
      where
        none_is_some : (z : Output) → ◌≡◌ {A = Option Output} None (Some z) → ⊥
        none_is_some z q = cc
    at false false is rest e' = rest e'

good_untaken : (u : Unspent) (t : Terms) → IsGood u → IsGood (untaken u t)
good_untaken u t h = (ascends_filter (λ e. not (is_taken u.outputs t e)) u.outputs h.0, below_filter (λ e. not (is_taken u.outputs t e)) u.next u.outputs h.1)

follows_untaken : (u : Unspent) (t : Terms) → IsGood u → Follows u (untaken u t)
follows_untaken u t h = record { next = omega arith; same = λ n x l e. found_filter (λ y. not (is_taken u.outputs t y)) u.outputs n x h.0 e }

-- ---- operations

follows_same : (u : Unspent) → Follows u u
follows_same u = record { next = omega arith; same = λ n x l e. e }

follows_on : (u v w : Unspent) → Follows u v → Follows v w → Follows u w
follows_on u v w f g = record { next = omega (arith, f.next, g.next); same = λ n x l e. f.same n x l (g.same n x (omega (arith, l, f.next)) e) }

good_change : (u : Unspent) (asset owner : Name) (rest : ℕ) → IsGood u → IsGood (with_change u asset owner rest) × Follows u (with_change u asset owner rest)
good_change u asset owner zero h = (h, follows_same u)
good_change u asset owner (suc n) h = (good_output u (record { asset = asset; owner = owner; amount = suc n }) h, follows_output u (record { asset = asset; owner = owner; amount = suc n }))

good_step : (op : LedgerOp) (e : Entry) (t : Terms) (u : Unspent) → IsGood u → IsGood (stepped op e t u) × Follows u (stepped op e t u)
good_step Lock Absent t u h =
    let less = good_untaken u t h in
    let more = good_change (untaken u t) t.asset t.originator (rest_of u.outputs t) less in
    (more.0, follows_on u (untaken u t) (after_lock u t) (follows_untaken u t h) more.1)
good_step Assign Minted t u h = (good_output u (record { asset = t.asset; owner = t.beneficiary; amount = t.amount.number }) h, follows_output u (record { asset = t.asset; owner = t.beneficiary; amount = t.amount.number }))
good_step Release Locked t u h = (good_output u (record { asset = t.asset; owner = t.originator; amount = t.amount.number }) h, follows_output u (record { asset = t.asset; owner = t.originator; amount = t.amount.number }))
good_step op e t u h = (h, follows_same u)

abbrev step : Unspent → Move → Unspent
step u m = stepped m.op m.found m.terms u

good_steps : (moves : List Move) (u : Unspent) → IsGood u → IsGood (fold step u moves) × Follows u (fold step u moves)
good_steps [] u h = (h, follows_same u)
good_steps (m ∷ moves) u h =
    let one = good_step m.op m.found m.terms u h in
    let rest = good_steps moves (step u m) one.0 in
    (rest.0, follows_on u (step u m) (fold step (step u m) moves) one.1 rest.1)

-- ---- the founding

above_numbered : (n k : ℕ) (holds : List Hold) → n < k → IsAbove n (numbered k holds)
above_numbered n k [] l = tt
above_numbered n k (h ∷ holds) l = (l, above_numbered n (k + 1) holds (omega (arith, l)))

ascends_numbered : (k : ℕ) (holds : List Hold) → Ascends (numbered k holds)
ascends_numbered k [] = tt
ascends_numbered k (h ∷ holds) = (above_numbered k (k + 1) holds (omega arith), ascends_numbered (k + 1) holds)

below_numbered : (k n : ℕ) (holds : List Hold) → k + length holds ≤ n → IsBelow n (numbered k holds)
below_numbered k n [] l = tt
below_numbered k n (h ∷ holds) l = (omega (arith, l), below_numbered (k + 1) n holds (omega (arith, l)))

good_first : (holds : List Hold) → IsGood (first_unspent holds)
good_first holds = (ascends_numbered 1 holds, below_numbered 1 (1 + length holds) holds (omega arith))

-- ---- the laws

less_number : (a b : ℕ) → a < b → nat_cmp a b ≡ Less
less_number a b h = grind (arith, nat_tests)

keys_above : (n : ℕ) (es : List Numbered) → IsAbove n es → AllByRecursion (λ k. nat_cmp n k ≡ Less) (keys_of es)
keys_above n [] h = tt
keys_above n (e ∷ es) h = (less_number n e.0 h.0, keys_above n es h.1)

keys_ascend : (es : List Numbered) → Ascends es → IsStrictlySortedBy nat_cmp (keys_of es)
unfolding IsStrictlySortedBy
keys_ascend [] h = tt
keys_ascend (e ∷ es) h = (keys_above e.0 es h.0, keys_ascend es h.1)

pub stand_once : (holds : List Hold) (moves : List Move) → AreNumbered (unspent_after holds moves)
stand_once holds moves =
    let good = good_steps moves (first_unspent holds) (good_first holds) in
    let u = unspent_after holds moves in
    record { ascending = keys_ascend u.outputs good.0.0; below = All-from_recursion (λ (e : Numbered). e.0 < u.next) u.outputs good.0.1 }

pub stay_given : (holds : List Hold) (moves more : List Move) → Follows (unspent_after holds moves) (unspent_after holds (moves ++ more))
stay_given holds moves more =
    let good = good_steps moves (first_unspent holds) (good_first holds) in
    subst (Follows (unspent_after holds moves)) (sym (fold-append step (first_unspent holds) moves more)) (good_steps more (unspent_after holds moves) good.0).1
