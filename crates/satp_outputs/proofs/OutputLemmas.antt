-- Lists of outputs by their numbers.
use Rattle.std.proofs.Common.{◌≡◌, ℕ, zero, suc, ◌+◌, ◌-◌, ◌<◌, ◌≤◌, ◌&&◌, ◌||◌, not, nat_lt, Bool, true, false, cond, List, [], ◌∷◌, ◌++◌, All, Option, Some, None, refl, ap, ap₂, subst, sym, ◌∙◌, arith}
use Rattle.std.specs.Prelude.{IfSome, is_some}
use Rattle.std.specs.BTreeMap.{insert_entry}
use Rattle.std.specs.List.{AllByRecursion, filter, sum_by}
use Rattle.std.specs.List.Sorted.{IsStrictlySortedBy}
use Rattle.std.specs.Map.{keys_of}
use Rattle.std.specs.Ordering.{match_ordering, nat_cmp}
use Rattle.std.specs.declared.cmp.Ordering.TheVariants.{Less, Greater}
use Rattle.std.proofs.lemmas.Bool.{leb-true, leb-false}
use Rattle.std.proofs.lemmas.Bool.Decides.{nat_tests}
use Rattle.std.proofs.lemmas.List.Elements.{All-from_recursion, All-head, All-tail, All-push, All-weaker, filter_agree, recursion_from_All}
use Rattle.std.proofs.lemmas.List.Filters.{sum_by-filter_both}
use Rattle.std.proofs.lemmas.List.Sums.{sum_by-append, sum_by-cons, sum_by-le-sum_by, sum_by_push}
use Rattle.satp_base.specs.Founding.{counted, equal_names}
use Rattle.satp_base.specs.declared.message.Terms.{Terms}
use Rattle.satp_base.specs.declared.name.Name.{Name}
use Rattle.satp_base.proofs.GenesisLemmas.{equal_name}
use Rattle.satp_outputs.specs.Steps.{EndsAt}
use Rattle.satp_money.specs.Steps.{receiver}
use Rattle.satp_money.specs.declared.owned.Owned.{Owned}
use Rattle.satp_money.proofs.Running.{part_within}
use Rattle.satp_money.proofs.Steps.{Rises}
use Rattle.satp_base.specs.declared.ledger.LedgerOp.TheVariants.{Lock}
use Rattle.satp_outputs.specs.Unspent.{Numbered, Unspent, after_lock, asset_sum, is_own, is_taken, own_below, own_sum, rest_of, untaken, with_change, with_output}
use Rattle.satp_outputs.specs.declared.output.Output.{Output}

-- ---- one more output

above_key : (n k : ℕ) → k < n → nat_cmp n k ≡ Greater
above_key n k h = grind (arith, nat_tests)

-- a number above all stands last
pub insert_last : (es : List Numbered) (n : ℕ) (o : Output) → All (λ e. e.0 < n) es → insert_entry nat_cmp es n o ≡ es ++ (n, o) ∷ []
insert_last [] n o h = refl
insert_last (e ∷ es) n o h =
    ap (λ r. match_ordering r ((n, o) ∷ e ∷ es) ((e.0, o) ∷ es) (e ∷ insert_entry nat_cmp es n o)) (above_key n e.0 (All-head (λ (x : Numbered). x.0 < n) e es h))
    ∙ ap (λ xs. e ∷ xs) (insert_last es n o (All-tail (λ (x : Numbered). x.0 < n) e es h))

pub below_more : (es : List Numbered) (n : ℕ) (o : Output) → All (λ e. e.0 < n) es → All (λ e. e.0 < n + 1) (es ++ (n, o) ∷ [])
below_more es n o h = All-push (λ e. e.0 < n + 1) es (n, o) (All-weaker (λ e. e.0 < n) (λ e. e.0 < n + 1) (λ e l. omega (arith, l)) es h) (omega arith)

-- ---- sums up to a number

abbrev own_part : Name → Name → Numbered → ℕ
own_part asset owner e = counted (is_own asset owner e.1) e.1.amount

abbrev below_part : Name → Name → ℕ → Numbered → ℕ
below_part asset owner n e = counted (nat_lt e.0 n && is_own asset owner e.1) e.1.amount

pub less : (k n : ℕ) → k < n → nat_lt k n ≡ true
less k n h = grind (arith, nat_tests)

pub not_less : (k n : ℕ) → n ≤ k → nat_lt k n ≡ false
not_less k n h = grind (arith, nat_tests)

part_below : (asset owner : Name) (n : ℕ) (e : Numbered) → e.0 < n → below_part asset owner n e ≡ own_part asset owner e
part_below asset owner n e h = ap (λ b. counted (b && is_own asset owner e.1) e.1.amount) (less e.0 n h)

part_above : (asset owner : Name) (n : ℕ) (e : Numbered) → n ≤ e.0 → below_part asset owner n e ≡ 0
part_above asset owner n e h = ap (λ b. counted (b && is_own asset owner e.1) e.1.amount) (not_less e.0 n h)

pub sum_below : (asset owner : Name) (n : ℕ) (es : List Numbered) → AllByRecursion (λ (e : Numbered). e.0 < n) es → own_below es asset owner n ≡ own_sum es asset owner
sum_below asset owner n [] h = refl
sum_below asset owner n (e ∷ es) h =
    sum_by-cons (below_part asset owner n) e es ∙ ap₂ (λ (x y : ℕ). x + y) (part_below asset owner n e h.0) (sum_below asset owner n es h.1) ∙ sym (sum_by-cons (own_part asset owner) e es)

none_below : (asset owner : Name) (n : ℕ) (es : List Numbered) → AllByRecursion (λ (e : Numbered). n ≤ e.0) es → own_below es asset owner n ≡ 0
none_below asset owner n [] h = refl
none_below asset owner n (e ∷ es) h = sum_by-cons (below_part asset owner n) e es ∙ ap₂ (λ (x y : ℕ). x + y) (part_above asset owner n e h.0) (none_below asset owner n es h.1)

key_less : (n k : ℕ) → nat_cmp n k ≡ Less → n < k
key_less n k h = grind (arith, nat_tests)

keys_after : (n : ℕ) (es : List Numbered) → AllByRecursion (λ y. nat_cmp n y ≡ Less) (keys_of es) → AllByRecursion (λ (e : Numbered). suc n ≤ e.0) es
keys_after n [] h = tt
keys_after n (e ∷ es) h = (key_less n e.0 h.0, keys_after n es h.1)

key_before : (n k : ℕ) (xs ys : List Numbered) (o : Output) → AllByRecursion (λ y. nat_cmp n y ≡ Less) (keys_of (xs ++ (k, o) ∷ ys)) → n < k
key_before n k [] ys o h = key_less n k h.0
key_before n k (x ∷ xs) ys o h = key_before n k xs ys o h.1

-- the outputs before one in the order have lower numbers, and those behind it higher ones
split : (done next : List Numbered) (k : ℕ) (o : Output) → IsStrictlySortedBy nat_cmp (keys_of (done ++ (k, o) ∷ next)) → AllByRecursion (λ (e : Numbered). e.0 < k) done × AllByRecursion (λ (e : Numbered). suc k ≤ e.0) next
unfolding IsStrictlySortedBy
split [] next k o h = (tt, keys_after k next h.0)
split (d ∷ done) next k o h = let rest = split done next k o h.1 in ((key_before d.0 k done next o h.0, rest.0), rest.1)

weaker : (k : ℕ) (es : List Numbered) → AllByRecursion (λ (e : Numbered). suc k ≤ e.0) es → AllByRecursion (λ (e : Numbered). k ≤ e.0) es
weaker k [] h = tt
weaker k (e ∷ es) h = (omega (arith, h.0), weaker k es h.1)

stronger : (k : ℕ) (es : List Numbered) → AllByRecursion (λ (e : Numbered). e.0 < k) es → AllByRecursion (λ (e : Numbered). e.0 < suc k) es
stronger k [] h = tt
stronger k (e ∷ es) h = (omega (arith, h.0), stronger k es h.1)

parts_sum : (f : Numbered → ℕ) (done next : List Numbered) (e : Numbered) (a b c : ℕ) → sum_by f done ≡ a → f e ≡ b → sum_by f next ≡ c → sum_by f (done ++ e ∷ next) ≡ a + (b + c)
parts_sum f done next e a b c p q r = sum_by-append f done (e ∷ next) ∙ ap₂ (λ (x y : ℕ). x + y) p (sum_by-cons f e next ∙ ap₂ (λ (x y : ℕ). x + y) q r)

-- ---- where a taking ends

pub ends_here : (es done next rest : List Numbered) (k : ℕ) (o : Output) (asset owner : Name) (sum amount : ℕ) → es ≡ done ++ rest → rest ≡ (k, o) ∷ next → IsStrictlySortedBy nat_cmp (keys_of es)
    → sum ≡ own_sum done asset owner → is_own asset owner o ≡ true → sum < amount → amount ≤ sum + o.amount → EndsAt es asset owner amount k ((sum + o.amount) - amount)
ends_here es done next rest k o asset owner sum amount whole first sorted is own few enough =
    subst (λ xs. EndsAt xs asset owner amount k ((sum + o.amount) - amount)) (sym parts) (record {
      needed = needs _ _ _ _ (parts_sum (below_part asset owner k) done next (k, o) _ _ _ (sum_below asset owner k done at.0) (part_above asset owner k (k, o) (omega arith)) (none_below asset owner k next (weaker k next at.1))) is few;
      enough = suffices _ _ _ _ _ (parts_sum (below_part asset owner (suc k)) done next (k, o) _ _ _ (sum_below asset owner (suc k) done (stronger k done at.0)) (part_below asset owner (suc k) (k, o) (omega arith) ∙ ap (λ b. counted b o.amount) own) (none_below asset owner (suc k) next at.1)) is enough;
    })
  where
    parts : es ≡ done ++ (k, o) ∷ next
    parts = whole ∙ ap (λ xs. done ++ xs) first

    at : AllByRecursion (λ (e : Numbered). e.0 < k) done × AllByRecursion (λ (e : Numbered). suc k ≤ e.0) next
    at = split done next k o (subst (λ xs. IsStrictlySortedBy nat_cmp (keys_of xs)) parts sorted)

    needs : (b s : ℕ) (sum' amount' : ℕ) → b ≡ s + (0 + 0) → sum' ≡ s → sum' < amount' → b < amount'
    needs b s sum' amount' p q l = omega arith

    suffices : (b s n : ℕ) (sum' amount' : ℕ) → b ≡ s + (n + 0) → sum' ≡ s → amount' ≤ sum' + n → b ≡ amount' + ((sum' + n) - amount')
    suffices b s n sum' amount' p q l = omega arith

part_rises : (asset owner : Name) (m n : ℕ) (e : Numbered) → m ≤ n → below_part asset owner m e ≤ below_part asset owner n e
part_rises asset owner m n e h = rises (nat_lt e.0 m) (nat_lt e.0 n) (is_own asset owner e.1) e.1.amount (λ l. less e.0 n (omega (arith, h, leb-true (suc e.0) m l)))
  where
    rises : (a b c : Bool) (x : ℕ) → (a ≡ true → b ≡ true) → counted (a && c) x ≤ counted (b && c) x
    rises false b c x f = omega arith
    rises true b c x f = subst (λ y. counted c x ≤ counted (y && c) x) (sym (f refl)) (omega arith)

below_rises : (es : List Numbered) (asset owner : Name) (m n : ℕ) → m ≤ n → own_below es asset owner m ≤ own_below es asset owner n
below_rises es asset owner m n h = sum_by-le-sum_by (below_part asset owner m) (below_part asset owner n) es (λ e. part_rises asset owner m n e h)

module _ (es : List Numbered) (t : Terms) (last rest : ℕ) (h : EndsAt es t.asset t.originator t.amount.number last rest) where
  suffice : (n : ℕ) → nat_lt (own_below es t.asset t.originator n) t.amount.number ≡ nat_lt n (suc last)
  suffice n = at (nat_lt n (suc last)) refl
    where
      at : (b : Bool) → nat_lt n (suc last) ≡ b → nat_lt (own_below es t.asset t.originator n) t.amount.number ≡ b
      at true e = less _ _ (omega (arith, h.needed, below_rises es t.asset t.originator n last (omega (arith, leb-true (suc n) (suc last) e))))
      at false e = not_less _ _ (omega (arith, h.enough, below_rises es t.asset t.originator (suc last) n (omega (arith, leb-false (suc n) (suc last) e))))

  -- the outputs that are taken are the originator's up to where the taking ends
  pub taken_is : (e : Numbered) → is_taken es t e ≡ (is_own t.asset t.originator e.1 && nat_lt e.0 (suc last))
  taken_is e = ap (λ b. is_own t.asset t.originator e.1 && b) (suffice e.0)

  taken_sum : sum_by (λ (e : Numbered). counted (is_taken es t e) e.1.amount) es ≡ t.amount.number + rest
  taken_sum = ap (λ (f : Numbered → ℕ). sum_by f es) (λ i e. (ap (λ b. counted b e.1.amount) (taken_is e ∙ swapped (is_own t.asset t.originator e.1) (nat_lt e.0 (suc last)))) i) ∙ h.enough
    where
      swapped : (a b : Bool) → (a && b) ≡ (b && a)
      swapped true true = refl
      swapped true false = refl
      swapped false true = refl
      swapped false false = refl

  pub rest_is : rest_of es t ≡ rest
  rest_is = ap (λ x. x - t.amount.number) taken_sum ∙ left t.amount.number rest
    where
      left : (a b : ℕ) → (a + b) - a ≡ b
      left a b = omega arith

  pub untaken_is : filter (λ (e : Numbered). nat_lt last e.0 || not (is_own t.asset t.originator e.1)) es ≡ filter (λ (e : Numbered). not (is_taken es t e)) es
  untaken_is = filter_agree _ _ (λ e. stays (is_own t.asset t.originator e.1) e.0 ∙ ap not (sym (taken_is e))) es
    where
      stays : (b : Bool) (n : ℕ) → (nat_lt last n || not b) ≡ not (b && nat_lt n (suc last))
      stays b n = at (nat_lt n (suc last)) refl
        where
          at : (c : Bool) → nat_lt n (suc last) ≡ c → (nat_lt last n || not b) ≡ not (b && c)
          at true e = ap (λ x. x || not b) (not_less last n (omega (arith, leb-true (suc n) (suc last) e))) ∙ kept b
            where
              kept : (x : Bool) → (false || not x) ≡ not (x && true)
              kept true = refl
              kept false = refl
          at false e = ap (λ x. x || not b) (less last n (omega (arith, leb-false (suc n) (suc last) e))) ∙ kept b
            where
              kept : (x : Bool) → (true || not x) ≡ not (x && false)
              kept true = refl
              kept false = refl

-- ---- sums after a change of the outputs

filter_first : (b : Bool) (f : Numbered → ℕ) (e : Numbered) (es : List Numbered) (n : ℕ) → sum_by f es ≡ n → sum_by f (cond b (e ∷ es) es) ≡ counted b (f e) + n
filter_first true f e es n h = sum_by-cons f e es ∙ ap (λ x. f e + x) h
filter_first false f e es n h = omega (arith, h)

zero_more : (a b : ℕ) → a ≡ 0 + b → b ≡ 0 → a ≡ 0
zero_more a b p q = omega arith

sum_filter : (p : Numbered → Bool) (f : Numbered → ℕ) (es : List Numbered) → sum_by f (filter p es) ≡ sum_by (λ e. counted (p e) (f e)) es
sum_filter p f [] = refl
sum_filter p f (e ∷ es) = filter_first (p e) f e (filter p es) (sum_by (λ x. counted (p x) (f x)) es) (sum_filter p f es) ∙ sym (sum_by-cons (λ x. counted (p x) (f x)) e es)

sum_counted : (b : Bool) (f : Numbered → ℕ) (es : List Numbered) → sum_by (λ e. counted b (f e)) es ≡ counted b (sum_by f es)
sum_counted true f es = refl
sum_counted false f [] = refl
sum_counted false f (e ∷ es) = zero_more _ _ (sum_by-cons (λ (x : Numbered). 0) e es) (sum_counted false f es)

taken_test : (own below test same : Bool) (n : ℕ) → (own ≡ true → test ≡ same) → counted (own && below) (counted test n) ≡ counted same (counted (own && below) n)
taken_test false below test true n h = refl
taken_test false below test false n h = refl
taken_test true true test same n h = ap (λ b. counted b n) (h refl)
taken_test true false test true n h = refl
taken_test true false test false n h = refl

module _ (es : List Numbered) (t : Terms) (last rest : ℕ) (h : EndsAt es t.asset t.originator t.amount.number last rest) where
  -- what a lock takes of a sum over outputs whose test says the same of all that it takes
  lock_takes : (test : Output → Bool) (same : Bool) → ((o : Output) → is_own t.asset t.originator o ≡ true → test o ≡ same)
      → sum_by (λ (e : Numbered). counted (test e.1) e.1.amount) es ≡ sum_by (λ (e : Numbered). counted (test e.1) e.1.amount) (filter (λ (e : Numbered). not (is_taken es t e)) es) + counted same (t.amount.number + rest)
  lock_takes test same says =
      sym (sum_by-filter_both (λ (e : Numbered). not (is_taken es t e)) (is_taken es t) (λ e. twice (is_taken es t e)) (λ (e : Numbered). counted (test e.1) e.1.amount) es)
      ∙ ap (λ x. sum_by (λ (e : Numbered). counted (test e.1) e.1.amount) (filter (λ (e : Numbered). not (is_taken es t e)) es) + x)
      (sum_filter (is_taken es t) (λ (e : Numbered). counted (test e.1) e.1.amount) es
      ∙ ap (λ (f : Numbered → ℕ). sum_by f es) (λ i e. (taken_test (is_own t.asset t.originator e.1) (nat_lt (own_below es t.asset t.originator e.0) t.amount.number) (test e.1) same e.1.amount (says e.1)) i)
      ∙ sum_counted same (λ (e : Numbered). counted (is_taken es t e) e.1.amount) es ∙ ap (counted same) (taken_sum es t last rest h))
    where
      twice : (b : Bool) → b ≡ not (not b)
      twice true = refl
      twice false = refl

-- one more output
pub sum_more : (test : Output → Bool) (es : List Numbered) (n : ℕ) (o : Output) → sum_by (λ (e : Numbered). counted (test e.1) e.1.amount) (es ++ (n, o) ∷ []) ≡ sum_by (λ (e : Numbered). counted (test e.1) e.1.amount) es + counted (test o) o.amount
sum_more test es n o = sum_by_push (λ (e : Numbered). counted (test e.1) e.1.amount) es (n, o)

abbrev sum_of : (Output → Bool) → Unspent → ℕ
sum_of test u = sum_by (λ (e : Numbered). counted (test e.1) e.1.amount) u.outputs

change_more : (test : Output → Bool) (same : Bool) (asset owner : Name) → ((n : ℕ) → test (record { asset = asset; owner = owner; amount = n }) ≡ same) → (u : Unspent) (rest : ℕ) → sum_of test (with_change u asset owner rest) ≡ sum_of test u + counted same rest
change_more test same asset owner says u zero = none same
  where
    none : (b : Bool) → sum_of test u ≡ sum_of test u + counted b 0
    none true = omega arith
    none false = omega arith
change_more test same asset owner says u (suc n) = sum_more test u.outputs u.next (record { asset = asset; owner = owner; amount = suc n }) ∙ ap (λ b. sum_of test u + counted b (suc n)) (says (suc n))

own_asset : (asset owner : Name) (o : Output) → is_own asset owner o ≡ true → (asset ≡ o.asset) × (owner ≡ o.owner)
own_asset asset owner o h = (equal_name asset o.asset (first _ _ h), equal_name owner o.owner (second _ _ h))
  where
    first : (a b : Bool) → (a && b) ≡ true → a ≡ true
    first true b e = refl
    first false b e = absurd cc

    second : (a b : Bool) → (a && b) ≡ true → b ≡ true
    second true b e = e
    second false b e = absurd cc

balance : (same : Bool) (old kept new n rest : ℕ) → old ≡ kept + counted same (n + rest) → new ≡ kept + counted same rest → old ≡ new + counted same n
balance true old kept new n rest p q = omega arith
balance false old kept new n rest p q = omega arith

-- the amounts after a lock
pub lock_rises : (u : Unspent) (t : Terms) (last rest : ℕ) → EndsAt u.outputs t.asset t.originator t.amount.number last rest
    → Rises (receiver Lock t) t.amount.number (own_sum (after_lock u t).outputs) (own_sum u.outputs) (asset_sum (after_lock u t).outputs) (asset_sum u.outputs)
lock_rises u t last rest h = record {
  each = λ a q. balance (equal_names a t.asset && equal_names q t.originator) _ _ _ t.amount.number (rest_of u.outputs t)
      (subst (λ r. own_sum u.outputs a q ≡ own_sum (untaken u t).outputs a q + counted (equal_names a t.asset && equal_names q t.originator) (t.amount.number + r)) (sym (rest_is u.outputs t last rest h))
      (lock_takes u.outputs t last rest h (is_own a q) (equal_names a t.asset && equal_names q t.originator) (λ o own. let at = own_asset t.asset t.originator o own in sym (ap₂ (λ (x y : Name). equal_names a x && equal_names q y) at.0 at.1))))
      (change_more (is_own a q) (equal_names a t.asset && equal_names q t.originator) t.asset t.originator (λ n. refl) (untaken u t) (rest_of u.outputs t));
  all = λ a. balance (equal_names a t.asset) _ _ _ t.amount.number (rest_of u.outputs t)
      (subst (λ r. asset_sum u.outputs a ≡ asset_sum (untaken u t).outputs a + counted (equal_names a t.asset) (t.amount.number + r)) (sym (rest_is u.outputs t last rest h))
      (lock_takes u.outputs t last rest h (λ o. equal_names a o.asset) (equal_names a t.asset) (λ o own. sym (ap (λ (x : Name). equal_names a x) (own_asset t.asset t.originator o own).0))))
      (change_more (λ o. equal_names a o.asset) (equal_names a t.asset) t.asset t.originator (λ n. refl) (untaken u t) (rest_of u.outputs t));
}

-- the amounts after an output was made of whom an amount comes to
pub give_rises : (u : Unspent) (owned : Owned) (n : ℕ) → Rises owned n (own_sum u.outputs) (own_sum (with_output u (record { asset = owned.asset; owner = owned.owner; amount = n })).outputs) (asset_sum u.outputs) (asset_sum (with_output u (record { asset = owned.asset; owner = owned.owner; amount = n })).outputs)
give_rises u owned n = record {
  each = λ a q. sum_more (is_own a q) u.outputs u.next (record { asset = owned.asset; owner = owned.owner; amount = n });
  all = λ a. sum_more (λ o. equal_names a o.asset) u.outputs u.next (record { asset = owned.asset; owner = owned.owner; amount = n });
}

-- an owner's outputs are among all of the asset
pub own_within : (es : List Numbered) (asset owner : Name) → own_sum es asset owner ≤ asset_sum es asset
own_within es asset owner = sum_by-le-sum_by (own_part asset owner) (λ (e : Numbered). counted (equal_names asset e.1.asset) e.1.amount) es (λ e. part (equal_names asset e.1.asset) (equal_names owner e.1.owner) e.1.amount)
  where
    part : (a b : Bool) (n : ℕ) → counted (a && b) n ≤ counted a n
    part true true n = omega arith
    part true false n = omega arith
    part false b n = omega arith

-- ---- running sums

abbrev test_part : (Output → Bool) → Numbered → ℕ
test_part test e = counted (test e.1) e.1.amount

pub next_fits : (test : Output → Bool) (es rest next : List Numbered) (k : ℕ) (o : Output) (sum most : ℕ) → rest ≡ (k, o) ∷ next → sum + sum_by (test_part test) rest ≡ sum_by (test_part test) es → test o ≡ true → sum_by (test_part test) es ≤ most → sum + o.amount ≤ most
next_fits test es rest next k o sum most e s is l = fits _ _ _ _ (part_within (test_part test) es rest next (k, o) sum e s) (ap (λ b. counted b o.amount) is) l
  where
    fits : (a v all n : ℕ) {most' : ℕ} → a + v ≤ all → v ≡ n → all ≤ most' → a + n ≤ most'
    fits a v all n l e m = omega arith

-- the sums over the outputs that were passed, and the next one
pub passed_fits : (es done rest next : List Numbered) (k : ℕ) (o : Output) (asset owner : Name) (sum most : ℕ) → es ≡ done ++ rest → rest ≡ (k, o) ∷ next → sum ≡ own_sum done asset owner → is_own asset owner o ≡ true → own_sum es asset owner ≤ most → sum + o.amount ≤ most
passed_fits es done rest next k o asset owner sum most whole first is own l =
    fits _ _ _ _ (ap (λ xs. own_sum xs asset owner) (whole ∙ ap (λ xs. done ++ xs) first) ∙ parts_sum (own_part asset owner) done next (k, o) _ _ _ refl (ap (λ b. counted b o.amount) own) refl) is l
  where
    fits : (all d n r : ℕ) {sum' most' : ℕ} → all ≡ d + (n + r) → sum' ≡ d → all ≤ most' → sum' + n ≤ most'
    fits all d n r p q m = omega arith

pub passed_more : (es done rest next : List Numbered) (e : Numbered) → es ≡ done ++ rest → rest ≡ e ∷ next → es ≡ (done ++ e ∷ []) ++ next
passed_more es done rest next e whole first = whole ∙ ap (λ xs. done ++ xs) first ∙ sym (again done)
  where
    again : (xs : List Numbered) → (xs ++ e ∷ []) ++ next ≡ xs ++ e ∷ next
    again [] = refl
    again (x ∷ xs) = ap (λ ys. x ∷ ys) (again xs)

pub passed_sum : (done : List Numbered) (k : ℕ) (o : Output) (asset owner : Name) (b : Bool) (sum : ℕ) → sum ≡ own_sum done asset owner → is_own asset owner o ≡ b → sum + counted b o.amount ≡ own_sum (done ++ (k, o) ∷ []) asset owner
passed_sum done k o asset owner b sum is own = ap₂ (λ (x y : ℕ). x + y) is (ap (λ c. counted c o.amount) (sym own)) ∙ sym (sum_by_push (own_part asset owner) done (k, o))

pub passed_all : (es done rest : List Numbered) (asset owner : Name) (sum : ℕ) → es ≡ done ++ rest → rest ≡ [] → sum ≡ own_sum done asset owner → own_sum es asset owner ≡ sum
passed_all es done rest asset owner sum whole none is = ap (λ xs. own_sum xs asset owner) (whole ∙ ap (λ xs. done ++ xs) none ∙ ended done) ∙ sym is
  where
    ended : (xs : List Numbered) → xs ++ [] ≡ xs
    ended [] = refl
    ended (x ∷ xs) = ap (λ ys. x ∷ ys) (ended xs)

pub passed_skip : (done : List Numbered) (k : ℕ) (o : Output) (asset owner : Name) (sum : ℕ) → sum ≡ own_sum done asset owner → is_own asset owner o ≡ false → sum ≡ own_sum (done ++ (k, o) ∷ []) asset owner
passed_skip done k o asset owner sum is own = same sum _ (passed_sum done k o asset owner false sum is own)
  where
    same : (a b : ℕ) → a + 0 ≡ b → a ≡ b
    same a b e = omega arith

-- ---- the last output

keys_less : (es : List Numbered) (k n : ℕ) → AllByRecursion (λ q. nat_cmp q k ≡ Less) (keys_of es) → k < n → AllByRecursion (λ (e : Numbered). e.0 < n - 1) es
keys_less [] k n h l = tt
keys_less (e ∷ es) k n h l = (omega (arith, key_less e.0 k h.0), keys_less es k n h.1 l)

last_holds : (P : Numbered → Type 0) (es : List Numbered) (e : Numbered) → AllByRecursion P (es ++ e ∷ []) → P e
last_holds P [] e h = h.0
last_holds P (x ∷ es) e h = last_holds P es e h.1

-- behind the last output the numbers are below the one before
pub popped : (es new : List Numbered) (r : Option Numbered) (n : ℕ) → IfSome r (λ p. es ≡ new ++ p ∷ []) → IfSome r (λ p. All (λ q. nat_cmp q p.0 ≡ Less) (keys_of new)) → true ≡ is_some r → All (λ e. e.0 < n) es
    → (1 ≤ n) × All (λ e. e.0 < n - 1) new
popped es new None n whole above some below = absurd cc
popped es new (Some p) n whole above some below =
    let last = last_holds (λ e. e.0 < n) new p (recursion_from_All (λ e. e.0 < n) (new ++ p ∷ []) (subst (All (λ (e : Numbered). e.0 < n)) whole below)) in
    (omega (arith, last), All-from_recursion (λ e. e.0 < n - 1) new (keys_less new p.0 n (recursion_from_All (λ q. nat_cmp q p.0 ≡ Less) (keys_of new) above) last))
