-- All owners together have what there is, and what a step makes and takes away.
use Rattle.std.proofs.Common.{◌≡◌, ◌⊎◌, inl, inr, ℕ, ◌+◌, ◌-◌, ◌≤◌, ◌&&◌, ◌||◌, Bool, true, false, cond, List, [], ◌∷◌, ◌++◌, map, refl, ap, ap₂, subst, sym, ◌∙◌, arith}
use Rattle.std.specs.List.{AllByRecursion, IsDistinct, list_any, sum_by}
use Rattle.std.specs.Cmp.{eq_by_cmp_equiv}
use Rattle.std.specs.FinMap.{entries}
use Rattle.std.proofs.lemmas.List.Sums.{sum_by-cons}
use Rattle.satp_base.specs.Founding.{counted, equal_names}
use Rattle.satp_base.specs.LedgerRule.{Allows, entry_of, leads, moved, operation, result_of, terms_of}
use Rattle.satp_base.specs.Money.{Book, free_of, free_sum_of, given, given_to_all, held, held_of_all, is_given, is_pledged, is_taken, pledged, sum_entries, taken, taken_of_all, total_of}
use Rattle.satp_base.specs.Soundness.{IsSound}
use Rattle.satp_base.specs.declared.genesis.Hold.{Hold}
use Rattle.satp_base.specs.declared.ledger.Entry.{Entry}
use Rattle.satp_base.specs.declared.ledger.Entry.TheVariants.{Absent, Locked, Minted}
use Rattle.satp_base.specs.declared.ledger.LedgerEntry.{LedgerEntry}
use Rattle.satp_base.specs.declared.ledger.LedgerOp.{LedgerOp}
use Rattle.satp_base.specs.declared.ledger.LedgerOp.TheVariants.{Lock, Burn, Mint, Assign, Release}
use Rattle.satp_base.specs.declared.message.Terms.{Terms}
use Rattle.satp_base.specs.declared.name.Name.{Name}
use Rattle.satp_base.specs.declared.session.SessionId.{SessionId}
use Rattle.satp_base.proofs.GenesisLemmas.{equal_name, names_refl, names_total}
use Rattle.satp_money.specs.Laws.{AreOwners, IsOneOf, lost_by, made_by}
use Rattle.satp_money.proofs.Counting.{sum_moved}
use Rattle.satp_money.proofs.Steps.{absent_terms}
use Rattle.satp_money.proofs.StepLaw.{Moves, Stays, step_is}

pub never : false ≡ true → ⊥
never e = cc

-- ---- sums

sum_none : {X : Type 0} (xs : List X) → sum_by (λ (x : X). 0) xs ≡ 0
sum_none [] = refl
sum_none (x ∷ xs) = none _ _ (sum_by-cons (λ y. 0) x xs) (sum_none xs)
  where
    none : (a b : ℕ) → a ≡ 0 + b → b ≡ 0 → a ≡ 0
    none a b p q = omega arith

sum_add : {X : Type 0} (f g : X → ℕ) (xs : List X) → sum_by (λ x. f x + g x) xs ≡ sum_by f xs + sum_by g xs
sum_add f g [] = refl
sum_add f g (x ∷ xs) = both _ _ _ _ _ _ _ _ (sum_by-cons (λ y. f y + g y) x xs) (sum_by-cons f x xs) (sum_by-cons g x xs) (sum_add f g xs)
  where
    both : (a b c p q r s t : ℕ) → a ≡ (p + q) + r → b ≡ p + s → c ≡ q + t → r ≡ s + t → a ≡ b + c
    both a b c p q r s t h i j k = omega arith

sum_same : {X : Type 0} (f g : X → ℕ) (xs : List X) → ((x : X) → f x ≡ g x) → sum_by f xs ≡ sum_by g xs
sum_same {X} f g xs h = ap (λ (k : X → ℕ). sum_by k xs) (λ i x. (h x) i)

-- ---- a name among distinct owners

turned : (a b : Name) → equal_names a b ≡ equal_names b a
turned a b = (eq_by_cmp_equiv names_total).symm a b

not_among : (x : Name) (n : ℕ) (owners : List Name) → AllByRecursion (λ y. equal_names x y ≡ false) owners → sum_by (λ o. counted (equal_names o x) n) owners ≡ 0
not_among x n [] h = refl
not_among x n (o ∷ owners) h =
    none _ _ _ (sum_by-cons (λ y. counted (equal_names y x) n) o owners) (ap (λ b. counted b n) (turned o x ∙ h.0)) (not_among x n owners h.1)
  where
    none : (a b c : ℕ) → a ≡ b + c → b ≡ 0 → c ≡ 0 → a ≡ 0
    none a b c p q r = omega arith

once : (x : Name) (n : ℕ) (owners : List Name) → IsDistinct equal_names owners → IsOneOf owners x → sum_by (λ o. counted (equal_names o x) n) owners ≡ n
unfolding IsDistinct
once x n [] d h = absurd (never h)
once x n (o ∷ owners) d h = at (equal_names x o) refl (once x n owners d.1) h
  where
    parts : (a b c k : ℕ) → a ≡ b + c → b + c ≡ k → a ≡ k
    parts a b c k p q = omega arith

    at : (e : Bool) → equal_names x o ≡ e → (IsOneOf owners x → sum_by (λ y. counted (equal_names y x) n) owners ≡ n) → (e || list_any (equal_names x) owners) ≡ true → sum_by (λ y. counted (equal_names y x) n) (o ∷ owners) ≡ n
    at true e rest among =
        parts _ _ _ _ (sum_by-cons (λ y. counted (equal_names y x) n) o owners)
        (first _ _ (ap (λ b. counted b n) (turned o x ∙ e)) (not_among x n owners (subst (λ (y : Name). AllByRecursion (λ z. equal_names y z ≡ false) owners) (sym (equal_name x o e)) d.0)))
      where
        first : (b c : ℕ) → b ≡ n → c ≡ 0 → b + c ≡ n
        first b c p q = omega arith
    at false e rest among = parts _ _ _ _ (sum_by-cons (λ y. counted (equal_names y x) n) o owners) (second _ _ (ap (λ b. counted b n) (turned o x ∙ e)) (rest among))
      where
        second : (b c : ℕ) → b ≡ 0 → c ≡ n → b + c ≡ n
        second b c p q = omega arith

one_part : (c : Bool) (x : Name) (n : ℕ) (owners : List Name) → IsDistinct equal_names owners → IsOneOf owners x → sum_by (λ o. counted (c && equal_names o x) n) owners ≡ counted c n
one_part true x n owners d h = once x n owners d h
one_part false x n owners d h = sum_none owners

-- parts of items that belong to one of the owners each
module _ {X : Type 0} (who : X → Name) (is : X → Bool) (n : X → ℕ) (owners : List Name) (d : IsDistinct equal_names owners) where
  all_parts : (xs : List X) → AllByRecursion (λ x. IsOneOf owners (who x)) xs → sum_by (λ o. sum_by (λ x. counted (is x && equal_names o (who x)) (n x)) xs) owners ≡ sum_by (λ x. counted (is x) (n x)) xs
  all_parts [] h = sum_none owners
  all_parts (x ∷ xs) h =
      sum_same (λ o. sum_by (λ y. counted (is y && equal_names o (who y)) (n y)) (x ∷ xs)) (λ o. counted (is x && equal_names o (who x)) (n x) + sum_by (λ y. counted (is y && equal_names o (who y)) (n y)) xs) owners (λ o. sum_by-cons (λ y. counted (is y && equal_names o (who y)) (n y)) x xs)
      ∙ sum_add (λ o. counted (is x && equal_names o (who x)) (n x)) (λ o. sum_by (λ y. counted (is y && equal_names o (who y)) (n y)) xs) owners
      ∙ ap₂ (λ (p q : ℕ). p + q) (one_part (is x) (who x) (n x) owners d h.0) (all_parts xs h.1) ∙ sym (sum_by-cons (λ y. counted (is y) (n y)) x xs)

and_on : (a b c : Bool) → (a && (b && c)) ≡ ((a && b) && c)
and_on true b c = refl
and_on false b c = refl

abbrev Item : Type 0
Item = SessionId × LedgerEntry

firsts : (owners : List Name) (es : List Item) → AllByRecursion (λ (e : Item). IsOneOf owners e.1.terms.originator × IsOneOf owners e.1.terms.beneficiary) es → AllByRecursion (λ (e : Item). IsOneOf owners e.1.terms.originator) es
firsts owners [] h = tt
firsts owners (e ∷ es) h = (h.0.0, firsts owners es h.1)

seconds : (owners : List Name) (es : List Item) → AllByRecursion (λ (e : Item). IsOneOf owners e.1.terms.originator × IsOneOf owners e.1.terms.beneficiary) es → AllByRecursion (λ (e : Item). IsOneOf owners e.1.terms.beneficiary) es
seconds owners [] h = tt
seconds owners (e ∷ es) h = (h.0.1, seconds owners es h.1)

module _ (b : Book) (owners : List Name) (asset : Name) (h : AreOwners b owners) where
  all_held : sum_by (held b.genesis asset) owners ≡ held_of_all b.genesis asset
  all_held = all_parts (λ (x : Hold). x.owner) (λ (x : Hold). equal_names asset x.asset) (λ (x : Hold). x.amount.number) owners h.distinct b.genesis.holds h.holders

  all_taken : sum_by (λ o. sum_entries (taken asset o) b.entries) owners ≡ sum_entries (taken_of_all asset) b.entries
  all_taken =
      sum_same (λ o. sum_entries (taken asset o) b.entries) (λ o. sum_by (λ (e : Item). counted ((is_taken e.1.entry && equal_names asset e.1.terms.asset) && equal_names o e.1.terms.originator) e.1.terms.amount.number) (entries b.entries)) owners
      (λ o. sum_same (λ (e : Item). taken asset o e.1) (λ (e : Item). counted ((is_taken e.1.entry && equal_names asset e.1.terms.asset) && equal_names o e.1.terms.originator) e.1.terms.amount.number) (entries b.entries)
      (λ e. ap (λ c. counted c e.1.terms.amount.number) (and_on (is_taken e.1.entry) (equal_names asset e.1.terms.asset) (equal_names o e.1.terms.originator))))
      ∙ all_parts (λ (e : Item). e.1.terms.originator) (λ (e : Item). is_taken e.1.entry && equal_names asset e.1.terms.asset) (λ (e : Item). e.1.terms.amount.number) owners h.distinct (entries b.entries) (firsts owners (entries b.entries) h.parties)

  all_given : sum_by (λ o. sum_entries (given asset o) b.entries) owners ≡ sum_entries (given_to_all asset) b.entries
  all_given =
      sum_same (λ o. sum_entries (given asset o) b.entries) (λ o. sum_by (λ (e : Item). counted ((is_given e.1.entry && equal_names asset e.1.terms.asset) && equal_names o e.1.terms.beneficiary) e.1.terms.amount.number) (entries b.entries)) owners
      (λ o. sum_same (λ (e : Item). given asset o e.1) (λ (e : Item). counted ((is_given e.1.entry && equal_names asset e.1.terms.asset) && equal_names o e.1.terms.beneficiary) e.1.terms.amount.number) (entries b.entries)
      (λ e. ap (λ c. counted c e.1.terms.amount.number) (and_on (is_given e.1.entry) (equal_names asset e.1.terms.asset) (equal_names o e.1.terms.beneficiary))))
      ∙ all_parts (λ (e : Item). e.1.terms.beneficiary) (λ (e : Item). is_given e.1.entry && equal_names asset e.1.terms.asset) (λ (e : Item). e.1.terms.amount.number) owners h.distinct (entries b.entries) (seconds owners (entries b.entries) h.parties)

  -- what is free and what was taken is what was held and given, owner by owner
  free_and_taken : IsSound b → sum_by (free_of b asset) owners + sum_by (λ o. sum_entries (taken asset o) b.entries) owners ≡ sum_by (held b.genesis asset) owners + sum_by (λ o. sum_entries (given asset o) b.entries) owners
  free_and_taken sound =
      sym (sum_add (free_of b asset) (λ o. sum_entries (taken asset o) b.entries) owners)
      ∙ sum_same (λ o. free_of b asset o + sum_entries (taken asset o) b.entries) (λ o. held b.genesis asset o + sum_entries (given asset o) b.entries) owners (λ o. whole _ _ (sound.covered asset o))
      ∙ sum_add (held b.genesis asset) (λ o. sum_entries (given asset o) b.entries) owners
    where
      whole : (u c : ℕ) → u ≤ c → (c - u) + u ≡ c
      whole u c l = omega arith

  pub owners_free : IsSound b → sum_by (free_of b asset) owners ≡ free_sum_of b asset
  owners_free sound = left _ _ _ _ _ _ _ (free_and_taken sound) all_taken all_held all_given
    where
      left : (f u u' h' h'' g g' : ℕ) → f + u ≡ h' + g → u ≡ u' → h' ≡ h'' → g ≡ g' → f ≡ (h'' + g') - u'
      left f u u' h' h'' g g' e p q r = omega arith

pub owners_have_all : (b : Book) (owners : List Name) (asset : Name) → IsSound b → AreOwners b owners → (sum_by (free_of b asset) owners ≡ free_sum_of b asset) × (sum_by (free_of b asset) owners + sum_entries (pledged asset) b.entries ≡ total_of b asset)
owners_have_all b owners asset sound h = let e = owners_free b owners asset h sound in (e, ap (λ x. x + sum_entries (pledged asset) b.entries) e)

-- ---- one owner's part is within the whole

abbrev with_name : Name → List Name → List Name
with_name x owners = cond (list_any (equal_names x) owners) owners (x ∷ owners)

abbrev distinct_of : List Name → List Name
distinct_of [] = []
distinct_of (x ∷ xs) = with_name x (distinct_of xs)

none_equal : (x : Name) (owners : List Name) → list_any (equal_names x) owners ≡ false → AllByRecursion (λ y. equal_names x y ≡ false) owners
none_equal x [] h = tt
none_equal x (o ∷ owners) h = (first _ _ h, none_equal x owners (second _ _ h))
  where
    first : (a c : Bool) → (a || c) ≡ false → a ≡ false
    first true c e = e
    first false c e = refl

    second : (a c : Bool) → (a || c) ≡ false → c ≡ false
    second true c e = absurd (never (sym e))
    second false c e = e

with_distinct : (x : Name) (owners : List Name) → IsDistinct equal_names owners → IsDistinct equal_names (with_name x owners)
unfolding IsDistinct
with_distinct x owners d = at (list_any (equal_names x) owners) refl
  where
    at : (c : Bool) → list_any (equal_names x) owners ≡ c → IsDistinct equal_names (cond c owners (x ∷ owners))
    at true e = d
    at false e = (none_equal x owners e, d)

all_distinct : (xs : List Name) → IsDistinct equal_names (distinct_of xs)
unfolding IsDistinct
all_distinct [] = tt
all_distinct (x ∷ xs) = with_distinct x (distinct_of xs) (all_distinct xs)

or_right : (a c : Bool) → c ≡ true → (a || c) ≡ true
or_right true c e = refl
or_right false c e = e

or_left : (a c : Bool) → a ≡ true → (a || c) ≡ true
or_left true c e = refl
or_left false c e = absurd (never e)

with_keeps : (x q : Name) (owners : List Name) → IsOneOf owners q → IsOneOf (with_name x owners) q
with_keeps x q owners h = at (list_any (equal_names x) owners)
  where
    at : (c : Bool) → IsOneOf (cond c owners (x ∷ owners)) q
    at true = h
    at false = or_right (equal_names q x) _ h

with_has : (x : Name) (owners : List Name) → IsOneOf (with_name x owners) x
with_has x owners = at (list_any (equal_names x) owners) refl
  where
    at : (c : Bool) → list_any (equal_names x) owners ≡ c → IsOneOf (cond c owners (x ∷ owners)) x
    at true e = e
    at false e = or_left (equal_names x x) _ (names_refl x)

distinct_has : (q : Name) (xs : List Name) → IsOneOf xs q → IsOneOf (distinct_of xs) q
distinct_has q [] h = absurd (never h)
distinct_has q (x ∷ xs) h = at (equal_names q x) refl (distinct_has q xs) h
  where
    at : (c : Bool) → equal_names q x ≡ c → (IsOneOf xs q → IsOneOf (distinct_of xs) q) → (c || list_any (equal_names q) xs) ≡ true → IsOneOf (with_name x (distinct_of xs)) q
    at true e rest among = subst (λ (y : Name). IsOneOf (with_name x (distinct_of xs)) y) (sym (equal_name q x e)) (with_has x (distinct_of xs))
    at false e rest among = with_keeps x q (distinct_of xs) (rest among)

in_left : (q : Name) (xs ys : List Name) → IsOneOf xs q → IsOneOf (xs ++ ys) q
in_left q [] ys h = absurd (never h)
in_left q (x ∷ xs) ys h = at (equal_names q x) (in_left q xs ys) h
  where
    at : (c : Bool) → (IsOneOf xs q → IsOneOf (xs ++ ys) q) → (c || list_any (equal_names q) xs) ≡ true → (c || list_any (equal_names q) (xs ++ ys)) ≡ true
    at true rest among = refl
    at false rest among = rest among

in_right : (q : Name) (xs ys : List Name) → IsOneOf ys q → IsOneOf (xs ++ ys) q
in_right q [] ys h = h
in_right q (x ∷ xs) ys h = or_right (equal_names q x) _ (in_right q xs ys h)

each_in : {X : Type 0} (who : X → Name) (xs : List X) (owners : List Name) → ((q : Name) → IsOneOf (map who xs) q → IsOneOf owners q) → AllByRecursion (λ x. IsOneOf owners (who x)) xs
each_in who [] owners h = tt
each_in who (x ∷ xs) owners h = (h (who x) (or_left (equal_names (who x) (who x)) _ (names_refl (who x))), each_in who xs owners (λ q among. h q (or_right (equal_names q (who x)) _ among)))

both_in : (owners : List Name) (es : List Item) → AllByRecursion (λ (e : Item). IsOneOf owners e.1.terms.originator) es → AllByRecursion (λ (e : Item). IsOneOf owners e.1.terms.beneficiary) es → AllByRecursion (λ (e : Item). IsOneOf owners e.1.terms.originator × IsOneOf owners e.1.terms.beneficiary) es
both_in owners [] h k = tt
both_in owners (e ∷ es) h k = ((h.0, k.0), both_in owners es h.1 k.1)

abbrev names_in : Book → Name → List Name
names_in b o = o ∷ (map (λ (h : Hold). h.owner) b.genesis.holds ++ (map (λ (e : Item). e.1.terms.originator) (entries b.entries) ++ map (λ (e : Item). e.1.terms.beneficiary) (entries b.entries)))

-- this owner, and whoever a holding or an entry names
abbrev owners_in : Book → Name → List Name
owners_in b o = distinct_of (names_in b o)

are_owners : (b : Book) (o : Name) → AreOwners b (owners_in b o)
are_owners b o = record {
  distinct = all_distinct (names_in b o);
  holders = each_in (λ (h : Hold). h.owner) b.genesis.holds (distinct_of (names_in b o)) (λ q h. distinct_has q (names_in b o) (or_right (equal_names q o) _ (in_left q (map (λ (x : Hold). x.owner) b.genesis.holds) (map (λ (e : Item). e.1.terms.originator) (entries b.entries) ++ map (λ (e : Item). e.1.terms.beneficiary) (entries b.entries)) h)));
  parties = both_in (distinct_of (names_in b o)) (entries b.entries)
      (each_in (λ (e : Item). e.1.terms.originator) (entries b.entries) (distinct_of (names_in b o)) (λ q h. distinct_has q (names_in b o) (or_right (equal_names q o) _ (in_right q (map (λ (x : Hold). x.owner) b.genesis.holds) _ (in_left q (map (λ (e : Item). e.1.terms.originator) (entries b.entries)) (map (λ (e : Item). e.1.terms.beneficiary) (entries b.entries)) h)))))
      (each_in (λ (e : Item). e.1.terms.beneficiary) (entries b.entries) (distinct_of (names_in b o)) (λ q h. distinct_has q (names_in b o) (or_right (equal_names q o) _ (in_right q (map (λ (x : Hold). x.owner) b.genesis.holds) _ (in_right q (map (λ (e : Item). e.1.terms.originator) (entries b.entries)) (map (λ (e : Item). e.1.terms.beneficiary) (entries b.entries)) h)))));
}

one_within : (f : Name → ℕ) (q : Name) (owners : List Name) → IsOneOf owners q → f q ≤ sum_by f owners
one_within f q [] h = absurd (never h)
one_within f q (o ∷ owners) h = at (equal_names q o) refl (one_within f q owners) h
  where
    within : (a s x y : ℕ) → s ≡ x + y → a ≡ x → a ≤ s
    within a s x y p e = omega arith

    beyond : (a s x y : ℕ) → s ≡ x + y → a ≤ y → a ≤ s
    beyond a s x y p l = omega arith

    at : (c : Bool) → equal_names q o ≡ c → (IsOneOf owners q → f q ≤ sum_by f owners) → (c || list_any (equal_names q) owners) ≡ true → f q ≤ sum_by f (o ∷ owners)
    at true e rest among = within _ _ _ _ (sum_by-cons f o owners) (ap f (equal_name q o e))
    at false e rest among = beyond _ _ _ _ (sum_by-cons f o owners) (rest among)

-- what one owner is free to use is within the free sum
pub free_within : (b : Book) (asset o : Name) → IsSound b → free_of b asset o ≤ free_sum_of b asset
free_within b asset o sound =
    subst (λ x. free_of b asset o ≤ x) (owners_free b (owners_in b o) asset (are_owners b o) sound) (one_within (free_of b asset) o (owners_in b o) (there b o))
  where
    there : (c : Book) (q : Name) → IsOneOf (owners_in c q) q
    there c q = distinct_has q (names_in c q) (or_left (equal_names q q) _ (names_refl q))

-- ---- what a step makes and takes away

abbrev made_of : LedgerOp → ℕ → ℕ
made_of Mint c = c
made_of _ c = 0

abbrev lost_of : LedgerOp → Entry → ℕ → ℕ
lost_of Burn e c = c
lost_of Release Minted c = c
lost_of _ e c = 0

made_is : (op : LedgerOp) (t : Terms) (asset : Name) → made_by op t asset ≡ made_of op (counted (equal_names asset t.asset) t.amount.number)
made_is Lock t asset = refl
made_is Burn t asset = refl
made_is Mint t asset = refl
made_is Assign t asset = refl
made_is Release t asset = refl

lost_is : (op : LedgerOp) (e : Entry) (t : Terms) (asset : Name) → lost_by op e t asset ≡ lost_of op e (counted (equal_names asset t.asset) t.amount.number)
lost_is Lock e t asset = refl
lost_is Burn e t asset = refl
lost_is Mint e t asset = refl
lost_is Assign e t asset = refl
lost_is Release Minted t asset = refl
lost_is Release e t asset = refl

-- an amount that is locked is free before
abbrev pub Room : LedgerOp → ℕ → ℕ → Type 0
Room Lock c free = c ≤ free
Room _ c free = Unit {0}

balances : (op : LedgerOp) (e : Entry) (x : Bool) (n H G U P G' U' P' : ℕ) → leads op e ≡ true
    → U' + counted (is_taken e && x) n ≡ U + counted (is_taken (result_of op) && x) n → G' + counted (is_given e && x) n ≡ G + counted (is_given (result_of op) && x) n → P' + counted (is_pledged e && x) n ≡ P + counted (is_pledged (result_of op) && x) n
    → U ≤ H + G → Room op (counted x n) ((H + G) - U) → ((H + G') - U') + P' + lost_of op e (counted x n) ≡ ((H + G) - U) + P + made_of op (counted x n)
balances Lock Absent x n H G U P G' U' P' l t g p c r = omega arith
balances Burn Locked x n H G U P G' U' P' l t g p c r = omega arith
balances Mint Absent x n H G U P G' U' P' l t g p c r = omega arith
balances Assign Minted x n H G U P G' U' P' l t g p c r = omega arith
balances Release Absent x n H G U P G' U' P' l t g p c r = omega arith
balances Release Locked x n H G U P G' U' P' l t g p c r = omega arith
balances Release Minted x n H G U P G' U' P' l t g p c r = omega arith
balances op e x n H G U P G' U' P' l t g p c r = absurd (never l)

pub lock_from : (e : Entry) → leads Lock e ≡ true → e ≡ Absent
lock_from Absent h = refl
lock_from e h = absurd (never h)

lock_room : (b : Book) (s : SessionId) (t : Terms) (asset : Name) → IsSound b → entry_of b.entries s ≡ Absent → t.amount.number ≤ free_of b t.asset t.originator → counted (equal_names asset (terms_of b.entries s t).asset) (terms_of b.entries s t).amount.number ≤ free_sum_of b asset
lock_room b s t asset sound none enough =
    subst (λ (x : Terms). counted (equal_names asset x.asset) x.amount.number ≤ free_sum_of b asset) (sym (absent_terms b.entries s t none)) (at (equal_names asset t.asset) refl)
  where
    onwards : (a c d : ℕ) → a ≤ c → c ≤ d → a ≤ d
    onwards a c d p q = omega arith

    at : (c : Bool) → equal_names asset t.asset ≡ c → counted c t.amount.number ≤ free_sum_of b asset
    at true e = onwards _ _ _ enough (subst (λ (y : Name). free_of b t.asset t.originator ≤ free_sum_of b y) (sym (equal_name asset t.asset e)) (free_within b t.asset t.originator sound))
    at false e = omega arith

room : (b : Book) (op : LedgerOp) (s : SessionId) (t : Terms) (asset : Name) → IsSound b → leads op (entry_of b.entries s) ≡ true → Allows b op t → Room op (counted (equal_names asset (terms_of b.entries s t).asset) (terms_of b.entries s t).amount.number) (free_sum_of b asset)
room b Lock s t asset sound l w = lock_room b s t asset sound (lock_from _ l) w
room b Burn s t asset sound l w = tt
room b Mint s t asset sound l w = tt
room b Assign s t asset sound l w = tt
room b Release s t asset sound l w = tt

pub moved_total : (b : Book) (op : LedgerOp) (s : SessionId) (t : Terms) (asset : Name) → IsSound b → leads op (entry_of b.entries s) ≡ true → Allows b op t
    → total_of (moved b op s t) asset + lost_by op (entry_of b.entries s) (terms_of b.entries s t) asset ≡ total_of b asset + made_by op (terms_of b.entries s t) asset
moved_total b op s t asset sound l w =
    let T = terms_of b.entries s t in
    ap (λ x. total_of (moved b op s t) asset + x) (lost_is op (entry_of b.entries s) T asset)
    ∙ balances op (entry_of b.entries s) (equal_names asset T.asset) T.amount.number (held_of_all b.genesis asset) _ _ _ _ _ _ l
    (sum_moved is_taken (λ x. equal_names asset x.asset) refl b.entries op s t) (sum_moved is_given (λ x. equal_names asset x.asset) refl b.entries op s t) (sum_moved is_pledged (λ x. equal_names asset x.asset) refl b.entries op s t)
    (sound.all_covered asset) (room b op s t asset sound l w)
    ∙ ap (λ x. total_of b asset + x) (sym (made_is op T asset))

pub true_false : (c : Bool) → c ≡ false → c ≡ true → ⊥
true_false c e f = never (sym e ∙ f)

pub totals_move : (b : Book) (op : LedgerOp) (s : SessionId) (t : Terms) (asset : Name) → IsSound b → (operation b op s t).changes ≡ true
    → total_of (operation b op s t).after asset + lost_by op (entry_of b.entries s) (terms_of b.entries s t) asset ≡ total_of b asset + made_by op (terms_of b.entries s t) asset
totals_move b op s t asset sound changes = at (step_is b op s t)
  where
    at : Stays b (operation b op s t) ⊎ Moves b op s t (entry_of b.entries s) (operation b op s t) → total_of (operation b op s t).after asset + lost_by op (entry_of b.entries s) (terms_of b.entries s t) asset ≡ total_of b asset + made_by op (terms_of b.entries s t) asset
    at (inl h) = absurd (true_false _ h.0 changes)
    at (inr h) = ap (λ (x : Book). total_of x asset + lost_by op (entry_of b.entries s) (terms_of b.entries s t) asset) h.3 ∙ moved_total b op s t asset sound h.1 h.2

pub else_stays : (b : Book) (op : LedgerOp) (s : SessionId) (t : Terms) → (operation b op s t).changes ≡ false → (operation b op s t).after ≡ b
else_stays b op s t still = at (step_is b op s t)
  where
    at : Stays b (operation b op s t) ⊎ Moves b op s t (entry_of b.entries s) (operation b op s t) → (operation b op s t).after ≡ b
    at (inl h) = h.1
    at (inr h) = absurd (true_false _ still h.0)
