-- Assets and holdings of a genesis.
use Rattle.std.proofs.Common.{◌≡◌, ℕ, ◌+◌, ◌*◌, ◌<◌, ◌≤◌, ◌&&◌, Bool, true, false, cond, List, [], ◌∷◌, ◌++◌, length, take, get_or, nat_eq, Option, Some, None, refl, ap, ap₂, sym, subst, ◌∙◌, arith, ◌^◌, length-append, length-take}
use Rattle.std.specs.Prelude.{option_map, find, is_some, unwrap_or}
use Rattle.std.specs.Ordering.{is_eq}
use Rattle.std.specs.Cmp.{IsTotalOrder, eq_by_cmp_equiv}
use Rattle.std.specs.declared.cmp.Ordering.{Ordering}
use Rattle.std.specs.declared.cmp.Ordering.TheVariants.{Less, Equal, Greater}
use Rattle.std.proofs.lemmas.List.Sums.{sum_by-append, sum_by-cons}
use Rattle.std.proofs.lemmas.List.{take_more}
use Rattle.std.proofs.lemmas.Grind.{common_steps}
use Rattle.satp_base.specs.Numbers.{greatest_amount}
use Rattle.std.proofs.lemmas.Bool.{and_from, eq-eqb}
use Rattle.std.proofs.lemmas.Cmp.{nat_list_cmp_total, nat_list_eq_equiv, nat_cmp_total, then_total, on_total}
use lib.Pointwise.{pointwise}
use Rattle.satp_base.specs.Keys.{name_cmp}
use Rattle.satp_base.specs.Founding.{Founding, amount_number, cap_among, counted, equal_names, held_among, most_assets, most_holds}
use Rattle.satp_base.specs.Genesis.{AreApart, IsGenesis}
use Rattle.satp_base.specs.declared.amount.Amount.{Amount}
use Rattle.satp_base.specs.declared.name.Name.{Name}
use Rattle.satp_base.specs.declared.genesis.Asset.{Asset}
use Rattle.satp_base.specs.declared.genesis.Hold.{Hold}
use Rattle.satp_base.proofs.SessionLemmas.{eq_name, exact_names}

pub names_total : IsTotalOrder name_cmp
names_total = then_total (on_total (λ n. n.bytes) nat_list_cmp_total) (on_total (λ n. n.count) nat_cmp_total)

is_equal : (r : Ordering) → is_eq r ≡ true → r ≡ Equal
is_equal Less e = absurd cc
is_equal Equal e = refl
is_equal Greater e = absurd cc

-- names that are told equal are one
pub equal_name : (a b : Name) → equal_names a b ≡ true → a ≡ b
equal_name a b e = exact_names a b (is_equal (name_cmp a b) e)

pub names_refl : (a : Name) → equal_names a a ≡ true
names_refl a = (eq_by_cmp_equiv names_total).refl a

-- what `==` tells of two names
pub names_test : (a b : Name) → (pointwise nat_eq a.bytes b.bytes && nat_eq a.count b.count) ≡ equal_names b a
names_test a b = both _ _ (λ e. subst (λ x. equal_names x a ≡ true) (eq_name a b e) (names_refl a)) (λ e. subst (λ x. (pointwise nat_eq x.bytes b.bytes && nat_eq x.count b.count) ≡ true) (equal_name b a e) (and_from _ _ (nat_list_eq_equiv.refl b.bytes) (eq-eqb b.count b.count refl)))
  where
    both : (p q : Bool) → (p ≡ true → q ≡ true) → (q ≡ true → p ≡ true) → p ≡ q
    both true q f g = sym (f refl)
    both false true f g = g refl
    both false false f g = refl

-- ---- sums of holdings

counted_most : (b : Bool) (n m : ℕ) → n ≤ m → counted b n ≤ m
counted_most true n m h = h
counted_most false n m h = omega arith

pub held_push : (holds : List Hold) (h : Hold) (asset : Name) → held_among (holds ++ h ∷ []) asset ≡ held_among holds asset + counted (equal_names asset h.asset) h.amount.number
held_push holds h asset =
    sum_by-append (λ (x : Hold). counted (equal_names asset x.asset) x.amount.number) holds (h ∷ [])
    ∙ ap (λ n. held_among holds asset + n) (sum_by-cons (λ (x : Hold). counted (equal_names asset x.asset) x.amount.number) h [] ∙ add_zero _)
  where
    add_zero : (n : ℕ) → n + 0 ≡ n
    add_zero n = omega arith

-- the sum of the first holdings
pub held_next : (holds : List Hold) (i : ℕ) (asset : Name) (h : Hold) → i < length holds → h ≡ get_or holds i h
    → held_among (take (i + 1) holds) asset ≡ held_among (take i holds) asset + counted (equal_names asset h.asset) h.amount.number
held_next holds i asset h within is =
    ap (λ xs. held_among xs asset) (take_more holds i h within ∙ ap (λ x. take i holds ++ x ∷ []) (sym is)) ∙ held_push (take i holds) h asset

pub held_counts : (holds : List Hold) (i : ℕ) (asset : Name) (h : Hold) (sum : ℕ) (b : Bool) → i < length holds → h ≡ get_or holds i h → b ≡ equal_names asset h.asset → sum ≡ held_among (take i holds) asset
    → sum + counted b h.amount.number ≡ held_among (take (i + 1) holds) asset
held_counts holds i asset h sum b within is e s = ap₂ (λ (m : ℕ) (c : Bool). m + counted c h.amount.number) s e ∙ sym (held_next holds i asset h within is)

held_most : (holds : List Hold) (asset : Name) → held_among holds asset ≤ length holds * greatest_amount
held_most [] asset = omega arith
held_most (h ∷ holds) asset = omega (arith, sum_by-cons (λ (x : Hold). counted (equal_names asset x.asset) x.amount.number) h holds, counted_most (equal_names asset h.asset) h.amount.number greatest_amount h.amount.high, held_most holds asset)

pub held_fits : (holds : List Hold) (i : ℕ) (asset : Name) (sum n : ℕ) → length holds ≤ most_holds → i ≤ length holds → sum ≡ held_among (take i holds) asset → n ≤ greatest_amount → sum + n < 2 ^ 63
held_fits holds i asset sum n few within is small =
    let most = held_most (take i holds) asset in
    let long : length (take i holds) ≤ 256 = omega (arith, length-take {A = Hold} i holds, few) in
    small_sum sum (length (take i holds)) n (subst (λ x. x ≤ length (take i holds) * greatest_amount) (sym is) most) long small
  where
    small_sum : (s l m : ℕ) → s ≤ l * greatest_amount → l ≤ 256 → m ≤ greatest_amount → s + m < 2 ^ 63
    small_sum s l m a b d = let c : l * greatest_amount ≤ 256 * greatest_amount = grind (arith, common_steps) in omega (arith, c)

-- ---- an asset more

pub no_cap : (o : Option Amount) (cap : Option ℕ) → option_map amount_number o ≡ cap → false ≡ is_some o → cap ≡ None
no_cap None cap e f = sym e
no_cap (Some a) cap e f = absurd cc

-- a cap that is there stays
cap_push : (assets : List Asset) (a : Asset) (name : Name) → unwrap_or (cap_among assets name) 0 ≤ unwrap_or (cap_among (assets ++ a ∷ []) name) 0
cap_push [] a name = omega arith
cap_push (x ∷ assets) a name = at (equal_names name x.name) (cap_push assets a name)
  where
    at : (b : Bool) → unwrap_or (cap_among assets name) 0 ≤ unwrap_or (cap_among (assets ++ a ∷ []) name) 0 → unwrap_or (option_map (λ (y : Asset). y.cap.number) (cond b (Some x) (find (λ (y : Asset). equal_names name y.name) assets))) 0 ≤ unwrap_or (option_map (λ (y : Asset). y.cap.number) (cond b (Some x) (find (λ (y : Asset). equal_names name y.name) (assets ++ a ∷ [])))) 0
    at true rest = omega arith
    at false rest = rest

other_name : (a b : Name) → equal_names a b ≡ false → equal_names b a ≡ false
other_name a b e = sym ((eq_by_cmp_equiv names_total).symm a b) ∙ e

-- a name that no asset has
none_at : (assets : List Asset) (x : Asset) (name : Name) → cap_among (x ∷ assets) name ≡ None → (equal_names name x.name ≡ false) × (cap_among assets name ≡ None)
none_at assets x name e = at (equal_names name x.name) refl e
  where
    at : (b : Bool) → equal_names name x.name ≡ b → option_map (λ (y : Asset). y.cap.number) (cond b (Some x) (find (λ (y : Asset). equal_names name y.name) assets)) ≡ None → (equal_names name x.name ≡ false) × (cap_among assets name ≡ None)
    at true p q = absurd cc
    at false p q = (p, q)

none_push : (assets : List Asset) (a : Asset) (name : Name) → cap_among assets name ≡ None → equal_names name a.name ≡ false → cap_among (assets ++ a ∷ []) name ≡ None
none_push [] a name e f = rw f refl
none_push (x ∷ assets) a name e f = let h = none_at assets x name e in rw h.0 (none_push assets a name h.1 f)

apart_push : (assets : List Asset) (a : Asset) → AreApart assets → cap_among assets a.name ≡ None → AreApart (assets ++ a ∷ [])
apart_push [] a h e = (refl, tt)
apart_push (x ∷ assets) a h e = let n = none_at assets x a.name e in (none_push assets a x.name h.0 (other_name a.name x.name n.0), apart_push assets a h.1 n.1)

asset_added : (g : Founding) (a : Asset) → IsGenesis g → length g.assets < most_assets → cap_among g.assets a.name ≡ None → IsGenesis (record g { assets = g.assets ++ a ∷ [] })
asset_added g a h few none = record {
  few_assets = omega (arith, length-append g.assets (a ∷ []));
  few_holds = h.few_holds;
  apart = apart_push g.assets a h.apart none;
  capped = λ name. omega (arith, h.capped name, cap_push g.assets a name);
}

pub with_asset : (assets new : List Asset) (holds : List Hold) (a : Asset) (b : Bool) → IsGenesis (record { assets = assets; holds = holds }) → length assets < most_assets → cap_among assets a.name ≡ None
    → new ≡ cond b (assets ++ a ∷ []) assets → IsGenesis (record { assets = new; holds = holds })
with_asset assets new holds a true h few none e = subst (λ x. IsGenesis (record { assets = x; holds = holds })) (sym e) (asset_added (record { assets = assets; holds = holds }) a h few none)
with_asset assets new holds a false h few none e = subst (λ x. IsGenesis (record { assets = x; holds = holds })) (sym e) h

-- ---- a holding more

hold_added : (g : Founding) (h : Hold) (cap : ℕ) → IsGenesis g → length g.holds < most_holds → cap_among g.assets h.asset ≡ Some cap → held_among g.holds h.asset + h.amount.number ≤ cap → IsGenesis (record g { holds = g.holds ++ h ∷ [] })
hold_added g h cap is few known fits = record {
  few_assets = is.few_assets;
  few_holds = omega (arith, length-append g.holds (h ∷ []));
  apart = is.apart;
  capped = λ name. at name (equal_names name h.asset) refl;
}
  where
    at : (name : Name) (b : Bool) → equal_names name h.asset ≡ b → held_among (g.holds ++ h ∷ []) name ≤ unwrap_or (cap_among g.assets name) 0
    at name true e =
        let same : name ≡ h.asset = equal_name name h.asset e in
        let here : held_among (g.holds ++ h ∷ []) name ≡ held_among g.holds name + h.amount.number = held_push g.holds h name ∙ ap (λ b. held_among g.holds name + counted b h.amount.number) e in
        subst (λ x. held_among (g.holds ++ h ∷ []) name ≤ x) (sym (ap (λ x. unwrap_or (cap_among g.assets x) 0) same ∙ ap (λ o. unwrap_or o 0) known))
        (subst (λ x. x ≤ cap) (sym (here ∙ ap (λ x. held_among g.holds x + h.amount.number) same)) fits)
    at name false e = omega (arith, is.capped name, held_push g.holds h name ∙ ap (λ b. held_among g.holds name + counted b h.amount.number) e)

pub with_hold : (assets : List Asset) (holds new : List Hold) (h : Hold) (b : Bool) (cap : ℕ) → IsGenesis (record { assets = assets; holds = holds }) → length holds < most_holds → cap_among assets h.asset ≡ Some cap
    → held_among holds h.asset + h.amount.number ≤ cap → new ≡ cond b (holds ++ h ∷ []) holds → IsGenesis (record { assets = assets; holds = new })
with_hold assets holds new h true cap is few known fits e = subst (λ x. IsGenesis (record { assets = assets; holds = x })) (sym e) (hold_added (record { assets = assets; holds = holds }) h cap is few known fits)
with_hold assets holds new h false cap is few known fits e = subst (λ x. IsGenesis (record { assets = assets; holds = x })) (sym e) is
