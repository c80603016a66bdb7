-- What each owner has at the beginning.
use Rattle.std.proofs.Common.{◌≡◌, ℕ, suc, ◌+◌, ◌<◌, ◌≤◌, ◌&&◌, List, [], ◌∷◌, ◌++◌, take, Option, Some, None, refl, ap, subst, sym, ◌∙◌, arith, add-one}
use Rattle.std.specs.Prelude.{option_map, slice_get, unwrap_or}
use Rattle.std.specs.List.{sum_by}
use Rattle.std.specs.FinMap.{from_entries, get-empty, insert}
use Rattle.std.proofs.lemmas.List.Sums.{sum_by-take-le, sum_by_push}
use Rattle.satp_base.specs.Founding.{Founding, counted, equal_names, held_among}
use Rattle.satp_base.specs.Genesis.{IsGenesis, hold_triple}
use Rattle.satp_base.specs.Numbers.{greatest_amount}
use Rattle.satp_base.specs.declared.amount.Amount.{Amount}
use Rattle.satp_base.specs.declared.genesis.Hold.{Hold}
use Rattle.satp_base.specs.declared.ledger.LedgerEntry.{LedgerEntry}
use Rattle.satp_base.specs.declared.name.Name.{Name}
use Rattle.satp_base.specs.declared.session.SessionId.{SessionId}
use Rattle.satp_base.proofs.GenesisLemmas.{names_refl}
use Rattle.satp_money.specs.Amounts.{Agrees}
use Rattle.satp_money.specs.declared.owned.Owned.{Owned}
use Rattle.satp_money.proofs.Begins.{begun, one, take_get, take_whole}
use Rattle.satp_money.proofs.Maps.{entries_empty}
use Rattle.satp_money.proofs.Steps.{cap_most}
use Rattle.satp_accounts.specs.Owners.{Amounts, HoldAdds, HoldFits, IsHeld, amount_at, owned_cmp, sum_at}
use Rattle.satp_accounts.proofs.OwnerLemmas.{amount_within, exact_owned, owned_total}
use Rattle.satp_accounts.proofs.StepLemmas.{raised_rises}

pub held_none : (es : List (Owned × ℕ)) → es ≡ [] → IsHeld [] (from_entries es)
held_none es e = subst (λ x. IsHeld [] (from_entries x)) (sym e) (record {
  each = λ a o. ap (λ x. unwrap_or x 0) (get-empty owned_cmp (record { asset = a; owner = o }));
  all = λ a. ap (sum_by (λ (x : Owned × ℕ). counted (equal_names a x.0.asset) x.1)) (entries_empty owned_cmp owned_total exact_owned);
})

append_none : (xs : List Hold) → xs ++ [] ≡ xs
append_none [] = refl
append_none (x ∷ xs) = ap (λ ys. x ∷ ys) (append_none xs)

held_one : (front : List Hold) (o : Option Hold) (n n' : Amounts) → IsHeld front n → HoldAdds n (option_map hold_triple o) n' → IsHeld (front ++ one o) n'
held_one front None n n' held e = subst (λ (xs : List Hold). IsHeld xs n') (sym (append_none front)) (subst (IsHeld front) (sym e) held)
held_one front (Some h) n n' held e =
    let up = raised_rises n (record { asset = h.asset; owner = h.owner }) h.amount.number in
    subst (IsHeld (front ++ h ∷ [])) (sym e) (record {
      each = λ a o. up.each a o ∙ ap (λ x. x + counted (equal_names a h.asset && equal_names o h.owner) h.amount.number) (held.each a o)
          ∙ sym (sum_by_push (λ (x : Hold). counted (equal_names a x.asset && equal_names o x.owner) x.amount.number) front h);
      all = λ a. up.all a ∙ ap (λ x. x + counted (equal_names a h.asset) h.amount.number) (held.all a) ∙ sym (sum_by_push (λ (x : Hold). counted (equal_names a x.asset) x.amount.number) front h);
    })

-- the amounts of one holding more
pub held_more : (holds : List Hold) (i : ℕ) (n n' : Amounts) (o : Option (Name × Name × Amount)) → IsHeld (take i holds) n → o ≡ option_map hold_triple (slice_get holds i) → HoldAdds n o n' → IsHeld (take (i + 1) holds) n'
held_more holds i n n' o held e adds =
    subst (λ (xs : List Hold). IsHeld xs n') (sym (ap (λ k. take k holds) (add-one i) ∙ take_get holds i)) (held_one (take i holds) (slice_get holds i) n n' held (subst (λ (x : Option (Name × Name × Amount)). HoldAdds n x n') e adds))

one_fits : (holds : List Hold) (i : ℕ) (n : Amounts) (o : Option Hold) → ((a : Name) → held_among holds a ≤ greatest_amount) → IsHeld (take i holds) n → take (suc i) holds ≡ take i holds ++ one o → HoldFits n (option_map hold_triple o)
one_fits holds i n None most held e = tt
one_fits holds i n (Some h) most held e =
    fits _ _ _ _ _ (amount_within n h.asset h.owner) (held.all h.asset) (ap (sum_by f) e ∙ sum_by_push f (take i holds) h) (ap (λ c. counted c h.amount.number) (names_refl h.asset)) (sum_by-take-le f holds (suc i)) (most h.asset)
  where
    f : Hold → ℕ
    f x = counted (equal_names h.asset x.asset) x.amount.number

    fits : (a s t t' p : ℕ) {n' all most' : ℕ} → a ≤ s → s ≡ t → t' ≡ t + p → p ≡ n' → t' ≤ all → all ≤ most' → a + n' ≤ most'
    fits a s t t' p l e' g k m o = omega arith

-- a holding more stays in range
pub hold_fits : (g : Founding) (i : ℕ) (n : Amounts) (o : Option (Name × Name × Amount)) → IsGenesis g → IsHeld (take i g.holds) n → o ≡ option_map hold_triple (slice_get g.holds i) → HoldFits n o
hold_fits g i n o is held e =
    subst (HoldFits n) (sym e) (one_fits g.holds i n (slice_get g.holds i) (λ a. omega (arith, is.capped a, cap_most g.assets a)) held (take_get g.holds i))

pub all_held : (g : Founding) (i : ℕ) (n : Amounts) → IsHeld (take i g.holds) n → (0 < i → IsGenesis g) → 256 ≤ i → IsHeld g.holds n
all_held g i n held h many = let is = h (omega arith) in subst (λ (xs : List Hold). IsHeld xs n) (take_whole g.holds i (omega (arith, is.few_holds))) held

pub first_agrees : (g : Founding) (es : List (SessionId × LedgerEntry)) (n : Amounts) → IsGenesis g → es ≡ [] → IsHeld g.holds n → Agrees (record { genesis = g; entries = from_entries es }) (amount_at n) (sum_at n)
first_agrees g es n is none held = begun g es (amount_at n) (sum_at n) is none held.each held.all

-- ---- one holding

pub hold_range : (n : Amounts) (o : Option (Name × Name × Amount)) (asset owner : Name) (amount : Amount) → o ≡ Some (asset, owner, amount) → HoldFits n o → amount_at n asset owner + amount.number ≤ greatest_amount
hold_range n o asset owner amount e h = subst (HoldFits n) e h

pub hold_added : (n n' : Amounts) (o : Option (Name × Name × Amount)) (asset owner : Name) (amount : Amount) (v : ℕ) → o ≡ Some (asset, owner, amount) → v ≡ amount_at n asset owner + amount.number → n' ≡ insert n (record { asset = asset; owner = owner }) v → HoldAdds n o n'
hold_added n n' o asset owner amount v e is put = subst (λ (x : Option (Name × Name × Amount)). HoldAdds n x n') (sym e) (put ∙ ap (insert n (record { asset = asset; owner = owner })) is)
