-- The outputs of a founding.
use Rattle.std.proofs.Common.{◌≡◌, ℕ, zero, suc, ◌+◌, ◌<◌, ◌≤◌, ◌&&◌, Bool, List, [], ◌∷◌, ◌++◌, length, take, Option, Some, None, refl, ap, ap₂, sym, ◌∙◌, arith, add-one}
use Rattle.std.specs.Prelude.{option_map, slice_get}
use Rattle.std.specs.List.{sum_by}
use Rattle.std.specs.FinMap.{from_entries}
use Rattle.std.proofs.lemmas.List.Sums.{sum_by-cons}
use Rattle.satp_base.specs.Founding.{Founding, counted, equal_names, most_holds}
use Rattle.satp_base.specs.Genesis.{IsGenesis, hold_triple}
use Rattle.satp_base.specs.Money.{sum_entries}
use Rattle.satp_base.specs.Keys.{session_cmp}
use Rattle.satp_base.specs.declared.amount.Amount.{Amount}
use Rattle.satp_base.specs.declared.genesis.Hold.{Hold}
use Rattle.satp_base.specs.declared.ledger.LedgerEntry.{LedgerEntry}
use Rattle.satp_base.specs.declared.name.Name.{Name}
use Rattle.satp_base.specs.declared.session.SessionId.{SessionId}
use Rattle.satp_money.specs.Amounts.{Agrees}
use Rattle.satp_money.proofs.Begins.{begun, one, take_get, take_whole}
use Rattle.satp_outputs.specs.Steps.{most_made, with_hold}
use Rattle.satp_outputs.specs.Unspent.{Numbered, Unspent, asset_sum, first_unspent, hold_output, numbered, own_sum}
use Rattle.satp_outputs.specs.declared.output.Output.{Output}

append_none : {X : Type 0} (xs : List X) → xs ++ [] ≡ xs
append_none [] = refl
append_none (x ∷ xs) = ap (λ ys. x ∷ ys) (append_none xs)

next_number : (n k : ℕ) → n + 1 + k ≡ n + suc k
next_number n k = omega arith

numbered_more : (n : ℕ) (xs : List Hold) (h : Hold) → numbered n (xs ++ h ∷ []) ≡ numbered n xs ++ (n + length xs, hold_output h) ∷ []
numbered_more n [] h = ap (λ k. (k, hold_output h) ∷ []) (plus_none n)
  where
    plus_none : (k : ℕ) → k ≡ k + 0
    plus_none k = omega arith
numbered_more n (x ∷ xs) h = ap (λ es. (n, hold_output x) ∷ es) (numbered_more (n + 1) xs h ∙ ap (λ k. numbered (n + 1) xs ++ (k, hold_output h) ∷ []) (next_number n (length xs)))

length_more : (xs : List Hold) (h : Hold) → length (xs ++ h ∷ []) ≡ length xs + 1
length_more [] h = refl
length_more (x ∷ xs) h = omega (arith, length_more xs h)

one_more : (xs : List Hold) (o : Option Hold) → with_hold (first_unspent xs) (option_map hold_triple o) ≡ first_unspent (xs ++ one o)
one_more xs None = ap first_unspent (sym (append_none xs))
one_more xs (Some h) = ap₂ (λ (es : List Numbered) (n : ℕ). record { outputs = es; next = n }) (sym (numbered_more 1 xs h)) (rest (length xs) (length (xs ++ h ∷ [])) (length_more xs h))
  where
    rest : (a b : ℕ) → b ≡ a + 1 → 1 + a + 1 ≡ 1 + b
    rest a b e = omega arith

pub more_outputs : (holds : List Hold) (i : ℕ) (old new : Unspent) (o : Option (Name × Name × Amount)) → old ≡ first_unspent (take i holds) → o ≡ option_map hold_triple (slice_get holds i) → new ≡ with_hold old o → new ≡ first_unspent (take (i + 1) holds)
more_outputs holds i old new o e f h =
    h ∙ ap₂ (λ (u : Unspent) (p : Option (Name × Name × Amount)). with_hold u p) e f ∙ one_more (take i holds) (slice_get holds i) ∙ ap first_unspent (sym (take_get holds i) ∙ ap (λ k. take k holds) (sym (add-one i)))

length_take : (holds : List Hold) (i : ℕ) → length (take i holds) ≤ i
length_take holds zero = omega arith
length_take [] (suc i) = omega arith
length_take (h ∷ holds) (suc i) = omega (arith, length_take holds i)

pub few_numbers : (holds : List Hold) (i n : ℕ) (u : Unspent) → u ≡ first_unspent (take i holds) → n ≡ u.next → n ≤ 1 + i
few_numbers holds i n u e f = omega (arith, f, ap (λ (x : Unspent). x.next) e, length_take holds i)

pub all_outputs : (g : Founding) (i : ℕ) (u : Unspent) → u ≡ first_unspent (take i g.holds) → (0 < i → IsGenesis g) → 256 ≤ i → u ≡ first_unspent g.holds
all_outputs g i u e h many = let is = h (omega arith) in e ∙ ap first_unspent (take_whole g.holds i (omega (arith, is.few_holds)))

-- ---- the sums

sum_first : (test : Output → Bool) (n : ℕ) (holds : List Hold) → sum_by (λ (e : Numbered). counted (test e.1) e.1.amount) (numbered n holds) ≡ sum_by (λ (h : Hold). counted (test (hold_output h)) h.amount.number) holds
sum_first test n [] = refl
sum_first test n (h ∷ holds) =
    sum_by-cons (λ (e : Numbered). counted (test e.1) e.1.amount) (n, hold_output h) (numbered (n + 1) holds)
    ∙ ap (λ x. counted (test (hold_output h)) h.amount.number + x) (sum_first test (n + 1) holds)
    ∙ sym (sum_by-cons (λ (x : Hold). counted (test (hold_output x)) x.amount.number) h holds)

pub first_agrees : (g : Founding) (es : List (SessionId × LedgerEntry)) (outputs : List Numbered) (n : ℕ) (u : Unspent) → IsGenesis g → es ≡ [] → u ≡ first_unspent g.holds → outputs ≡ u.outputs
    → Agrees (record { genesis = g; entries = from_entries es }) (own_sum outputs) (asset_sum outputs)
first_agrees g es outputs n u is none e f =
    let whole = f ∙ ap (λ (x : Unspent). x.outputs) e in
    begun g es (own_sum outputs) (asset_sum outputs) is none
    (λ a q. ap (λ os. own_sum os a q) whole ∙ sum_first (λ o. equal_names a o.asset && equal_names q o.owner) 1 g.holds)
    (λ a. ap (λ os. asset_sum os a) whole ∙ sum_first (λ o. equal_names a o.asset) 1 g.holds)

pub first_numbers : (g : Founding) (es : List (SessionId × LedgerEntry)) (n : ℕ) (u : Unspent) → IsGenesis g → u ≡ first_unspent g.holds → n ≡ u.next → n ≤ 1 + most_holds + sum_entries most_made (from_entries {R = session_cmp} es)
first_numbers g es n u is e f = omega (arith, f, ap (λ (x : Unspent). x.next) e, is.few_holds)
