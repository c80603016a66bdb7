use Rattle.std.proofs.Common.{◌≡◌, ◌≤◌, ◌+◌, ℕ, [], take, Some, refl, sym, ap, ◌∙◌, arith, lit≤}
use Rattle.std.specs.FinMap as map
use Rattle.std.specs.Prelude.{unwrap_or}
use Rattle.satp_accounts.specs.Owners.{HoldAdds, IsHeld, amount_at, owned_cmp}
use Rattle.satp_accounts.proofs.BeginLemmas.{held_more, held_none}
use Rattle.satp_accounts.proofs.OwnerLemmas.{owned_total}
use Rattle.satp_examples.specs.Accounts.{anns, gold_of, holds, two, with_anns}
use Rattle.satp_examples.specs.Samples.{ann, bob, gold, units}
use Rattle.satp_examples.proofs.accounts.law_accounts.Goals as goal

nothing : amount_at map.empty gold ann ≡ 0
nothing = ap (λ o. unwrap_or o 0) (map.get-empty owned_cmp (gold_of ann))

no_bobs : amount_at (anns 300) gold bob ≡ 0
no_bobs = ap (λ o. unwrap_or o 0) (map.get-insert owned_total map.empty (gold_of ann) 300 (gold_of bob) ∙ map.get-empty owned_cmp (gold_of bob))

anns_first : (n : ℕ) → amount_at (anns n) gold ann ≡ n
anns_first n = ap (λ o. unwrap_or o 0) (map.get-insert owned_total map.empty (gold_of ann) n (gold_of ann))

anns_still : amount_at two gold ann ≡ 300
anns_still = ap (λ o. unwrap_or o 0) (map.get-insert owned_total (anns 300) (gold_of bob) 70 (gold_of ann)) ∙ anns_first 300

anns_last : (n : ℕ) → amount_at (with_anns n) gold ann ≡ n
anns_last n = ap (λ o. unwrap_or o 0) (map.get-insert owned_total two (gold_of ann) n (gold_of ann))

bobs_missing : (n : ℕ) → amount_at (anns n) gold bob ≡ 0
bobs_missing n = ap (λ o. unwrap_or o 0) (map.get-insert owned_total map.empty (gold_of ann) n (gold_of bob) ∙ map.get-empty owned_cmp (gold_of bob))

third : HoldAdds two (Some (gold, ann, units 200 (lit≤ tt) (lit≤ tt))) (with_anns 500)
third = sym (ap (λ x. map.insert two (gold_of ann) (x + 200)) anns_still)

of_none : IsHeld [] map.empty
of_none = held_none [] refl

of_one : IsHeld (take 1 holds) (anns 300)
of_one = held_more holds 0 map.empty (anns 300) (Some (gold, ann, units 300 (lit≤ tt) (lit≤ tt))) of_none refl (sym (ap (λ x. map.insert map.empty (gold_of ann) (x + 300)) nothing))

of_two : IsHeld (take 2 holds) two
of_two = held_more holds 1 (anns 300) two (Some (gold, bob, units 70 (lit≤ tt) (lit≤ tt))) of_one refl (sym (ap (λ x. map.insert (anns 300) (gold_of bob) (x + 70)) no_bobs))

pub returns : goal.returns
returns c = record {
  all_three = held_more holds 2 two (with_anns 500) (Some (gold, ann, units 200 (lit≤ tt) (lit≤ tt))) of_two refl third;
  none = of_none;
  not_the_last_alone = λ h. let bad : 200 ≡ 500 = sym (anns_last 200) ∙ h.each gold ann in absurd (omega (arith, bad));
  not_without_bobs = λ h. let bad : 0 ≡ 70 = sym (bobs_missing 500) ∙ h.each gold bob in absurd (omega (arith, bad));
  one_more = third;
  no_more = refl;
  not_in_its_place = λ h. let bad : 200 ≡ 500 = sym (anns_last 200) ∙ (ap (λ m. amount_at m gold ann) (h ∙ sym third) ∙ anns_last 500) in absurd (omega (arith, bad));
  up_to_the_greatest = let is = anns_first 300 in omega (arith, is);
  not_past_it = λ h. let is = anns_first 300 in let bad : amount_at (anns 300) gold ann + 9007199254740692 ≤ 9007199254740991 = h in absurd (omega (arith, is, bad));
}
