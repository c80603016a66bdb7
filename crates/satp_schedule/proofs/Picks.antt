-- Numbers from 0 on: 0 is written by its digit alone, and every other one is a count.
use Rattle.std.proofs.Common.{◌≡◌, ℕ, zero, suc, List, [], ◌∷◌, true, false, nat_le, nat_eq, refl, ap, sym, ◌∙◌, arith}
use Rattle.std.specs.Fmt.{decimal, digits}
use Rattle.std.specs.Str.Parse.{digits_value}
use Rattle.std.specs.Cmp.Lexicographic.{same_text}
use lib.Pointwise.{pointwise}
use Rattle.std.proofs.lemmas.Bool.{and_from, le-leb, leb-true}
use Rattle.std.proofs.lemmas.Cmp.{nat_list_eq_equiv}
use Rattle.std.proofs.lemmas.Fmt.{decimal_is_IsNumeral}
use Rattle.satp_base.specs.Numbers.{greatest_number}
use Rattle.satp_schedule.specs.Lines.{is_count}

zero_digit : decimal 0 ≡ 48 ∷ []
unfolding digits
zero_digit = refl

pub zero_text : (field other : List ℕ) → other ≡ 48 ∷ [] → true ≡ pointwise nat_eq field other → field ≡ decimal 0
zero_text field other is same = same_text field other same ∙ is ∙ sym zero_digit

pub is_zero : (n : ℕ) → nat_le n greatest_number ≡ true → decimal 0 ≡ decimal n → n ≡ 0
is_zero n small e = sym (decimal_is_IsNumeral n (omega (arith, leb-true n greatest_number small))).1 ∙ ap (digits_value 10) (sym e ∙ zero_digit)

pub not_zero : (n : ℕ) (field other : List ℕ) → nat_le n greatest_number ≡ true → other ≡ 48 ∷ [] → false ≡ pointwise nat_eq field other → field ≡ decimal n → is_count n ≡ true
not_zero zero field other small is differ e =
    let same : field ≡ other = e ∙ zero_digit ∙ sym is in
    let bad : false ≡ true = differ ∙ ap (λ xs. pointwise nat_eq field xs) (sym same) ∙ nat_list_eq_equiv.refl field in
    absurd cc
not_zero (suc n) field other small is differ e = and_from _ _ (le-leb 1 (suc n) (omega arith)) small
