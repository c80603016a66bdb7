-- The number 0 in decimal.
use Rattle.std.proofs.Common.{◌≡◌, ◌≤◌, ◌<◌, ◌^◌, ◌∙◌, ℕ, zero, suc, List, [], ◌∷◌, true, false, refl, sym, arith, lit<}
use Rattle.std.specs.Prelude.{nat_eq}
use Rattle.std.specs.Fmt.{decimal, digits}
use Rattle.std.specs.Cmp.Lexicographic.{other_text, pointwise, same_text}
use Rattle.std.proofs.lemmas.Fmt.{decimal_injective}
use Rattle.satp_base.specs.Numbers.{greatest_number}

zero_digit : decimal 0 ≡ 48 ∷ []
unfolding digits
zero_digit = refl

pub zero_text : (text other : List ℕ) → other ≡ 48 ∷ [] → true ≡ pointwise nat_eq text other → text ≡ decimal 0
zero_text text other is same = same_text text other same ∙ is ∙ sym zero_digit

small : greatest_number < 2 ^ 64
small = lit< tt

pub is_zero : (n : ℕ) → n ≤ greatest_number → decimal 0 ≡ decimal n → 0 ≡ n
is_zero n within e = decimal_injective 0 n (omega arith) (omega (arith, within, small)) e

pub not_zero : (n : ℕ) (text other : List ℕ) → other ≡ 48 ∷ [] → false ≡ pointwise nat_eq text other → text ≡ decimal n → 1 ≤ n
not_zero zero text other is differ e = absurd (other_text text other differ (e ∙ zero_digit ∙ sym is))
not_zero (suc n) text other is differ e = omega arith
