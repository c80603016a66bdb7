-- Numbers in decimal: the faults of a text, and that a number and its text determine one another.
use Rattle.std.proofs.Common.{◌≡◌, ℕ, ◌<◌, ◌≤◌, ◌^◌, ◌&&◌, ◌==◌, Bool, true, false, cond, not, nat_le, nat_lt, List, [], ◌∷◌, length, get_or, decimal, Option, Some, None, option_map, refl, ap, sym, ◌∙◌, arith}
use Rattle.std.specs.List.{list_all}
use Rattle.std.specs.Str.Parse.{digits_value, AllDigits}
use Rattle.std.proofs.lemmas.Bool.{and_parts, and_from, le-leb, le-ltb, leb-true, lt-ltb, eq-eqb, ne_eqb, and_right}
use Rattle.std.proofs.lemmas.Fmt.{decimal_is_IsNumeral, first_decimal, decimal-digits_value}
use Rattle.std.proofs.lemmas.Str.Parse.{digit_from_value, numerals_by_value, tells_digits}
use Rattle.satp_base.specs.Numbers.{is_digit, leads, within, is_number, first_other}
use Rattle.satp_base.specs.Faults.{number_fault, or_else}
use Rattle.satp_base.specs.declared.fault.AmountFault.{AmountFault}
use Rattle.satp_base.specs.declared.fault.AmountFault.TheVariants as fault
use Rattle.satp_base.proofs.ReadLemmas.{none_other, other_none, digits}

-- ---- a text without fault is a number, and the other way round

pub record HasNumber (most : ℕ) (text : List ℕ) : Type 0 where
  pub some : 1 ≤ length text
  pub digits : list_all is_digit text ≡ true
  pub leads_not : leads text ≡ false
  pub within : within most text ≡ true

not_false : (b : Bool) → not b ≡ true → b ≡ false
not_false true e = absurd cc
not_false false e = refl

pub number_parts : (most : ℕ) (text : List ℕ) → is_number most text ≡ true → HasNumber most text
number_parts most text e =
    let p = and_parts _ _ e in
    let q = and_parts _ _ p.0 in
    let r = and_parts _ _ q.0 in
    record { some = leb-true _ _ r.0; digits = r.1; leads_not = not_false _ q.1; within = p.1 }

pub number_from : (most : ℕ) (text : List ℕ) → HasNumber most text → is_number most text ≡ true
number_from most text h = and_from _ _ (and_from _ _ (and_from _ _ (le-leb _ _ h.some) h.digits) (ap not h.leads_not)) h.within

pub no_number_fault : (most : ℕ) (text : List ℕ) → is_number most text ≡ true → number_fault most text ≡ None
no_number_fault most text e =
    let h = number_parts most text e in
    let some : (length text == 0) ≡ false = ne_eqb _ _ (λ e. omega (arith, h.some)) in
    rw (some, other_none is_digit text h.digits, h.leads_not, h.within) refl

some_bytes : (xs : List ℕ) → (length xs == 0) ≡ false → 1 ≤ length xs
some_bytes [] e = absurd cc
some_bytes (x ∷ xs) e = omega arith

number_at : (most : ℕ) (text : List ℕ) (a : Bool) (o : Option ℕ) (l w : Bool) → (length text == 0) ≡ a → first_other is_digit text ≡ o → leads text ≡ l → within most text ≡ w
    → cond a (Some fault.Empty) (or_else (option_map fault.BadByte o) (cond l (Some fault.Leading) (cond w None (Some fault.Range)))) ≡ None → HasNumber most text
number_at most text true o l w p q r t e = absurd cc
number_at most text false (Some at) l w p q r t e = absurd cc
number_at most text false None true w p q r t e = absurd cc
number_at most text false None false false p q r t e = absurd cc
number_at most text false None false true p q r t e = record { some = some_bytes text p; digits = none_other is_digit text q; leads_not = r; within = t }

pub number_of : (most : ℕ) (text : List ℕ) → number_fault most text ≡ None → is_number most text ≡ true
number_of most text e = number_from most text (number_at most text (length text == 0) (first_other is_digit text) (leads text) (within most text) refl refl refl refl e)

pub not_number : (most : ℕ) (text : List ℕ) (f : AmountFault) → number_fault most text ≡ Some f → is_number most text ≡ true → false ≡ true
not_number most text f e form = let none = sym (no_number_fault most text form) ∙ e in absurd cc

-- ---- a number and its text

pub record Within (most : ℕ) (text : List ℕ) : Type 0 where
  pub low : 1 ≤ digits_value 10 text
  pub high : digits_value 10 text ≤ most

pub within_parts : (most : ℕ) (text : List ℕ) → within most text ≡ true → Within most text
within_parts most text e = let p = and_parts _ _ e in record { low = leb-true _ _ p.0; high = leb-true _ _ p.1 }

-- digits without a leading zero are the text of their value
pub decimal_of_digits : (most : ℕ) (text : List ℕ) → most < 2 ^ 64 → is_number most text ≡ true → decimal (digits_value 10 text) ≡ text
decimal_of_digits most text small e =
    let h = number_parts most text e in
    let small : digits_value 10 text < 2 ^ 64 = omega (arith, (within_parts most text h.within).high) in
    decimal-digits_value (numerals_by_value (AllDigits 10) tells_digits) text (digits text h.digits) (omega (arith, h.some)) (lead text h.some h.leads_not) small
  where
    lead : (xs : List ℕ) → 1 ≤ length xs → leads xs ≡ false → get_or xs 0 0 ≡ 48 → length xs ≡ 1
    lead [] some e z = absurd (omega arith)
    lead (x ∷ []) some e z = refl
    lead (x ∷ y ∷ xs) some e z =
        let led = and_from (nat_lt 1 (length (x ∷ y ∷ xs))) (x == 48) (lt-ltb _ _ (omega arith)) (eq-eqb _ _ z) in
        absurd cc

all_digits : (cs : List ℕ) → AllDigits 10 cs → list_all is_digit cs ≡ true
all_digits [] h = refl
all_digits (c ∷ cs) h = let range = digit_from_value c h.0 in and_from _ _ (and_from _ _ (le-leb _ _ range.0) (le-leb _ _ range.1)) (all_digits cs h.1)

pub decimal_digits : (n : ℕ) → n < 2 ^ 64 → list_all is_digit (decimal n) ≡ true
decimal_digits n small = all_digits (decimal n) (decimal_is_IsNumeral n small).0.1

pub is_number-decimal : (most n : ℕ) → 1 ≤ n → n ≤ most → most < 2 ^ 64 → is_number most (decimal n) ≡ true
is_number-decimal most n low high small =
    let numeral = decimal_is_IsNumeral n (omega arith) in
    let first = first_decimal n low (omega arith) in
    let leads_not : leads (decimal n) ≡ false = and_right _ _ (ne_eqb (get_or (decimal n) 0 0) 48 (λ e. omega arith)) in
    let within : within most (decimal n) ≡ true = rw numeral.1 (and_from _ _ (le-leb _ _ low) (le-leb _ _ high)) in
    number_from most (decimal n) (record { some = numeral.0.0; digits = all_digits (decimal n) numeral.0.1; leads_not = leads_not; within = within })

-- ---- what a reader has found

pub leads_not_short : (text : List ℕ) → length text ≤ 1 → leads text ≡ false
leads_not_short text short = ap (λ more. more && (get_or text 0 0 == 48)) (le-ltb 1 (length text) short)

pub leads_not_other : (text : List ℕ) → (get_or text 0 0 ≡ 48 → ⊥) → leads text ≡ false
leads_not_other text other = and_right _ _ (ne_eqb (get_or text 0 0) 48 other)

pub record Found (most : ℕ) (text : List ℕ) (number : ℕ) : Type 0 where
  pub faultless : number_fault most text ≡ None
  pub text_is : decimal number ≡ text
  pub high : number ≤ most

-- digits without a leading zero, and their value
pub number_found : (most : ℕ) (text : List ℕ) (r : Option ℕ) (number : ℕ) → most < 2 ^ 64 → (length text == 0) ≡ false → first_other is_digit text ≡ None → leads text ≡ false
    → r ≡ cond (nat_le (digits_value 10 text) most) (Some (digits_value 10 text)) None → r ≡ Some number → 0 < number → Found most text number
number_found most text r number small p q l e found low =
    let v = value_is (digits_value 10 text) (nat_le (digits_value 10 text) most) refl (sym e ∙ found) in
    let fits : within most text ≡ true = and_from _ _ (le-leb _ _ (omega (arith, v.0))) (le-leb _ _ v.1) in
    let is = number_from most text (record { some = some_bytes text p; digits = none_other is_digit text q; leads_not = l; within = fits }) in
    record { faultless = no_number_fault most text is; text_is = ap decimal (sym v.0) ∙ decimal_of_digits most text small is; high = omega (arith, v.0, v.1) }
  where
    value_is : (v : ℕ) (fits : Bool) → nat_le v most ≡ fits → cond fits (Some v) None ≡ Some number → (v ≡ number) × (v ≤ most)
    value_is v true fits e = (cc, leb-true _ _ fits)
    value_is v false fits e = absurd cc
