-- The values of a name's lines, by tests on the lines that the parser gives.
use Rattle.std.proofs.Common.{◌≡◌, ℕ, suc, ◌+◌, ◌*◌, ◌^◌, ◌<◌, ◌≤◌, Bool, true, false, cond, ◌&&◌, ◌||◌, List, [], ◌∷◌, map, length, get_or, drop, refl, ap, ◌∙◌, sym, arith, Option, Some, None, add-one, eqb}
use Rattle.std.specs.Prelude.{count_by}
use Rattle.std.specs.List.{list_any, list_all}
use Rattle.std.specs.Str.Parse.{digits_value}
use Rattle.std.proofs.Math.Seq.{drop-cons}
use Rattle.std.proofs.Math.Nat.{pow-le-pow_right, pow-suc}
use Rattle.std.proofs.lemmas.List.Sums.{sum_by-cons}
use Rattle.std.proofs.lemmas.Bool.{cond-true, cond-false, eq-eqb}
use Rattle.httparse.specs.declared.borrowed.Header.{Header}
use Rattle.satp_http.specs.Lines.{same_word, values_of, writes, is_length}
use Rattle.satp_http.specs.LineLists.{lines_of}
use Rattle.satp_http.specs.Agreeing.{agrees_on, agreed_with}

-- a line of another name says nothing, and one of the name says its value
pub value_skipped : (name : List ℕ) (h : Header) (headers : List Header) → same_word h.name.now name ≡ false → values_of name (lines_of (h ∷ headers)) ≡ values_of name (lines_of headers)
value_skipped name h headers other = ap (map (λ (line : List ℕ × List ℕ). line.1)) (cond-false _ _ _ other)

pub value_taken : (name : List ℕ) (h : Header) (headers : List Header) → same_word h.name.now name ≡ true → values_of name (lines_of (h ∷ headers)) ≡ h.value.now ∷ values_of name (lines_of headers)
value_taken name h headers same = ap (map (λ (line : List ℕ × List ℕ). line.1)) (cond-true _ _ _ same)

pub count_values : (name : List ℕ) (headers : List Header) → count_by (λ h. same_word h.name.now name) headers ≡ length (values_of name (lines_of headers))
count_values name [] = refl
count_values name (h ∷ headers) = by_test (same_word h.name.now name) refl (count_values name headers)
  where
    by_test : (t : Bool) → same_word h.name.now name ≡ t → count_by (λ x. same_word x.name.now name) headers ≡ length (values_of name (lines_of headers)) → count_by (λ x. same_word x.name.now name) (h ∷ headers) ≡ length (values_of name (lines_of (h ∷ headers)))
    by_test true e later = omega (arith, sum_by-cons (λ (x : Header). cond (same_word x.name.now name) 1 0) h headers, ap {B = ℕ} (λ t. cond t 1 0) e, later, ap length (value_taken name h headers e))
    by_test false e later = omega (arith, sum_by-cons (λ (x : Header). cond (same_word x.name.now name) 1 0) h headers, ap {B = ℕ} (λ t. cond t 1 0) e, later, ap length (value_skipped name h headers e))

pub any_value : (p : List ℕ → Bool) (name : List ℕ) (headers : List Header) → list_any (λ h. same_word h.name.now name && p h.value.now) headers ≡ list_any p (values_of name (lines_of headers))
any_value p name [] = refl
any_value p name (h ∷ headers) = by_test (same_word h.name.now name) refl (any_value p name headers)
  where
    by_test : (t : Bool) → same_word h.name.now name ≡ t → list_any (λ x. same_word x.name.now name && p x.value.now) headers ≡ list_any p (values_of name (lines_of headers)) → list_any (λ x. same_word x.name.now name && p x.value.now) (h ∷ headers) ≡ list_any p (values_of name (lines_of (h ∷ headers)))
    by_test true e later = (λ i. (e i && p h.value.now) || later i) ∙ ap (list_any p) (sym (value_taken name h headers e))
    by_test false e later = (λ i. (e i && p h.value.now) || later i) ∙ ap (list_any p) (sym (value_skipped name h headers e))

-- one more digit still fits
pub digit_fits : (n d i : ℕ) → n < 10 ^ i → i < 19 → d < 10 → (n * 10 + d < 10 ^ (i + 1)) × (10 ^ (i + 1) < 2 ^ 64)
digit_fits n d i below short digit =
    let most : 10 ^ (i + 1) ≤ 10 ^ 19 = pow-le-pow_right {n = 10} (omega arith) {i = i + 1} {j = 19} (omega arith) in
    let more : 10 ^ (i + 1) ≡ 10 ^ i * 10 = rw add-one (pow-suc 10 i) in
    (omega (arith, more, below), omega (arith, most))

-- one more value
pub agrees_with : (found : Option ℕ) (value : List ℕ) (values : List (List ℕ)) (n : ℕ) → agreed_with found value ≡ Some n → agrees_on (Some n) values ≡ agrees_on found (value ∷ values)
agrees_with None value values n = by_test (is_length value)
  where
    m : ℕ
    m = digits_value 10 value

    by_test : (t : Bool) → cond t (Some m) None ≡ Some n → agrees_on (Some n) values ≡ cond ((t && eqb m m) && list_all (writes m) values) (Some m) None
    by_test true e = ap (λ o. agrees_on o values) (sym e) ∙ ap (λ t. cond (t && list_all (writes m) values) (Some m) None) (sym (eq-eqb m m refl))
    by_test false e = cc
agrees_with (Some m) value values n = by_test (writes m value)
  where
    by_test : (t : Bool) → cond t (Some m) None ≡ Some n → agrees_on (Some n) values ≡ cond (t && list_all (writes m) values) (Some m) None
    by_test true e = ap (λ o. agrees_on o values) (sym e)
    by_test false e = cc

pub agrees_not : (found : Option ℕ) (value : List ℕ) (values : List (List ℕ)) → agreed_with found value ≡ None → agrees_on found (value ∷ values) ≡ None
agrees_not None value values = by_test (is_length value)
  where
    m : ℕ
    m = digits_value 10 value

    by_test : (t : Bool) → cond t (Some m) None ≡ None → cond ((t && eqb m m) && list_all (writes m) values) (Some m) None ≡ None
    by_test true e = cc
    by_test false e = refl
agrees_not (Some m) value values = by_test (writes m value)
  where
    by_test : (t : Bool) → cond t (Some m) None ≡ None → cond (t && list_all (writes m) values) (Some m) None ≡ None
    by_test true e = cc
    by_test false e = refl

-- what an index past the end gives
abbrev pub no_header : Header
no_header = record { name = record { ref_ptr = (0, 0); now = [] }; value = record { ref_ptr = (0, 0); now = [] } }

-- the values from a line of the name on, and from another line on
pub values_here : (name : List ℕ) (headers : List Header) (i : ℕ) → i < length headers → same_word (get_or headers i no_header).name.now name ≡ true → values_of name (lines_of (drop i headers)) ≡ (get_or headers i no_header).value.now ∷ values_of name (lines_of (drop (i + 1) headers))
values_here name headers i inside same =
    rw add-one (ap (λ l. values_of name (lines_of l)) (drop-cons headers i no_header inside) ∙ value_taken name (get_or headers i no_header) (drop (suc i) headers) same)

pub values_later : (name : List ℕ) (headers : List Header) (i : ℕ) → i < length headers → same_word (get_or headers i no_header).name.now name ≡ false → values_of name (lines_of (drop i headers)) ≡ values_of name (lines_of (drop (i + 1) headers))
values_later name headers i inside other =
    rw add-one (ap (λ l. values_of name (lines_of l)) (drop-cons headers i no_header inside) ∙ value_skipped name (get_or headers i no_header) (drop (suc i) headers) other)
