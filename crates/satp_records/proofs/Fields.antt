-- Reading one field: either it was spelled there, or it has a fault. Where `rest` begins with a field that was spelled, the field
-- is what was spelled, and it has no fault.
use Rattle.std.proofs.Common.{◌≡◌, ℕ, ◌+◌, ◌<◌, ◌≤◌, ◌^◌, ◌&&◌, ◌==◌, ◌⊎◌, Bool, true, false, nat_lt, nat_le, List, [], ◌∷◌, ◌++◌, length, get_or, take, drop, Ok, Err, refl, sym, ap, ◌∙◌, append_assoc, arith, inl, inr}
use Rattle.std.specs.Int.{w16, from_be_bytes}
use Rattle.std.proofs.lemmas.Bool.{and_parts, eqb-true, leb-true, leb-false, ltb-true, ltb-false, cases_lt}
use Rattle.std.proofs.lemmas.List.{take-append-drop, length-append, length-take, length-drop, get_or-drop, get_or-take, get_or_past}
use Rattle.std.proofs.lemmas.Nat.{be_bytes_2, from_be_bytes-to_be_bytes_2}
use Rattle.std.proofs.Math.Seq.{drop-drop, take-append_seam, drop-append_seam}
use Rattle.satp_records.specs.Shapes.{Count, fixed, one, two, Shape, width, count_bytes, spell, Fits, said, in_range, IsShort, IsOutOfForm, IsFieldFault}
use Rattle.satp_records.specs.Reading.{part_at, field_at}
use Rattle.satp_records.specs.declared.fault.RecordFault.{RecordFault}
use Rattle.satp_records.specs.declared.fault.RecordFault.TheVariants as fault

abbrev pub IsBytes : List ℕ → Type 0
IsBytes bytes = (i : ℕ) → get_or bytes i 0 < 256

pub IsBytes-drop : (n : ℕ) (bytes : List ℕ) → IsBytes bytes → IsBytes (drop n bytes)
IsBytes-drop n bytes h i = rw get_or-drop (h (n + i))

IsBytes-take : (n : ℕ) (bytes : List ℕ) → IsBytes bytes → IsBytes (take n bytes)
IsBytes-take n bytes h i =
    elim (cases_lt i n) [
      | inl lt ↦ rw (get_or-take n bytes i 0 lt) (h i)
      | inr le ↦ rw (get_or_past (take n bytes) i 0 (omega (arith, length-take n bytes))) (omega arith)
    ]

-- what the bytes of length say, and where they cannot say more, is spelled again
abbrev pub is_sound_count : Count → ℕ → ℕ → Bool
is_sound_count fixed low high = low == high
is_sound_count one low high = nat_lt high 256
is_sound_count two low high = nat_lt high (2 ^ 16)

abbrev pub is_sound : Shape → Bool
is_sound s = is_sound_count s.count s.low s.high

abbrev pub IsSound : Shape → Type 0
IsSound s = is_sound s ≡ true

-- the bytes of length are those of the number that they say
count_said : (c : Count) (low : ℕ) (rest : List ℕ) → IsBytes rest → width c ≤ length rest → take (width c) rest ≡ count_bytes c (said c low rest)
count_said fixed low rest fits there = refl
count_said one low [] fits there = absurd (omega arith)
count_said one low (b ∷ rest) fits there = refl
count_said two low rest fits there =
    sym (be_bytes_2 (take 2 rest) (from_be_bytes w16 (take 2 rest)) (omega (arith, length-take 2 rest)) (IsBytes-take 2 rest fits) refl)

pub length-count : (c : Count) (n : ℕ) → length (count_bytes c n) ≡ width c
length-count fixed n = refl
length-count one n = refl
length-count two n = refl

-- what is spelled says its length
said_spelled : (c : Count) (low high : ℕ) (bytes more : List ℕ) → is_sound_count c low high ≡ true → low ≤ length bytes → length bytes ≤ high → said c low (count_bytes c (length bytes) ++ (bytes ++ more)) ≡ length bytes
said_spelled fixed low high bytes more sound l h = omega (arith, eqb-true low high sound)
said_spelled one low high bytes more sound l h = refl
said_spelled two low high bytes more sound l h = from_be_bytes-to_be_bytes_2 (length bytes) (omega (arith, ltb-true high (2 ^ 16) sound))

-- ---- outcomes

pub record Took (s : Shape) (before : List (List ℕ)) (payload : List ℕ) (at : ℕ) (bytes : List ℕ) (next : ℕ) : Type 0 where
  pub is : field_at s before payload at ≡ Ok (bytes, next)
  pub parts : drop at payload ≡ spell s bytes ++ drop next payload
  pub place : next ≡ at + length (spell s bytes)
  pub fits : Fits s before bytes
  pub within : next ≤ length payload

pub record Failed (s : Shape) (before : List (List ℕ)) (payload : List ℕ) (at : ℕ) (f : RecordFault) : Type 0 where
  pub is : field_at s before payload at ≡ Err f
  pub fault : IsFieldFault s before at (drop at payload) f

abbrev pub Outcome : Shape → List (List ℕ) → List ℕ → ℕ → Type 0
Outcome s before payload at = ((bytes : List ℕ) × (next : ℕ) × Took s before payload at bytes next) ⊎ ((f : RecordFault) × Failed s before payload at f)

out_of_range : (low high n : ℕ) → (nat_le low n && nat_le n high) ≡ false → (n < low) ⊎ (high < n)
out_of_range low high n e = at (nat_le low n) (nat_le n high) refl refl e
  where
    at : (a b : Bool) → nat_le low n ≡ a → nat_le n high ≡ b → (a && b) ≡ false → (n < low) ⊎ (high < n)
    at false b p q e = inl (leb-false low n p)
    at true false p q e = inr (leb-false n high q)
    at true true p q e = absurd cc

in_its_range : (low high n : ℕ) → (nat_le low n && nat_le n high) ≡ true → (low ≤ n) × (n ≤ high)
in_its_range low high n e = let p = and_parts (nat_le low n) (nat_le n high) e in (leb-true low n p.0, leb-true n high p.1)

-- behind the bytes of length, so many bytes
cut : (c : Count) (low : ℕ) (payload : List ℕ) (at n : ℕ) → IsBytes payload → at + width c + n ≤ length payload → n ≡ said c low (drop at payload)
    → drop at payload ≡ (count_bytes c n ++ take n (drop (at + width c) payload)) ++ drop (at + width c + n) payload
cut c low payload at n fits within is =
    let w = width c in
    let rest = drop at payload in
    let there : w ≤ length rest = omega (arith, length-drop at payload) in
    let front : take w rest ≡ count_bytes c n = count_said c low rest (IsBytes-drop at payload fits) there ∙ ap (count_bytes c) (sym is) in
    let behind : drop w rest ≡ drop (at + w) payload = drop-drop w at payload in
    let parts : drop (at + w) payload ≡ take n (drop (at + w) payload) ++ drop (at + w + n) payload = sym (take-append-drop n (drop (at + w) payload)) ∙ ap (λ xs. take n (drop (at + w) payload) ++ xs) (drop-drop n (at + w) payload) in
    sym (take-append-drop w rest) ∙ ap (λ xs. xs ++ drop w rest) front ∙ ap (λ xs. count_bytes c n ++ xs) (behind ∙ parts) ∙ sym (append_assoc (count_bytes c n) _ _)

-- by how the tests go: the bytes of length, the range, the bytes, the form
pub outcome : (s : Shape) (before : List (List ℕ)) (payload : List ℕ) (at : ℕ) → IsBytes payload → at ≤ length payload → Outcome s before payload at
unfolding part_at
outcome s before payload at fits within =
    first (nat_lt (length payload) (at + width s.count)) refl
  where
    size : length payload ≡ at + length (drop at payload)
    size = omega (arith, length-drop at payload)

    last : (good : Bool) → s.is_good before (take (said s.count s.low (drop at payload)) (drop (at + width s.count) payload)) ≡ good → nat_lt (length payload) (at + width s.count) ≡ false
        → (nat_le s.low (said s.count s.low (drop at payload)) && nat_le (said s.count s.low (drop at payload)) s.high) ≡ true
        → nat_lt (length payload) (at + width s.count + said s.count s.low (drop at payload)) ≡ false → Outcome s before payload at
    last true g p q r =
        let m = said s.count s.low (drop at payload) in
        let bytes = take m (drop (at + width s.count) payload) in
        let all : at + width s.count + m ≤ length payload = ltb-false _ _ r in
        let long : length bytes ≡ m = omega (arith, length-take m (drop (at + width s.count) payload), length-drop (at + width s.count) payload) in
        let range = in_its_range s.low s.high (said s.count s.low (drop at payload)) q in
        let spelled : length (spell s bytes) ≡ width s.count + m = length-append (count_bytes s.count (length bytes)) bytes ∙ omega (arith, long, length-count s.count (length bytes)) in
        inl (
          bytes,
          at + width s.count + m,
          record {
            is = rw (p, q, r, g) refl;
            parts = cut s.count s.low payload at m fits all refl ∙ ap (λ k. (count_bytes s.count k ++ bytes) ++ drop (at + width s.count + m) payload) (sym long);
            place = omega (arith, spelled);
            fits = record { low = omega (arith, long, range.0); high = omega (arith, long, range.1); good = g };
            within = all;
          },
        )
    last false g p q r =
        let m = said s.count s.low (drop at payload) in
        let all : at + width s.count + m ≤ length payload = ltb-false _ _ r in
        let range = in_its_range s.low s.high (said s.count s.low (drop at payload)) q in
        let behind : s.is_good before (take m (drop (width s.count) (drop at payload))) ≡ false = ap (λ xs. s.is_good before (take m xs)) (drop-drop (width s.count) at payload) ∙ g in
        inr (
          fault.Value at,
          record {
            is = rw (p, q, r, g) refl;
            fault = inr (record { there = omega (arith, size, all); refused = inr ((range.0, range.1), omega (arith, size, all), behind) }, refl);
          },
        )

    third : (b : Bool) → nat_lt (length payload) (at + width s.count + said s.count s.low (drop at payload)) ≡ b → nat_lt (length payload) (at + width s.count) ≡ false
        → (nat_le s.low (said s.count s.low (drop at payload)) && nat_le (said s.count s.low (drop at payload)) s.high) ≡ true → Outcome s before payload at
    third true r p q =
        let range = in_its_range s.low s.high (said s.count s.low (drop at payload)) q in
        inr (
          fault.Short (length payload),
          record {
            is = rw (p, q, r) refl;
            fault = inl (record { wanting = inr (omega (arith, size, ltb-false _ _ p), (range.0, range.1), omega (arith, size, ltb-true _ _ r)) }, ap fault.Short size);
          },
        )
    third false r p q = last (s.is_good before (take (said s.count s.low (drop at payload)) (drop (at + width s.count) payload))) refl p q r

    second : (b : Bool) → (nat_le s.low (said s.count s.low (drop at payload)) && nat_le (said s.count s.low (drop at payload)) s.high) ≡ b → nat_lt (length payload) (at + width s.count) ≡ false → Outcome s before payload at
    second true q p = third (nat_lt (length payload) (at + width s.count + said s.count s.low (drop at payload))) refl p q
    second false q p = inr (fault.Value at, record { is = rw (p, q) refl; fault = inr (record { there = omega (arith, size, ltb-false _ _ p); refused = inl (out_of_range s.low s.high _ q) }, refl) })

    first : (b : Bool) → nat_lt (length payload) (at + width s.count) ≡ b → Outcome s before payload at
    first true p = inr (fault.Short (length payload), record { is = rw p refl; fault = inl (record { wanting = inl (omega (arith, size, ltb-true _ _ p)) }, ap fault.Short size) })
    first false p = second (nat_le s.low (said s.count s.low (drop at payload)) && nat_le (said s.count s.low (drop at payload)) s.high) refl p

-- ---- what is spelled has no fault, and is one thing

-- what a spelled field says
pub record Says (s : Shape) (before : List (List ℕ)) (bytes rest : List ℕ) : Type 0 where
  pub there : width s.count + length bytes ≤ length rest
  pub count : said s.count s.low rest ≡ length bytes
  pub bytes_are : take (length bytes) (drop (width s.count) rest) ≡ bytes

pub says : (s : Shape) (before : List (List ℕ)) (bytes more rest : List ℕ) → IsSound s → Fits s before bytes → rest ≡ spell s bytes ++ more → Says s before bytes rest
says s before bytes more rest sound fits e =
    let front = count_bytes s.count (length bytes) in
    let grouped : rest ≡ front ++ (bytes ++ more) = e ∙ append_assoc front bytes more in
    let long = length-count s.count (length bytes) in
    let behind : drop (width s.count) rest ≡ bytes ++ more = ap (λ k. drop k rest) (sym long) ∙ ap (drop (length front)) grouped ∙ drop-append_seam front (bytes ++ more) in
    record {
      there = omega (arith, long, ap length grouped, length-append front (bytes ++ more), length-append bytes more);
      count = ap (said s.count s.low) grouped ∙ said_spelled s.count s.low s.high bytes more sound fits.low fits.high;
      bytes_are = ap (take (length bytes)) behind ∙ take-append_seam bytes more;
    }

pub no_fault : (s : Shape) (before : List (List ℕ)) (at : ℕ) (bytes rest : List ℕ) (f : RecordFault) → Fits s before bytes → Says s before bytes rest → IsFieldFault s before at rest f → ⊥
no_fault s before at bytes rest f fits says (inl (short, e)) = wanting short.wanting
  where
    wanting : (length rest < width s.count) ⊎ ((width s.count ≤ length rest) × in_range s (said s.count s.low rest) × (length rest < width s.count + said s.count s.low rest)) → ⊥
    wanting (inl less) = omega (arith, less, says.there)
    wanting (inr w) = omega (arith, w.2, says.there, says.count)
no_fault s before at bytes rest f fits says (inr (bad, e)) = refused bad.refused
  where
    refused : ((said s.count s.low rest < s.low) ⊎ (s.high < said s.count s.low rest))
        ⊎ (in_range s (said s.count s.low rest) × (width s.count + said s.count s.low rest ≤ length rest)
        × (s.is_good before (take (said s.count s.low rest) (drop (width s.count) rest)) ≡ false)) → ⊥
    refused (inl (inl low)) = omega (arith, low, says.count, fits.low)
    refused (inl (inr high)) = omega (arith, high, says.count, fits.high)
    refused (inr r) =
        let same : take (said s.count s.low rest) (drop (width s.count) rest) ≡ bytes = ap (λ k. take k (drop (width s.count) rest)) says.count ∙ says.bytes_are in
        let bad : true ≡ false = sym fits.good ∙ ap (s.is_good before) (sym same) ∙ r.2 in
        absurd cc

-- two fields spelled at one place are one, and so is what follows
pub one_field : (s : Shape) (before : List (List ℕ)) (a x b y : List ℕ) → IsSound s → Fits s before a → Fits s before b → spell s a ++ x ≡ spell s b ++ y → (a ≡ b) × (x ≡ y)
one_field s before a x b y sound fa fb e =
    let p = says s before a x (spell s a ++ x) sound fa refl in
    let q = says s before b y (spell s a ++ x) sound fb e in
    let rest = spell s a ++ x in
    let long : length a ≡ length b = sym p.count ∙ q.count in
    let same : a ≡ b = sym p.bytes_are ∙ ap (λ k. take k (drop (width s.count) rest)) long ∙ q.bytes_are in
    (same, sym (drop-append_seam (spell s a) x) ∙ ap (drop (length (spell s a))) e ∙ ap (λ c. drop (length (spell s c)) (spell s b ++ y)) same ∙ drop-append_seam (spell s b) y)

not_both : (s : Shape) (before : List (List ℕ)) (rest : List ℕ) → IsShort s rest → IsOutOfForm s before rest → ⊥
not_both s before rest p q = cases p.wanting q.refused
  where
    cases : (length rest < width s.count) ⊎ ((width s.count ≤ length rest) × in_range s (said s.count s.low rest) × (length rest < width s.count + said s.count s.low rest))
        → ((said s.count s.low rest < s.low) ⊎ (s.high < said s.count s.low rest))
        ⊎ (in_range s (said s.count s.low rest) × (width s.count + said s.count s.low rest ≤ length rest)
        × (s.is_good before (take (said s.count s.low rest) (drop (width s.count) rest)) ≡ false)) → ⊥
    cases (inl less) r = omega (arith, less, q.there)
    cases (inr w) (inl (inl low)) = omega (arith, low, w.1.0)
    cases (inr w) (inl (inr high)) = omega (arith, high, w.1.1)
    cases (inr w) (inr r) = omega (arith, w.2, r.1)

-- a field has one fault
pub one_fault : (s : Shape) (before : List (List ℕ)) (at : ℕ) (rest : List ℕ) (f g : RecordFault) → IsFieldFault s before at rest f → IsFieldFault s before at rest g → f ≡ g
one_fault s before at rest f g (inl (p, d)) (inl (q, e)) = d ∙ sym e
one_fault s before at rest f g (inr (p, d)) (inr (q, e)) = d ∙ sym e
one_fault s before at rest f g (inl (p, d)) (inr (q, e)) = absurd (not_both s before rest p q)
one_fault s before at rest f g (inr (p, d)) (inl (q, e)) = absurd (not_both s before rest q p)
