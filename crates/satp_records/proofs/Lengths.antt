-- No field is longer than its shape says, so the table says how long a payload can be.
use Rattle.std.proofs.Common.{◌≡◌, ℕ, ◌+◌, ◌≤◌, ◌==◌, Bool, true, false, cond, nat_le, List, [], ◌∷◌, ◌++◌, length, Option, Some, option_map, refl, arith}
use Rattle.std.specs.Prelude.{find}
use Rattle.std.specs.List.{list_all}
use Rattle.std.proofs.lemmas.Bool.{and_parts, leb-true}
use Rattle.std.proofs.lemmas.List.{length-append}
use Rattle.satp_records.specs.Shapes.{Count, fixed, one, two, Shape, width, count_bytes, spell}
use Rattle.satp_records.specs.Formats.{Format, format_of, formats, joined, shapes_of, spell_all, texts, payload_of, IsFormed}
use Rattle.satp_records.specs.declared.stored.Stored.{Stored}
use Rattle.satp_records.proofs.Fields.{length-count}
use Rattle.satp_records.proofs.Lists.{FitsAll}
use Rattle.satp_records.proofs.Records.{record_payload}

-- bytes of length and the field's own, of each field at most
abbrev most : List Shape → ℕ
most [] = 0
most (s ∷ shapes) = (2 + s.high) + most shapes

width_small : (c : Count) → width c ≤ 2
width_small fixed = omega arith
width_small one = omega arith
width_small two = omega arith

at_most : (shapes : List Shape) (before fields : List (List ℕ)) → FitsAll shapes before fields → length (spell_all shapes fields) ≤ most shapes
at_most [] before [] fits = omega arith
at_most [] before (bytes ∷ fields) fits = absurd fits
at_most (s ∷ shapes) before [] fits = absurd fits
at_most (s ∷ shapes) before (bytes ∷ fields) fits =
    let behind = at_most shapes (before ++ bytes ∷ []) fields fits.1 in
    let field = length-append (count_bytes s.count (length bytes)) bytes in
    let all = length-append (spell s bytes) (spell_all shapes fields) in
    omega (arith, behind, field, all, length-count s.count (length bytes), width_small s.count, fits.0.high)

-- ---- no row of the table can be longer than a journal takes

abbrev is_short_row : ℕ × Format → Bool
is_short_row row = nat_le (most (joined row.1)) 4095

abbrev row_for : List (ℕ × Format) → ℕ → Option Format
row_for rows byte = option_map (λ (row : ℕ × Format). row.1) (find (λ row. row.0 == byte) rows)

short_rows : (rows : List (ℕ × Format)) → list_all is_short_row rows ≡ true → (byte : ℕ) → most (shapes_of (row_for rows byte)) ≤ 4095
short_rows [] h byte = omega arith
short_rows (row ∷ rows) h byte =
    let p = and_parts (is_short_row row) (list_all is_short_row rows) h in
    at_row (row.0 == byte) (leb-true (most (joined row.1)) 4095 p.0) (short_rows rows p.1 byte)
  where
    at_row : (b : Bool) → most (joined row.1) ≤ 4095 → most (shapes_of (row_for rows byte)) ≤ 4095
        → most (shapes_of (option_map (λ (row : ℕ × Format). row.1) (cond b (Some row) (find (λ row. row.0 == byte) rows)))) ≤ 4095
    at_row true this later = this
    at_row false this later = later

pub payload_short : (s : Stored) → IsFormed s → length (payload_of s) ≤ 4096
payload_short s formed =
    let byte = (texts s).0 in
    let fields = at_most (shapes_of (format_of byte)) [] (texts s).1 (record_payload s formed).fits in
    omega (arith, fields, short_rows formats refl byte)
