-- Reading fields from the front, up to the first fault: what the readers of the code give. The payload is read from a place on.
use Rattle.std.specs.Prelude.{ℕ, ◌+◌, ◌&&◌, List, [], ◌∷◌, ◌++◌, length, take, drop, nat_lt, nat_le, Option, Some, None, Result, Ok, Err, if◌then◌else◌}
use Rattle.satp_records.specs.Shapes.{Count, Shape, width, said}
use Rattle.satp_records.specs.Formats.{Format, format_of}
use Rattle.satp_records.specs.declared.fault.RecordFault.{RecordFault}
use Rattle.satp_records.specs.declared.fault.RecordFault.TheVariants as fault

infixl 10 ◌>>=◌
abbrev pub ◌>>=◌ : {A B : Type 0} → Result A RecordFault → (A → Result B RecordFault) → Result B RecordFault
(Ok x) >>= f = f x
(Err e) >>= f = Err e

-- the next bytes, and the place behind them
abbrev pub bytes_at : List ℕ → ℕ → ℕ → Result (List ℕ × ℕ) RecordFault
bytes_at payload at n = if nat_lt (length payload) (at + n) then Err (fault.Short (length payload)) else Ok (take n (drop at payload), at + n)

-- a field's bytes of which so many are said, that begins at `at`
unfoldable pub part_at : Count → ℕ → ℕ → List ℕ → ℕ → Result (List ℕ × ℕ) RecordFault
part_at count low high payload at =
    if nat_lt (length payload) (at + width count) then Err (fault.Short (length payload))
    else (let n = said count low (drop at payload) in
    if nat_le low n && nat_le n high then bytes_at payload (at + width count) n else Err (fault.Value at))

-- a field: its bytes, and the place behind it
abbrev pub field_at : Shape → List (List ℕ) → List ℕ → ℕ → Result (List ℕ × ℕ) RecordFault
field_at s before payload at = do
  part ← part_at s.count s.low s.high payload at
  if s.is_good before part.0 then Ok part else Err (fault.Value at)

-- several fields
abbrev pub fields_at : List Shape → List (List ℕ) → List ℕ → ℕ → Result (List (List ℕ) × ℕ) RecordFault
fields_at [] before payload at = Ok ([], at)
fields_at (s ∷ shapes) before payload at = do
  first ← field_at s before payload at
  others ← fields_at shapes (before ++ first.0 ∷ []) payload first.1
  Ok (first.0 ∷ others.0, others.1)

-- the parts of a format, behind fields that were read before
abbrev pub parts_at : Format → List (List ℕ) → List ℕ → ℕ → Result (List (List ℕ) × ℕ) RecordFault
parts_at [] before payload at = Ok (before, at)
parts_at (part ∷ format) before payload at = do
  fields ← fields_at part before payload at
  parts_at format (before ++ fields.0) payload fields.1

-- behind the first byte
abbrev pub behind : Option Format → ℕ → List ℕ → Result (List (List ℕ) × ℕ) RecordFault
behind None byte payload = Err (fault.Kind byte)
behind (Some format) byte payload = parts_at format [] payload 1

-- the first byte and the fields behind it, and the place behind them
abbrev pub record_at : List ℕ → Result ((ℕ × List (List ℕ)) × ℕ) RecordFault
record_at [] = Err (fault.Short 0)
record_at (byte ∷ rest) = do
  fields ← behind (format_of byte) byte (byte ∷ rest)
  Ok ((byte, fields.0), fields.1)

-- all of the payload
abbrev pub whole : List ℕ → Result (ℕ × List (List ℕ)) RecordFault
whole payload = do
  read ← record_at payload
  if nat_lt read.1 (length payload) then Err (fault.Extra read.1) else Ok read.0
