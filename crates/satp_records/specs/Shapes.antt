-- What a payload is made of: fields, one behind the other.
use Rattle.std.specs.Prelude.{◌≡◌, ℕ, ◌+◌, ◌<◌, ◌≤◌, ◌⊎◌, Bool, false, List, [], ◌∷◌, ◌++◌, length, take, drop, slice_index, IsTrue}
use Rattle.std.specs.Int.{w16, to_be_bytes, from_be_bytes}
use Rattle.satp_records.specs.declared.fault.RecordFault.{RecordFault}
use Rattle.satp_records.specs.declared.fault.RecordFault.TheVariants.{Short, Value}

-- how many bytes a field has: said by the table alone, or in one or two bytes before them
pub data Count : Type 0 where
  fixed : Count
  one : Count
  two : Count

-- A field has from `low` to `high` bytes, and only such as are good behind the fields before it.
pub record Shape : Type 0 where
  pub count : Count
  pub low : ℕ
  pub high : ℕ
  pub is_good : List (List ℕ) → List ℕ → Bool

-- ---- spelling

-- how many bytes say the length
abbrev pub width : Count → ℕ
width fixed = 0
width one = 1
width two = 2

abbrev pub count_bytes : Count → ℕ → List ℕ
count_bytes fixed n = []
count_bytes one n = n ∷ []
count_bytes two n = to_be_bytes w16 n

abbrev pub spell : Shape → List ℕ → List ℕ
spell s bytes = count_bytes s.count (length bytes) ++ bytes

-- the bytes may stand in a field of this shape
pub record Fits (s : Shape) (before : List (List ℕ)) (bytes : List ℕ) : Type 0 where
  pub low : s.low ≤ length bytes
  pub high : length bytes ≤ s.high
  pub good : IsTrue (s.is_good before bytes)

-- ---- faults of a field that begins at the front of `rest`

-- how many bytes the field is said to have, where its bytes of length are there
abbrev pub said : Count → ℕ → List ℕ → ℕ
said fixed low rest = low
said one low rest = slice_index rest 0
said two low rest = from_be_bytes w16 (take 2 rest)

abbrev pub in_range : Shape → ℕ → Type 0
in_range s n = (s.low ≤ n) × (n ≤ s.high)

-- bytes of its length are wanting, or its length is right and bytes behind it are
pub record IsShort (s : Shape) (rest : List ℕ) : Type 0 where
  pub wanting : (length rest < width s.count)
      ⊎ ((width s.count ≤ length rest) × in_range s (said s.count s.low rest) × (length rest < width s.count + said s.count s.low rest))

-- its length is out of range, or all of it is there and is out of form
pub record IsOutOfForm (s : Shape) (before : List (List ℕ)) (rest : List ℕ) : Type 0 where
  pub there : width s.count ≤ length rest
  pub refused : ((said s.count s.low rest < s.low) ⊎ (s.high < said s.count s.low rest))
      ⊎ (in_range s (said s.count s.low rest) × (width s.count + said s.count s.low rest ≤ length rest)
      × (s.is_good before (take (said s.count s.low rest) (drop (width s.count) rest)) ≡ false))

abbrev pub IsFieldFault : Shape → List (List ℕ) → ℕ → List ℕ → RecordFault → Type 0
IsFieldFault s before at rest fault =
    (IsShort s rest × (fault ≡ Short (at + length rest))) ⊎ (IsOutOfForm s before rest × (fault ≡ Value at))
