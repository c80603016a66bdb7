-- Header lines, and what those of one name say.
use Rattle.std.specs.Prelude.{ℕ, Bool, not, ◌&&◌, ◌==◌, nat_lt, nat_le, List, [], ◌∷◌, map, filter, length, Option, Some, None, if◌then◌else◌, bytes_eq}
use Rattle.std.specs.List.{list_all, list_any, slice_split}
use Rattle.std.specs.Char.{is_ascii_digit, to_ascii_lowercase}
use Rattle.std.specs.Str.Parse.{digits_value}
use Rattle.httparse.specs.Ascii.{comma}
use Rattle.httparse.specs.Grammar.{trim_ows}

-- a name, and the value without the white space around it
abbrev pub Line : Type 0
Line = List ℕ × List ℕ

-- the same text, without regard to ASCII case
abbrev pub same_word : List ℕ → List ℕ → Bool
same_word a b = bytes_eq (map to_ascii_lowercase a) (map to_ascii_lowercase b)

-- the values of the lines of a name, in order
abbrev pub values_of : List ℕ → List Line → List (List ℕ)
values_of name lines = map (λ line. line.1) (filter (λ line. same_word line.0 name) lines)

-- a value is something else than this word
abbrev pub has_other : List ℕ → List (List ℕ) → Bool
has_other word values = list_any (λ value. not (same_word value word)) values

-- 1 to 19 digits
abbrev pub is_length : List ℕ → Bool
is_length value = nat_lt 0 (length value) && (nat_le (length value) 19 && list_all is_ascii_digit value)

-- the value writes this number
abbrev pub writes : ℕ → List ℕ → Bool
writes n value = is_length value && (digits_value 10 value == n)

-- the number that all the values write, where they write one
abbrev pub agreed : List (List ℕ) → Option ℕ
agreed [] = None
agreed (value ∷ values) =
    let n = digits_value 10 value in if writes n value && list_all (writes n) values then Some n else None

-- a value has the word among its elements: the pieces between commas, without the white space around each
abbrev pub lists : List ℕ → List ℕ → Bool
lists word value = list_any (λ element. same_word (trim_ows element) word) (slice_split (λ b. b == comma) value)
