-- The lines of a schedule and their texts.
use Rattle.std.specs.Prelude.{◌≡◌, ℕ, ◌<◌, ◌&&◌, nat_le, Bool, true, List, [], ◌∷◌, ◌++◌, codes, decimal, length}
use Rattle.std.specs.List.{join_with_byte}
use Rattle.satp_base.specs.Numbers.{greatest_number}
use Rattle.satp_base.specs.Values.{name_text, amount_text, session_text}
use Rattle.satp_schedule.specs.declared.line.Side.{Side}
use Rattle.satp_schedule.specs.declared.line.Side.TheVariants.{A, B}
use Rattle.satp_schedule.specs.declared.line.Line.{Line}
use Rattle.satp_schedule.specs.declared.line.Line.TheVariants.{Start, Resume, Recover, Abort, Deliver, Stop, Fail, Lose, Twice}

abbrev pub side_text : Side → List ℕ
side_text A = codes "A"
side_text B = codes "B"

-- the fields of a line, in order
abbrev pub fields_of : Line → List (List ℕ)
fields_of (Start side number asset amount originator beneficiary) =
    codes "start" ∷ side_text side ∷ decimal number ∷ name_text asset ∷ amount_text amount ∷ name_text originator ∷ name_text beneficiary ∷ []
fields_of (Resume side session) = codes "resume" ∷ side_text side ∷ session_text session ∷ []
fields_of (Recover side session) = codes "recover" ∷ side_text side ∷ session_text session ∷ []
fields_of (Abort side session) = codes "abort" ∷ side_text side ∷ session_text session ∷ []
fields_of (Deliver side n) = codes "deliver" ∷ side_text side ∷ decimal n ∷ []
fields_of (Stop side event pick) = codes "stop" ∷ side_text side ∷ decimal event ∷ decimal pick ∷ []
fields_of (Fail side call) = codes "fail" ∷ side_text side ∷ decimal call ∷ []
fields_of (Lose n) = codes "lose" ∷ decimal n ∷ []
fields_of (Twice n) = codes "twice" ∷ decimal n ∷ []

-- one space between each two fields
abbrev pub line_text : Line → List ℕ
line_text line = join_with_byte 32 (fields_of line)

-- from 1 to 4,294,967,295
abbrev pub is_count : ℕ → Bool
is_count n = nat_le 1 n && nat_le n greatest_number

-- the numbers of a line are in their ranges
abbrev pub has_form : Line → Bool
has_form (Start side number asset amount originator beneficiary) = is_count number
has_form (Resume side session) = true
has_form (Recover side session) = true
has_form (Abort side session) = true
has_form (Deliver side n) = is_count n
has_form (Stop side event pick) = is_count event && nat_le pick greatest_number
has_form (Fail side call) = is_count call
has_form (Lose n) = is_count n
has_form (Twice n) = is_count n

-- the most lines of a schedule, and the most bytes of its text
abbrev pub most_lines : ℕ
most_lines = 4096

abbrev pub most_bytes : ℕ
most_bytes = 262144

-- the text of a line comes behind these lines, and gives those
pub record AddsLine (before : List Line) (text : List ℕ) (after : List Line) : Type 0 where
  pub line : Line
  pub formed : has_form line ≡ true
  pub written : text ≡ line_text line
  pub room : length before < most_lines
  pub added : after ≡ before ++ line ∷ []
