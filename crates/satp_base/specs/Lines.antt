-- Texts of lines, each ended by a line feed.
use Rattle.std.specs.Prelude.{◌≡◌, ◌≢◌, ℕ, ◌+◌, ◌<◌, ◌≤◌, ◌==◌, Bool, true, not, List, [], ◌∷◌, ◌++◌, length}
use Rattle.std.specs.List.{list_all}
use Rattle.satp_base.specs.declared.lines.LinesFault.{LinesFault}
use Rattle.satp_base.specs.declared.lines.LinesFault.TheVariants.{Long, Line, Memory}

-- the text of lines
abbrev pub lines_text : List (List ℕ) → List ℕ
lines_text [] = []
lines_text (line ∷ lines) = line ++ 10 ∷ lines_text lines

-- the byte doesn't stand in the text
abbrev pub lacks : ℕ → List ℕ → Bool
lacks byte text = list_all (λ b. not (b == byte)) text

-- no line feed stands in the line
abbrev pub is_line : List ℕ → Bool
is_line line = lacks 10 line

abbrev pub are_lines : List (List ℕ) → Bool
are_lines lines = list_all is_line lines

module _ {R : Type 0} (accepts : R → List ℕ → R → Type 0) where
  -- each line is accepted behind those before it
  abbrev pub Runs : R → List (List ℕ) → R → Type 0
  Runs r [] after = after ≡ r
  Runs r (line ∷ lines) after = (next : R) × accepts r line next × Runs next lines after

  -- these lines are accepted, and give this
  pub record IsLines (most : ℕ) (text : List ℕ) (start after : R) : Type 0 where
    pub lines : List (List ℕ)
    pub whole : text ≡ lines_text lines
    pub each : are_lines lines ≡ true
    pub runs : Runs start lines after
    pub short : length text ≤ most

  -- the first lines are accepted, and what comes next is no line that is
  pub record StopsAt (text : List ℕ) (start : R) (number : ℕ) : Type 0 where
    pub lines : List (List ℕ)
    pub rest : List ℕ
    pub reached : R
    pub whole : text ≡ lines_text lines ++ rest
    pub each : are_lines lines ≡ true
    pub runs : Runs start lines reached
    pub counted : number ≡ length lines + 1
    pub more : rest ≢ []
    pub refused : (line behind : List ℕ) → is_line line ≡ true → rest ≡ line ++ 10 ∷ behind → (next : R) → ¬ accepts reached line next

  -- a text that is too long is that before any of its lines is looked at
  abbrev pub Fails : ℕ → List ℕ → R → LinesFault → Type 0
  Fails most text start (Long n) = (n ≡ length text) × (most < length text)
  Fails most text start (Line number) = (length text ≤ most) × StopsAt text start number
  Fails most text start Memory = Unit {0}

  -- what the first lines give that are accepted
  pub record Front (text : List ℕ) (start after : R) : Type 0 where
    pub lines : List (List ℕ)
    pub rest : List ℕ
    pub whole : text ≡ lines_text lines ++ rest
    pub each : are_lines lines ≡ true
    pub runs : Runs start lines after

  -- what is there behind a fault
  abbrev pub Leaves : List ℕ → R → LinesFault → R → Type 0
  Leaves text start (Long n) after = after ≡ start
  Leaves text start (Line number) after = (stop : StopsAt text start number) × (after ≡ stop.reached)
  Leaves text start Memory after = Front text start after
