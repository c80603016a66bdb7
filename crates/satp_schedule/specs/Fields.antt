-- The fields of a text: its parts between single spaces.
use Rattle.std.specs.Prelude.{ℕ, ◌==◌, List, [], Option, Some, None}
use Rattle.std.specs.Borrow.{Bor}
use Rattle.std.specs.List.{slice_split}

unfoldable pub cut_fields : List ℕ → List (List ℕ)
cut_fields text = slice_split (λ byte. byte == 32) text

-- those that aren't read yet
abbrev pub fields_in : Option (Bor (List ℕ)) → List (List ℕ)
fields_in None = []
fields_in (Some text) = cut_fields text.now
