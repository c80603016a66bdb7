-- What stands between pieces.
use Rattle.std.specs.Prelude.{ℕ, ◌==◌, List, [], ◌∷◌, if◌then◌else◌}

-- a comma before every piece but the first
abbrev pub comma_at : ℕ → List ℕ
comma_at index = if index == 0 then [] else 44 ∷ []
