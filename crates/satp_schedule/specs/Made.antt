-- The lines that a step of the generator may make: one or none.
use Rattle.std.specs.Prelude.{ℕ, Bool, true, List, [], ◌∷◌, Option, Some, None, ◌≡◌, ◌++◌}
use Rattle.satp_schedule.specs.Lines.{fields_of, has_form}
use Rattle.satp_schedule.specs.declared.generator.Round.{Round}
use Rattle.satp_schedule.specs.declared.line.Line.{Line}

abbrev pub lines_made : Option Line → List (List (List ℕ))
lines_made None = []
lines_made (Some line) = fields_of line ∷ []

abbrev pub are_formed : Option Line → Bool
are_formed None = true
are_formed (Some line) = has_form line

abbrev pub round_lines : Round → List (List (List ℕ))
round_lines r = lines_made r.wrong ++ fields_of r.start ∷ lines_made r.aborted ++ lines_made r.again

-- the numbers of each line are in their ranges
pub record IsFormed (r : Round) : Type 0 where
  pub wrong : are_formed r.wrong ≡ true
  pub start : has_form r.start ≡ true
  pub aborted : are_formed r.aborted ≡ true
  pub again : are_formed r.again ≡ true
