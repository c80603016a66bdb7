-- A line is about what its first field says.
use Rattle.std.specs.Prelude.{◌≡◌, ℕ, true, List, [], ◌∷◌, ◌++◌, codes, decimal}
use Rattle.satp_base.specs.Values.{name_text, amount_text, session_text}
use Rattle.satp_schedule.specs.Lines.{has_form, side_text}
use Rattle.satp_schedule.specs.declared.line.Line.{Line}
use Rattle.satp_schedule.specs.declared.line.Line.TheVariants as line
use Rattle.satp_schedule.specs.declared.verb.Verb.{Verb}
use Rattle.satp_schedule.specs.declared.verb.Verb.TheVariants.{Start, Resume, Recover, Abort, Deliver, Stop, Fail, Lose, Twice}

abbrev pub verb_text : Verb → List ℕ
verb_text Start = codes "start"
verb_text Resume = codes "resume"
verb_text Recover = codes "recover"
verb_text Abort = codes "abort"
verb_text Deliver = codes "deliver"
verb_text Stop = codes "stop"
verb_text Fail = codes "fail"
verb_text Lose = codes "lose"
verb_text Twice = codes "twice"

abbrev pub verb_of : Line → Verb
verb_of (line.Start side number asset amount originator beneficiary) = Start
verb_of (line.Resume side session) = Resume
verb_of (line.Recover side session) = Recover
verb_of (line.Abort side session) = Abort
verb_of (line.Deliver side n) = Deliver
verb_of (line.Stop side event pick) = Stop
verb_of (line.Fail side call) = Fail
verb_of (line.Lose n) = Lose
verb_of (line.Twice n) = Twice

-- the fields behind the first
abbrev pub fields_behind : Line → List (List ℕ)
fields_behind (line.Start side number asset amount originator beneficiary) =
    side_text side ∷ decimal number ∷ name_text asset ∷ amount_text amount ∷ name_text originator ∷ name_text beneficiary ∷ []
fields_behind (line.Resume side session) = side_text side ∷ session_text session ∷ []
fields_behind (line.Recover side session) = side_text side ∷ session_text session ∷ []
fields_behind (line.Abort side session) = side_text side ∷ session_text session ∷ []
fields_behind (line.Deliver side n) = side_text side ∷ decimal n ∷ []
fields_behind (line.Stop side event pick) = side_text side ∷ decimal event ∷ decimal pick ∷ []
fields_behind (line.Fail side call) = side_text side ∷ decimal call ∷ []
fields_behind (line.Lose n) = decimal n ∷ []
fields_behind (line.Twice n) = decimal n ∷ []

-- the fields begin with those of a line of that sort, and these are left
pub record Begins (verb : Verb) (fields : List (List ℕ)) (line : Line) (left : List (List ℕ)) : Type 0 where
  pub sort : verb_of line ≡ verb
  pub formed : has_form line ≡ true
  pub read : fields ≡ fields_behind line ++ left

-- the fields begin with those of no line of that sort
abbrev pub BeginsNone : Verb → List (List ℕ) → Type 0
BeginsNone verb fields = (line : Line) (left : List (List ℕ)) → ¬ Begins verb fields line left
