-- The words of a line, as they are put together.
use Rattle.std.specs.Prelude.{◌≡◌, List, ℕ, [], ◌++◌, Option, MatchOption}
use Rattle.satp_phrases.specs.Phrases.{phrase_text, words_of}
use Rattle.satp_outcome.specs.Outcomes.{line, line_of}
use Rattle.satp_outcome.specs.declared.line.LineWords.{LineWords}
use Rattle.satp_outcome.specs.declared.outcome.Outcome.{Outcome}

abbrev pub words_in : LineWords → List ℕ
words_in l = l.before.now ++ (phrase_text (words_of l.phrase) ++ l.after.now)

-- the line of an outcome, or none where nothing is said of it
abbrev pub LineRule : Outcome → Option LineWords → Type 0
LineRule outcome result = MatchOption result (line_of outcome ≡ []) (λ l. line_of outcome ≡ line (words_in l))
