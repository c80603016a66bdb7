-- How a run of the program ends: here of `answer beta`, and of no words, with alpha's proposal on the input.
use Rattle.std.specs.Prelude.{ℕ, List, [], ◌∷◌, ◌++◌, codes, length, None}
use Rattle.satp_base.specs.declared.message.Kind.TheVariants.{TransferProposal}
use Rattle.satp_app.specs.Check.{line}
use Rattle.satp_app.specs.Commands.{CommandRule, RunRule}
use Rattle.satp_outcome.specs.Outside.{OutsideState, SinkState, SiteState}
use Rattle.satp_outcome.specs.declared.outcome.Outcome.TheVariants.{Done, WordsRefused}
use Rattle.satp_words.specs.declared.command.Command.{Command}
use Rattle.satp_words.specs.declared.command.Command.TheVariants.{Answer, Check}
use Rattle.satp_examples.specs.Appending.{uncalled}
use Rattle.satp_examples.specs.Commands.{failed, input, out, over}
use Rattle.satp_examples.specs.Inits.{around, before, closed_wire, inside, site}
use Rattle.satp_examples.specs.Messages.{proposal_text}
use Rattle.satp_examples.specs.Replies.{receipt}
use Rattle.satp_examples.specs.Samples.{beta}

-- ---- commands

abbrev pub untouched : SiteState
untouched = site 0 (uncalled []) None

abbrev pub start : OutsideState
start = before [] proposal_text

-- the proposal was read, this was printed, and the site stands so
abbrev pub printed : List ℕ → SiteState → OutsideState
printed text s = around s (over 0 []) (out 0 text)

abbrev pub receipt_line : List ℕ
receipt_line = receipt ++ 10 ∷ []

abbrev pub checked_line : List ℕ
checked_line = line (codes "text ") TransferProposal (length proposal_text)

-- the command does its work, prints this, and leaves the site so
abbrev pub Does : Command → List ℕ → SiteState → Type 0
Does command text s = CommandRule command start (printed text s) Done

pub record WorkOfCommands : Type 0 where
  pub answers : Does (Answer beta) receipt_line untouched
  pub checks : Does (Check None) checked_line untouched
  pub not_answered_by_a_check : ¬ Does (Check None) receipt_line untouched
  pub not_with_a_call_on_the_site : ¬ Does (Answer beta) receipt_line (site 0 (inside []) None)
  pub not_with_a_fault_of_the_site : ¬ Does (Check None) checked_line (site 1 (uncalled []) None)
  pub not_with_a_call_on_the_wire : ¬ CommandRule (Answer beta) start (record (printed receipt_line untouched) { wire = record closed_wire { faults = 1 } }) Done
  -- the end of the input was looked for
  pub not_with_an_input_that_goes_on : ¬ CommandRule (Answer beta) start (around untouched (input 0 []) (out 0 receipt_line)) Done
  pub no_words_are_refused : (command : Command) (a : OutsideState) → ¬ CommandRule command start a WordsRefused

-- ---- runs

abbrev pub answer_beta : List (List ℕ)
answer_beta = codes "answer" ∷ codes "beta" ∷ []

abbrev pub refused_line : List ℕ
refused_line = codes "satp: words refused\n"

-- a run of these words leaves the outside so, says this on the standard error, and has this status
abbrev pub Runs : List (List ℕ) → OutsideState → SinkState → ℕ → Type 0
Runs words a said status = RunRule words start a (out 0 []) said status

pub record EndsOfRuns : Type 0 where
  pub done : Runs answer_beta (printed receipt_line untouched) (out 0 []) 0
  pub refused : Runs [] start (out 0 refused_line) 2
  pub refused_with_a_part_of_its_line : Runs [] start (failed 1 (codes "satp")) 2
  pub not_done_without_words : (a : OutsideState) (said : SinkState) → ¬ Runs [] a said 0
  pub not_refused_where_listed : (a : OutsideState) (said : SinkState) → ¬ Runs answer_beta a said 2
  pub not_refused_and_read : (said : SinkState) → ¬ Runs [] (printed [] untouched) said 2
  pub not_refused_in_silence : ¬ Runs [] start (out 0 []) 2
  pub not_done_with_a_line : ¬ Runs answer_beta (printed receipt_line untouched) (out 0 refused_line) 0
  -- 1 is no status of the program
  pub no_other_status : (words : List (List ℕ)) (a : OutsideState) (said : SinkState) → ¬ Runs words a said 1
