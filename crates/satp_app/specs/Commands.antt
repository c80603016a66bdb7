-- What each command does, and what a run of the program does.
use Rattle.std.specs.Prelude.{◌≡◌, ◌⊎◌, ℕ, List, Some, None}
use Rattle.satp_app.specs.Answer.{answer_says}
use Rattle.satp_app.specs.Check.{check_says, signed_says}
use Rattle.satp_app.specs.Init.{InitRule, order, setup_of}
use Rattle.satp_app.specs.Replay.{journal_form, replay_says}
use Rattle.satp_base.specs.declared.amount.Amount.{Amount}
use Rattle.satp_base.specs.declared.message.Terms.{Terms}
use Rattle.satp_base.specs.declared.name.Name.{Name}
use Rattle.satp_drill_command.specs.Drilling.{DrillRule}
use Rattle.satp_gateway_commands.specs.Aborting.{AbortWorks}
use Rattle.satp_gateway_commands.specs.AtGateway.{AtGateway}
use Rattle.satp_gateway_commands.specs.Showing.{ShowWorks}
use Rattle.satp_outcome.specs.Outcomes.{line_of, status_of}
use Rattle.satp_outcome.specs.Outside.{OutsideState, Printed, PrintedPart, SinkState}
use Rattle.satp_outcome.specs.Streams.{StreamRule}
use Rattle.satp_outcome.specs.Texts.{text_form}
use Rattle.satp_outcome.specs.declared.outcome.Outcome.{Outcome}
use Rattle.satp_outcome.specs.declared.outcome.Outcome.TheVariants.{WordsRefused, Memory}
use Rattle.satp_peer_commands.specs.Driving.{RecoverWorks, ResumeWorks, StartWorks}
use Rattle.satp_peer_commands.specs.Serving.{ServeWorks}
use Rattle.satp_words.specs.Commands.{IsListed, NotListed}
use Rattle.satp_words.specs.declared.command.Command.{Command}
use Rattle.satp_words.specs.declared.command.Command.TheVariants.{Answer, Check, Init, Abort, Show, Serve, Start, Resume, Recover, Replay, Drill}

-- neither the site nor the wire was touched
abbrev pub LeavesPlace : OutsideState → OutsideState → Type 0
LeavesPlace b a = (a.site ≡ b.site) × (a.wire ≡ b.wire)

abbrev pub terms_of : Amount → Name → Name → Name → Terms
terms_of amount asset from to = record { amount = amount; asset = asset; originator = from; beneficiary = to }

-- One line for each command: how it ends, and how the outside then stands.
abbrev pub CommandRule : Command → OutsideState → OutsideState → Outcome → Type 0
CommandRule (Answer name) b a outcome = StreamRule text_form (answer_says name) b.streams a.streams outcome × LeavesPlace b a
CommandRule (Check None) b a outcome = StreamRule text_form check_says b.streams a.streams outcome × LeavesPlace b a
CommandRule (Check (Some key)) b a outcome = StreamRule text_form (signed_says key) b.streams a.streams outcome × LeavesPlace b a
CommandRule (Init dir name peer at key ledger) b a outcome = InitRule (order dir (setup_of name peer at key) ledger) b a outcome
CommandRule (Abort dir session) b a outcome = AtGateway dir (AbortWorks session) b a outcome
CommandRule (Show dir session) b a outcome = AtGateway dir (ShowWorks session) b a outcome
CommandRule (Serve dir listen connections) b a outcome = AtGateway dir (ServeWorks listen connections) b a outcome
CommandRule (Start dir number amount asset from to) b a outcome = AtGateway dir (StartWorks number (terms_of amount asset from to)) b a outcome
CommandRule (Resume dir session) b a outcome = AtGateway dir (ResumeWorks session) b a outcome
CommandRule (Recover dir session) b a outcome = AtGateway dir (RecoverWorks session) b a outcome
CommandRule Replay b a outcome = StreamRule journal_form replay_says b.streams a.streams outcome × LeavesPlace b a
CommandRule (Drill seed) b a outcome = DrillRule seed b.streams a.streams outcome × LeavesPlace b a

-- the command that the words list ends so
abbrev pub Listed : List (List ℕ) → OutsideState → OutsideState → Outcome → Type 0
Listed words b a outcome = (command : Command) × IsListed words command × CommandRule command b a outcome

-- The words are refused and nothing is touched; or there was no memory to read them; or the command that they list ends so.
abbrev pub EndRule : List (List ℕ) → OutsideState → OutsideState → Outcome → Type 0
EndRule words b a WordsRefused = NotListed words × (a ≡ b)
EndRule words b a Memory = (a ≡ b) ⊎ Listed words b a Memory
EndRule words b a outcome = Listed words b a outcome

-- the line of an outcome was written on the standard error, or a part of it before a failure
abbrev pub Reports : Outcome → SinkState → SinkState → Type 0
Reports outcome b a = Printed (line_of outcome) b a ⊎ PrintedPart (line_of outcome) b a

-- A run ends in some way, with the status of that way, and its line on the standard error.
abbrev pub RunRule : List (List ℕ) → OutsideState → OutsideState → SinkState → SinkState → ℕ → Type 0
RunRule words b a err_before err_after status = (outcome : Outcome) × EndRule words b a outcome × (status ≡ status_of outcome) × Reports outcome err_before err_after
