-- What was heard in a drive, as bytes.
use Rattle.std.specs.Prelude.{ℕ, List, ◌++◌, Option}
use Rattle.satp_base.specs.Wires.{Traffic}
use Rattle.satp_http.specs.Feeds.{AnswerFeed}
use Rattle.satp_http.specs.HttpText.{HttpAnswers}
use Rattle.satp_http.specs.Runs.{AnswerRun, AnswerTaken, SaysAnswersEnd, came}
use Rattle.satp_http.specs.declared.fault.HttpFault.{HttpFault}
use Rattle.satp_http.specs.declared.responses.Answered.{Answered}
use Rattle.satp_post.specs.Laws.{HeardWhole}
use Rattle.satp_post.specs.Posting.{hearing}
use Rattle.satp_sides.specs.Points.{Text}
use Rattle.satp_drive.specs.Conversing.{Exchanges}

-- The bytes that were heard for the texts with an answer are their answers, in order, and then what is held.
abbrev pub AnswersAreHeard : Type 0
AnswersAreHeard =
    (at : List ℕ) (posted : List Text) (answers : List Answered) (feed : AnswerFeed) (told telling : Option Traffic) (x : Exchanges at posted answers feed told telling)
    → HeardWhole answers (came x.calls) feed.held

-- Where the last text has none, all bytes that were heard are the answers before it, and then less than one, or a fault.
abbrev pub LastIsUnanswered : Type 0
LastIsUnanswered =
    (at : List ℕ) (posted : List Text) (answers : List Answered) (feed left : AnswerFeed) (told telling : Option Traffic) (pieces : List (List ℕ)) (last : AnswerTaken) (end : Option HttpFault)
    → (x : Exchanges at posted answers feed told telling) → AnswerRun feed (hearing pieces last) left → SaysAnswersEnd last end
    → HttpAnswers answers end (came x.calls ++ came (hearing pieces last))
