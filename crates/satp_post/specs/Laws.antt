-- What was heard on one connection, and the answers that were taken there.
use Rattle.std.specs.Prelude.{◌≡◌, ℕ, List, ◌++◌, Option}
use Rattle.std.specs.List.{flat_map}
use Rattle.satp_http.specs.declared.fault.HttpFault.{HttpFault}
use Rattle.satp_http.specs.declared.responses.Answered.{Answered}
use Rattle.satp_http.specs.Feeds.{AnswerFeed, no_answers}
use Rattle.satp_http.specs.Heads.{server}
use Rattle.satp_http.specs.HttpText.{AreSent, HttpAnswers, Sent, answers_of, sent_bytes}
use Rattle.satp_http.specs.Runs.{AnswerRun, AnswerTaken, Call, SaysAnswersEnd, answer_given, answers_taken, came}
use Rattle.satp_post.specs.Posting.{hearing}

-- The bytes are these answers, interim ones among them, and then rest.
pub record HeardWhole (answers : List Answered) (heard rest : List ℕ) : Type 0 where
  pub sent : List (Sent server)
  pub each : AreSent server 0 sent
  pub answers_are : answers ≡ answers_of sent
  pub heard_is : heard ≡ flat_map (sent_bytes server) sent ++ rest

-- The answers that were taken so far are those of the bytes, and what is held is the rest.
abbrev pub AnswersAreHeard : Type 0
AnswersAreHeard = (calls : List (Call AnswerTaken)) (feed : AnswerFeed) → AnswerRun no_answers calls feed → HeardWhole (answers_taken calls) (came calls) feed.held

-- One more answer was heard for: the calls go on, and so do the bytes and the answers.
pub record GoesOn (calls : List (Call AnswerTaken)) (pieces : List (List ℕ)) (last : AnswerTaken) (new : AnswerFeed) : Type 0 where
  pub runs : AnswerRun no_answers (calls ++ hearing pieces last) new
  pub heard_is : came (calls ++ hearing pieces last) ≡ came calls ++ came (hearing pieces last)
  pub answers_are : answers_taken (calls ++ hearing pieces last) ≡ answers_taken calls ++ answer_given last

abbrev pub HearingsGoOn : Type 0
HearingsGoOn =
    (calls : List (Call AnswerTaken)) (pieces : List (List ℕ)) (last : AnswerTaken) (old new : AnswerFeed)
    → AnswerRun no_answers calls old → AnswerRun old (hearing pieces last) new → GoesOn calls pieces last new

-- Where no answer was whole at the last, or its bytes had a fault, that is the end of all bytes that were heard.
abbrev pub LastHearingEnds : Type 0
LastHearingEnds =
    (calls : List (Call AnswerTaken)) (pieces : List (List ℕ)) (last : AnswerTaken) (end : Option HttpFault) (old new : AnswerFeed)
    → AnswerRun no_answers calls old → AnswerRun old (hearing pieces last) new → SaysAnswersEnd last end
    → HttpAnswers (answers_taken calls) end (came calls ++ came (hearing pieces last))

pub record PostsHearAnswers : Type 0 where
  pub whole : AnswersAreHeard
  pub on : HearingsGoOn
  pub ends : LastHearingEnds
