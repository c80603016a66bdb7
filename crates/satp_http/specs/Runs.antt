-- Calls on a buffer, in any order, and what they gave.
use Rattle.std.specs.Prelude.{◌≡◌, ◌≢◌, ℕ, List, [], ◌∷◌, ◌++◌, Option, Some, None, Result, Ok, Err}
use Rattle.satp_http.specs.declared.fault.HttpFault.{HttpFault}
use Rattle.satp_http.specs.declared.fault.HttpFault.TheVariants as fault
use Rattle.satp_http.specs.declared.requests.Asked.{Asked}
use Rattle.satp_http.specs.declared.requests.Taken.{Taken}
use Rattle.satp_http.specs.declared.requests.Taken.TheVariants.{More, Continue, Request}
use Rattle.satp_http.specs.declared.responses.Answered.{Answered}
use Rattle.satp_http.specs.Feeds.{RequestFeed, TakesRequest, AnswerFeed, TakesAnswer}

abbrev pub RequestTaken : Type 0
RequestTaken = Result Taken HttpFault

abbrev pub AnswerTaken : Type 0
AnswerTaken = Result (Option Answered) HttpFault

-- bytes that `feed` added, or what `take` gave
pub data Call (Given : Type 0) : Type 0 where
  fed : List ℕ → Call Given
  took : Given → Call Given

-- the bytes that came
abbrev pub came : {Given : Type 0} → List (Call Given) → List ℕ
came [] = []
came (fed piece ∷ calls) = piece ++ came calls
came (took given ∷ calls) = came calls

-- ---- requests

-- the calls lead from one buffer to another
abbrev pub RequestRun : RequestFeed → List (Call RequestTaken) → RequestFeed → Type 0
RequestRun old [] new = new ≡ old
RequestRun old (fed piece ∷ calls) new = RequestRun (record old { held = old.held ++ piece }) calls new
RequestRun old (took given ∷ calls) new = (middle : RequestFeed) × TakesRequest old middle given × RequestRun middle calls new

abbrev pub request_given : RequestTaken → List Asked
request_given (Ok More) = []
request_given (Ok Continue) = []
request_given (Ok (Request asked)) = asked ∷ []
request_given (Err f) = []

-- the requests that were taken
abbrev pub requests_taken : List (Call RequestTaken) → List Asked
requests_taken [] = []
requests_taken (fed piece ∷ calls) = requests_taken calls
requests_taken (took given ∷ calls) = request_given given ++ requests_taken calls

-- what `take` says of where the bytes so far end
abbrev pub SaysRequestsEnd : RequestTaken → Option HttpFault → Type 0
SaysRequestsEnd (Ok More) end = end ≡ None
SaysRequestsEnd (Ok Continue) end = end ≡ None
SaysRequestsEnd (Ok (Request asked)) end = ⊥
SaysRequestsEnd (Err f) end = (f ≢ fault.Memory) × (end ≡ Some f)

-- ---- answers

abbrev pub AnswerRun : AnswerFeed → List (Call AnswerTaken) → AnswerFeed → Type 0
AnswerRun old [] new = new ≡ old
AnswerRun old (fed piece ∷ calls) new = AnswerRun (record old { held = old.held ++ piece }) calls new
AnswerRun old (took given ∷ calls) new = (middle : AnswerFeed) × TakesAnswer old middle given × AnswerRun middle calls new

abbrev pub answer_given : AnswerTaken → List Answered
answer_given (Ok None) = []
answer_given (Ok (Some answered)) = answered ∷ []
answer_given (Err f) = []

abbrev pub answers_taken : List (Call AnswerTaken) → List Answered
answers_taken [] = []
answers_taken (fed piece ∷ calls) = answers_taken calls
answers_taken (took given ∷ calls) = answer_given given ++ answers_taken calls

abbrev pub SaysAnswersEnd : AnswerTaken → Option HttpFault → Type 0
SaysAnswersEnd (Ok None) end = end ≡ None
SaysAnswersEnd (Ok (Some answered)) end = ⊥
SaysAnswersEnd (Err f) end = (f ≢ fault.Memory) × (end ≡ Some f)
