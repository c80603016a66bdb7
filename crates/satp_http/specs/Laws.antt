-- What holds of requests and answers in whatever pieces they come.
use Rattle.std.specs.Prelude.{◌≡◌, ◌≤◌, ◌⊎◌, ℕ, Bool, false, IsTrue, List, [], ◌∷◌, ◌++◌, length, Option, Some, None}
use Rattle.satp_base.specs.Names.{is_address}
use Rattle.satp_http.specs.declared.fault.HttpFault.{HttpFault}
use Rattle.satp_http.specs.declared.fault.HttpFault.TheVariants as fault
use Rattle.satp_http.specs.declared.requests.Asked.{Asked}
use Rattle.satp_http.specs.declared.responses.Answered.{Answered}
use Rattle.satp_http.specs.Heads.{Sender, client, server, NeverHas, EndsWithin, longest}
use Rattle.satp_http.specs.HttpText.{HasNoHead, window, HttpRequests, HttpAnswers}
use Rattle.satp_http.specs.Feeds.{RequestFeed, no_requests, TakesRequest, AnswerFeed, no_answers, TakesAnswer}
use Rattle.satp_http.specs.Runs.{RequestTaken, AnswerTaken, Call, came, RequestRun, requests_taken, SaysRequestsEnd, AnswerRun, answers_taken, SaysAnswersEnd}
use Rattle.satp_http.specs.Written.{request_text, response_text, is_answer_code}

-- ---- any pieces

-- In whatever pieces the bytes came, and whenever requests were taken, those that were taken are the list of the bytes, up to the first fault.
abbrev pub RequestsInAnyPieces : Type 0
RequestsInAnyPieces =
    (calls : List (Call RequestTaken)) (feed new : RequestFeed) (given : RequestTaken) (end : Option HttpFault)
    → RequestRun no_requests calls feed → TakesRequest feed new given → SaysRequestsEnd given end
    → HttpRequests (requests_taken calls) end (came calls)

abbrev pub AnswersInAnyPieces : Type 0
AnswersInAnyPieces =
    (calls : List (Call AnswerTaken)) (feed new : AnswerFeed) (given : AnswerTaken) (end : Option HttpFault)
    → AnswerRun no_answers calls feed → TakesAnswer feed new given → SaysAnswersEnd given end
    → HttpAnswers (answers_taken calls) end (came calls)

-- ---- one reading

-- two faults of bytes without a head stand together
abbrev pub StandTogether : Sender → List ℕ → Option HttpFault → Option HttpFault → Type 0
StandTogether by rest end other =
    (f : HttpFault) × (g : HttpFault) × (end ≡ Some f) × (other ≡ Some g) × HasNoHead by rest f × HasNoHead by rest g

-- the bytes end within a target that no continuation makes a head's, and that is judged now or at its end
abbrev pub IsJudgedLate : Sender → List ℕ → Option HttpFault → Option HttpFault → Type 0
IsJudgedLate by rest end other =
    EndsWithin by rest × NeverHas by (window rest)
    × (((end ≡ None) × (other ≡ Some fault.Head)) ⊎ ((end ≡ Some fault.Head) × (other ≡ None)))

-- the ends are one, but for these two cases
abbrev pub IsSameEnd : Sender → List ℕ → Option HttpFault → Option HttpFault → Type 0
IsSameEnd by rest end other = (end ≡ other) ⊎ (StandTogether by rest end other ⊎ IsJudgedLate by rest end other)

-- Bytes have one list of requests and one end: none is read in two ways.
abbrev pub OneReadingOfRequests : Type 0
OneReadingOfRequests =
    (requests others : List Asked) (end other : Option HttpFault) (bytes : List ℕ)
    → (reading : HttpRequests requests end bytes) → HttpRequests others other bytes
    → (requests ≡ others) × IsSameEnd client reading.2.rest end other

abbrev pub OneReadingOfAnswers : Type 0
OneReadingOfAnswers =
    (answers others : List Answered) (end other : Option HttpFault) (bytes : List ℕ)
    → (reading : HttpAnswers answers end bytes) → HttpAnswers others other bytes
    → (answers ≡ others) × IsSameEnd server reading.2.rest end other

-- A fault that stands in one cutting stands in each other that has these bytes, behind the same requests.
abbrev pub RequestFaultInEachCutting : Type 0
RequestFaultInEachCutting =
    (calls others : List (Call RequestTaken)) (feed new held left : RequestFeed) (given answer : RequestTaken) (f : HttpFault) (end : Option HttpFault) (more : List ℕ)
    → RequestRun no_requests calls feed → TakesRequest feed new given → SaysRequestsEnd given (Some f)
    → RequestRun no_requests others held → TakesRequest held left answer → SaysRequestsEnd answer end
    → came others ≡ came calls ++ more
    → (requests_taken others ≡ requests_taken calls)
    × ((reading : HttpRequests (requests_taken calls) (Some f) (came others)) × IsSameEnd client reading.2.rest (Some f) end)

abbrev pub AnswerFaultInEachCutting : Type 0
AnswerFaultInEachCutting =
    (calls others : List (Call AnswerTaken)) (feed new held left : AnswerFeed) (given answer : AnswerTaken) (f : HttpFault) (end : Option HttpFault) (more : List ℕ)
    → AnswerRun no_answers calls feed → TakesAnswer feed new given → SaysAnswersEnd given (Some f)
    → AnswerRun no_answers others held → TakesAnswer held left answer → SaysAnswersEnd answer end
    → came others ≡ came calls ++ more
    → (answers_taken others ≡ answers_taken calls)
    × ((reading : HttpAnswers (answers_taken calls) (Some f) (came others)) × IsSameEnd server reading.2.rest (Some f) end)

-- ---- what is written is read

-- A request that was written is read as that one request, whatever follows it.
abbrev pub WrittenRequestIsRead : Type 0
WrittenRequestIsRead =
    (at body more : List ℕ) (requests : List Asked) (end : Option HttpFault)
    → IsTrue (is_address at) → length body ≤ longest → HttpRequests requests end more
    → HttpRequests (record { body = body; close = false } ∷ requests) end (request_text at body ++ more)

-- An answer that was written is read as that one answer, whatever follows it.
abbrev pub WrittenAnswerIsRead : Type 0
WrittenAnswerIsRead =
    (code : ℕ) (body more : List ℕ) (close : Bool) (answers : List Answered) (end : Option HttpFault)
    → IsTrue (is_answer_code code) → (code ≡ 204 → body ≡ []) → length body ≤ longest → HttpAnswers answers end more
    → HttpAnswers (record { code = code; body = body } ∷ answers) end (response_text code body close ++ more)
