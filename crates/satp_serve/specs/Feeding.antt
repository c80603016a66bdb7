-- What comes of a piece of what is heard.
use Rattle.std.specs.Prelude.{◌≡◌, ◌<◌, ◌⊎◌, ℕ, Bool, true, false, List, [], ◌++◌, codes, length, Result, Ok, Err}
use Rattle.satp_http.specs.declared.requests.Asked.{Asked}
use Rattle.satp_http.specs.declared.requests.Taken.TheVariants.{More, Continue, Request}
use Rattle.satp_http.specs.Feeds.{RequestFeed, no_requests, TakesRequest}
use Rattle.satp_http.specs.Runs.{RequestTaken}
use Rattle.satp_http.specs.Written.{response_text}
use Rattle.satp_phrases.specs.declared.phrase.Detail.TheVariants.{Nothing}
use Rattle.satp_serve.specs.declared.responder.Halt.{Halt}
use Rattle.satp_serve.specs.declared.responder.Halt.TheVariants as halt
use Rattle.satp_serve.specs.declared.responder.Replied.{Replied}
use Rattle.satp_serve.specs.declared.turn.ServeFault.{ServeFault}
use Rattle.satp_serve.specs.declared.turn.ServeFault.TheVariants as serve
use Rattle.satp_serve.specs.declared.turn.Turn.{Turn}
use Rattle.satp_serve.specs.declared.turn.Turn.TheVariants as turn
use Rattle.satp_serve.specs.declared.turn.Step.{Step}
use Rattle.satp_serve.specs.declared.turn.Step.TheVariants as step
use Rattle.satp_serve.specs.Exchange.{Talk, Serves, SaysTo, SaysToRequest, handed, spoken}
use Rattle.satp_phrases.specs.Phrases.{Words, refusal_body}

-- ---- a connection that is served

-- the bytes that weren't taken, how many requests were handed over, and whether nothing more will be said
pub record Serving : Type 0 where
  pub feed : RequestFeed
  pub count : ℕ
  pub closed : Bool

abbrev pub unheard : Serving
unheard = record { feed = no_requests; count = 0; closed = false }

abbrev pub standing : {G S : Type 0} → G → S → ℕ → List ℕ → Bool → Talk G S
standing g s count said closed = record { responder = g; site = s; count = count; said = said; closed = closed }

abbrev pub talk : {G S : Type 0} → Serving → G → S → List ℕ → Talk G S
talk served g s said = standing g s served.count said served.closed

-- More is to be heard: no request is whole, there is no fault, and no client waits for an interim answer that wasn't said.
abbrev pub AwaitsMore : RequestFeed → Type 0
AwaitsMore feed = TakesRequest feed feed (Ok More)

-- ---- where there is no answer

-- the words of what no answer came for
abbrev pub halt_words : ServeFault → Words
halt_words serve.Site = record { text = codes "site"; detail = Nothing }
halt_words serve.Memory = record { text = codes "memory"; detail = Nothing }

abbrev pub halt_answer : ServeFault → List ℕ
halt_answer fault = response_text 503 (refusal_body (halt_words fault)) true

-- a request was handed over, and its answer, if there is one, wasn't said
abbrev pub Lacks : ServeFault → Result Replied Halt → Type 0
Lacks serve.Site result = result ≡ Err halt.Site
Lacks serve.Memory (Ok replied) = Unit {0}
Lacks serve.Memory (Err why) = why ≡ halt.Memory

-- nothing is said to what the bytes so far gave
abbrev pub Fails : {G S : Type 0} → (G → S → List ℕ → Result Replied Halt → G → S → Type 0) → Talk G S → RequestTaken → ServeFault → Talk G S → Type 0
Fails replies t (Ok More) fault u = ⊥
Fails replies t (Ok Continue) fault u = (fault ≡ serve.Memory) × (u ≡ t)
Fails replies t (Ok (Request asked)) fault u =
    (result : Result Replied Halt) × replies t.responder t.site asked.body result u.responder u.site × Lacks fault result × (u ≡ handed t u.responder u.site)
Fails replies t (Err f) fault u = (fault ≡ serve.Memory) × (u ≡ t)

-- the site failed, or no memory was found, at the next call on the buffer
pub record FailsNext {G S : Type 0} (replies : G → S → List ℕ → Result Replied Halt → G → S → Type 0) (old : RequestFeed) (t : Talk G S) (fault : ServeFault) (u : Talk G S) : Type 0 where
  pub given : RequestTaken
  pub left : RequestFeed
  pub takes : TakesRequest old left given
  pub fails : Fails replies t given fault u

-- and that is the last: it is said where memory for it was found
pub record Halts {G S : Type 0} (replies : G → S → List ℕ → Result Replied Halt → G → S → Type 0) (old : RequestFeed) (t : Talk G S) (fault : ServeFault) (u : Talk G S) : Type 0 where
  pub unanswered : Talk G S
  pub fails : FailsNext replies old t fault unanswered
  pub last : (u ≡ spoken unanswered (halt_answer fault) true) ⊎ (u ≡ record unanswered { closed = true })

-- ---- a piece

-- All of the piece was heard, or as much of it as comes before the answer that closes, or before the request without an answer.
abbrev pub FeedAnswers : {G S : Type 0} → (G → S → List ℕ → Result Replied Halt → G → S → Type 0) → RequestFeed → RequestFeed → Talk G S → Talk G S → List ℕ → Result Turn ServeFault → Type 0
FeedAnswers replies old new t u piece (Ok turn.More) = Serves replies old new t u piece × (u.closed ≡ false) × AwaitsMore new
FeedAnswers replies old new t u piece (Ok turn.Close) =
    (front : List ℕ) × (rest : List ℕ) × (piece ≡ front ++ rest) × Serves replies old new t u front × (u.closed ≡ true)
FeedAnswers {G} {S} replies old new t u piece (Err fault) =
    (front : List ℕ) × (rest : List ℕ) × (piece ≡ front ++ rest)
    × (middle : RequestFeed) × (answered : Talk G S) × Serves replies old middle t answered front × (answered.closed ≡ false) × Halts replies middle answered fault u

-- ---- steps on the way, which say nothing of a failure yet

-- one call on the buffer, and what is said to it
pub record ServesOne {G S : Type 0} (replies : G → S → List ℕ → Result Replied Halt → G → S → Type 0) (old new : RequestFeed) (t u : Talk G S) : Type 0 where
  pub given : RequestTaken
  pub takes : TakesRequest old new given
  pub says : SaysTo replies t given u

-- the conversation goes on after a step
abbrev pub IfGoing : Result Step ServeFault → Type 0 → Type 0
IfGoing (Ok step.Waits) P = P
IfGoing (Ok step.Answered) P = P
IfGoing (Ok step.Closes) P = Unit {0}
IfGoing (Err fault) P = Unit {0}

abbrev pub AnswersOne : {G S : Type 0} → (G → S → List ℕ → Result Replied Halt → G → S → Type 0) → Talk G S → Asked → Talk G S → Result Step ServeFault → Type 0
AnswersOne replies t asked u (Ok step.Waits) = ⊥
AnswersOne replies t asked u (Ok step.Answered) = SaysToRequest replies t asked (record u { closed = false })
AnswersOne replies t asked u (Ok step.Closes) = SaysToRequest replies t asked (record u { closed = true })
AnswersOne replies t asked u (Err fault) = Fails replies t (Ok (Request asked)) fault u

abbrev pub Steps : {G S : Type 0} → (G → S → List ℕ → Result Replied Halt → G → S → Type 0) → RequestFeed → RequestFeed → Talk G S → Talk G S → Result Step ServeFault → Type 0
Steps replies old new t u (Ok step.Waits) = ServesOne replies old new t (record u { closed = false }) × AwaitsMore new
Steps replies old new t u (Ok step.Answered) = ServesOne replies old new t (record u { closed = false }) × (length new.held < length old.held)
Steps replies old new t u (Ok step.Closes) = ServesOne replies old new t (record u { closed = true })
Steps replies old new t u (Err fault) = FailsNext replies old t fault u

-- what the requests that are whole make it say
abbrev pub AnswersAll : {G S : Type 0} → (G → S → List ℕ → Result Replied Halt → G → S → Type 0) → RequestFeed → RequestFeed → Talk G S → Talk G S → Result Turn ServeFault → Type 0
AnswersAll replies old new t u (Ok turn.More) = Serves replies old new t (record u { closed = false }) [] × AwaitsMore new
AnswersAll replies old new t u (Ok turn.Close) = Serves replies old new t (record u { closed = true }) []
AnswersAll {G} {S} replies old new t u (Err fault) =
    (middle : RequestFeed) × (answered : Talk G S) × Serves replies old middle t answered [] × (answered.closed ≡ false) × FailsNext replies middle answered fault u

-- what a piece makes it say
abbrev pub AnswersPiece : {G S : Type 0} → (G → S → List ℕ → Result Replied Halt → G → S → Type 0) → RequestFeed → RequestFeed → Talk G S → Talk G S → List ℕ → Result Turn ServeFault → Type 0
AnswersPiece replies old new t u piece (Ok turn.More) = Serves replies old new t (record u { closed = false }) piece × AwaitsMore new
AnswersPiece replies old new t u piece (Ok turn.Close) =
    (front : List ℕ) × (rest : List ℕ) × (piece ≡ front ++ rest) × Serves replies old new t (record u { closed = true }) front
AnswersPiece {G} {S} replies old new t u piece (Err fault) =
    (front : List ℕ) × (rest : List ℕ) × (piece ≡ front ++ rest)
    × (middle : RequestFeed) × (answered : Talk G S) × Serves replies old middle t answered front × (answered.closed ≡ false) × FailsNext replies middle answered fault u
