-- What a connection says to what it hears, whatever it is that replies.
use Rattle.std.specs.Prelude.{◌≡◌, ◌≢◌, ◌⊎◌, ℕ, ◌+◌, Bool, true, false, ◌||◌, ◌==◌, List, [], ◌∷◌, ◌++◌, Option, Some, None, Result, Ok, Err}
use Rattle.satp_http.specs.declared.fault.HttpFault.{HttpFault}
use Rattle.satp_http.specs.declared.fault.HttpFault.TheVariants as fault
use Rattle.satp_http.specs.declared.requests.Asked.{Asked}
use Rattle.satp_http.specs.declared.requests.Taken.TheVariants.{More, Continue, Request}
use Rattle.satp_http.specs.Feeds.{RequestFeed}
use Rattle.satp_http.specs.Runs.{RequestTaken, Call, fed, took, came, RequestRun}
use Rattle.satp_http.specs.Written.{response_text, interim_text}
use Rattle.satp_serve.specs.declared.responder.Halt.{Halt}
use Rattle.satp_serve.specs.declared.responder.Halt.TheVariants as halt
use Rattle.satp_serve.specs.declared.responder.Replied.{Replied}
use Rattle.satp_serve.specs.Faults.{fault_code, fault_words}
use Rattle.satp_phrases.specs.Phrases.{refusal_body}

-- how a conversation stands: what replies and its site, how many requests were handed to it, the bytes said, and whether nothing more will be
pub record Talk (G S : Type 0) : Type 0 where
  pub responder : G
  pub site : S
  pub count : ℕ
  pub said : List ℕ
  pub closed : Bool

-- where nothing was heard
abbrev pub silent : {G S : Type 0} → G → S → Talk G S
silent g s = record { responder = g; site = s; count = 0; said = []; closed = false }

-- the most requests on one connection
abbrev pub most_requests : ℕ
most_requests = 64

-- the connection closes after the answer to a request that asks so, and to the last one that it may bring
abbrev pub closes_at : ℕ → Asked → Bool
closes_at count asked = asked.close || (count + 1 == most_requests)

-- after these bytes were said, and the connection was closed or wasn't
abbrev pub spoken : {G S : Type 0} → Talk G S → List ℕ → Bool → Talk G S
spoken t bytes closed = record t { said = t.said ++ bytes; closed = closed }

-- a request was handed over, and they went on to these
abbrev pub handed : {G S : Type 0} → Talk G S → G → S → Talk G S
handed t g s = record t { responder = g; site = s; count = t.count + 1 }

-- what is said to a request that was handed over, by what came of it; a failure of the site or want of memory is no answer
abbrev pub Answers : {G S : Type 0} → Talk G S → Bool → Result Replied Halt → Talk G S → Type 0
Answers t close (Ok replied) u = u ≡ spoken t (response_text replied.code replied.body close) close
Answers t close (Err halt.Cut) u = u ≡ record t { closed = true }
Answers t close (Err halt.Site) u = ⊥
Answers t close (Err halt.Memory) u = ⊥

-- what is said to a request
pub record SaysToRequest {G S : Type 0} (replies : G → S → List ℕ → Result Replied Halt → G → S → Type 0) (t : Talk G S) (asked : Asked) (u : Talk G S) : Type 0 where
  pub result : Result Replied Halt
  pub replied : replies t.responder t.site asked.body result u.responder u.site
  pub answers : Answers (handed t u.responder u.site) (closes_at t.count asked) result u

-- what is said to a fault, which is the last
abbrev pub refused : {G S : Type 0} → Talk G S → HttpFault → Talk G S
refused t f = spoken t (response_text (fault_code f) (refusal_body (fault_words f)) true) true

-- what is said where the bytes so far gave this; want of memory is no fault of theirs
abbrev pub SaysTo : {G S : Type 0} → (G → S → List ℕ → Result Replied Halt → G → S → Type 0) → Talk G S → RequestTaken → Talk G S → Type 0
SaysTo replies t (Ok More) u = u ≡ t
SaysTo replies t (Ok Continue) u = u ≡ spoken t interim_text false
SaysTo replies t (Ok (Request asked)) u = SaysToRequest replies t asked u
SaysTo replies t (Err f) u = (f ≢ fault.Memory) × (u ≡ refused t f)

-- the same along calls; nothing is taken once the connection is closed
abbrev pub Talks : {G S : Type 0} → (G → S → List ℕ → Result Replied Halt → G → S → Type 0) → Talk G S → List (Call RequestTaken) → Talk G S → Type 0
Talks replies t [] u = u ≡ t
Talks replies t (fed piece ∷ calls) u = Talks replies t calls u
Talks {G} {S} replies t (took given ∷ calls) u = (t.closed ≡ false) × (middle : Talk G S) × SaysTo replies t given middle × Talks replies middle calls u

-- From one standing to another these bytes came, and what was said is what they ask.
pub record Serves {G S : Type 0} (replies : G → S → List ℕ → Result Replied Halt → G → S → Type 0) (old new : RequestFeed) (t u : Talk G S) (bytes : List ℕ) : Type 0 where
  pub calls : List (Call RequestTaken)
  pub runs : RequestRun old calls new
  pub bytes_are : came calls ≡ bytes
  pub talks : Talks replies t calls u

-- ---- of a list of requests

-- The requests of a list are answered in order, up to the first that closes; a fault comes last.
abbrev pub Exchange : {G S : Type 0} → (G → S → List ℕ → Result Replied Halt → G → S → Type 0) → Talk G S → List Asked → Option HttpFault → Talk G S → Type 0
Exchange replies t [] None u = u ≡ t
Exchange replies t [] (Some f) u = u ≡ refused t f
Exchange {G} {S} replies t (asked ∷ requests) end u =
    (next : Talk G S) × SaysToRequest replies t asked next
    × (((next.closed ≡ true) × (u ≡ next)) ⊎ ((next.closed ≡ false) × Exchange replies next requests end u))
