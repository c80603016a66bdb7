-- What is said is what the requests in the bytes ask, in whatever pieces they came.
use Rattle.std.specs.Prelude.{◌≡◌, ◌≢◌, ◌⊎◌, ℕ, true, false, List, [], ◌∷◌, ◌++◌, Option, Some, None, Result, Ok}
use Rattle.std.specs.List.{flat_map}
use Rattle.satp_http.specs.declared.fault.HttpFault.{HttpFault}
use Rattle.satp_http.specs.declared.requests.Asked.{Asked}
use Rattle.satp_http.specs.declared.requests.Taken.TheVariants.{Continue}
use Rattle.satp_http.specs.Feeds.{RequestFeed, no_requests}
use Rattle.satp_http.specs.Heads.{client}
use Rattle.satp_http.specs.HttpText.{AreSent, HttpRequests, IsUnfinished, Sent, requests_of, sent_bytes}
use Rattle.satp_http.specs.Runs.{Call, RequestRun, RequestTaken, came, fed, requests_taken, took}
use Rattle.satp_serve.specs.declared.responder.Halt.{Halt}
use Rattle.satp_serve.specs.declared.responder.Replied.{Replied}
use Rattle.satp_serve.specs.Exchange.{Exchange, Talk, Talks, silent}

-- no client was told to go on, so that no interim answer was said
abbrev pub NeverWaits : List (Call RequestTaken) → Type 0
NeverWaits [] = Unit {0}
NeverWaits (fed piece ∷ calls) = NeverWaits calls
NeverWaits (took given ∷ calls) = (given ≢ Ok Continue) × NeverWaits calls

-- All requests that came whole are answered, and nothing closes.
pub record GoesOn {G S : Type 0} (replies : G → S → List ℕ → Result Replied Halt → G → S → Type 0) (g : G) (s : S) (requests : List Asked) (held bytes : List ℕ) (u : Talk G S) : Type 0 where
  pub unclosed : u.closed ≡ false
  pub reading : IsUnfinished client 0 held → HttpRequests requests None bytes
  pub exchange : Exchange replies (silent g s) requests None u

-- All requests before a fault are answered, and then the fault.
pub record EndsInFault {G S : Type 0} (replies : G → S → List ℕ → Result Replied Halt → G → S → Type 0) (g : G) (s : S) (requests : List Asked) (bytes : List ℕ) (u : Talk G S) : Type 0 where
  pub fault : HttpFault
  pub closed : u.closed ≡ true
  pub reading : HttpRequests requests (Some fault) bytes
  pub exchange : Exchange replies (silent g s) requests (Some fault) u

-- The bytes begin with these requests, and the answer to the last one closes, whatever other requests and whatever end they have.
pub record EndsInRequest {G S : Type 0} (replies : G → S → List ℕ → Result Replied Halt → G → S → Type 0) (g : G) (s : S) (requests : List Asked) (bytes : List ℕ) (u : Talk G S) : Type 0 where
  pub closed : u.closed ≡ true
  pub sent : List (Sent client)
  pub each : AreSent client 0 sent
  pub requests_are : requests ≡ requests_of sent
  pub rest : List ℕ
  pub bytes_are : bytes ≡ flat_map (sent_bytes client) sent ++ rest
  pub exchange : (later : List Asked) (end : Option HttpFault) → Exchange replies (silent g s) (requests ++ later) end u

-- Where no interim answer was said, what was said is the exchange of the requests that the bytes have, up to the first that closes.
abbrev pub Exchanges : {G S : Type 0} → (G → S → List ℕ → Result Replied Halt → G → S → Type 0) → Type 0
Exchanges {G} {S} replies =
    (g : G) (s : S) (calls : List (Call RequestTaken)) (feed : RequestFeed) (u : Talk G S)
    → RequestRun no_requests calls feed → Talks replies (silent g s) calls u → NeverWaits calls
    → GoesOn replies g s (requests_taken calls) feed.held (came calls) u
    ⊎ (EndsInFault replies g s (requests_taken calls) (came calls) u ⊎ EndsInRequest replies g s (requests_taken calls) (came calls) u)
