-- The bytes that came and were not taken yet, and what the calls on them do.
use Rattle.std.specs.Prelude.{◌≡◌, ◌⊎◌, ℕ, ◌-◌, min, Bool, true, false, List, [], ◌++◌, length, take, Option, Some, None, Result, Ok, Err}
use Rattle.std.specs.List.{flat_map, AllByRecursion}
use Rattle.httparse.specs.Grammar.{RequestHead, status_code}
use Rattle.satp_http.specs.declared.fault.HttpFault.{HttpFault}
use Rattle.satp_http.specs.declared.fault.HttpFault.TheVariants.{Memory}
use Rattle.satp_http.specs.declared.requests.Taken.{Taken}
use Rattle.satp_http.specs.declared.requests.Taken.TheVariants.{More, Continue, Request}
use Rattle.satp_http.specs.declared.responses.Answered.{Answered}
use Rattle.satp_http.specs.Heads.{Sender, client, server, room}
use Rattle.satp_http.specs.Table.{request_parts, expects}
use Rattle.satp_http.specs.HttpText.{Sent, sent_bytes, IsSent, AreSent, interim_behind, asked_of, HasFault, IsUnfinished, IsPart, Awaits}

-- what fits was added
pub record Adds (piece old new : List ℕ) (count : ℕ) : Type 0 where
  pub count_is : count ≡ min (length piece) (room - length old)
  pub bytes_are : new ≡ old ++ take count piece

-- the fault that was found stands at the front
abbrev pub IsStuck : Sender → ℕ → List ℕ → Option HttpFault → Type 0
IsStuck by interim held None = Unit {0}
IsStuck by interim held (Some f) = HasFault by interim held f

-- ---- requests

-- the bytes, whether the client was told to go on with the request at their front, and the fault that was found there
pub record RequestFeed : Type 0 where
  pub held : List ℕ
  pub continued : Bool
  pub stuck : Option HttpFault

abbrev pub no_requests : RequestFeed
no_requests = record { held = []; continued = false; stuck = None }

-- the head at the front waits for its body, and asks for the interim answer or doesn't
abbrev pub AwaitsBody : List ℕ → Bool → Type 0
AwaitsBody held asks = (head : RequestHead) × Awaits client 0 head held × (expects (request_parts head) ≡ asks)

-- a whole request stands at the front, and then rest
abbrev pub BeginsWith : (by : Sender) → ℕ → Sent by → List ℕ → List ℕ → Type 0
BeginsWith by interim sent held rest = IsSent by interim sent × (held ≡ sent_bytes by sent ++ rest)

-- `Memory` leaves all as it was; any other fault sticks
abbrev pub TakesRequest : RequestFeed → RequestFeed → Result Taken HttpFault → Type 0
TakesRequest old new (Ok More) =
    (old.stuck ≡ None) × (new ≡ old)
    × (IsPart client old.held ⊎ (AwaitsBody old.held false ⊎ (AwaitsBody old.held true × (old.continued ≡ true))))
TakesRequest old new (Ok Continue) =
    (old.stuck ≡ None) × (new ≡ record old { continued = true }) × AwaitsBody old.held true × (old.continued ≡ false)
TakesRequest old new (Ok (Request asked)) =
    (old.stuck ≡ None) × (new ≡ record { held = new.held; continued = false; stuck = None })
    × (sent : Sent client) × BeginsWith client 0 sent old.held new.held × (asked ≡ asked_of sent)
TakesRequest old new (Err f) =
    ((old.stuck ≡ Some f) × (new ≡ old) × HasFault client 0 old.held f)
    ⊎ (((old.stuck ≡ None) × (new ≡ record old { stuck = Some f }) × HasFault client 0 old.held f)
    ⊎ ((old.stuck ≡ None) × (new ≡ old) × (f ≡ Memory) × ((sent : Sent client) × (rest : List ℕ) × BeginsWith client 0 sent old.held rest)))

-- ---- answers

-- the bytes, how many interim answers were passed over in a row, and the fault that was found at their front
pub record AnswerFeed : Type 0 where
  pub held : List ℕ
  pub passed : ℕ
  pub stuck : Option HttpFault

abbrev pub no_answers : AnswerFeed
no_answers = record { held = []; passed = 0; stuck = None }

abbrev pub IsInterim : Sent server → Type 0
IsInterim sent = status_code sent.head ≡ 100

-- interim answers stand at the front, and then rest; so many were passed over in a row before them and with them
pub record Passes (before : ℕ) (held : List ℕ) (after : ℕ) (rest : List ℕ) : Type 0 where
  pub skipped : List (Sent server)
  pub each : AreSent server before skipped
  pub interim : AllByRecursion IsInterim skipped
  pub after_is : after ≡ interim_behind server before skipped
  pub held_is : held ≡ flat_map (sent_bytes server) skipped ++ rest

-- an answer that is no interim one stands at the front, and then rest
pub record BeginsWithAnswer (interim : ℕ) (held : List ℕ) (answered : Answered) (rest : List ℕ) : Type 0 where
  pub sent : Sent server
  pub begins : BeginsWith server interim sent held rest
  pub final : status_code sent.head ≡ 100 → ⊥
  pub answered_is : answered ≡ record { code = status_code sent.head; body = sent.body }

-- `Memory` leaves all as it was; any other fault sticks
abbrev pub TakesAnswer : AnswerFeed → AnswerFeed → Result (Option Answered) HttpFault → Type 0
TakesAnswer old new (Ok None) =
    (old.stuck ≡ None) × (new.stuck ≡ None) × Passes old.passed old.held new.passed new.held
    × IsUnfinished server new.passed new.held
TakesAnswer old new (Ok (Some answered)) =
    (old.stuck ≡ None) × (new ≡ record { held = new.held; passed = 0; stuck = None })
    × (passed : ℕ) × (held : List ℕ) × Passes old.passed old.held passed held × BeginsWithAnswer passed held answered new.held
TakesAnswer old new (Err f) =
    ((old.stuck ≡ Some f) × (new ≡ old) × HasFault server old.passed old.held f)
    ⊎ (((old.stuck ≡ None) × (new.stuck ≡ Some f) × Passes old.passed old.held new.passed new.held × HasFault server new.passed new.held f)
    ⊎ ((old.stuck ≡ None) × (new ≡ old) × (f ≡ Memory)
    × ((passed : ℕ) × (held : List ℕ) × (answered : Answered) × (rest : List ℕ) × Passes old.passed old.held passed held × BeginsWithAnswer passed held answered rest)))
