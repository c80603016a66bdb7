-- Requests and answers as bytes: a list of them, and what stands behind the last.
use Rattle.std.specs.Prelude.{◌≡◌, ◌≤◌, ◌<◌, ◌⊎◌, ℕ, List, [], ◌∷◌, ◌++◌, length, take, map, Option, Some, None, if◌then◌else◌}
use Rattle.std.specs.List.{flat_map}
use Rattle.httparse.specs.Grammar.{status_code}
use Rattle.satp_http.specs.Heads.{Sender, client, server, Head, IsGrammatical, head_bytes, header_lines, HasNone, NeverHas, HasOver, MayBecome, longest, most_lines}
use Rattle.satp_http.specs.Table.{table, first_fault, body_length, interim_after, request_parts, closes, is_interim}
use Rattle.satp_http.specs.declared.fault.HttpFault.{HttpFault}
use Rattle.satp_http.specs.declared.fault.HttpFault.TheVariants as fault
use Rattle.satp_http.specs.declared.requests.Asked.{Asked}
use Rattle.satp_http.specs.declared.responses.Answered.{Answered}

-- a head of the grammar within the limits
pub record IsHead (by : Sender) (head : Head by) : Type 0 where
  pub parts : IsGrammatical by head
  pub short : length (head_bytes by head) ≤ longest
  pub few : length (header_lines by head) ≤ most_lines

-- a head and a body
pub record Sent (by : Sender) : Type 0 where
  pub head : Head by
  pub body : List ℕ

abbrev pub sent_bytes : (by : Sender) → Sent by → List ℕ
sent_bytes by sent = head_bytes by sent.head ++ sent.body

-- without a fault behind so many interim answers, and the body has the length that the head says
pub record IsSent (by : Sender) (interim : ℕ) (sent : Sent by) : Type 0 where
  pub head : IsHead by sent.head
  pub clean : first_fault (table by interim sent.head) ≡ None
  pub body : length sent.body ≡ body_length by sent.head

abbrev pub AreSent : (by : Sender) → ℕ → List (Sent by) → Type 0
AreSent by interim [] = Unit {0}
AreSent by interim (sent ∷ more) = IsSent by interim sent × AreSent by (interim_after by interim sent.head) more

-- how many interim answers stand in a row at the end of the list
abbrev pub interim_behind : (by : Sender) → ℕ → List (Sent by) → ℕ
interim_behind by interim [] = interim
interim_behind by interim (sent ∷ more) = interim_behind by (interim_after by interim sent.head) more

-- the bytes in which a head has to end
abbrev pub window : List ℕ → List ℕ
window bytes = take longest bytes

-- The bytes begin with no head within the limits. `Head` and `ManyHeaders` may stand together, and then either is the fault. A head is too long only
-- where it isn't over its lines, and may still become one.
abbrev pub HasNoHead : Sender → List ℕ → HttpFault → Type 0
HasNoHead by bytes fault.Head = NeverHas by (window bytes)
HasNoHead by bytes fault.ManyHeaders = HasOver by most_lines (window bytes)
HasNoHead by bytes fault.HeadLong =
    (longest ≤ length bytes) × HasNone by (window bytes) × (¬ (HasOver by most_lines (window bytes))) × MayBecome by (window bytes)
HasNoHead by bytes f = ⊥

-- the bytes begin with a head, and this is the first row of the table that holds of it
abbrev pub HasBadHead : (by : Sender) → ℕ → List ℕ → HttpFault → Type 0
HasBadHead by interim bytes f =
    (head : Head by) × (rest : List ℕ) × IsHead by head × (bytes ≡ head_bytes by head ++ rest)
    × (first_fault (table by interim head) ≡ Some f)

-- a fault stands at the front of the bytes
abbrev pub HasFault : Sender → ℕ → List ℕ → HttpFault → Type 0
HasFault by interim bytes f = HasNoHead by bytes f ⊎ HasBadHead by interim bytes f

-- no head yet, and one may come
pub record IsPart (by : Sender) (bytes : List ℕ) : Type 0 where
  pub short : length bytes < longest
  pub none : HasNone by bytes
  pub few : ¬ (HasOver by most_lines bytes)
  pub begun : MayBecome by bytes

-- a head without a fault, and less than its body
pub record Awaits (by : Sender) (interim : ℕ) (head : Head by) (bytes : List ℕ) : Type 0 where
  pub head_is : IsHead by head
  pub clean : first_fault (table by interim head) ≡ None
  pub rest : List ℕ
  pub bytes_are : bytes ≡ head_bytes by head ++ rest
  pub less : length rest < body_length by head

-- nothing whole, and no fault
abbrev pub IsUnfinished : Sender → ℕ → List ℕ → Type 0
IsUnfinished by interim bytes = IsPart by bytes ⊎ ((head : Head by) × Awaits by interim head bytes)

abbrev pub Ends : Sender → ℕ → List ℕ → Option HttpFault → Type 0
Ends by interim rest None = IsUnfinished by interim rest
Ends by interim rest (Some f) = HasFault by interim rest f

-- The bytes are these requests or answers, and then less than one, or a fault.
pub record HttpText (by : Sender) (sent : List (Sent by)) (end : Option HttpFault) (bytes : List ℕ) : Type 0 where
  pub each : AreSent by 0 sent
  pub rest : List ℕ
  pub bytes_are : bytes ≡ flat_map (sent_bytes by) sent ++ rest
  pub ends : Ends by (interim_behind by 0 sent) rest end

-- what a request asks
abbrev pub asked_of : Sent client → Asked
asked_of sent = record { body = sent.body; close = closes (request_parts sent.head) }

abbrev pub requests_of : List (Sent client) → List Asked
requests_of sent = map asked_of sent

-- what an answer says, which an interim one does not
abbrev pub answer_of : Sent server → List Answered
answer_of sent =
    if is_interim (status_code sent.head) then [] else record { code = status_code sent.head; body = sent.body } ∷ []

abbrev pub answers_of : List (Sent server) → List Answered
answers_of sent = flat_map answer_of sent

-- the requests of bytes, and where they end
abbrev pub HttpRequests : List Asked → Option HttpFault → List ℕ → Type 0
HttpRequests requests end bytes = (sent : List (Sent client)) × (requests ≡ requests_of sent) × HttpText client sent end bytes

-- the answers of bytes but the interim ones, and where they end
abbrev pub HttpAnswers : List Answered → Option HttpFault → List ℕ → Type 0
HttpAnswers answers end bytes = (sent : List (Sent server)) × (answers ≡ answers_of sent) × HttpText server sent end bytes
