-- The faults of a head, in the order in which they are tested, and what a head without a fault says.
use Rattle.std.specs.Prelude.{ℕ, ◌+◌, Bool, not, ◌==◌, ◌&&◌, ◌||◌, nat_lt, nat_le, List, [], ◌∷◌, map, length, Option, Some, None, is_none, unwrap_or, if◌then◌else◌, codes, bytes_eq}
use Rattle.std.specs.List.{list_any}
use Rattle.httparse.specs.Grammar.{RequestHead, ResponseHead, status_code}
use Rattle.httparse.specs.Spans.{name_and_value}
use Rattle.satp_http.specs.Heads.{Sender, client, server, Head, longest, most_interim}
use Rattle.satp_http.specs.Lines.{Line, values_of, has_other, agreed, lists}
use Rattle.satp_http.specs.declared.fault.HttpFault.{HttpFault}
use Rattle.satp_http.specs.declared.fault.HttpFault.TheVariants as fault

-- the parts of a request's head that count
pub record RequestParts : Type 0 where
  pub method : List ℕ
  pub target : List ℕ
  pub minor : ℕ
  pub lines : List Line

abbrev pub request_parts : RequestHead → RequestParts
request_parts head =
    record { method = head.method; target = head.target; minor = head.minor; lines = map name_and_value head.fields }

-- and of an answer's
pub record AnswerParts : Type 0 where
  pub code : ℕ
  pub minor : ℕ
  pub lines : List Line

abbrev pub answer_parts : ResponseHead → AnswerParts
answer_parts head =
    record { code = status_code head; minor = head.minor; lines = map name_and_value head.fields }

abbrev pub lengths : List Line → List (List ℕ)
lengths lines = values_of (codes "content-length") lines

-- The faults of a request's head: each where its test holds and none before it does.
abbrev pub request_table : RequestParts → List (Bool × HttpFault)
request_table p =
    (not (p.minor == 1), fault.Version)
    ∷ (not (bytes_eq p.method (codes "POST")), fault.Method)
    ∷ (not (bytes_eq p.target (codes "/satp")), fault.Target)
    ∷ (length (values_of (codes "host") p.lines) == 0, fault.NoHost)
    ∷ (nat_lt 1 (length (values_of (codes "host") p.lines)), fault.TwoHosts)
    ∷ (nat_lt 0 (length (values_of (codes "transfer-encoding") p.lines)), fault.Chunked)
    ∷ (has_other (codes "identity") (values_of (codes "content-encoding") p.lines), fault.Coding)
    ∷ (has_other (codes "100-continue") (values_of (codes "expect") p.lines), fault.Expect)
    ∷ (length (lengths p.lines) == 0, fault.LengthMissing)
    ∷ (is_none (agreed (lengths p.lines)), fault.LengthBad)
    ∷ (nat_lt longest (unwrap_or (agreed (lengths p.lines)) 0), fault.BodyLong (unwrap_or (agreed (lengths p.lines)) 0))
    ∷ []

-- an interim answer: a final one follows it
abbrev pub is_interim : ℕ → Bool
is_interim code = code == 100

-- answers of these codes have no body
abbrev pub is_bodiless : ℕ → Bool
is_bodiless code = (code == 100) || (code == 204)

-- The faults of an answer's head, where so many interim answers stand in a row before it.
abbrev pub answer_table : ℕ → AnswerParts → List (Bool × HttpFault)
answer_table interim p =
    (not (p.minor == 1), fault.Version)
    ∷ (is_interim p.code && nat_le most_interim interim, fault.Interim)
    ∷ (nat_lt 0 (length (values_of (codes "transfer-encoding") p.lines)), fault.Chunked)
    ∷ (has_other (codes "identity") (values_of (codes "content-encoding") p.lines), fault.Coding)
    ∷ (not (is_bodiless p.code) && (length (lengths p.lines) == 0), fault.LengthMissing)
    ∷ (not (is_bodiless p.code) && is_none (agreed (lengths p.lines)), fault.LengthBad)
    ∷ (not (is_bodiless p.code) && nat_lt longest (unwrap_or (agreed (lengths p.lines)) 0), fault.BodyLong (unwrap_or (agreed (lengths p.lines)) 0))
    ∷ []

abbrev pub table : (by : Sender) → ℕ → Head by → List (Bool × HttpFault)
table client interim head = request_table (request_parts head)
table server interim head = answer_table interim (answer_parts head)

-- the fault of the first row whose test holds
abbrev pub first_fault : List (Bool × HttpFault) → Option HttpFault
first_fault [] = None
first_fault (row ∷ rows) = if row.0 then Some row.1 else first_fault rows

-- what a head without a fault says of its body
abbrev pub request_length : RequestParts → ℕ
request_length p = unwrap_or (agreed (lengths p.lines)) 0

abbrev pub answer_length : AnswerParts → ℕ
answer_length p = if is_bodiless p.code then 0 else unwrap_or (agreed (lengths p.lines)) 0

abbrev pub body_length : (by : Sender) → Head by → ℕ
body_length client head = request_length (request_parts head)
body_length server head = answer_length (answer_parts head)

-- whether the client waits for the interim answer before it sends the body
abbrev pub expects : RequestParts → Bool
expects p = nat_lt 0 (length (values_of (codes "expect") p.lines))

-- whether the client closes the connection behind this request
abbrev pub closes : RequestParts → Bool
closes p = list_any (lists (codes "close")) (values_of (codes "connection") p.lines)

-- how many interim answers stand in a row behind this head, where `interim` stood before it
abbrev pub interim_after : (by : Sender) → ℕ → Head by → ℕ
interim_after client interim head = interim
interim_after server interim head = if is_interim (status_code head) then interim + 1 else 0
