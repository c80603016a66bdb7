-- The heads of requests and of answers, in httparse's grammar (RFC 9112, sections 2 to 5).
use Rattle.std.specs.Prelude.{◌≡◌, ◌+◌, ◌<◌, ◌⊎◌, ℕ, List, [], ◌∷◌, ◌++◌, length}
use Rattle.httparse.specs.Ascii.{line_feed}
use Rattle.httparse.specs.Grammar.{Field, RequestHead, IsRequestHead, print_request, EndsInTarget, ResponseHead, IsResponseHead, print_response}

-- ---- limits

-- the most bytes of a head, and of a body
abbrev pub longest : ℕ
longest = 8192

-- the most header lines of a head
abbrev pub most_lines : ℕ
most_lines = 64

-- the most bytes that are held: a head and a body
abbrev pub room : ℕ
room = longest + longest

-- the most answers of code 100 in a row
abbrev pub most_interim : ℕ
most_interim = 16

-- ---- heads

-- a client sends requests, and a server answers
pub data Sender : Type 0 where
  client server : Sender

abbrev pub Head : Sender → Type 0
Head client = RequestHead
Head server = ResponseHead

-- each part is of its class
abbrev pub IsGrammatical : (by : Sender) → Head by → Type 0
IsGrammatical client head = IsRequestHead head
IsGrammatical server head = IsResponseHead head

abbrev pub head_bytes : (by : Sender) → Head by → List ℕ
head_bytes client head = print_request head
head_bytes server head = print_response head

abbrev pub header_lines : (by : Sender) → Head by → List Field
header_lines client head = head.fields
header_lines server head = head.fields

-- the bytes are the head and then rest
abbrev pub Reads : (by : Sender) → List ℕ → Head by → List ℕ → Type 0
Reads by bytes head rest = IsGrammatical by head × (bytes ≡ head_bytes by head ++ rest)

-- no head stands at the front of the bytes
abbrev pub HasNone : Sender → List ℕ → Type 0
HasNone by bytes = (head : Head by) (rest : List ℕ) → ¬ (Reads by bytes head rest)

-- and none will, whatever follows
abbrev pub NeverHas : Sender → List ℕ → Type 0
NeverHas by bytes = (more : List ℕ) → HasNone by (bytes ++ more)

-- a part of the bytes, from the front, and an empty line are a head of more than `most` header lines
abbrev pub HasOver : Sender → ℕ → List ℕ → Type 0
HasOver by most bytes =
    (front : List ℕ) × (rest : List ℕ) × (bytes ≡ front ++ rest)
    × (head : Head by) × Reads by (front ++ line_feed ∷ []) head [] × (most < length (header_lines by head))

-- the bytes end within the target of a request
abbrev pub EndsWithin : Sender → List ℕ → Type 0
EndsWithin client bytes = EndsInTarget bytes
EndsWithin server bytes = ⊥

-- bytes can follow that make a head, or the target, which is judged at its end, is still coming
abbrev pub MayBecome : Sender → List ℕ → Type 0
MayBecome by bytes =
    ((more : List ℕ) × (head : Head by) × Reads by (bytes ++ more) head []) ⊎ EndsWithin by bytes
