-- What is found at the front of the bytes.
use Rattle.std.specs.Prelude.{◌≡◌, ◌≤◌, ◌<◌, ℕ, ◌+◌, ◌==◌, ◌&&◌, Bool, nat_lt, List, [], ◌∷◌, ◌++◌, length, drop, Some, None, if◌then◌else◌}
use Rattle.std.specs.List.{count_by}
use Rattle.httparse.specs.Ascii.{line_feed, carriage_return}
use Rattle.httparse.specs.Grammar.{RequestHead, ResponseHead}
use Rattle.httparse.specs.declared.borrowed.Header.{Header}
use Rattle.satp_http.specs.declared.fault.HttpFault.{HttpFault}
use Rattle.satp_http.specs.declared.head.Found.{Found}
use Rattle.satp_http.specs.declared.head.Found.TheVariants as found
use Rattle.satp_http.specs.declared.request_head.Framing.{Framing}
use Rattle.satp_http.specs.declared.answer_head.AnswerFraming.{AnswerFraming}
use Rattle.satp_http.specs.declared.responses.Front.{Front}
use Rattle.satp_http.specs.Feeds.{Passes}
use Rattle.satp_http.specs.Heads.{Sender, client, server, Head, head_bytes, longest, most_interim, most_lines}
use Rattle.satp_http.specs.LineLists.{lines_of}
use Rattle.satp_http.specs.Table.{RequestParts, AnswerParts, request_parts, answer_parts, request_table, answer_table, first_fault, request_length, answer_length, expects, closes}
use Rattle.satp_http.specs.HttpText.{IsHead, HasFault, IsPart}

-- ---- whole lines

-- the bytes behind the empty lines at the front
abbrev pub behind_empty_lines : List ℕ → List ℕ
behind_empty_lines [] = []
behind_empty_lines (a ∷ []) = if a == line_feed then [] else a ∷ []
behind_empty_lines (a ∷ b ∷ bytes) =
    if a == line_feed then behind_empty_lines (b ∷ bytes)
    else (if a == carriage_return && b == line_feed then behind_empty_lines bytes else a ∷ b ∷ bytes)

abbrev pub line_feeds : List ℕ → ℕ
line_feeds bytes = count_by (λ b. b == line_feed) bytes

-- the start line and more lines behind it than a head may have end in these bytes
abbrev pub has_many_lines : List ℕ → Bool
has_many_lines bytes = nat_lt (most_lines + 1) (line_feeds (behind_empty_lines bytes))

-- ---- heads

abbrev pub request_parts_read : List ℕ → List ℕ → ℕ → List Header → RequestParts
request_parts_read method target minor headers =
    record { method = method; target = target; minor = minor; lines = lines_of headers }

abbrev pub answer_parts_read : ℕ → ℕ → List Header → AnswerParts
answer_parts_read code minor headers = record { code = code; minor = minor; lines = lines_of headers }

-- what a request's head without a fault says
pub record FramesRequest (p : RequestParts) (framing : Framing) : Type 0 where
  pub clean : first_fault (request_table p) ≡ None
  pub length_is : framing.length ≡ request_length p
  pub close : framing.close ≡ closes p
  pub expects_is : framing.expects ≡ expects p
  pub bound : framing.length ≤ longest

abbrev pub IsRequestFault : RequestParts → HttpFault → Type 0
IsRequestFault p f = first_fault (request_table p) ≡ Some f

-- what an answer's head without a fault says
pub record FramesAnswer (interim : ℕ) (p : AnswerParts) (framing : AnswerFraming) : Type 0 where
  pub clean : first_fault (answer_table interim p) ≡ None
  pub code_is : framing.code ≡ p.code
  pub length_is : framing.length ≡ answer_length p
  pub bound : framing.length ≤ longest
  pub few : framing.code ≡ 100 → interim < most_interim

abbrev pub IsAnswerFault : ℕ → AnswerParts → HttpFault → Type 0
IsAnswerFault interim p f = first_fault (answer_table interim p) ≡ Some f

-- a head at the front of the bytes, which ends at start
pub record IsHeadAt (by : Sender) (bytes : List ℕ) (start : ℕ) (head : Head by) : Type 0 where
  pub head_is : IsHead by head
  pub start_is : start ≡ length (head_bytes by head)
  pub fits : start ≤ length bytes
  pub bytes_are : bytes ≡ head_bytes by head ++ drop start bytes

abbrev pub FindsRequest : List ℕ → Found Framing → Type 0
FindsRequest bytes found.More = IsPart client bytes
FindsRequest bytes (found.Fault f) = HasFault client 0 bytes f
FindsRequest bytes (found.Head start framing) =
    (head : RequestHead) × IsHeadAt client bytes start head × FramesRequest (request_parts head) framing

-- no interim answer
abbrev pub IsFinal : Found AnswerFraming → Type 0
IsFinal found.More = Unit {0}
IsFinal (found.Fault f) = Unit {0}
IsFinal (found.Head start framing) = framing.code ≡ 100 → ⊥

abbrev pub FindsAnswer : ℕ → List ℕ → Found AnswerFraming → Type 0
FindsAnswer interim bytes found.More = IsPart server bytes
FindsAnswer interim bytes (found.Fault f) = HasFault server interim bytes f
FindsAnswer interim bytes (found.Head start framing) =
    (head : ResponseHead) × IsHeadAt server bytes start head × FramesAnswer interim (answer_parts head) framing

-- ---- behind interim answers

-- the bytes from `at` on lie behind interim answers alone, and what is found there is no interim answer
pub record IsFront (passed : ℕ) (held : List ℕ) (front : Front) : Type 0 where
  pub fits : front.at ≤ length held
  pub passes : Passes passed held front.passed (drop front.at held)
  pub found : FindsAnswer front.passed (drop front.at held) front.found
  pub final : IsFinal front.found
