-- A request that a drive posts, and an answer to it, at the front of bytes.
use Rattle.std.proofs.Common.{◌≡◌, inl, inr, ℕ, false, List, [], ◌++◌, length, Option, Some, None, refl, ap, ◌∙◌, arith, append_assoc, IsTrue, ◌≤◌}
use Rattle.std.proofs.lemmas.List.{length-append}
use Rattle.httparse.specs.Grammar.{ResponseHead, status_code}
use Rattle.satp_base.specs.Names.{is_address}
use Rattle.satp_http.specs.Heads.{Sender, client, server, Head, IsGrammatical, Reads, head_bytes}
use Rattle.satp_http.specs.HttpText.{IsSent, IsUnfinished, Sent, sent_bytes}
use Rattle.satp_http.specs.Table.{body_length}
use Rattle.satp_http.specs.Written.{request_text, response_text}
use Rattle.satp_http.proofs.HeadParts.{one_head}
use Rattle.satp_http.proofs.WindowLemmas.{split}
use Rattle.satp_wire_laws.proofs.WrittenHeads.{code_200, code_204, parts_200, parts_204, posted_head, posted_parts, posted_size, posted_text, said_200, said_204, size_200, size_204, text_200, text_204}

-- a head of the grammar, and a body of the length that it says
pub record Front (by : Sender) (head : Head by) (body : List ℕ) : Type 0 where
  pub parts : IsGrammatical by head
  pub size : body_length by head ≡ length body

reads : (by : Sender) (n : ℕ) (s : Sent by) (rest : List ℕ) → IsSent by n s → Reads by (sent_bytes by s ++ rest) s.head (s.body ++ rest)
reads by n s rest is = (is.head.parts, append_assoc (head_bytes by s.head) s.body rest)

reads-front : (by : Sender) (head : Head by) (body more bytes : List ℕ) → Front by head body → bytes ≡ (head_bytes by head ++ body) ++ more → Reads by bytes head (body ++ more)
reads-front by head body more bytes f e = (f.parts, e ∙ append_assoc (head_bytes by head) body more)

-- what stands at the front is that
pub record SameFront (by : Sender) (head : Head by) (body more : List ℕ) (x : Sent by) (rest : List ℕ) : Type 0 where
  pub head_is : x.head ≡ head
  pub body_is : x.body ≡ body
  pub rest_is : rest ≡ more

pub same-front : (by : Sender) (n : ℕ) (head : Head by) (body more : List ℕ) (x : Sent by) (rest : List ℕ) → Front by head body → IsSent by n x → sent_bytes by x ++ rest ≡ (head_bytes by head ++ body) ++ more → SameFront by head body more x rest
same-front by n head body more x rest f is e =
    let heads = one_head by (sent_bytes by x ++ rest) x.head head (x.body ++ rest) (body ++ more) (reads by n x rest is) (reads-front by head body more (sent_bytes by x ++ rest) f e) in
    let bodies = split x.body body rest more (is.body ∙ ap (body_length by) heads.0 ∙ f.size) heads.1 in
    record { head_is = heads.0; body_is = bodies.0; rest_is = bodies.1 }

-- it is whole
pub not-unfinished : (by : Sender) (n : ℕ) (head : Head by) (body more bytes : List ℕ) → Front by head body → bytes ≡ (head_bytes by head ++ body) ++ more → IsUnfinished by n bytes → ⊥
not-unfinished by n head body more bytes f e (inl part) = part.none head (body ++ more) (reads-front by head body more bytes f e)
not-unfinished by n head body more bytes f e (inr (other, waits)) =
    let one = one_head by bytes other head waits.rest (body ++ more) (waits.head_is.parts, waits.bytes_are) (reads-front by head body more bytes f e) in
    let size = ap (body_length by) one.0 ∙ f.size in
    let all = ap length one.1 ∙ length-append body more in
    let less = waits.less in
    omega (arith, size, all, less)

-- a head that only begins to come is that
pub same-head : (by : Sender) (head other : Head by) (body more bytes rest : List ℕ) → Front by head body → bytes ≡ (head_bytes by head ++ body) ++ more → Reads by bytes other rest → other ≡ head
same-head by head other body more bytes rest f e is = (one_head by bytes other head rest (body ++ more) is (reads-front by head body more bytes f e)).0

-- ---- requests and answers

pub request-front : (at body : List ℕ) → IsTrue (is_address at) → length body ≤ 8192 → Front client (posted_head at (length body)) body
request-front at body good few = record { parts = posted_parts at (length body) good few; size = posted_size at (length body) few }

pub request-is : (at body more : List ℕ) → request_text at body ++ more ≡ (head_bytes client (posted_head at (length body)) ++ body) ++ more
request-is at body more = ap (λ (l : List ℕ). l ++ more) (posted_text at body)

-- an answer to a reply
abbrev pub body_of : Option (List ℕ) → List ℕ
body_of (Some u) = u
body_of None = []

abbrev pub code_of : Option (List ℕ) → ℕ
code_of (Some u) = 200
code_of None = 204

pub record AnswerFront (reply : Option (List ℕ)) : Type 0 where
  pub head : ResponseHead
  pub body : List ℕ
  pub front : Front server head body
  pub code : status_code head ≡ code_of reply
  pub body_is : body ≡ body_of reply
  pub text : response_text (code_of reply) (body_of reply) false ≡ head_bytes server head ++ body

pub answer-front : (reply : Option (List ℕ)) → ((u : List ℕ) → reply ≡ Some u → length u ≤ 8192) → AnswerFront reply
answer-front (Some u) short = record {
  head = said_200 (length u);
  body = u;
  front = record { parts = parts_200 (length u) (short u refl); size = size_200 (length u) (short u refl) };
  code = code_200 (length u);
  body_is = refl;
  text = text_200 u;
}
answer-front None short = record { head = said_204; body = []; front = record { parts = parts_204; size = size_204 }; code = code_204; body_is = refl; text = text_204 }
