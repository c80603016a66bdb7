-- A head that the parser found at the front of the window.
use Rattle.std.proofs.Common.{◌≡◌, ℕ, ◌<◌, ◌≤◌, List, [], ◌∷◌, ◌++◌, length, drop, ap, ◌∙◌, sym, subst, arith, append_assoc, Some}
use Rattle.std.specs.List.{flat_map}
use Rattle.std.specs.Borrow.{Bor}
use Rattle.std.specs.Option.{option_copied}
use Rattle.std.proofs.lemmas.List.{length-map}
use Rattle.httparse.specs.Grammar.{RequestHead, ResponseHead, status_code, print_blank, print_field, print_end, Field}
use Rattle.httparse.specs.Spans.{name_and_value}
use Rattle.httparse.specs.Borrowed.{AreFields, header_parts}
use Rattle.httparse.specs.declared.borrowed.Request.{Request}
use Rattle.httparse.specs.declared.borrowed.Response.{Response}
use Rattle.httparse.specs.declared.borrowed.Header.{Header}
use Rattle.satp_http.specs.Heads.{Sender, Head, head_bytes, header_lines, Reads, HasOver}
use Rattle.satp_http.specs.Table.{request_parts, answer_parts, table, first_fault}
use Rattle.satp_http.specs.Found.{IsHeadAt, request_parts_read, answer_parts_read}
use Rattle.satp_http.specs.HttpText.{HasBadHead, window}
use Rattle.satp_http.specs.declared.fault.HttpFault.{HttpFault}
use Rattle.satp_http.proofs.WindowLemmas.{whole}
use Rattle.satp_http.proofs.HeadParts.{blank_of, start_of, last_of, head_is, with_lines, with_lines_grammatical, lines_with, bytes_with, fields_of_grammar}

-- a whole head with more lines than 64 has too many
pub exceeds : (by : Sender) (bytes : List ℕ) (head : Head by) (rest : List ℕ) → Reads by bytes head rest → 64 < length (header_lines by head) → HasOver by 64 bytes
exceeds by bytes head rest reads over =
    let fields = header_lines by head in
    let front : List ℕ = print_blank (blank_of by head) ++ (start_of by head ++ 10 ∷ flat_map print_field fields) in (
      front,
      print_end (last_of by head) ++ rest,
      reads.1 ∙ head_is by head rest ∙ regroup (print_blank (blank_of by head)) (start_of by head) (flat_map print_field fields) (print_end (last_of by head) ++ rest),
      with_lines by head fields,
      (with_lines_grammatical by head fields reads.0 (fields_of_grammar by head reads.0), sym (bytes_with by head fields ∙ regroup (print_blank (blank_of by head)) (start_of by head) (flat_map print_field fields) (10 ∷ []))),
      omega (arith, over, ap length (lines_with by head fields)),
    )
  where
    regroup : (a s f r : List ℕ) → a ++ (s ++ 10 ∷ (f ++ r)) ≡ (a ++ (s ++ 10 ∷ f)) ++ r
    regroup a s f r = simp append_assoc

-- a head within the limits, where it ends
pub head_at : (by : Sender) (bytes : List ℕ) (head : Head by) (start : ℕ) → Reads by (window bytes) head (drop start (window bytes)) → start ≡ length (head_bytes by head) → length (header_lines by head) ≤ 64
    → IsHeadAt by bytes start head
head_at by bytes head start reads at few =
    let w = whole 8192 bytes (head_bytes by head) start reads.1 at in
    record { head_is = record { parts = reads.0; short = subst (λ n. n ≤ 8192) at w.0; few = few }; start_is = at; fits = w.1; bytes_are = w.2 }

pub bad_head : (by : Sender) (n : ℕ) (bytes : List ℕ) (head : Head by) (start : ℕ) (f : HttpFault) → IsHeadAt by bytes start head → first_fault (table by n head) ≡ Some f → HasBadHead by n bytes f
bad_head by n bytes head start f at row = (head, drop start bytes, at.head_is, at.bytes_are, row)

-- the parts that the parser holds are the head's
pub same_request_parts : (r : Request) (h : RequestHead) (m t : Bor (List ℕ)) (v : ℕ) (method target : List ℕ) → option_copied r.method ≡ Some h.method → option_copied r.path ≡ Some h.target → r.version ≡ Some h.minor
    → r.method ≡ Some m → r.path ≡ Some t → r.version ≡ Some v → method ≡ m.now → target ≡ t.now → AreFields r.headers.now h.fields
    → request_parts_read method target v r.headers.now ≡ request_parts h
same_request_parts r h m t v method target rm rt rv um ut uv em et lines =
    let em2 : m.now ≡ h.method = cc in
    let et2 : t.now ≡ h.target = cc in
    let ev : v ≡ h.minor = cc in
    λ i. record { method = (em ∙ em2) i; target = (et ∙ et2) i; minor = ev i; lines = lines i }

pub same_answer_parts : (r : Response) (h : ResponseHead) (c v : ℕ) → r.code ≡ Some (status_code h) → r.version ≡ Some h.minor → r.code ≡ Some c → r.version ≡ Some v → AreFields r.headers.now h.fields
    → answer_parts_read c v r.headers.now ≡ answer_parts h
same_answer_parts r h c v rc rv uc uv lines =
    let ec : c ≡ status_code h = cc in
    let ev : v ≡ h.minor = cc in
    λ i. record { code = ec i; minor = ev i; lines = lines i }

pub few_fields : (headers : List Header) (fields : List Field) → AreFields headers fields → length headers ≤ 64 → length fields ≤ 64
few_fields headers fields same few = omega (arith, ap length same, length-map headers header_parts, length-map fields name_and_value)

pub many_fields : (headers : List Header) (fields : List Field) → AreFields headers fields → 64 < length headers → 64 < length fields
many_fields headers fields same many = omega (arith, ap length same, length-map headers header_parts, length-map fields name_and_value)
