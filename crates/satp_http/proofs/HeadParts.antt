-- A head as its empty lines, its start line, its header lines and its last line, of either sender.
use Rattle.std.proofs.Common.{◌≡◌, ℕ, List, [], ◌∷◌, ◌++◌, refl, ap, ◌∙◌, sym, subst, arith, append_assoc, Option, Some, None}
use Rattle.std.specs.Prelude.{All}
use Rattle.std.specs.List.{flat_map}
use Rattle.std.specs.Char.{is_ascii_digit}
use Rattle.httparse.specs.Grammar.{LineEnd, lf, print_end, print_blank, print_version, print_reason, reason_phrase, Field, IsField, print_field, print_section, is_uri_byte}
use Rattle.httparse.specs.Pieces.{Stops, is_newline}
use Rattle.httparse.proofs.PieceLemmas.{Stops_token}
use Rattle.httparse.proofs.GrammarLemmas.{print_request-append, print_response-append, request_unique, response_unique}
use Rattle.satp_http.specs.Heads.{Sender, client, server, Head, IsGrammatical, head_bytes, header_lines, Reads}
use Rattle.satp_http.proofs.LineLemmas.{IsLine, return_of, end_is, return_line, line-append, token_line, value_line, class_line}

abbrev pub blank_of : (by : Sender) → Head by → List LineEnd
blank_of client head = head.blank
blank_of server head = head.blank

-- the start line without its line feed
abbrev pub start_of : (by : Sender) → Head by → List ℕ
start_of client head = head.method ++ 32 ∷ (head.target ++ 32 ∷ (print_version head.minor ++ return_of head.line_end))
start_of server head = print_version head.minor ++ 32 ∷ (head.digits ++ (print_reason head.reason ++ return_of head.line_end))

abbrev pub last_of : (by : Sender) → Head by → LineEnd
last_of client head = head.last
last_of server head = head.last

pub head_is : (by : Sender) (head : Head by) (rest : List ℕ)
    → head_bytes by head ++ rest ≡ print_blank (blank_of by head) ++ (start_of by head ++ 10 ∷ (flat_map print_field (header_lines by head) ++ (print_end (last_of by head) ++ rest)))
head_is client head rest =
    let fields = flat_map print_field head.fields in
    print_request-append head rest
    ∙ ap (λ (l : List ℕ). print_blank head.blank ++ (head.method ++ 32 ∷ (head.target ++ 32 ∷ (print_version head.minor ++ l)))) (end_is head.line_end (print_section head.fields head.last ++ rest))
    ∙ regroup (print_blank head.blank) head.method head.target (print_version head.minor) (return_of head.line_end) fields (print_end head.last) rest
  where
    regroup : (a m t v c f l r : List ℕ) → a ++ (m ++ 32 ∷ (t ++ 32 ∷ (v ++ (c ++ 10 ∷ ((f ++ l) ++ r))))) ≡ a ++ ((m ++ 32 ∷ (t ++ 32 ∷ (v ++ c))) ++ 10 ∷ (f ++ (l ++ r)))
    regroup a m t v c f l r = simp append_assoc
head_is server head rest =
    let fields = flat_map print_field head.fields in
    print_response-append head rest
    ∙ ap (λ (l : List ℕ). print_blank head.blank ++ (print_version head.minor ++ 32 ∷ (head.digits ++ (print_reason head.reason ++ l)))) (end_is head.line_end (print_section head.fields head.last ++ rest))
    ∙ regroup (print_blank head.blank) (print_version head.minor) head.digits (print_reason head.reason) (return_of head.line_end) fields (print_end head.last) rest
  where
    regroup : (a v d p c f l r : List ℕ) → a ++ (v ++ 32 ∷ (d ++ (p ++ (c ++ 10 ∷ ((f ++ l) ++ r))))) ≡ a ++ ((v ++ 32 ∷ (d ++ (p ++ c))) ++ 10 ∷ (f ++ (l ++ r)))
    regroup a v d p c f l r = simp append_assoc

-- ---- the start line

version_line : (minor : ℕ) → IsLine (print_version minor)
version_line minor =
    (λ e. omega (arith, e), (λ e. omega (arith, e), (λ e. omega (arith, e), (λ e. omega (arith, e), (λ e. omega (arith, e), (λ e. omega (arith, e), (λ e. omega (arith, e), (λ e. omega (arith, e), tt))))))))

reason_line : (reason : Option (List ℕ)) → IsLine (reason_phrase reason) → IsLine (print_reason reason)
reason_line None is = tt
reason_line (Some phrase) is = (λ e. omega (arith, e), is)

pub start_line : (by : Sender) (head : Head by) → IsGrammatical by head → IsLine (start_of by head)
start_line client head is =
    let version = line-append (print_version head.minor) (return_of head.line_end) (version_line head.minor) (return_line head.line_end) in
    let target = line-append head.target (32 ∷ (print_version head.minor ++ return_of head.line_end)) (class_line is_uri_byte refl head.target is.target.1) (λ e. omega (arith, e), version) in
    line-append head.method (32 ∷ (head.target ++ 32 ∷ (print_version head.minor ++ return_of head.line_end))) (token_line head.method is.method.1) (λ e. omega (arith, e), target)
start_line server head is =
    let phrase = line-append (print_reason head.reason) (return_of head.line_end) (reason_line head.reason (value_line (reason_phrase head.reason) is.reason)) (return_line head.line_end) in
    let digits = line-append head.digits (print_reason head.reason ++ return_of head.line_end) (class_line is_ascii_digit refl head.digits is.digits.1) phrase in
    line-append (print_version head.minor) (32 ∷ (head.digits ++ (print_reason head.reason ++ return_of head.line_end))) (version_line head.minor) (λ e. omega (arith, e), digits)

pub start_stops : (by : Sender) (head : Head by) (rest : List ℕ) → IsGrammatical by head → Stops is_newline (start_of by head ++ rest)
start_stops client head rest is = subst (Stops is_newline) (sym (append_assoc head.method _ rest)) (Stops_token head.method _ is.method.0 is.method.1)
start_stops server head rest is = refl

-- ---- other header lines

abbrev pub with_lines : (by : Sender) → Head by → List Field → Head by
with_lines client head fields = record head { fields = fields; last = lf }
with_lines server head fields = record head { fields = fields; last = lf }

pub with_lines_grammatical : (by : Sender) (head : Head by) (fields : List Field) → IsGrammatical by head → All IsField fields → IsGrammatical by (with_lines by head fields)
with_lines_grammatical client head fields is each = record { method = is.method; target = is.target; target_text = is.target_text; minor = is.minor; fields = each }
with_lines_grammatical server head fields is each = record { minor = is.minor; digits = is.digits; reason = is.reason; fields = each }

pub lines_with : (by : Sender) (head : Head by) (fields : List Field) → header_lines by (with_lines by head fields) ≡ fields
lines_with client head fields = refl
lines_with server head fields = refl

pub bytes_with : (by : Sender) (head : Head by) (fields : List Field)
    → head_bytes by (with_lines by head fields) ++ [] ≡ print_blank (blank_of by head) ++ (start_of by head ++ 10 ∷ (flat_map print_field fields ++ 10 ∷ []))
bytes_with client head fields = head_is client (with_lines client head fields) []
bytes_with server head fields = head_is server (with_lines server head fields) []

-- ---- the grammar

pub fields_of_grammar : (by : Sender) (head : Head by) → IsGrammatical by head → All IsField (header_lines by head)
fields_of_grammar client head is = is.fields
fields_of_grammar server head is = is.fields

-- bytes begin with one head
pub one_head : (by : Sender) (bytes : List ℕ) (h k : Head by) (r q : List ℕ) → Reads by bytes h r → Reads by bytes k q → (h ≡ k) × (r ≡ q)
one_head client bytes h k r q x y = request_unique bytes h k r q x y
one_head server bytes h k r q x y = response_unique bytes h k r q x y
