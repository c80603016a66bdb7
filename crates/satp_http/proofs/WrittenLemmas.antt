-- What is written, as heads of the grammar.
use Rattle.std.proofs.Common.{◌≡◌, ℕ, ◌+◌, ◌<◌, ◌≤◌, Bool, true, false, cond, ◌&&◌, ◌||◌, ◌==◌, List, [], ◌∷◌, ◌++◌, map, reverse, length, refl, ap, ◌∙◌, sym, subst, arith, append_assoc, Option, Some, None, codes, decimal, IsTrue, if◌then◌else◌, ◌/◌, ◌%◌}
use Rattle.std.specs.Prelude.{All, is_none, unwrap_or, nat_lt, nat_le}
use Rattle.std.specs.List.{flat_map, list_all, list_any}
use Rattle.std.specs.Char.{is_ascii_digit, digit_value}
use Rattle.std.specs.Str.Parse.{digits_value, AllDigits}
use Rattle.std.proofs.lemmas.Bool.{eq-eqb, eqb-true, cond-false, and_from, and_parts, both_ways, lt-ltb, le-ltb, le-leb, leb-true, ltb-true, ne_eqb}
use Rattle.std.proofs.lemmas.Bool.Decides.{nat_tests}
use Rattle.std.proofs.lemmas.Fmt.{decimal_is_IsNumeral, length-decimal-le, decimal_nonempty, decimal_step, decimal_digit}
use Rattle.std.proofs.lemmas.List.{append-nil, length-append}
use Rattle.std.proofs.lemmas.List.Elements.{All-head, All-cons, All-nil, All-weaker, All-append}
use Rattle.std.proofs.lemmas.List.Sums.{AllPass-from_list_all, list_all-from_AllPass}
use Rattle.std.proofs.lemmas.Grind.{flat_map-append}
use Rattle.std.proofs.lemmas.Str.{IsUtf8-from_ascii}
use Rattle.std.proofs.lemmas.Str.Ascii.{IsAscii-from_all}
use Rattle.httparse.specs.Ascii.{crlf_bytes}
use Rattle.httparse.specs.Grammar.{AllPass, is_token_byte, is_value_byte, is_uri_byte, is_ows, skip_ows, trim_ows, crlf, Field, IsField, print_field, RequestHead, IsRequestHead, print_request, ResponseHead, print_response}
use Rattle.httparse.specs.Spans.{name_and_value}
use Rattle.httparse.proofs.TrimLemmas.{trim_ows_space, AllPass-reverse}
use Rattle.satp_base.specs.Names.{is_address, is_address_byte}
use Rattle.satp_http.specs.Written.{head_line, content_lines, request_text, is_answer_code, phrase, allow_lines, kind_lines, close_lines, response_text}
use Rattle.satp_http.specs.Heads.{Sender, client, server, head_bytes}
use Rattle.satp_http.specs.Lines.{agreed, is_length, writes}
use Rattle.satp_http.specs.Table.{first_fault, AnswerParts, answer_parts, answer_length, interim_after, is_interim, answer_table}
use Rattle.satp_http.specs.HttpText.{HttpText, Sent, sent_bytes, IsSent, AreSent, interim_behind, Ends, answers_of}
use Rattle.satp_http.specs.Laws.{WrittenRequestIsRead, WrittenAnswerIsRead}
use Rattle.satp_http.specs.declared.fault.HttpFault.{HttpFault}
use Rattle.satp_http.specs.declared.requests.Asked.{Asked}
use Rattle.satp_http.specs.declared.responses.Answered.{Answered}
use Rattle.satp_http.specs.declared.fault.HttpFault.TheVariants as fault

-- ---- header lines

abbrev header : List ℕ → List ℕ → Field
header name value = record { name = name; raw = 32 ∷ value; end = crlf }

length-line : (name value : List ℕ) → length (head_line name value) ≡ length name + length value + 2
unfolding head_line
length-line name value = omega (arith, length-append (name ++ value) crlf_bytes, length-append name value)

-- a value of no white space is what is left of it
no_white : (test : ℕ → Bool) → test 32 ≡ false → test 9 ≡ false → (b : ℕ) → test b ≡ true → is_ows b ≡ false
no_white test space tab b passes = by_tests (b == 32) (b == 9) refl refl
  where
    by_tests : (s t : Bool) → (b == 32) ≡ s → (b == 9) ≡ t → (s || t) ≡ false
    by_tests true t e f = absurd (both_ways (test b) (ap test (eqb-true b 32 e) ∙ space) passes)
    by_tests false true e f = absurd (both_ways (test b) (ap test (eqb-true b 9 f) ∙ tab) passes)
    by_tests false false e f = refl

skip_none : (test : ℕ → Bool) → test 32 ≡ false → test 9 ≡ false → (v : List ℕ) → AllPass test v → skip_ows v ≡ v
skip_none test space tab [] all = refl
skip_none test space tab (b ∷ v) all = cond-false (is_ows b) (skip_ows v) (b ∷ v) (no_white test space tab b (All-head (λ x. test x ≡ true) b v all))

trimmed : (test : ℕ → Bool) → test 32 ≡ false → test 9 ≡ false → (v : List ℕ) → AllPass test v → trim_ows (32 ∷ v) ≡ v
trimmed test space tab v all = trim_ows_space v (skip_none test space tab v all) (skip_none test space tab (reverse v) (AllPass-reverse test v all))

-- ---- lengths

decimal_digits : (n : ℕ) → n ≤ 8192 → AllPass is_ascii_digit (decimal n)
decimal_digits n few = each (decimal n) (decimal_is_IsNumeral n (omega (arith, few))).0.1
  where
    digit : (c : ℕ) → digit_value c < 10 → is_ascii_digit c ≡ true
    digit c small = grind (arith, nat_tests)

    each : (ds : List ℕ) → AllDigits 10 ds → AllPass is_ascii_digit ds
    each [] all = All-nil (λ b. is_ascii_digit b ≡ true)
    each (d ∷ ds) all = All-cons (λ b. is_ascii_digit b ≡ true) d ds (digit d all.0) (each ds all.1)

agreed_length : (n : ℕ) → n ≤ 8192 → agreed (trim_ows (32 ∷ decimal n) ∷ []) ≡ Some n
agreed_length n few =
    let digits = decimal_digits n few in
    let value : digits_value 10 (decimal n) ≡ n = (decimal_is_IsNumeral n (omega (arith, few))).1 in
    let some = decimal_nonempty n (omega (arith, few)) in
    let short : length (decimal n) ≤ 19 = length-decimal-le 19 n (omega arith) (omega (arith, few)) (omega (arith, few)) in
    let good : is_length (decimal n) ≡ true =
    and_from _ _ (lt-ltb 0 (length (decimal n)) some) (and_from _ _ (le-leb (length (decimal n)) 19 short) (list_all-from_AllPass is_ascii_digit (decimal n) digits)) in
    let wrote : writes n (decimal n) ≡ true = and_from (is_length (decimal n)) (digits_value 10 (decimal n) == n) good (eq-eqb _ n value) in
    ap (λ (v : List ℕ). agreed (v ∷ [])) (trimmed is_ascii_digit refl refl (decimal n) digits)
    ∙ (λ i. cond (writes (value i) (decimal n) && true) (Some (value i)) None)
    ∙ ap (λ (t : Bool). cond (t && true) (Some n) None) wrote

no_length_fault : (n : ℕ) → n ≤ 8192
    → cond (is_none (agreed (trim_ows (32 ∷ decimal n) ∷ []))) (Some fault.LengthBad) (cond (nat_lt 8192 (unwrap_or (agreed (trim_ows (32 ∷ decimal n) ∷ [])) 0)) (Some (fault.BodyLong (unwrap_or (agreed (trim_ows (32 ∷ decimal n) ∷ [])) 0))) None) ≡ None
no_length_fault n few =
    ap (λ (o : Option ℕ). cond (is_none o) (Some fault.LengthBad) (cond (nat_lt 8192 (unwrap_or o 0)) (Some (fault.BodyLong (unwrap_or o 0))) None)) (agreed_length n few)
    ∙ cond-false (nat_lt 8192 n) (Some (fault.BodyLong n)) None (le-ltb 8192 n few)

-- ---- one in front

in_front : (by : Sender) (one : Sent by) (sent : List (Sent by)) (end : Option HttpFault) (more : List ℕ) → IsSent by 0 one → interim_after by 0 one.head ≡ 0 → HttpText by sent end more → HttpText by (one ∷ sent) end (sent_bytes by one ++ more)
in_front by one sent end more is after x = record {
  each = (is, subst (λ (n : ℕ). AreSent by n sent) (sym after) x.each);
  rest = x.rest;
  bytes_are = ap (λ (l : List ℕ). sent_bytes by one ++ l) x.bytes_are ∙ sym (append_assoc (sent_bytes by one) (flat_map (sent_bytes by) sent) x.rest);
  ends = subst (λ (n : ℕ). Ends by (interim_behind by n sent) x.rest end) (sym after) x.ends;
}

-- ---- requests

abbrev posted_head : List ℕ → ℕ → RequestHead
posted_head at n = record {
  blank = [];
  method = codes "POST";
  target = codes "/satp";
  minor = 1;
  line_end = crlf;
  fields = header (codes "Host") at ∷ header (codes "Content-Type") (codes "application/jose") ∷ header (codes "Content-Length") (decimal n) ∷ [];
  last = crlf;
}

abbrev posted : List ℕ → List ℕ → Sent client
posted at body = record { head = posted_head at (length body); body = body }

posted_bytes : (at : List ℕ) (n : ℕ) → head_bytes client (posted_head at n) ≡ head_line (codes "POST /satp ") (codes "HTTP/1.1") ++ ((head_line (codes "Host: ") at ++ (head_line (codes "Content-Type: ") (codes "application/jose") ++ (head_line (codes "Content-Length: ") (decimal n) ++ []))) ++ crlf_bytes)
unfolding print_request head_line
posted_bytes at n = refl

posted_text : (at body : List ℕ) → request_text at body ≡ sent_bytes client (posted at body)
unfolding request_text content_lines
posted_text at body =
    regroup (head_line (codes "POST /satp ") (codes "HTTP/1.1")) (head_line (codes "Host: ") at) (head_line (codes "Content-Type: ") (codes "application/jose")) (head_line (codes "Content-Length: ") (decimal (length body))) crlf_bytes body
    ∙ ap (λ (l : List ℕ). l ++ body) (sym (posted_bytes at (length body)))
  where
    regroup : (a b c d e f : List ℕ) → a ++ b ++ (c ++ d) ++ e ++ f ≡ (a ++ ((b ++ (c ++ (d ++ []))) ++ e)) ++ f
    regroup a b c d e f = simp (append_assoc, append-nil)

value_of_class : (test : ℕ → Bool) → ((b : ℕ) → test b ≡ true → is_value_byte b ≡ true) → (v : List ℕ) → AllPass test v → AllPass is_value_byte (32 ∷ v)
value_of_class test weaker v all =
    All-cons (λ b. is_value_byte b ≡ true) 32 v refl (All-weaker (λ b. test b ≡ true) (λ b. is_value_byte b ≡ true) weaker v all)

field_of : (name v : List ℕ) → list_all is_token_byte name ≡ true → 0 < length name → AllPass is_value_byte (32 ∷ v) → IsField (header name v)
field_of name v token some value = record { name = (some, AllPass-from_list_all is_token_byte name token); raw = value }

digit_value_byte : (b : ℕ) → is_ascii_digit b ≡ true → is_value_byte b ≡ true
digit_value_byte b digit = grind (arith, nat_tests)

address_value_byte : (b : ℕ) → is_address_byte b ≡ true → is_value_byte b ≡ true
address_value_byte b good = grind (arith, nat_tests)

address_bytes : (at : List ℕ) → IsTrue (is_address at) → (length at ≤ 64) × AllPass is_address_byte at
address_bytes at good =
    let outer = and_parts (nat_le 1 (length at) && nat_le (length at) 64) (list_all is_address_byte at) good in
    let inner = and_parts (nat_le 1 (length at)) (nat_le (length at) 64) outer.0 in
    (leb-true (length at) 64 inner.1, AllPass-from_list_all is_address_byte at outer.1)

jose_value : AllPass is_value_byte (32 ∷ codes "application/jose")
jose_value = AllPass-from_list_all is_value_byte (32 ∷ codes "application/jose") refl

length_value : (n : ℕ) → n ≤ 8192 → AllPass is_value_byte (32 ∷ decimal n)
length_value n few = value_of_class is_ascii_digit digit_value_byte (decimal n) (decimal_digits n few)

ascii_uri : (b : ℕ) → (is_uri_byte b && nat_lt b 128) ≡ true → b < 128
ascii_uri b good = ltb-true b 128 (and_parts (is_uri_byte b) (nat_lt b 128) good).1

posted_parts : (at : List ℕ) (n : ℕ) → IsTrue (is_address at) → n ≤ 8192 → IsRequestHead (posted_head at n)
unfolding is_token_byte
posted_parts at n good few =
    let last : List Field = header (codes "Content-Length") (decimal n) ∷ [] in
    let rest : List Field = header (codes "Content-Type") (codes "application/jose") ∷ last in
    let host = field_of (codes "Host") at refl (omega arith) (value_of_class is_address_byte address_value_byte at (address_bytes at good).1) in
    let kind = field_of (codes "Content-Type") (codes "application/jose") refl (omega arith) jose_value in
    let size = field_of (codes "Content-Length") (decimal n) refl (omega arith) (length_value n few) in
    record {
      method = (omega arith, AllPass-from_list_all is_token_byte (codes "POST") refl);
      target = (omega arith, AllPass-from_list_all is_uri_byte (codes "/satp") refl);
      target_text = IsUtf8-from_ascii (codes "/satp") (IsAscii-from_all (codes "/satp") (All-weaker (λ b. (is_uri_byte b && nat_lt b 128) ≡ true) (λ b. b < 128) ascii_uri (codes "/satp") (AllPass-from_list_all (λ b. is_uri_byte b && nat_lt b 128) (codes "/satp") refl)));
      minor = omega arith;
      fields = All-cons IsField (header (codes "Host") at) rest host (All-cons IsField (header (codes "Content-Type") (codes "application/jose")) last kind (All-cons IsField (header (codes "Content-Length") (decimal n)) [] size (All-nil IsField)));
    }

posted_length : (at : List ℕ) (n : ℕ) → IsTrue (is_address at) → n ≤ 8192 → length (head_bytes client (posted_head at n)) ≤ 8192
posted_length at n good few =
    let a = head_line (codes "POST /satp ") (codes "HTTP/1.1") in
    let b = head_line (codes "Host: ") at in
    let c = head_line (codes "Content-Type: ") (codes "application/jose") in
    let d = head_line (codes "Content-Length: ") (decimal n) in
    let short : length (decimal n) ≤ 19 = length-decimal-le 19 n (omega arith) (omega (arith, few)) (omega (arith, few)) in
    let la : length a ≡ 21 = length-line (codes "POST /satp ") (codes "HTTP/1.1") in
    let lb : length b ≡ 6 + length at + 2 = length-line (codes "Host: ") at in
    let lc : length c ≡ 32 = length-line (codes "Content-Type: ") (codes "application/jose") in
    let ld : length d ≡ 16 + length (decimal n) + 2 = length-line (codes "Content-Length: ") (decimal n) in
    let whole : length (head_bytes client (posted_head at n)) ≡ length (a ++ ((b ++ (c ++ (d ++ []))) ++ crlf_bytes)) = ap length (posted_bytes at n) in
    omega (
      arith,
      whole,
      la,
      lb,
      lc,
      ld,
      short,
      (address_bytes at good).0,
      length-append a ((b ++ (c ++ (d ++ []))) ++ crlf_bytes),
      length-append (b ++ (c ++ (d ++ []))) crlf_bytes,
      length-append b (c ++ (d ++ [])),
      length-append c (d ++ []),
      length-append d [],
    )

posted_sent : (at body : List ℕ) → IsTrue (is_address at) → length body ≤ 8192 → IsSent client 0 (posted at body)
posted_sent at body good few = record {
  head = record { parts = posted_parts at (length body) good few; short = posted_length at (length body) good few; few = omega arith };
  clean = no_length_fault (length body) few;
  body = sym (ap (λ (o : Option ℕ). unwrap_or o 0) (agreed_length (length body) few));
}

pub written_request_is_read : WrittenRequestIsRead
written_request_is_read at body more requests end good few x = (
  posted at body ∷ x.0,
  ap (λ (l : List Asked). record { body = body; close = false } ∷ l) x.1,
  subst (λ (l : List ℕ). HttpText client (posted at body ∷ x.0) end (l ++ more)) (sym (posted_text at body)) (in_front client (posted at body) x.0 end more (posted_sent at body good few) refl x.2),
)

-- ---- answers

abbrev kind_of : ℕ → List ℕ
kind_of code = if code == 200 then codes "application/jose" else codes "text/plain"

abbrev allow_fields : ℕ → List Field
allow_fields code = if code == 405 then header (codes "Allow") (codes "POST") ∷ [] else []

abbrev kind_fields : ℕ → ℕ → List Field
kind_fields code n = if code == 204 then [] else header (codes "Content-Type") (kind_of code) ∷ header (codes "Content-Length") (decimal n) ∷ []

abbrev close_fields : Bool → List Field
close_fields close = if close then header (codes "Connection") (codes "close") ∷ [] else []

abbrev said_head : ℕ → ℕ → Bool → ResponseHead
said_head code n close = record {
  blank = [];
  minor = 1;
  digits = decimal code;
  reason = Some (phrase code);
  line_end = crlf;
  fields = allow_fields code ++ (kind_fields code n ++ close_fields close);
  last = crlf;
}

abbrev said : ℕ → List ℕ → Bool → Sent server
said code body close = record { head = said_head code (length body) close; body = body }

-- the header lines as they are written
allow_lines_are : (code : ℕ) → flat_map print_field (allow_fields code) ≡ allow_lines code
unfolding allow_lines head_line
allow_lines_are code = by_test (code == 405)
  where
    by_test : (t : Bool) → flat_map print_field (cond t (header (codes "Allow") (codes "POST") ∷ []) []) ≡ cond t (head_line (codes "Allow: ") (codes "POST")) []
    by_test true = refl
    by_test false = refl

kind_lines_are : (code n : ℕ) → flat_map print_field (kind_fields code n) ≡ kind_lines code n
unfolding kind_lines content_lines head_line
kind_lines_are code n = by_test (code == 204)
  where
    by_test : (t : Bool) → flat_map print_field (cond t [] (header (codes "Content-Type") (kind_of code) ∷ header (codes "Content-Length") (decimal n) ∷ [])) ≡ cond t [] (content_lines (kind_of code) n)
    by_test true = refl
    by_test false = ap (λ (l : List ℕ). head_line (codes "Content-Type: ") (kind_of code) ++ l) (append-nil (head_line (codes "Content-Length: ") (decimal n)))

close_lines_are : (close : Bool) → flat_map print_field (close_fields close) ≡ close_lines close
unfolding close_lines head_line
close_lines_are true = refl
close_lines_are false = refl

fields_are : (code n : ℕ) (close : Bool) → flat_map print_field (allow_fields code ++ (kind_fields code n ++ close_fields close)) ≡ allow_lines code ++ (kind_lines code n ++ close_lines close)
fields_are code n close =
    flat_map-append print_field (allow_fields code) (kind_fields code n ++ close_fields close)
    ∙ (λ i. allow_lines_are code i ++ (flat_map-append print_field (kind_fields code n) (close_fields close) ∙ (λ j. kind_lines_are code n j ++ close_lines_are close j)) i)

said_bytes : (code n : ℕ) (close : Bool) → head_bytes server (said_head code n close) ≡ (codes "HTTP/1.1 " ++ decimal code) ++ (head_line (codes " ") (phrase code) ++ ((allow_lines code ++ (kind_lines code n ++ close_lines close)) ++ crlf_bytes))
unfolding print_response head_line
said_bytes code n close =
    regroup (codes "HTTP/1.1") (decimal code) (phrase code) crlf_bytes (flat_map print_field (allow_fields code ++ (kind_fields code n ++ close_fields close)))
    ∙ ap (λ (l : List ℕ). (codes "HTTP/1.1 " ++ decimal code) ++ (head_line (codes " ") (phrase code) ++ (l ++ crlf_bytes))) (fields_are code n close)
  where
    regroup : (v d p e f : List ℕ) → v ++ (32 ∷ d) ++ (32 ∷ p) ++ e ++ (f ++ e) ≡ (v ++ 32 ∷ d) ++ (((32 ∷ p) ++ e) ++ (f ++ e))
    regroup v d p e f = simp append_assoc

said_text : (code : ℕ) (body : List ℕ) (close : Bool) → response_text code body close ≡ sent_bytes server (said code body close)
unfolding response_text
said_text code body close =
    regroup (codes "HTTP/1.1 ") (decimal code) (head_line (codes " ") (phrase code)) (allow_lines code) (kind_lines code (length body)) (close_lines close) crlf_bytes body
    ∙ ap (λ (l : List ℕ). l ++ body) (sym (said_bytes code (length body) close))
  where
    regroup : (a b c d e f g h : List ℕ) → a ++ b ++ c ++ d ++ e ++ f ++ g ++ h ≡ ((a ++ b) ++ (c ++ ((d ++ (e ++ f)) ++ g))) ++ h
    regroup a b c d e f g h = simp append_assoc

-- the parts that count of what is said
abbrev said_parts : ℕ → ℕ → Bool → AnswerParts
said_parts code n close = record { code = code; minor = 1; lines = map name_and_value (allow_fields code ++ (kind_fields code n ++ close_fields close)) }

-- what holds of each code that is answered
pub record IsCode (code : ℕ) : Type 0 where
  pub low : 100 < code
  pub high : code < 1000
  pub phrase_bytes : AllPass is_value_byte (phrase code)
  pub phrase_short : length (phrase code) ≤ 40
  pub clean : (n : ℕ) (close : Bool) → n ≤ 8192 → first_fault (answer_table 0 (said_parts code n close)) ≡ None
  pub size : (n : ℕ) (close : Bool) → n ≤ 8192 → (code ≡ 204 → n ≡ 0) → n ≡ answer_length (said_parts code n close)
  pub few : (n : ℕ) (close : Bool) → length (said_head code n close).fields ≤ 4

agreed_size : (n : ℕ) → n ≤ 8192 → n ≡ unwrap_or (agreed (trim_ows (32 ∷ decimal n) ∷ [])) 0
agreed_size n small = sym (ap (λ (o : Option ℕ). unwrap_or o 0) (agreed_length n small))

by_close : (P : Bool → Type 0) (close : Bool) → P true → P false → P close
by_close P true a b = a
by_close P false a b = b

code_200 : IsCode 200
unfolding phrase
code_200 = record {
  low = omega arith;
  high = omega arith;
  phrase_bytes = AllPass-from_list_all is_value_byte (phrase 200) refl;
  phrase_short = omega arith;
  clean = λ n close small. by_close (λ v. first_fault (answer_table 0 (said_parts 200 n v)) ≡ None) close (no_length_fault n small) (no_length_fault n small);
  size = λ n close small none. by_close (λ v. n ≡ answer_length (said_parts 200 n v)) close (agreed_size n small) (agreed_size n small);
  few = λ n close. by_close (λ v. length (said_head 200 n v).fields ≤ 4) close (omega arith) (omega arith);
}

code_204 : IsCode 204
unfolding phrase
code_204 = record {
  low = omega arith;
  high = omega arith;
  phrase_bytes = AllPass-from_list_all is_value_byte (phrase 204) refl;
  phrase_short = omega arith;
  clean = λ n close small. by_close (λ v. first_fault (answer_table 0 (said_parts 204 n v)) ≡ None) close refl refl;
  size = λ n close small none. none refl;
  few = λ n close. by_close (λ v. length (said_head 204 n v).fields ≤ 4) close (omega arith) (omega arith);
}

code_400 : IsCode 400
unfolding phrase
code_400 = record {
  low = omega arith;
  high = omega arith;
  phrase_bytes = AllPass-from_list_all is_value_byte (phrase 400) refl;
  phrase_short = omega arith;
  clean = λ n close small. by_close (λ v. first_fault (answer_table 0 (said_parts 400 n v)) ≡ None) close (no_length_fault n small) (no_length_fault n small);
  size = λ n close small none. by_close (λ v. n ≡ answer_length (said_parts 400 n v)) close (agreed_size n small) (agreed_size n small);
  few = λ n close. by_close (λ v. length (said_head 400 n v).fields ≤ 4) close (omega arith) (omega arith);
}

code_404 : IsCode 404
unfolding phrase
code_404 = record {
  low = omega arith;
  high = omega arith;
  phrase_bytes = AllPass-from_list_all is_value_byte (phrase 404) refl;
  phrase_short = omega arith;
  clean = λ n close small. by_close (λ v. first_fault (answer_table 0 (said_parts 404 n v)) ≡ None) close (no_length_fault n small) (no_length_fault n small);
  size = λ n close small none. by_close (λ v. n ≡ answer_length (said_parts 404 n v)) close (agreed_size n small) (agreed_size n small);
  few = λ n close. by_close (λ v. length (said_head 404 n v).fields ≤ 4) close (omega arith) (omega arith);
}

code_405 : IsCode 405
unfolding phrase
code_405 = record {
  low = omega arith;
  high = omega arith;
  phrase_bytes = AllPass-from_list_all is_value_byte (phrase 405) refl;
  phrase_short = omega arith;
  clean = λ n close small. by_close (λ v. first_fault (answer_table 0 (said_parts 405 n v)) ≡ None) close (no_length_fault n small) (no_length_fault n small);
  size = λ n close small none. by_close (λ v. n ≡ answer_length (said_parts 405 n v)) close (agreed_size n small) (agreed_size n small);
  few = λ n close. by_close (λ v. length (said_head 405 n v).fields ≤ 4) close (omega arith) (omega arith);
}

code_409 : IsCode 409
unfolding phrase
code_409 = record {
  low = omega arith;
  high = omega arith;
  phrase_bytes = AllPass-from_list_all is_value_byte (phrase 409) refl;
  phrase_short = omega arith;
  clean = λ n close small. by_close (λ v. first_fault (answer_table 0 (said_parts 409 n v)) ≡ None) close (no_length_fault n small) (no_length_fault n small);
  size = λ n close small none. by_close (λ v. n ≡ answer_length (said_parts 409 n v)) close (agreed_size n small) (agreed_size n small);
  few = λ n close. by_close (λ v. length (said_head 409 n v).fields ≤ 4) close (omega arith) (omega arith);
}

code_411 : IsCode 411
unfolding phrase
code_411 = record {
  low = omega arith;
  high = omega arith;
  phrase_bytes = AllPass-from_list_all is_value_byte (phrase 411) refl;
  phrase_short = omega arith;
  clean = λ n close small. by_close (λ v. first_fault (answer_table 0 (said_parts 411 n v)) ≡ None) close (no_length_fault n small) (no_length_fault n small);
  size = λ n close small none. by_close (λ v. n ≡ answer_length (said_parts 411 n v)) close (agreed_size n small) (agreed_size n small);
  few = λ n close. by_close (λ v. length (said_head 411 n v).fields ≤ 4) close (omega arith) (omega arith);
}

code_413 : IsCode 413
unfolding phrase
code_413 = record {
  low = omega arith;
  high = omega arith;
  phrase_bytes = AllPass-from_list_all is_value_byte (phrase 413) refl;
  phrase_short = omega arith;
  clean = λ n close small. by_close (λ v. first_fault (answer_table 0 (said_parts 413 n v)) ≡ None) close (no_length_fault n small) (no_length_fault n small);
  size = λ n close small none. by_close (λ v. n ≡ answer_length (said_parts 413 n v)) close (agreed_size n small) (agreed_size n small);
  few = λ n close. by_close (λ v. length (said_head 413 n v).fields ≤ 4) close (omega arith) (omega arith);
}

code_415 : IsCode 415
unfolding phrase
code_415 = record {
  low = omega arith;
  high = omega arith;
  phrase_bytes = AllPass-from_list_all is_value_byte (phrase 415) refl;
  phrase_short = omega arith;
  clean = λ n close small. by_close (λ v. first_fault (answer_table 0 (said_parts 415 n v)) ≡ None) close (no_length_fault n small) (no_length_fault n small);
  size = λ n close small none. by_close (λ v. n ≡ answer_length (said_parts 415 n v)) close (agreed_size n small) (agreed_size n small);
  few = λ n close. by_close (λ v. length (said_head 415 n v).fields ≤ 4) close (omega arith) (omega arith);
}

code_417 : IsCode 417
unfolding phrase
code_417 = record {
  low = omega arith;
  high = omega arith;
  phrase_bytes = AllPass-from_list_all is_value_byte (phrase 417) refl;
  phrase_short = omega arith;
  clean = λ n close small. by_close (λ v. first_fault (answer_table 0 (said_parts 417 n v)) ≡ None) close (no_length_fault n small) (no_length_fault n small);
  size = λ n close small none. by_close (λ v. n ≡ answer_length (said_parts 417 n v)) close (agreed_size n small) (agreed_size n small);
  few = λ n close. by_close (λ v. length (said_head 417 n v).fields ≤ 4) close (omega arith) (omega arith);
}

code_431 : IsCode 431
unfolding phrase
code_431 = record {
  low = omega arith;
  high = omega arith;
  phrase_bytes = AllPass-from_list_all is_value_byte (phrase 431) refl;
  phrase_short = omega arith;
  clean = λ n close small. by_close (λ v. first_fault (answer_table 0 (said_parts 431 n v)) ≡ None) close (no_length_fault n small) (no_length_fault n small);
  size = λ n close small none. by_close (λ v. n ≡ answer_length (said_parts 431 n v)) close (agreed_size n small) (agreed_size n small);
  few = λ n close. by_close (λ v. length (said_head 431 n v).fields ≤ 4) close (omega arith) (omega arith);
}

code_501 : IsCode 501
unfolding phrase
code_501 = record {
  low = omega arith;
  high = omega arith;
  phrase_bytes = AllPass-from_list_all is_value_byte (phrase 501) refl;
  phrase_short = omega arith;
  clean = λ n close small. by_close (λ v. first_fault (answer_table 0 (said_parts 501 n v)) ≡ None) close (no_length_fault n small) (no_length_fault n small);
  size = λ n close small none. by_close (λ v. n ≡ answer_length (said_parts 501 n v)) close (agreed_size n small) (agreed_size n small);
  few = λ n close. by_close (λ v. length (said_head 501 n v).fields ≤ 4) close (omega arith) (omega arith);
}

code_503 : IsCode 503
unfolding phrase
code_503 = record {
  low = omega arith;
  high = omega arith;
  phrase_bytes = AllPass-from_list_all is_value_byte (phrase 503) refl;
  phrase_short = omega arith;
  clean = λ n close small. by_close (λ v. first_fault (answer_table 0 (said_parts 503 n v)) ≡ None) close (no_length_fault n small) (no_length_fault n small);
  size = λ n close small none. by_close (λ v. n ≡ answer_length (said_parts 503 n v)) close (agreed_size n small) (agreed_size n small);
  few = λ n close. by_close (λ v. length (said_head 503 n v).fields ≤ 4) close (omega arith) (omega arith);
}

code_505 : IsCode 505
unfolding phrase
code_505 = record {
  low = omega arith;
  high = omega arith;
  phrase_bytes = AllPass-from_list_all is_value_byte (phrase 505) refl;
  phrase_short = omega arith;
  clean = λ n close small. by_close (λ v. first_fault (answer_table 0 (said_parts 505 n v)) ≡ None) close (no_length_fault n small) (no_length_fault n small);
  size = λ n close small none. by_close (λ v. n ≡ answer_length (said_parts 505 n v)) close (agreed_size n small) (agreed_size n small);
  few = λ n close. by_close (λ v. length (said_head 505 n v).fields ≤ 4) close (omega arith) (omega arith);
}

one_of : (c code : ℕ) (rest : Bool) → IsCode c → (rest ≡ true → IsCode code) → ((c == code) || rest) ≡ true → IsCode code
one_of c code rest is later e = by_test (c == code) refl e
  where
    by_test : (t : Bool) → (c == code) ≡ t → (t || rest) ≡ true → IsCode code
    by_test true same x = subst IsCode (eqb-true c code same) is
    by_test false same x = later x

pub answered_code : (code : ℕ) → is_answer_code code ≡ true → IsCode code
answered_code code = (one_of 200 code (list_any (λ c. c == code) (204 ∷ 400 ∷ 404 ∷ 405 ∷ 409 ∷ 411 ∷ 413 ∷ 415 ∷ 417 ∷ 431 ∷ 501 ∷ 503 ∷ 505 ∷ [])) code_200 (one_of 204 code (list_any (λ c. c == code) (400 ∷ 404 ∷ 405 ∷ 409 ∷ 411 ∷ 413 ∷ 415 ∷ 417 ∷ 431 ∷ 501 ∷ 503 ∷ 505 ∷ [])) code_204 (one_of 400 code (list_any (λ c. c == code) (404 ∷ 405 ∷ 409 ∷ 411 ∷ 413 ∷ 415 ∷ 417 ∷ 431 ∷ 501 ∷ 503 ∷ 505 ∷ [])) code_400 (one_of 404 code (list_any (λ c. c == code) (405 ∷ 409 ∷ 411 ∷ 413 ∷ 415 ∷ 417 ∷ 431 ∷ 501 ∷ 503 ∷ 505 ∷ [])) code_404 (one_of 405 code (list_any (λ c. c == code) (409 ∷ 411 ∷ 413 ∷ 415 ∷ 417 ∷ 431 ∷ 501 ∷ 503 ∷ 505 ∷ [])) code_405 (one_of 409 code (list_any (λ c. c == code) (411 ∷ 413 ∷ 415 ∷ 417 ∷ 431 ∷ 501 ∷ 503 ∷ 505 ∷ [])) code_409 (one_of 411 code (list_any (λ c. c == code) (413 ∷ 415 ∷ 417 ∷ 431 ∷ 501 ∷ 503 ∷ 505 ∷ [])) code_411 (one_of 413 code (list_any (λ c. c == code) (415 ∷ 417 ∷ 431 ∷ 501 ∷ 503 ∷ 505 ∷ [])) code_413 (one_of 415 code (list_any (λ c. c == code) (417 ∷ 431 ∷ 501 ∷ 503 ∷ 505 ∷ [])) code_415 (one_of 417 code (list_any (λ c. c == code) (431 ∷ 501 ∷ 503 ∷ 505 ∷ [])) code_417 (one_of 431 code (list_any (λ c. c == code) (501 ∷ 503 ∷ 505 ∷ [])) code_431 (one_of 501 code (list_any (λ c. c == code) (503 ∷ 505 ∷ [])) code_501 (one_of 503 code (list_any (λ c. c == code) (505 ∷ [])) code_503 (one_of 505 code false code_505 (λ e. absurd (cc))))))))))))))))

three_digits : (n : ℕ) → 100 ≤ n → n < 1000 → length (decimal n) ≡ 3
three_digits n low high =
    let tens : n / 10 < 100 = omega (arith, high) in
    let some : 10 ≤ n / 10 = omega (arith, low) in
    let hundreds : n / 10 / 10 < 10 = omega (arith, high) in
    let last : List ℕ = (48 + n % 10) ∷ [] in
    let middle : List ℕ = (48 + n / 10 % 10) ∷ [] in
    let a : length (decimal n) ≡ length (decimal (n / 10) ++ last) = ap length (decimal_step n (omega arith) (omega arith)) in
    let b : length (decimal (n / 10)) ≡ length (decimal (n / 10 / 10) ++ middle) = ap length (decimal_step (n / 10) some (omega (arith, tens))) in
    let c : length (decimal (n / 10 / 10)) ≡ 1 = ap length (decimal_digit (n / 10 / 10) hundreds) in
    omega (arith, a, b, c, length-append (decimal (n / 10)) last, length-append (decimal (n / 10 / 10)) middle)

-- ---- the fields of an answer

if_all : (t : Bool) (xs ys : List Field) → All IsField xs → All IsField ys → All IsField (cond t xs ys)
if_all true xs ys a b = a
if_all false xs ys a b = b

kind_value : (code : ℕ) → AllPass is_value_byte (32 ∷ kind_of code)
kind_value code = by_test (code == 200)
  where
    by_test : (t : Bool) → AllPass is_value_byte (32 ∷ cond t (codes "application/jose") (codes "text/plain"))
    by_test true = jose_value
    by_test false = AllPass-from_list_all is_value_byte (32 ∷ codes "text/plain") refl

said_fields : (code n : ℕ) (close : Bool) → n ≤ 8192 → All IsField (said_head code n close).fields
unfolding is_token_byte
said_fields code n close small =
    let allow = field_of (codes "Allow") (codes "POST") refl (omega arith) (AllPass-from_list_all is_value_byte (32 ∷ codes "POST") refl) in
    let kind = field_of (codes "Content-Type") (kind_of code) refl (omega arith) (kind_value code) in
    let size = field_of (codes "Content-Length") (decimal n) refl (omega arith) (length_value n small) in
    let closed = field_of (codes "Connection") (codes "close") refl (omega arith) (AllPass-from_list_all is_value_byte (32 ∷ codes "close") refl) in
    let sizes : List Field = header (codes "Content-Length") (decimal n) ∷ [] in
    let one = λ (f : Field) (is : IsField f). All-cons IsField f [] is (All-nil IsField) in
    All-append IsField (allow_fields code) (kind_fields code n ++ close_fields close)
    (if_all (code == 405) (header (codes "Allow") (codes "POST") ∷ []) [] (one (header (codes "Allow") (codes "POST")) allow) (All-nil IsField))
    (All-append IsField (kind_fields code n) (close_fields close)
    (if_all (code == 204) [] (header (codes "Content-Type") (kind_of code) ∷ sizes) (All-nil IsField) (All-cons IsField (header (codes "Content-Type") (kind_of code)) sizes kind (one (header (codes "Content-Length") (decimal n)) size)))
    (if_all close (header (codes "Connection") (codes "close") ∷ []) [] (one (header (codes "Connection") (codes "close")) closed) (All-nil IsField)))

-- ---- the length of an answer's head

if_short : (t : Bool) (xs ys : List ℕ) (n : ℕ) → length xs ≤ n → length ys ≤ n → length (cond t xs ys) ≤ n
if_short true xs ys n a b = a
if_short false xs ys n a b = b

allow_short : (code : ℕ) → length (allow_lines code) ≤ 13
unfolding allow_lines
allow_short code = if_short (code == 405) (head_line (codes "Allow: ") (codes "POST")) [] 13 (omega (arith, length-line (codes "Allow: ") (codes "POST"))) (omega arith)

close_short : (close : Bool) → length (close_lines close) ≤ 19
unfolding close_lines
close_short close = if_short close (head_line (codes "Connection: ") (codes "close")) [] 19 (omega (arith, length-line (codes "Connection: ") (codes "close"))) (omega arith)

kind_short : (code n : ℕ) → n ≤ 8192 → length (kind_lines code n) ≤ 69
unfolding kind_lines content_lines
kind_short code n small =
    let short : length (decimal n) ≤ 19 = length-decimal-le 19 n (omega arith) (omega (arith, small)) (omega (arith, small)) in
    let kind : length (kind_of code) ≤ 16 = if_short (code == 200) (codes "application/jose") (codes "text/plain") 16 (omega arith) (omega arith) in
    let first : length (head_line (codes "Content-Type: ") (kind_of code)) ≡ 14 + length (kind_of code) + 2 = length-line (codes "Content-Type: ") (kind_of code) in
    let second : length (head_line (codes "Content-Length: ") (decimal n)) ≡ 16 + length (decimal n) + 2 = length-line (codes "Content-Length: ") (decimal n) in
    if_short (code == 204) [] (head_line (codes "Content-Type: ") (kind_of code) ++ head_line (codes "Content-Length: ") (decimal n)) 69 (omega arith)
    (omega (arith, first, second, kind, short, length-append (head_line (codes "Content-Type: ") (kind_of code)) (head_line (codes "Content-Length: ") (decimal n))))

said_length : (code n : ℕ) (close : Bool) → IsCode code → n ≤ 8192 → length (head_bytes server (said_head code n close)) ≤ 8192
said_length code n close is small =
    let a : List ℕ = codes "HTTP/1.1 " ++ decimal code in
    let b = head_line (codes " ") (phrase code) in
    let c = allow_lines code in
    let d = kind_lines code n in
    let e = close_lines close in
    let la : length a ≡ 9 + length (decimal code) = length-append (codes "HTTP/1.1 ") (decimal code) in
    let lb : length b ≡ 1 + length (phrase code) + 2 = length-line (codes " ") (phrase code) in
    let whole : length (head_bytes server (said_head code n close)) ≡ length (a ++ (b ++ ((c ++ (d ++ e)) ++ crlf_bytes))) = ap length (said_bytes code n close) in
    omega (
      arith,
      whole,
      la,
      lb,
      three_digits code (omega (arith, is.low)) is.high,
      is.phrase_short,
      allow_short code,
      kind_short code n small,
      close_short close,
      length-append a (b ++ ((c ++ (d ++ e)) ++ crlf_bytes)),
      length-append b ((c ++ (d ++ e)) ++ crlf_bytes),
      length-append (c ++ (d ++ e)) crlf_bytes,
      length-append c (d ++ e),
      length-append d e,
    )

-- ---- an answer

said_code : (code : ℕ) → IsCode code → digits_value 10 (decimal code) ≡ code
said_code code is = (decimal_is_IsNumeral code (omega (arith, is.high))).1

said_sent : (code : ℕ) (body : List ℕ) (close : Bool) → IsCode code → (code ≡ 204 → body ≡ []) → length body ≤ 8192 → IsSent server 0 (said code body close)
said_sent code body close is empty small =
    let n = length body in
    let parts : answer_parts (said_head code n close) ≡ said_parts code n close = (λ i. record { code = said_code code is i; minor = 1; lines = map name_and_value (said_head code n close).fields }) in
    record {
      head = record {
        parts = record {
          minor = omega arith;
          digits = (three_digits code (omega (arith, is.low)) is.high, decimal_digits code (omega (arith, is.high)));
          reason = is.phrase_bytes;
          fields = said_fields code n close small;
        };
        short = said_length code n close is small;
        few = omega (arith, is.few n close);
      };
      clean = ap (λ (p : AnswerParts). first_fault (answer_table 0 p)) parts ∙ is.clean n close small;
      body = is.size n close small (λ e. ap length (empty e)) ∙ sym (ap answer_length parts);
    }

said_final : (code : ℕ) → IsCode code → is_interim (digits_value 10 (decimal code)) ≡ false
said_final code is = ap is_interim (said_code code is) ∙ ne_eqb code 100 (λ e. omega (arith, e, is.low))

pub written_answer_is_read : WrittenAnswerIsRead
written_answer_is_read code body more close answers end answered empty small x =
    let is = answered_code code answered in
    let final = said_final code is in
    let after = cond-false (is_interim (digits_value 10 (decimal code))) 1 0 final in (
      said code body close ∷ x.0,
      (λ i. record { code = sym (said_code code is) i; body = body } ∷ x.1 i)
          ∙ ap (λ (l : List Answered). l ++ answers_of x.0) (sym (cond-false (is_interim (digits_value 10 (decimal code))) [] (record { code = digits_value 10 (decimal code); body = body } ∷ []) final)),
      subst (λ (l : List ℕ). HttpText server (said code body close ∷ x.0) end (l ++ more)) (sym (said_text code body close)) (in_front server (said code body close) x.0 end more (said_sent code body close is empty small) after x.2),
    )
