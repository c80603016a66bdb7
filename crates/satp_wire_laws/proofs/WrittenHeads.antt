-- The heads of the requests that a drive posts, and of the answers of code 200 and 204 to them.
use Rattle.std.proofs.Common.{◌≡◌, ℕ, ◌+◌, ◌/◌, ◌%◌, ◌≤◌, ◌<◌, Bool, true, false, cond, ◌&&◌, ◌||◌, ◌==◌, List, [], ◌∷◌, ◌++◌, reverse, length, refl, ap, ◌∙◌, sym, arith, append_assoc, Option, Some, None, codes, decimal, IsTrue, if◌then◌else◌}
use Rattle.std.specs.Prelude.{unwrap_or, nat_lt, nat_le}
use Rattle.std.specs.List.{flat_map, list_all}
use Rattle.std.specs.Char.{is_ascii_digit, digit_value}
use Rattle.std.specs.Str.Parse.{digits_value, AllDigits}
use Rattle.std.proofs.lemmas.Bool.{eq-eqb, eqb-true, cond-false, and_from, and_parts, both_ways, lt-ltb, le-leb, leb-true, ltb-true}
use Rattle.std.proofs.lemmas.Bool.Decides.{nat_tests}
use Rattle.std.proofs.lemmas.Fmt.{decimal_is_IsNumeral, length-decimal-le, decimal_digit, decimal_nonempty, decimal_step}
use Rattle.std.proofs.lemmas.List.{append-nil, length-append}
use Rattle.std.proofs.lemmas.List.Elements.{All-head, All-cons, All-nil, All-weaker}
use Rattle.std.proofs.lemmas.List.Sums.{AllPass-from_list_all, list_all-from_AllPass}
use Rattle.std.proofs.lemmas.Str.{IsUtf8-from_ascii}
use Rattle.std.proofs.lemmas.Str.Ascii.{IsAscii-from_all}
use Rattle.httparse.specs.Ascii.{crlf_bytes}
use Rattle.httparse.specs.Grammar.{AllPass, is_token_byte, is_value_byte, is_uri_byte, is_ows, skip_ows, trim_ows, crlf, Field, IsField, print_field, RequestHead, IsRequestHead, print_request, ResponseHead, IsResponseHead, print_response, status_code}
use Rattle.httparse.proofs.TrimLemmas.{trim_ows_space, AllPass-reverse}
use Rattle.satp_base.specs.Names.{is_address, is_address_byte}
use Rattle.satp_http.specs.Written.{allow_lines, close_lines, content_lines, head_line, kind_lines, phrase, request_text, response_text}
use Rattle.satp_http.specs.Heads.{client, server, head_bytes}
use Rattle.satp_http.specs.Lines.{agreed, is_length, writes}
use Rattle.satp_http.specs.Table.{answer_length, answer_parts, expects, is_bodiless, request_length, request_parts}

-- ---- header lines

abbrev header : List ℕ → List ℕ → Field
header name value = record { name = name; raw = 32 ∷ value; end = crlf }

-- a value of no white space is what is left of it
no_white : (test : ℕ → Bool) → test 32 ≡ false → test 9 ≡ false → (b : ℕ) → test b ≡ true → is_ows b ≡ false
no_white test space tab b passes = by_tests (b == 32) (b == 9) refl refl
  where
    by_tests : (s t : Bool) → (b == 32) ≡ s → (b == 9) ≡ t → (s || t) ≡ false
    by_tests true t e f = absurd (both_ways (test b) (ap test (eqb-true b 32 e) ∙ space) passes)
    by_tests false true e f = absurd (both_ways (test b) (ap test (eqb-true b 9 f) ∙ tab) passes)
    by_tests false false e f = refl

skip_none : (test : ℕ → Bool) → test 32 ≡ false → test 9 ≡ false → (v : List ℕ) → AllPass test v → skip_ows v ≡ v
skip_none test space tab [] all = refl
skip_none test space tab (b ∷ v) all = cond-false (is_ows b) (skip_ows v) (b ∷ v) (no_white test space tab b (All-head (λ x. test x ≡ true) b v all))

trimmed : (test : ℕ → Bool) → test 32 ≡ false → test 9 ≡ false → (v : List ℕ) → AllPass test v → trim_ows (32 ∷ v) ≡ v
trimmed test space tab v all = trim_ows_space v (skip_none test space tab v all) (skip_none test space tab (reverse v) (AllPass-reverse test v all))

-- ---- lengths

decimal_digits : (n : ℕ) → n ≤ 8192 → AllPass is_ascii_digit (decimal n)
decimal_digits n few = each (decimal n) (decimal_is_IsNumeral n (omega (arith, few))).0.1
  where
    digit : (c : ℕ) → digit_value c < 10 → is_ascii_digit c ≡ true
    digit c small = grind (arith, nat_tests)

    each : (ds : List ℕ) → AllDigits 10 ds → AllPass is_ascii_digit ds
    each [] all = All-nil (λ b. is_ascii_digit b ≡ true)
    each (d ∷ ds) all = All-cons (λ b. is_ascii_digit b ≡ true) d ds (digit d all.0) (each ds all.1)

agreed_length : (n : ℕ) → n ≤ 8192 → agreed (trim_ows (32 ∷ decimal n) ∷ []) ≡ Some n
agreed_length n few =
    let digits = decimal_digits n few in
    let value : digits_value 10 (decimal n) ≡ n = (decimal_is_IsNumeral n (omega (arith, few))).1 in
    let some = decimal_nonempty n (omega (arith, few)) in
    let short : length (decimal n) ≤ 19 = length-decimal-le 19 n (omega arith) (omega (arith, few)) (omega (arith, few)) in
    let good : is_length (decimal n) ≡ true =
    and_from _ _ (lt-ltb 0 (length (decimal n)) some) (and_from _ _ (le-leb (length (decimal n)) 19 short) (list_all-from_AllPass is_ascii_digit (decimal n) digits)) in
    let wrote : writes n (decimal n) ≡ true = and_from (is_length (decimal n)) (digits_value 10 (decimal n) == n) good (eq-eqb _ n value) in
    ap (λ (v : List ℕ). agreed (v ∷ [])) (trimmed is_ascii_digit refl refl (decimal n) digits)
    ∙ (λ i. cond (writes (value i) (decimal n) && true) (Some (value i)) None)
    ∙ ap (λ (t : Bool). cond (t && true) (Some n) None) wrote

-- ---- requests

abbrev pub posted_head : List ℕ → ℕ → RequestHead
posted_head at n = record {
  blank = [];
  method = codes "POST";
  target = codes "/satp";
  minor = 1;
  line_end = crlf;
  fields = header (codes "Host") at ∷ header (codes "Content-Type") (codes "application/jose") ∷ header (codes "Content-Length") (decimal n) ∷ [];
  last = crlf;
}

posted_bytes : (at : List ℕ) (n : ℕ) → head_bytes client (posted_head at n) ≡ head_line (codes "POST /satp ") (codes "HTTP/1.1") ++ ((head_line (codes "Host: ") at ++ (head_line (codes "Content-Type: ") (codes "application/jose") ++ (head_line (codes "Content-Length: ") (decimal n) ++ []))) ++ crlf_bytes)
unfolding print_request head_line
posted_bytes at n = refl

pub posted_text : (at body : List ℕ) → request_text at body ≡ head_bytes client (posted_head at (length body)) ++ body
unfolding request_text content_lines
posted_text at body =
    regroup (head_line (codes "POST /satp ") (codes "HTTP/1.1")) (head_line (codes "Host: ") at) (head_line (codes "Content-Type: ") (codes "application/jose")) (head_line (codes "Content-Length: ") (decimal (length body))) crlf_bytes body
    ∙ ap (λ (l : List ℕ). l ++ body) (sym (posted_bytes at (length body)))
  where
    regroup : (a b c d e f : List ℕ) → a ++ b ++ (c ++ d) ++ e ++ f ≡ (a ++ ((b ++ (c ++ (d ++ []))) ++ e)) ++ f
    regroup a b c d e f = simp (append_assoc, append-nil)

value_of_class : (test : ℕ → Bool) → ((b : ℕ) → test b ≡ true → is_value_byte b ≡ true) → (v : List ℕ) → AllPass test v → AllPass is_value_byte (32 ∷ v)
value_of_class test weaker v all =
    All-cons (λ b. is_value_byte b ≡ true) 32 v refl (All-weaker (λ b. test b ≡ true) (λ b. is_value_byte b ≡ true) weaker v all)

field_of : (name v : List ℕ) → list_all is_token_byte name ≡ true → 0 < length name → AllPass is_value_byte (32 ∷ v) → IsField (header name v)
field_of name v token some value = record { name = (some, AllPass-from_list_all is_token_byte name token); raw = value }

digit_value_byte : (b : ℕ) → is_ascii_digit b ≡ true → is_value_byte b ≡ true
digit_value_byte b digit = grind (arith, nat_tests)

address_value_byte : (b : ℕ) → is_address_byte b ≡ true → is_value_byte b ≡ true
address_value_byte b good = grind (arith, nat_tests)

address_bytes : (at : List ℕ) → IsTrue (is_address at) → (length at ≤ 64) × AllPass is_address_byte at
address_bytes at good =
    let outer = and_parts (nat_le 1 (length at) && nat_le (length at) 64) (list_all is_address_byte at) good in
    let inner = and_parts (nat_le 1 (length at)) (nat_le (length at) 64) outer.0 in
    (leb-true (length at) 64 inner.1, AllPass-from_list_all is_address_byte at outer.1)

jose_value : AllPass is_value_byte (32 ∷ codes "application/jose")
jose_value = AllPass-from_list_all is_value_byte (32 ∷ codes "application/jose") refl

length_value : (n : ℕ) → n ≤ 8192 → AllPass is_value_byte (32 ∷ decimal n)
length_value n few = value_of_class is_ascii_digit digit_value_byte (decimal n) (decimal_digits n few)

ascii_uri : (b : ℕ) → (is_uri_byte b && nat_lt b 128) ≡ true → b < 128
ascii_uri b good = ltb-true b 128 (and_parts (is_uri_byte b) (nat_lt b 128) good).1

pub posted_parts : (at : List ℕ) (n : ℕ) → IsTrue (is_address at) → n ≤ 8192 → IsRequestHead (posted_head at n)
unfolding is_token_byte
posted_parts at n good few =
    let last : List Field = header (codes "Content-Length") (decimal n) ∷ [] in
    let rest : List Field = header (codes "Content-Type") (codes "application/jose") ∷ last in
    let host = field_of (codes "Host") at refl (omega arith) (value_of_class is_address_byte address_value_byte at (address_bytes at good).1) in
    let kind = field_of (codes "Content-Type") (codes "application/jose") refl (omega arith) jose_value in
    let size = field_of (codes "Content-Length") (decimal n) refl (omega arith) (length_value n few) in
    record {
      method = (omega arith, AllPass-from_list_all is_token_byte (codes "POST") refl);
      target = (omega arith, AllPass-from_list_all is_uri_byte (codes "/satp") refl);
      target_text = IsUtf8-from_ascii (codes "/satp") (IsAscii-from_all (codes "/satp") (All-weaker (λ b. (is_uri_byte b && nat_lt b 128) ≡ true) (λ b. b < 128) ascii_uri (codes "/satp") (AllPass-from_list_all (λ b. is_uri_byte b && nat_lt b 128) (codes "/satp") refl)));
      minor = omega arith;
      fields = All-cons IsField (header (codes "Host") at) rest host (All-cons IsField (header (codes "Content-Type") (codes "application/jose")) last kind (All-cons IsField (header (codes "Content-Length") (decimal n)) [] size (All-nil IsField)));
    }

pub posted_size : (at : List ℕ) (n : ℕ) → n ≤ 8192 → request_length (request_parts (posted_head at n)) ≡ n
posted_size at n few = ap (λ (o : Option ℕ). unwrap_or o 0) (agreed_length n few)

pub posted_goes_on : (at : List ℕ) (n : ℕ) → expects (request_parts (posted_head at n)) ≡ false
posted_goes_on at n = refl

-- ---- answers

abbrev pub said_200 : ℕ → ResponseHead
said_200 n = record {
  blank = [];
  minor = 1;
  digits = decimal 200;
  reason = Some (codes "OK");
  line_end = crlf;
  fields = header (codes "Content-Type") (codes "application/jose") ∷ header (codes "Content-Length") (decimal n) ∷ [];
  last = crlf;
}

abbrev pub said_204 : ResponseHead
said_204 = record { blank = []; minor = 1; digits = decimal 204; reason = Some (codes "No Content"); line_end = crlf; fields = []; last = crlf }

-- the bytes of a head of an answer
bytes_of : (d p : List ℕ) (fs : List Field) → print_response (record { blank = []; minor = 1; digits = d; reason = Some p; line_end = crlf; fields = fs; last = crlf }) ≡ (codes "HTTP/1.1" ++ 32 ∷ []) ++ (d ++ (((32 ∷ p) ++ crlf_bytes) ++ (flat_map print_field fs ++ crlf_bytes)))
unfolding print_response
bytes_of d p fs = regroup (codes "HTTP/1.1") (32 ∷ []) d p crlf_bytes (flat_map print_field fs)
  where
    regroup : (v sp d p e f : List ℕ) → v ++ (sp ++ d) ++ (sp ++ p) ++ e ++ (f ++ e) ≡ (v ++ sp) ++ (d ++ (((sp ++ p) ++ e) ++ (f ++ e)))
    regroup v sp d p e f = simp append_assoc

fields_200 : (n : ℕ) → flat_map print_field (said_200 n).fields ≡ head_line (codes "Content-Type: ") (codes "application/jose") ++ (head_line (codes "Content-Length: ") (decimal n) ++ [])
unfolding head_line
fields_200 n = refl

text_as_200 : (body : List ℕ) → response_text 200 body false ≡ codes "HTTP/1.1 " ++ decimal 200 ++ head_line (codes " ") (codes "OK") ++ [] ++ (head_line (codes "Content-Type: ") (codes "application/jose") ++ head_line (codes "Content-Length: ") (decimal (length body))) ++ [] ++ crlf_bytes ++ body
unfolding response_text allow_lines kind_lines close_lines content_lines phrase
text_as_200 body = refl

line_of : (p : List ℕ) → head_line (codes " ") p ≡ (32 ∷ p) ++ crlf_bytes
unfolding head_line
line_of p = refl

pub text_200 : (body : List ℕ) → response_text 200 body false ≡ head_bytes server (said_200 (length body)) ++ body
text_200 body =
    let kind = head_line (codes "Content-Type: ") (codes "application/jose") in
    let size = head_line (codes "Content-Length: ") (decimal (length body)) in
    text_as_200 body ∙ ap (λ (l : List ℕ). codes "HTTP/1.1 " ++ decimal 200 ++ l ++ [] ++ (kind ++ size) ++ [] ++ crlf_bytes ++ body) (line_of (codes "OK"))
    ∙ regroup (codes "HTTP/1.1 ") (decimal 200) ((32 ∷ codes "OK") ++ crlf_bytes) kind size crlf_bytes body
    ∙ ap (λ (l : List ℕ). (codes "HTTP/1.1 " ++ (decimal 200 ++ (((32 ∷ codes "OK") ++ crlf_bytes) ++ (l ++ crlf_bytes)))) ++ body) (sym (fields_200 (length body)))
    ∙ ap (λ (l : List ℕ). l ++ body) (sym (bytes_of (decimal 200) (codes "OK") (said_200 (length body)).fields))
  where
    regroup : (v d p a b e body : List ℕ) → v ++ d ++ p ++ [] ++ (a ++ b) ++ [] ++ e ++ body ≡ (v ++ (d ++ (p ++ ((a ++ (b ++ [])) ++ e)))) ++ body
    regroup v d p a b e body = simp (append_assoc, append-nil)

text_as_204 : response_text 204 [] false ≡ codes "HTTP/1.1 " ++ decimal 204 ++ head_line (codes " ") (codes "No Content") ++ [] ++ [] ++ [] ++ crlf_bytes ++ []
unfolding response_text allow_lines kind_lines close_lines phrase
text_as_204 = refl

pub text_204 : response_text 204 [] false ≡ head_bytes server said_204 ++ []
text_204 =
    text_as_204 ∙ ap (λ (l : List ℕ). codes "HTTP/1.1 " ++ decimal 204 ++ l ++ [] ++ [] ++ [] ++ crlf_bytes ++ []) (line_of (codes "No Content"))
    ∙ regroup (codes "HTTP/1.1 ") (decimal 204) ((32 ∷ codes "No Content") ++ crlf_bytes) crlf_bytes
    ∙ ap (λ (l : List ℕ). l ++ []) (sym (bytes_of (decimal 204) (codes "No Content") []))
  where
    regroup : (v d p e : List ℕ) → v ++ d ++ p ++ [] ++ [] ++ [] ++ e ++ [] ≡ (v ++ (d ++ (p ++ ([] ++ e)))) ++ []
    regroup v d p e = simp (append_assoc, append-nil)

three_digits : (n : ℕ) → 100 ≤ n → n < 1000 → length (decimal n) ≡ 3
three_digits n low high =
    let tens : n / 10 < 100 = omega (arith, high) in
    let some : 10 ≤ n / 10 = omega (arith, low) in
    let hundreds : n / 10 / 10 < 10 = omega (arith, high) in
    let last : List ℕ = (48 + n % 10) ∷ [] in
    let middle : List ℕ = (48 + n / 10 % 10) ∷ [] in
    let a : length (decimal n) ≡ length (decimal (n / 10) ++ last) = ap length (decimal_step n (omega arith) (omega arith)) in
    let b : length (decimal (n / 10)) ≡ length (decimal (n / 10 / 10) ++ middle) = ap length (decimal_step (n / 10) some (omega (arith, tens))) in
    let c : length (decimal (n / 10 / 10)) ≡ 1 = ap length (decimal_digit (n / 10 / 10) hundreds) in
    omega (arith, a, b, c, length-append (decimal (n / 10)) last, length-append (decimal (n / 10 / 10)) middle)

pub parts_200 : (n : ℕ) → n ≤ 8192 → IsResponseHead (said_200 n)
unfolding is_token_byte
parts_200 n few =
    let kind = field_of (codes "Content-Type") (codes "application/jose") refl (omega arith) jose_value in
    let size = field_of (codes "Content-Length") (decimal n) refl (omega arith) (length_value n few) in
    record {
      minor = omega arith;
      digits = (three_digits 200 (omega arith) (omega arith), decimal_digits 200 (omega arith));
      reason = AllPass-from_list_all is_value_byte (codes "OK") refl;
      fields = All-cons IsField (header (codes "Content-Type") (codes "application/jose")) (header (codes "Content-Length") (decimal n) ∷ []) kind (All-cons IsField (header (codes "Content-Length") (decimal n)) [] size (All-nil IsField));
    }

pub parts_204 : IsResponseHead said_204
parts_204 = record {
  minor = omega arith;
  digits = (three_digits 204 (omega arith) (omega arith), decimal_digits 204 (omega arith));
  reason = AllPass-from_list_all is_value_byte (codes "No Content") refl;
  fields = All-nil IsField;
}

pub code_200 : (n : ℕ) → status_code (said_200 n) ≡ 200
code_200 n = (decimal_is_IsNumeral 200 (omega arith)).1

pub code_204 : status_code said_204 ≡ 204
code_204 = (decimal_is_IsNumeral 204 (omega arith)).1

pub size_200 : (n : ℕ) → n ≤ 8192 → answer_length (answer_parts (said_200 n)) ≡ n
size_200 n few =
    ap (λ (c : ℕ). if is_bodiless c then 0 else unwrap_or (agreed (trim_ows (32 ∷ decimal n) ∷ [])) 0) (code_200 n) ∙ ap (λ (o : Option ℕ). unwrap_or o 0) (agreed_length n few)

pub size_204 : answer_length (answer_parts said_204) ≡ 0
size_204 = ap (λ (c : ℕ). if is_bodiless c then 0 else 0) code_204
