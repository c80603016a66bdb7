-- A text, cut at its full stops, and what a part decodes to.
use Rattle.std.proofs.Common.{◌≡◌, ℕ, ◌+◌, ◌-◌, ◌≤◌, Bool, true, false, cond, List, [], ◌∷◌, ◌++◌, length, take, drop, Some, None, Result, Ok, Err, refl, ap, subst, sym, ◌∙◌, arith, inl, inr, append_assoc, length-append}
use Rattle.std.specs.Prelude.{position}
use Rattle.std.specs.List.{after_first, before_first, join_with_byte, list_all, onto_first, position_or_len}
use Rattle.std.specs.Result.{result_ok}
use Rattle.std.proofs.lemmas.Bool.{and_parts, cases_lt, ltb-false, not-true}
use Rattle.std.proofs.lemmas.List.{drop_all, length-drop, length-take-le, take_all, take_at}
use Rattle.std.proofs.lemmas.List.Splits.{join_with_byte-slice_split, slice_split-cons_no, slice_split_first}
use Rattle.base64.specs.Engines.{url_safe_no_pad}
use Rattle.base64.specs.GeneralPurpose.{IsBytes, IsDecodeFailure, decode_of, decoded_bytes_of, decoded_of}
use Rattle.base64.specs.declared.decode.DecodeAllocError.{DecodeAllocError}
use Rattle.base64.specs.declared.decode.DecodeAllocError.TheVariants.{DecodeError as Failed}
use Rattle.base64.specs.declared.decode.DecodeError.{DecodeError}
use Rattle.base64.proofs.EngineFacts.{decode_of_strict}
use Rattle.base64.proofs.RoundTrip.{decode-encode}
use Rattle.satp_base.specs.Signatures.{encoded}
use Rattle.satp_base.proofs.SignatureLemmas.{encoded_by, no_stop}
use Rattle.satp_jws.specs.Faults.{decoded, is_stop, parts_of}

-- ---- the first full stop

found : (b : Bool) (n stop : ℕ) → cond b (Some n) None ≡ Some stop → n ≡ stop
found true n stop e = cc
found false n stop e = absurd cc

not_found : (b : Bool) (n : ℕ) → cond b (Some n) None ≡ None → b ≡ false
not_found true n e = absurd cc
not_found false n e = refl

pub before_found : (text : List ℕ) (stop : ℕ) → position is_stop text ≡ Some stop → take stop text ≡ before_first is_stop text
before_found text stop e = ap (λ (n : ℕ). take n text) (sym (found _ _ stop e))

pub before_none : (text : List ℕ) → position is_stop text ≡ None → text ≡ before_first is_stop text
before_none text e = sym (take_all (position_or_len is_stop text) text (ltb-false _ _ (not_found _ _ e)))

pub behind_found : (text : List ℕ) (stop : ℕ) → position is_stop text ≡ Some stop → take (length text - (stop + 1)) (drop (stop + 1) text) ≡ after_first is_stop text
behind_found text stop e =
    take_all (length text - (stop + 1)) (drop (stop + 1) text) (omega (arith, length-drop {A = ℕ} (stop + 1) text))
    ∙ ap (λ (n : ℕ). drop (n + 1) text) (sym (found _ _ stop e))

pub behind_none : (text : List ℕ) → position is_stop text ≡ None → [] ≡ after_first is_stop text
behind_none text e =
    let past : length text ≤ position_or_len is_stop text = ltb-false _ _ (not_found _ _ e) in
    sym (drop_all (position_or_len is_stop text + 1) text (omega arith))

-- ---- the parts

-- a text without a full stop is one part
alone : (text : List ℕ) → length text ≤ position_or_len is_stop text → parts_of text ≡ text ∷ []
alone [] h = refl
alone (x ∷ text) h = by_test (is_stop x) refl (alone text)
  where
    by_test : (b : Bool) → is_stop x ≡ b → (length text ≤ position_or_len is_stop text → parts_of text ≡ text ∷ []) → parts_of (x ∷ text) ≡ (x ∷ text) ∷ []
    by_test true e later = let bad = rw e at h in absurd (omega arith)
    by_test false e later = let rest = rw e at h in slice_split-cons_no is_stop x text e ∙ ap (onto_first x) (later (omega arith))

parts_more : (text : List ℕ) → 2 ≤ length (parts_of text) → parts_of text ≡ before_first is_stop text ∷ parts_of (after_first is_stop text)
parts_more text h = elim (cases_lt (position_or_len is_stop text) (length text)) [
  | inl within ↦ slice_split_first is_stop text 0 within
  | inr past ↦ let one = ap length (alone text past) in absurd (omega arith)
]

one_part : (parts : List (List ℕ)) (text : List ℕ) → length parts ≡ 1 → join_with_byte 46 parts ≡ text → parts ≡ text ∷ []
one_part [] text h e = absurd (omega arith)
one_part (part ∷ []) text h e = ap (λ (x : List ℕ). x ∷ []) e
one_part (part ∷ next ∷ parts) text h e = absurd (omega arith)

pub record Three (text header payload signature : List ℕ) : Type 0 where
  pub parts : parts_of text ≡ header ∷ payload ∷ signature ∷ []
  pub whole : text ≡ (header ++ 46 ∷ payload) ++ 46 ∷ signature

three_parts : (text : List ℕ) → length (parts_of text) ≡ 3
    → Three text (before_first is_stop text) (before_first is_stop (after_first is_stop text)) (after_first is_stop (after_first is_stop text))
three_parts text h =
    let rest = after_first is_stop text in
    let last = after_first is_stop rest in
    let first = parts_more text (omega arith) in
    let count : length (parts_of rest) ≡ 2 = omega (arith, h, ap length first) in
    let second = parts_more rest (omega arith) in
    let count2 : length (parts_of last) ≡ 1 = omega (arith, count, ap length second) in
    let third = one_part (parts_of last) last count2 (join_with_byte-slice_split 46 last) in
    let parts = first ∙ ap (λ (ps : List (List ℕ)). before_first is_stop text ∷ ps) (second ∙ ap (λ (ps : List (List ℕ)). before_first is_stop rest ∷ ps) third) in
    record {
      parts = parts;
      whole = sym (join_with_byte-slice_split 46 text) ∙ ap (join_with_byte 46) parts
          ∙ sym (append_assoc (before_first is_stop text) (46 ∷ before_first is_stop rest) (46 ∷ last));
    }

pub three_from : (text a rest b c : List ℕ) → a ≡ before_first is_stop text → rest ≡ after_first is_stop text → b ≡ before_first is_stop rest → c ≡ after_first is_stop rest
    → length (parts_of text) ≡ 3 → Three text a b c
three_from text a rest b c first behind second third h =
    let one = subst (λ (x : List ℕ). Three text x (before_first is_stop (after_first is_stop text)) (after_first is_stop (after_first is_stop text))) (sym first) (three_parts text h) in
    let two = subst (λ (x : List ℕ). Three text a (before_first is_stop x) (after_first is_stop x)) (sym behind) one in
    let three = subst (λ (x : List ℕ). Three text a x (after_first is_stop rest)) (sym second) two in
    subst (λ (x : List ℕ). Three text a b x) (sym third) three

-- what is signed is the front of the text
pub signed_front : (text header payload signature : List ℕ) → Three text header payload signature → take (length header + length payload + 1) text ≡ header ++ 46 ∷ payload
signed_front text header payload signature three =
    let long : length (header ++ 46 ∷ payload) ≡ length header + length payload + 1 = omega (arith, length-append header (46 ∷ payload)) in
    ap (λ (t : List ℕ). take (length header + length payload + 1) t) three.whole
    ∙ take_at (header ++ 46 ∷ payload) (46 ∷ signature) (length header + length payload + 1) long

signed_within : (text header payload signature : List ℕ) → Three text header payload signature → length header + length payload + 1 ≤ length text
signed_within text header payload signature three =
    omega (arith, ap length three.whole, length-append (header ++ 46 ∷ payload) (46 ∷ signature), length-append header (46 ∷ payload))

pub signed_length : (text header payload signature : List ℕ) → Three text header payload signature
    → length header + length payload + 1 ≡ length (take (length header + length payload + 1) text)
signed_length text header payload signature three = sym (length-take-le (length header + length payload + 1) text (signed_within text header payload signature three))

-- parts without a full stop, put together and cut again
parts_behind : (part text : List ℕ) → list_all no_stop part ≡ true → parts_of (part ++ 46 ∷ text) ≡ part ∷ parts_of text
parts_behind [] text h = refl
parts_behind (x ∷ part) text h = let both = and_parts _ _ h in slice_split-cons_no is_stop x (part ++ 46 ∷ text) (not-true _ both.0) ∙ ap (onto_first x) (parts_behind part text both.1)

part_alone : (part : List ℕ) → list_all no_stop part ≡ true → parts_of part ≡ part ∷ []
part_alone [] h = refl
part_alone (x ∷ part) h = let both = and_parts _ _ h in slice_split-cons_no is_stop x part (not-true _ both.0) ∙ ap (onto_first x) (part_alone part both.1)

pub joined_parts : (a b c : List ℕ) → list_all no_stop a ≡ true → list_all no_stop b ≡ true → list_all no_stop c ≡ true
    → parts_of ((a ++ 46 ∷ b) ++ 46 ∷ c) ≡ a ∷ b ∷ c ∷ []
joined_parts a b c first second third =
    ap parts_of (append_assoc a (46 ∷ b) (46 ∷ c))
    ∙ parts_behind a (b ++ 46 ∷ c) first
    ∙ ap (λ (ps : List (List ℕ)). a ∷ ps) (parts_behind b c second ∙ ap (λ (ps : List (List ℕ)). b ∷ ps) (part_alone c third))

-- ---- what a part decodes to

pub decoded_ok : (part bytes text : List ℕ) → decode_of url_safe_no_pad part ≡ Ok bytes → text ≡ bytes → decoded part ≡ Some text
unfolding decoded decoded_of
decoded_ok part bytes text e same = ap (λ (r : Result (List ℕ) DecodeError). result_ok r) e ∙ ap Some (sym same)

decoded_err : (part : List ℕ) (why : DecodeError) → decode_of url_safe_no_pad part ≡ Err why → decoded part ≡ None
unfolding decoded decoded_of
decoded_err part why e = ap (λ (r : Result (List ℕ) DecodeError). result_ok r) e

pub not_decoded : (part : List ℕ) (why : DecodeAllocError) (fault : DecodeError) → why ≡ Failed fault → IsDecodeFailure url_safe_no_pad part why → decoded part ≡ None
not_decoded part why fault e failed = decoded_err part fault (subst (λ (w : DecodeAllocError). IsDecodeFailure url_safe_no_pad part w) e failed)

pub decoded_encoded : (bytes : List ℕ) → IsBytes bytes → decoded (encoded bytes) ≡ Some bytes
decoded_encoded bytes valid =
    let e = url_safe_no_pad in
    let both = decode-encode e.encode_table e.decode_table bytes e.padding.value e.config.decode_allow_trailing_bits e.config.decode_padding_mode e.config.encode_padding e.tables valid refl in
    let ok : decode_of url_safe_no_pad (encoded bytes) ≡ Ok (decoded_bytes_of url_safe_no_pad (encoded bytes)) = rw (← encoded_by bytes, both.0) refl in
    decoded_ok (encoded bytes) _ bytes ok (rw (← encoded_by bytes) (sym both.1))

ok_result : (r : Result (List ℕ) DecodeError) (bytes : List ℕ) → result_ok r ≡ Some bytes → r ≡ Ok bytes
ok_result (Ok found) bytes e = ap Ok (cc e)
ok_result (Err why) bytes e = absurd cc

pub decoded_as : (part bytes : List ℕ) → IsBytes part → decoded part ≡ Some bytes → part ≡ encoded bytes
unfolding decoded decoded_of
decoded_as part bytes valid e = decode_of_strict url_safe_no_pad part bytes (refl, refl) valid (ok_result _ bytes e) ∙ encoded_by bytes
