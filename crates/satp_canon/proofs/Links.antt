-- The text that the engine writes for a link.
use Rattle.std.proofs.Common.{◌≡◌, ℕ, ◌+◌, ◌*◌, ◌/◌, ◌≤◌, List, length, drop, Bool, true, false, cond, nat_lt, Option, Some, None, Result, Ok, Err, OnOk, refl, ap, subst, sym, ◌∙◌, arith, append-nil, ◌<◌, ◌-◌, get_or, inl, inr}
use Rattle.std.specs.Prelude.{slice_index}
use Rattle.std.proofs.lemmas.Bool.{cases_lt, eq-eqb, eqb-true}
use Rattle.std.proofs.Math.ListN.{get_or-append}
use Rattle.std.proofs.Math.Seq.{get_or-append_right}
use Rattle.std.proofs.lemmas.List.{get_or-drop, get_or-replicate, get_or_past}
use Rattle.std.specs.Prelude.{replicate}
use Rattle.base64.specs.GeneralPurpose.{IsStrict, decode_of, IsBytes, IsConfig, IsEncodedOver, decode_slice_of, decoded_bytes_of, encode_of, encoded_size_of, engine_config, engine_symbols}
use Rattle.base64.specs.Engines.{url_safe_no_pad}
use Rattle.satp_canon.specs.FirstFault.{are_32, is_link}
use Rattle.base64.proofs.EngineFacts.{decode_of_strict, decode_of-encode_of}
use Rattle.base64.specs.declared.decode.DecodeSliceError.TheVariants.{OutputSliceTooSmall}
use Rattle.base64.specs.Decode.{decode_outcome, or_error, bytes_fit, Accepts, IsWrittenOver, decode_error, decode_slice_result, decoded_bytes, or_else, lone_error, groups_error, groups_before_last, suffix_error}
use Rattle.base64.specs.declared.engine.DecodePaddingMode.{DecodePaddingMode}
use Rattle.base64.specs.declared.decode.DecodeError.{DecodeError}
use Rattle.base64.proofs.RoundTrip.{decode-encode, length-encode_symbols}
use Rattle.satp_base.specs.declared.message.Link.{Link}
use Rattle.satp_base.specs.Forms.{IsLink}
use Rattle.base64.specs.Rfc4648.{encode_symbols}
use Rattle.base64.specs.declared.engine.DecodePaddingMode.TheVariants.{RequireNone}
use Rattle.base64.specs.declared.engine.general_purpose.GeneralPurpose.{GeneralPurpose}
use Rattle.satp_base.specs.Canonical.{base64url, link_text}

written : {E : Type 0} (r : Result ℕ E) (n : ℕ) {P : Type 0} → r ≡ Ok n → OnOk r P → P
written r n {P} e h = subst (λ (x : Result ℕ _). OnOk x P) e h

pub link_written : {E : Type 0} (e : GeneralPurpose) (m new : List ℕ) (r : Result ℕ E) → engine_symbols e ≡ base64url → IsConfig (engine_config e) false false RequireNone → length m ≡ 32
    → (encoded_size_of e (length m) ≤ 43 → r ≡ Ok (encoded_size_of e (length m))) → OnOk r (IsEncodedOver e m (replicate 43 0) new) → new ≡ encode_symbols base64url m
link_written e m new r table config long fits over =
    let size : encoded_size_of e (length m) ≡ 43 = rw (config.0, long) in
    let all = written r _ (fits (omega (arith, size))) over in
    all ∙ rw (size, config.0, table) (append-nil _ ∙ append-nil _)

-- ---- reading

or_none : (a b : Option DecodeError) → or_else a b ≡ None → (a ≡ None) × (b ≡ None)
or_none None b e = (refl, e)
or_none (Some x) b e = absurd cc

sliced : (dec : List ℕ) (pad : ℕ) (allow : Bool) (mode : DecodePaddingMode) (s : List ℕ) → decode_error dec pad allow mode s ≡ None → length s ≡ 43 → length (decoded_bytes dec pad s) ≡ 32
    → decode_slice_result dec pad allow mode s 32 ≡ Ok 32
sliced dec pad allow mode s none long bytes = let p = or_none (lone_error dec pad s) (or_else (groups_error dec s (groups_before_last (length s))) (suffix_error dec pad allow mode (4 * groups_before_last (length s)) s)) none in rw (p.0, p.1, bytes, long) refl

encoded : (e : GeneralPurpose) (link : Link) → engine_symbols e ≡ base64url → IsConfig (engine_config e) false false RequireNone → encode_of e link.0 ≡ link_text link
encoded e link table config = rw (config.0, table) (append-nil _)

pub link_decoded : (e : GeneralPurpose) (link : Link) (text : List ℕ) → engine_symbols e ≡ base64url → IsConfig (engine_config e) false false RequireNone → IsLink link → text ≡ link_text link
    → (decode_slice_of e text 32 ≡ Ok 32) × (decoded_bytes_of e text ≡ link.0)
link_decoded e link text table config good is =
    let same : text ≡ encode_of e link.0 = is ∙ sym (encoded e link table config) in
    let accepts : Accepts e.config.decode_padding_mode e.config.encode_padding = rw (config.2, config.0) refl in
    let both = decode-encode e.encode_table e.decode_table link.0 e.padding.value e.config.decode_allow_trailing_bits e.config.decode_padding_mode e.config.encode_padding e.tables good.bytes accepts in
    let none : decode_error e.decode_table e.padding.value e.config.decode_allow_trailing_bits e.config.decode_padding_mode text ≡ None = rw same both.0 in
    let bytes : decoded_bytes_of e text ≡ link.0 = rw same both.1 in
    let long : length text ≡ 43 = ap length is ∙ length-encode_symbols base64url link.0 ∙ rw good.long refl in
    (sliced _ _ _ _ text none long (ap length bytes ∙ good.long), bytes)

pub link_over : (link : Link) (decoded new : List ℕ) → IsLink link → decoded ≡ link.0 → IsWrittenOver decoded (replicate 32 0) new → new ≡ link.0
link_over link decoded new good is over = over ∙ rw (is, good.long) (append-nil _)

pub sure : {E : Type 0} (r : Result ℕ E) (n : ℕ) → r ≡ Ok n → r ≡ Ok 32 → n ≡ 32
sure r n e h = let both = sym e ∙ h in cc

-- what is behind the decoded bytes is zero
pub IsBytes-over : (decoded new : List ℕ) → IsBytes decoded → IsWrittenOver decoded (replicate 32 0) new → (i : ℕ) → slice_index new i < 256
IsBytes-over decoded new good over i = rw over (elim (cases_lt i (length decoded)) [
  | inl front ↦ rw (get_or-append decoded (drop (length decoded) (replicate 32 0)) 0 i front) (good i)
  | inr behind ↦ rw (get_or-append_right decoded (drop (length decoded) (replicate 32 0)) i 0 behind, get_or-drop {A = ℕ} (length decoded) (replicate 32 0) (i - length decoded) 0) (zero_at (length decoded + (i - length decoded)))
])
  where
    zero_at : (k : ℕ) → get_or (replicate 32 0) k 0 < 256
    zero_at k = elim (cases_lt k 32) [ inl within ↦ rw (get_or-replicate {A = ℕ} 32 k 0 0 within) (omega arith) | inr past ↦ rw (get_or_past {X = ℕ} (replicate 32 0) k 0 past) (omega arith) ]

-- ---- what was read is the text of what it was read as

sliced_back : (a b : Option DecodeError) (t : Bool) (n : ℕ) → or_error a (cond t (Err OutputSliceTooSmall) (or_error b (bytes_fit n 32))) ≡ Ok 32 → (or_else a b ≡ None) × (n ≡ 32)
sliced_back None None false n e = (refl, fitted n (nat_lt 32 n) e)
  where
    fitted : (n : ℕ) (t : Bool) → cond t (Err OutputSliceTooSmall) (Ok n) ≡ Ok 32 → n ≡ 32
    fitted n false h = cc
    fitted n true h = absurd cc
sliced_back None None true n e = absurd cc
sliced_back None (Some x) false n e = absurd cc
sliced_back None (Some x) true n e = absurd cc
sliced_back (Some x) b t n e = absurd cc

outcome : (o : Option DecodeError) (b : List ℕ) → o ≡ None → decode_outcome o b ≡ Ok b
outcome o b e = rw e refl

is_strict : (e : GeneralPurpose) → IsConfig (engine_config e) false false RequireNone → IsStrict e
is_strict e config = (config.1, rw (config.2) (config.0))

sliced_parts : (e : GeneralPurpose) (text : List ℕ) → decode_slice_of e text 32 ≡ Ok 32 → (decode_error e.decode_table e.padding.value e.config.decode_allow_trailing_bits e.config.decode_padding_mode text ≡ None) × (length (decoded_bytes_of e text) ≡ 32)
sliced_parts e text h =
    sliced_back (lone_error e.decode_table e.padding.value text)
    (or_else (groups_error e.decode_table text (groups_before_last (length text))) (suffix_error e.decode_table e.padding.value e.config.decode_allow_trailing_bits e.config.decode_padding_mode (4 * groups_before_last (length text)) text))
    (nat_lt (32 / 3) (groups_before_last (length text))) (length (decoded_bytes_of e text)) h

pub decoded_ok : (e : GeneralPurpose) (text : List ℕ) → IsConfig (engine_config e) false false RequireNone → decode_slice_of e text 32 ≡ Ok 32 → decode_of e text ≡ Ok (decoded_bytes_of e text)
decoded_ok e text config h =
    outcome _ _ (sliced_parts e text h).0

pub decoded_text : (e : GeneralPurpose) (link : Link) (text : List ℕ) → engine_symbols e ≡ base64url → IsConfig (engine_config e) false false RequireNone → IsBytes text → decode_slice_of e text 32 ≡ Ok 32 → link.0 ≡ decoded_bytes_of e text → text ≡ link_text link
decoded_text e link text table config bytes h is =
    decode_of_strict e text (decoded_bytes_of e text) (is_strict e config) bytes (decoded_ok e text config h) ∙ ap (encode_of e) (sym is) ∙ encoded e link table config

-- ---- the form of a link's text

reference : (link : Link) → encode_of url_safe_no_pad link.0 ≡ link_text link
reference link = append-nil _

pub is_link_text : (link : Link) → IsLink link → is_link (link_text link) ≡ true
is_link_text link good = ap are_32 (ap (decode_of url_safe_no_pad) (sym (reference link)) ∙ decode_of-encode_of url_safe_no_pad link.0 refl good.bytes) ∙ eq-eqb _ _ good.long

-- decoding into 32 bytes answers that there are 32 exactly where the text has the form

linked : (o : Option DecodeError) (b : List ℕ) → are_32 (decode_outcome o b) ≡ true → (o ≡ None) × (length b ≡ 32)
linked None b h = (refl, eqb-true _ _ h)
linked (Some x) b h = absurd cc

slice_linked : (text : List ℕ) → IsBytes text → is_link text ≡ true → decode_slice_of url_safe_no_pad text 32 ≡ Ok 32
slice_linked text good h =
    let both = linked _ (decoded_bytes_of url_safe_no_pad text) h in
    let whole = decode_of_strict url_safe_no_pad text (decoded_bytes_of url_safe_no_pad text) (refl, refl) good (outcome _ _ both.0) in
    let long : length text ≡ 43 = ap length (whole ∙ append-nil _) ∙ length-encode_symbols base64url (decoded_bytes_of url_safe_no_pad text) ∙ rw both.1 refl in
    sliced url_safe_no_pad.decode_table url_safe_no_pad.padding.value url_safe_no_pad.config.decode_allow_trailing_bits url_safe_no_pad.config.decode_padding_mode text both.0 long both.1

false_when : (b : Bool) → (b ≡ true → ⊥) → false ≡ b
false_when false h = refl
false_when true h = absurd (h refl)

pub not_link : (text : List ℕ) → IsBytes text → (decode_slice_of url_safe_no_pad text 32 ≡ Ok 32 → ⊥) → false ≡ is_link text
not_link text good h = false_when (is_link text) (λ e. h (slice_linked text good e))

pub is_linked : (text : List ℕ) → decode_slice_of url_safe_no_pad text 32 ≡ Ok 32 → true ≡ is_link text
is_linked text h = sym (ap are_32 (decoded_ok url_safe_no_pad text (refl, refl, refl) h) ∙ eq-eqb _ _ (sliced_parts url_safe_no_pad text h).1)

pub long_decoded : (text : List ℕ) → decode_slice_of url_safe_no_pad text 32 ≡ Ok 32 → length (decoded_bytes_of url_safe_no_pad text) ≡ 32
long_decoded text h = (sliced_parts url_safe_no_pad text h).1

pub whole_over : (decoded new : List ℕ) → length decoded ≡ 32 → IsWrittenOver decoded (replicate 32 0) new → new ≡ decoded
whole_over decoded new long over = over ∙ rw (long) (append-nil _)
