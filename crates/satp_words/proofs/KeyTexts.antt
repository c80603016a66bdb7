-- Keys in base64url.
use Rattle.std.proofs.Common.{◌≡◌, ◌≢◌, ℕ, ◌≤◌, List, length, Result, Ok, Err, refl, ap, subst, sym, ◌∙◌, ◌↔◌}
use Rattle.base64.specs.Engines.{url_safe_no_pad}
use Rattle.base64.specs.GeneralPurpose.{IsBytes, IsDecodeFailure, IsStrict, decode_of, encode_of}
use Rattle.base64.specs.declared.decode.DecodeAllocError.{DecodeAllocError}
use Rattle.base64.specs.declared.decode.DecodeAllocError.TheVariants.{DecodeError as Failed, OutOfMemory}
use Rattle.satp_base.specs.Signatures.{encoded}
use Rattle.satp_base.proofs.SignatureLemmas.{encoded_by}
use Rattle.satp_words.specs.Commands.{IsKey}

-- the engine takes the base64url of some bytes, and of these alone
abbrev Decodes : List ℕ → Type 0
Decodes read = IsStrict url_safe_no_pad → (b : List ℕ) → IsBytes b → (decode_of url_safe_no_pad read ≡ Ok b) ↔ (read ≡ encode_of url_safe_no_pad b)

not_both : {T E : Type 0} (r : Result T E) (t : T) (e : E) → r ≡ Ok t → r ≡ Err e → ⊥
not_both r t e p q = absurd cc

-- the key of a text is what the text decodes to
key_decoded : (text read key : List ℕ) → read ≡ text → Decodes read → IsKey text key → decode_of url_safe_no_pad read ≡ Ok key
key_decoded text read key same decodes k = (decodes (refl, refl) key k.bytes).1 (same ∙ k.is_text ∙ sym (encoded_by key))

pub refused_key : (text read key : List ℕ) (f : DecodeAllocError) → read ≡ text → Decodes read → IsDecodeFailure url_safe_no_pad read f → f ≢ OutOfMemory → ¬ IsKey text key
refused_key text read key (Failed d) same decodes failed other k = not_both (decode_of url_safe_no_pad read) key d (key_decoded text read key same decodes k) failed
refused_key text read key OutOfMemory same decodes failed other k = other refl

value_or : {T E : Type 0} → T → Result T E → T
value_or d (Ok t) = t
value_or d (Err e) = d

same_ok : {T E : Type 0} (a b : T) (r : Result T E) → r ≡ Ok a → r ≡ Ok b → a ≡ b
unfolding value_or
same_ok a b r e f = ap (value_or a) (sym e ∙ f)

pub same_key : (text read key bytes : List ℕ) → read ≡ text → Decodes read → decode_of url_safe_no_pad read ≡ Ok bytes → IsKey text key → key ≡ bytes
same_key text read key bytes same decodes decoded k = same_ok key bytes (decode_of url_safe_no_pad read) (key_decoded text read key same decodes k) decoded

pub found_key : (text read bytes copied : List ℕ) → read ≡ text → (IsStrict url_safe_no_pad → read ≡ encode_of url_safe_no_pad bytes) → copied ≡ bytes → 32 ≤ length bytes → length bytes ≤ 64 → IsBytes bytes → IsKey text copied
found_key text read bytes copied same exact copy least most all = record {
  is_text = sym same ∙ exact (refl, refl) ∙ encoded_by bytes ∙ ap encoded (sym copy);
  least = subst (λ (b : List ℕ). 32 ≤ length b) (sym copy) least;
  most = subst (λ (b : List ℕ). length b ≤ 64) (sym copy) most;
  bytes = subst IsBytes (sym copy) all;
}
