-- The tests of a text in their order.
use Rattle.std.proofs.Common.{◌≡◌, ◌≢◌, ℕ, Bool, true, false, cond, List, [], ◌∷◌, ◌++◌, length, Option, Some, None, Result, Ok, Err, IfOk, IsErrAnd, MatchResult, append_assoc, refl, ap, subst, sym, ◌∙◌}
use Rattle.std.specs.Str.{bytes_eq}
use Rattle.std.specs.Cmp.Lexicographic.{same_text}
use Rattle.std.proofs.lemmas.Cmp.{nat_list_eq_equiv}
use Rattle.base64.specs.GeneralPurpose.{IsBytes}
use Rattle.satp_base.specs.Faults.{or_else}
use Rattle.satp_base.specs.Signatures.{encoded, hmac, jws, signing_input}
use Rattle.satp_base.proofs.HashLemmas.{hash_bytes}
use Rattle.satp_base.proofs.SignatureLemmas.{no_stop_encoded}
use Rattle.satp_jws.specs.Faults.{bytes_of, decoded, header_fault, header_in, header_of, jws_fault, part_fault, parts_fault, parts_of, payload_in, payload_of, signature_fault, three_fault}
use Rattle.satp_jws.specs.Reading.{Reads}
use Rattle.satp_jws.specs.declared.verifying.Verified.{Verified}
use Rattle.satp_jws.specs.declared.fault.JwsFault.{JwsFault}
use Rattle.satp_jws.specs.declared.fault.JwsFault.TheVariants.{Parts, NotBase64, Header, Algorithm, Critical, Signature, Memory}
use Rattle.satp_jws.proofs.PartLemmas.{Three, decoded_encoded, joined_parts}

-- ---- three parts

pub bytes_decoded : (part bytes : List ℕ) → decoded part ≡ Some bytes → bytes_of part ≡ bytes
bytes_decoded part bytes e = rw e

no_part_fault : (number : ℕ) (part bytes : List ℕ) → decoded part ≡ Some bytes → part_fault number part ≡ None
no_part_fault number part bytes e = rw e

passed : (o p : Option JwsFault) → o ≡ None → or_else o p ≡ p
passed o p e = rw e

stopped : (o p : Option JwsFault) (fault : JwsFault) → o ≡ Some fault → or_else o p ≡ Some fault
stopped o p fault e = rw e

pub first_fault : (key a b c : List ℕ) (fault : JwsFault) → part_fault 1 a ≡ Some fault → three_fault key a b c ≡ Some fault
unfolding three_fault
first_fault key a b c fault e = stopped _ _ fault e

pub second_fault : (key a b c header : List ℕ) (fault : JwsFault) → decoded a ≡ Some header → part_fault 2 b ≡ Some fault → three_fault key a b c ≡ Some fault
unfolding three_fault
second_fault key a b c header fault first e = passed _ _ (no_part_fault 1 a header first) ∙ stopped _ _ fault e

pub third_fault : (key a b c header payload : List ℕ) (fault : JwsFault) → decoded a ≡ Some header → decoded b ≡ Some payload → part_fault 3 c ≡ Some fault
    → three_fault key a b c ≡ Some fault
unfolding three_fault
third_fault key a b c header payload fault first second e =
    passed _ _ (no_part_fault 1 a header first) ∙ passed _ _ (no_part_fault 2 b payload second) ∙ stopped _ _ fault e

-- the tests that are left where all parts decode
pub later_fault : (key a b c header payload signature : List ℕ) → decoded a ≡ Some header → decoded b ≡ Some payload → decoded c ≡ Some signature
    → three_fault key a b c ≡ or_else (header_fault header) (cond (bytes_eq signature (hmac key (a ++ 46 ∷ b))) None (Some Signature))
unfolding three_fault
later_fault key a b c header payload signature first second third =
    passed _ _ (no_part_fault 1 a header first) ∙ passed _ _ (no_part_fault 2 b payload second) ∙ passed _ _ (no_part_fault 3 c signature third)
    ∙ ap (λ (h : List ℕ). or_else (header_fault h) (signature_fault key a b c)) (bytes_decoded a header first)
    ∙ ap (λ (s : List ℕ). or_else (header_fault header) (cond (bytes_eq s (hmac key (a ++ 46 ∷ b))) None (Some Signature))) (bytes_decoded c signature third)

pub bad_header : (key a b c header payload signature : List ℕ) (fault : JwsFault) → decoded a ≡ Some header → decoded b ≡ Some payload → decoded c ≡ Some signature
    → header_fault header ≡ Some fault → three_fault key a b c ≡ Some fault
bad_header key a b c header payload signature fault first second third e = later_fault key a b c header payload signature first second third ∙ stopped _ _ fault e

same_list : (xs : List ℕ) → bytes_eq xs xs ≡ true
same_list = nat_list_eq_equiv.refl

differs : (b : Bool) (xs ys : List ℕ) → bytes_eq xs ys ≡ b → (xs ≡ ys → ⊥) → b ≡ false
differs true xs ys e h = absurd (h (same_text xs ys (sym e)))
differs false xs ys e h = refl

pub bad_signature : (key a b c header payload signature : List ℕ) → decoded a ≡ Some header → decoded b ≡ Some payload → decoded c ≡ Some signature
    → header_fault header ≡ None → (signature ≡ hmac key (a ++ 46 ∷ b) → ⊥) → three_fault key a b c ≡ Some Signature
bad_signature key a b c header payload signature first second third good other =
    later_fault key a b c header payload signature first second third ∙ passed _ _ good
    ∙ ap (λ (test : Bool). cond test None (Some Signature)) (differs _ signature (hmac key (a ++ 46 ∷ b)) refl other)

pub reads : (key a b c header payload signature : List ℕ) → decoded a ≡ Some header → decoded b ≡ Some payload → decoded c ≡ Some signature
    → a ≡ encoded header → b ≡ encoded payload → c ≡ encoded signature
    → header_fault header ≡ None → signature ≡ hmac key (a ++ 46 ∷ b) → Reads key a b c header payload
reads key a b c header payload signature first second third ea eb ec good same = record {
  accepted = later_fault key a b c header payload signature first second third ∙ passed _ _ good
      ∙ ap (λ (s : List ℕ). cond (bytes_eq s (hmac key (a ++ 46 ∷ b))) None (Some Signature)) same
      ∙ ap (λ (test : Bool). cond test None (Some Signature)) (same_list (hmac key (a ++ 46 ∷ b)));
  header_is = bytes_decoded a header first;
  payload_is = bytes_decoded b payload second;
  listed = good;
  header_part = ea;
  payload_part = eb;
  signature_part = ec ∙ ap encoded same;
}

-- ---- the text

other_parts : (key : List ℕ) (parts : List (List ℕ)) → (length parts ≡ 3 → ⊥) → parts_fault key parts ≡ Some (Parts (length parts))
other_parts key [] h = refl
other_parts key (a ∷ []) h = refl
other_parts key (a ∷ b ∷ []) h = refl
other_parts key (a ∷ b ∷ c ∷ []) h = absurd (h refl)
other_parts key (a ∷ b ∷ c ∷ d ∷ parts) h = refl

pub wrong_count : (key text : List ℕ) (count : ℕ) → count ≡ length (parts_of text) → (count ≡ 3 → ⊥) → jws_fault key text ≡ Some (Parts count)
unfolding jws_fault
wrong_count key text count e h =
    other_parts key (parts_of text) (λ three. h (e ∙ three)) ∙ ap (λ (n : ℕ). Some (Parts n)) (sym e)

pub three_tests : (key text a b c : List ℕ) → Three text a b c → jws_fault key text ≡ three_fault key a b c
unfolding jws_fault
three_tests key text a b c three = ap (parts_fault key) three.parts

pub header_shown : (text a b c header : List ℕ) → parts_of text ≡ a ∷ b ∷ c ∷ [] → bytes_of a ≡ header → header_of text ≡ header
unfolding header_of
header_shown text a b c header parts e = ap header_in parts ∙ e

pub payload_shown : (text a b c payload : List ℕ) → parts_of text ≡ a ∷ b ∷ c ∷ [] → bytes_of b ≡ payload → payload_of text ≡ payload
unfolding payload_of
payload_shown text a b c payload parts e = ap payload_in parts ∙ e

pub signed_text : (key text a b c header payload : List ℕ) → Three text a b c → Reads key a b c header payload → text ≡ jws key header payload
unfolding jws
signed_text key text a b c header payload three held =
    let input : a ++ 46 ∷ b ≡ signing_input header payload = ap (λ (x : List ℕ). x ++ 46 ∷ b) held.header_part ∙ ap (λ (x : List ℕ). encoded header ++ 46 ∷ x) held.payload_part in
    three.whole ∙ ap (λ (x : List ℕ). (a ++ 46 ∷ b) ++ 46 ∷ x) held.signature_part
    ∙ ap (λ (x : List ℕ). x ++ 46 ∷ encoded (hmac key x)) input

-- ---- each text that is signed is accepted

hmac_bytes : (key message : List ℕ) → IsBytes (hmac key message)
unfolding hmac
hmac_bytes key message = hash_bytes _

pub record Accepted (key text header payload : List ℕ) : Type 0 where
  pub accepted : jws_fault key text ≡ None
  pub header_is : header_of text ≡ header
  pub payload_is : payload_of text ≡ payload

signed_parts : (key header payload : List ℕ)
    → parts_of (jws key header payload) ≡ encoded header ∷ encoded payload ∷ encoded (hmac key (signing_input header payload)) ∷ []
unfolding jws
signed_parts key header payload = joined_parts _ _ _ (no_stop_encoded header) (no_stop_encoded payload) (no_stop_encoded (hmac key (signing_input header payload)))

pub accepts : (key header payload : List ℕ) → IsBytes header → IsBytes payload → header_fault header ≡ None → Accepted key (jws key header payload) header payload
unfolding jws_fault
accepts key header payload hb pb good =
    let parts = signed_parts key header payload in
    let signature = hmac key (signing_input header payload) in
    let first = decoded_encoded header hb in
    let second = decoded_encoded payload pb in
    let third = decoded_encoded signature (hmac_bytes key (signing_input header payload)) in
    let held = reads key (encoded header) (encoded payload) (encoded signature) header payload signature first second third refl refl refl good refl in
    record {
      accepted = ap (parts_fault key) parts ∙ held.accepted;
      header_is = header_shown _ _ _ _ header parts held.header_is;
      payload_is = payload_shown _ _ _ _ payload parts held.payload_is;
    }

pub only_memory : (fault : JwsFault) → (fault ≢ Memory → None ≡ Some fault) → fault ≡ Memory
only_memory (Parts n) h = absurd (let bad = h (λ e. cc e) in cc)
only_memory (NotBase64 n) h = absurd (let bad = h (λ e. cc e) in cc)
only_memory Header h = absurd (let bad = h (λ e. cc e) in cc)
only_memory Algorithm h = absurd (let bad = h (λ e. cc e) in cc)
only_memory Critical h = absurd (let bad = h (λ e. cc e) in cc)
only_memory Signature h = absurd (let bad = h (λ e. cc e) in cc)
only_memory Memory h = refl

-- ---- what `verify` says, from what the parts say

abbrev pub Parted : List ℕ → List ℕ → List ℕ → List ℕ → Result Verified JwsFault → Type 0
Parted key a b c r = MatchResult r (λ v. Reads key a b c v.header v.payload) (λ fault. fault ≢ Memory → three_fault key a b c ≡ Some fault)

pub fault_of : (key a b c : List ℕ) (r : Result Verified JwsFault) (fault : JwsFault) → IsErrAnd r (λ e. e ≡ fault) → (fault ≢ Memory → three_fault key a b c ≡ Some fault) → Parted key a b c r
fault_of key a b c (Ok v) fault h q = absurd h
fault_of key a b c (Err e) fault h q = subst (λ (f : JwsFault). f ≢ Memory → three_fault key a b c ≡ Some f) (sym h) q

abbrev pub First : List ℕ → List ℕ → Result Verified JwsFault → Type 0
First key text r =
    MatchResult r (λ v. (jws_fault key text ≡ None) × (v.header ≡ header_of text) × (v.payload ≡ payload_of text))
    (λ fault. fault ≢ Memory → jws_fault key text ≡ Some fault)

pub verify_first : (key text a b c : List ℕ) (r : Result Verified JwsFault) → Three text a b c → Parted key a b c r → First key text r
verify_first key text a b c (Ok v) three held = (
  three_tests key text a b c three ∙ held.accepted,
  sym (header_shown text a b c v.header three.parts held.header_is),
  sym (payload_shown text a b c v.payload three.parts held.payload_is),
)
verify_first key text a b c (Err fault) three held = λ other. three_tests key text a b c three ∙ held other

pub verify_signed : (key text a b c : List ℕ) (r : Result Verified JwsFault) → Three text a b c → Parted key a b c r
    → IfOk r (λ v. (header_fault v.header ≡ None) × (text ≡ jws key v.header v.payload))
verify_signed key text a b c (Ok v) three held = (held.listed, signed_text key text a b c v.header v.payload three held)
verify_signed key text a b c (Err fault) three held = tt

accepted_at : (key text header payload : List ℕ) → IsBytes header → IsBytes payload → header_fault header ≡ None → text ≡ jws key header payload → Accepted key text header payload
accepted_at key text header payload hb pb good e = subst (λ (t : List ℕ). Accepted key t header payload) (sym e) (accepts key header payload hb pb good)

pub verify_complete : (key text : List ℕ) (r : Result Verified JwsFault) → First key text r → (header payload : List ℕ) → IsBytes header → IsBytes payload
    → header_fault header ≡ None → text ≡ jws key header payload → MatchResult r (λ v. (v.header ≡ header) × (v.payload ≡ payload)) (λ fault. fault ≡ Memory)
verify_complete key text (Ok v) first header payload hb pb good e =
    let accepted = accepted_at key text header payload hb pb good e in
    (first.1 ∙ accepted.header_is, first.2 ∙ accepted.payload_is)
verify_complete key text (Err fault) first header payload hb pb good e =
    let accepted = accepted_at key text header payload hb pb good e in
    only_memory fault (λ other. sym accepted.accepted ∙ first other)

-- ---- signing, step by step

pub signed_steps : (key header payload t0 t1 t2 t3 t4 t5 signature : List ℕ) → t0 ≡ [] → t1 ≡ t0 ++ encoded header → t2 ≡ t1 ++ 46 ∷ [] → t3 ≡ t2 ++ encoded payload
    → signature ≡ hmac key t3 → t4 ≡ t3 ++ 46 ∷ [] → t5 ≡ t4 ++ encoded signature → t5 ≡ jws key header payload
unfolding jws
signed_steps key header payload t0 t1 t2 t3 t4 t5 signature e0 e1 e2 e3 es e4 e5 =
    let input : t3 ≡ signing_input header payload =
    e3 ∙ ap (λ (x : List ℕ). x ++ encoded payload) (e2 ∙ ap (λ (x : List ℕ). x ++ 46 ∷ []) (e1 ∙ ap (λ (x : List ℕ). x ++ encoded header) e0))
    ∙ append_assoc (encoded header) (46 ∷ []) (encoded payload) in
    e5 ∙ ap (λ (x : List ℕ). x ++ encoded signature) e4 ∙ append_assoc t3 (46 ∷ []) (encoded signature)
    ∙ ap (λ (x : List ℕ). t3 ++ 46 ∷ encoded x) es
    ∙ ap (λ (x : List ℕ). x ++ 46 ∷ encoded (hmac key x)) input
