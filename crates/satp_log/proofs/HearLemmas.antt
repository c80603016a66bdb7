-- Which texts are heard, and the first fault of those that aren't.
use Rattle.std.proofs.Common.{◌≡◌, ◌≢◌, ◌⊎◌, inl, inr, ◌≤◌, ℕ, true, false, List, length, Some, None, refl, sym, ap, ◌∙◌, arith}
use Rattle.std.specs.Str.{bytes_eq}
use Rattle.std.proofs.lemmas.Slice.Eq.{bytes_eq-Decides}
use Rattle.base64.specs.GeneralPurpose.{IsBytes}
use Rattle.satp_base.specs.Canonical.{IsText, canonical}
use Rattle.satp_base.specs.Forms.{IsMessage}
use Rattle.satp_base.specs.Signatures.{jws, own, own_header}
use Rattle.satp_base.specs.declared.message.Message.{Message}
use Rattle.satp_base.proofs.AsciiText.{text_bytes}
use Rattle.satp_base.proofs.HashLemmas.{bytes_from}
use Rattle.satp_base.proofs.TextSizes.{own-short, payload-shorter}
use Rattle.satp_canon.specs.FirstFault.{first_fault}
use Rattle.satp_canon.specs.declared.fault.CanonFault.{CanonFault}
use Rattle.satp_canon.specs.declared.fault.CanonFault.TheVariants as canon
use Rattle.satp_jws.specs.Faults.{header_of, jws_fault, payload_of}
use Rattle.satp_jws.specs.declared.fault.JwsFault.{JwsFault}
use Rattle.satp_jws.specs.declared.fault.JwsFault.TheVariants as jose
use Rattle.satp_sides.specs.Calls.{IsOwn}
use Rattle.satp_log.specs.Hearing.{reading_fault}
use Rattle.satp_log.specs.declared.fault.Unheard.{Unheard}
use Rattle.satp_log.specs.declared.fault.Unheard.TheVariants.{Jws, Header, Body, Memory}

-- ---- the first fault

module _ (key text : List ℕ) where
  jws_first : (f : JwsFault) → jws_fault key text ≡ Some f → reading_fault key text ≡ Some (Jws f)
  unfolding reading_fault
  jws_first f e = rw e refl

  pub header_first : jws_fault key text ≡ None → bytes_eq (header_of text) own_header ≡ false → reading_fault key text ≡ Some Header
  unfolding reading_fault
  header_first e h = rw e (rw h refl)

  body_first : (f : CanonFault) → jws_fault key text ≡ None → bytes_eq (header_of text) own_header ≡ true → first_fault (payload_of text) ≡ Some f → reading_fault key text ≡ Some (Body f)
  unfolding reading_fault
  body_first f e h g = rw e (rw h (rw g refl))

  pub none_first : jws_fault key text ≡ None → bytes_eq (header_of text) own_header ≡ true → first_fault (payload_of text) ≡ None → reading_fault key text ≡ None
  unfolding reading_fault
  none_first e h g = rw e (rw h (rw g refl))

  pub unverified_first : (f : JwsFault) (u : Unheard) → (f ≢ jose.Memory → jws_fault key text ≡ Some f) → (f ≡ jose.Memory → u ≡ Memory) → (f ≢ jose.Memory → u ≡ Jws f)
      → u ≢ Memory → reading_fault key text ≡ Some u
  unverified_first f u first none other n =
      let some : f ≢ jose.Memory = λ e. n (none e) in jws_first f (first some) ∙ ap Some (sym (other some))

  pub unread_first : (f : CanonFault) (u : Unheard) → jws_fault key text ≡ None → bytes_eq (header_of text) own_header ≡ true → (f ≡ canon.Memory) ⊎ (first_fault (payload_of text) ≡ Some f)
      → (f ≡ canon.Memory → u ≡ Memory) → (f ≢ canon.Memory → u ≡ Body f) → u ≢ Memory → reading_fault key text ≡ Some u
  unread_first f u e h found none other n =
      let some : f ≢ canon.Memory = λ q. n (none q) in
      elim found [ inl q ↦ absurd (some q) | inr g ↦ body_first f e h g ∙ ap Some (sym (other some)) ]

-- ---- own texts

pub own_is : (key text header payload : List ℕ) (m : Message) → text ≡ jws key header payload → header ≡ own_header → IsMessage m → IsText m payload → IsOwn key text m
unfolding own
own_is key text header payload m e h f p = (f, e ∙ ap (λ x. jws key x payload) h ∙ ap (jws key own_header) p)

pub own_as : (key text : List ℕ) (m : Message) → IsOwn key text m → text ≡ jws key own_header (canonical m)
unfolding own
own_as key text m o = o.1

pub header_bytes : IsBytes own_header
header_bytes = bytes_from own_header refl

pub payload_bytes : (key text : List ℕ) (m : Message) → IsOwn key text m → IsBytes (canonical m)
payload_bytes key text m o = text_bytes m o.0

pub payload_short : (key text : List ℕ) (m : Message) → IsOwn key text m → length (canonical m) ≤ 8192
payload_short key text m o =
    let short = own-short key m o.0 in
    let long = payload-shorter key own_header (canonical m) in
    let same = ap length (sym o.1 ∙ own_as key text m o) in
    omega (arith, short, long, same)

-- ---- headers

pub is_header : (h : List ℕ) → bytes_eq h own_header ≡ true → h ≡ own_header
is_header h e = (bytes_eq-Decides h own_header).0 e

pub is_other_header : (h : List ℕ) → bytes_eq h own_header ≡ false → h ≡ own_header → ⊥
is_other_header h e same = let t : false ≡ true = sym e ∙ (bytes_eq-Decides h own_header).1 same in cc t

pub short_as : (payload text : List ℕ) → payload ≡ text → length text ≤ 8192 → length payload ≤ 8192
short_as payload text e h = let same = ap length e in omega (arith, same, h)
