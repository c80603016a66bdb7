-- A compact JWS shows its header and its payload.
use Rattle.std.proofs.Common.{◌≡◌, ℕ, zero, suc, ◌+◌, ◌*◌, ◌/◌, ◌%◌, ◌==◌, Bool, true, not, List, [], ◌∷◌, ◌++◌, get_or, refl, ap, sym, ◌∙◌, subst, append-nil, append_assoc}
use Rattle.std.specs.List.{list_all}
use Rattle.std.proofs.lemmas.Bool.{and_parts, and_from}
use Rattle.base64.specs.Engines.{url_safe_no_pad}
use Rattle.base64.specs.GeneralPurpose.{IsBytes, decoded_bytes_of, encode_of}
use Rattle.base64.specs.Rfc4648.{encode_symbols}
use Rattle.base64.proofs.RoundTrip.{decode-encode}
use Rattle.satp_base.specs.Canonical.{base64url, canonical}
use Rattle.satp_base.specs.Forms.{IsMessage}
use Rattle.satp_base.specs.Signatures.{encoded, hmac, jws, own, own_header, signing_input}
use Rattle.satp_base.specs.declared.message.Message.{Message}
use Rattle.satp_base.proofs.AsciiText.{text_bytes}
use Rattle.satp_base.proofs.HashLemmas.{bytes_from}
use Rattle.satp_base.proofs.OneText.{one_text}

-- ---- base64url gives its bytes back, and has no full stop

pub encoded_by : (m : List ℕ) → encode_of url_safe_no_pad m ≡ encoded m
unfolding encoded
encoded_by m = append-nil (encode_symbols base64url m)

pub encoded_back : (m : List ℕ) → IsBytes m → decoded_bytes_of url_safe_no_pad (encoded m) ≡ m
encoded_back m bytes =
    let e = url_safe_no_pad in
    let back = (decode-encode e.encode_table e.decode_table m e.padding.value e.config.decode_allow_trailing_bits e.config.decode_padding_mode e.config.encode_padding e.tables bytes refl).1 in
    ap (decoded_bytes_of url_safe_no_pad) (sym (encoded_by m)) ∙ back

pub same_bytes : (m n : List ℕ) → IsBytes m → IsBytes n → encoded m ≡ encoded n → m ≡ n
same_bytes m n first second e = sym (encoded_back m first) ∙ ap (decoded_bytes_of url_safe_no_pad) e ∙ encoded_back n second

abbrev pub no_stop : ℕ → Bool
no_stop b = not (b == 46)

symbol_at : (symbols : List ℕ) → list_all no_stop symbols ≡ true → (i : ℕ) → no_stop (get_or symbols i 0) ≡ true
symbol_at [] h i = refl
symbol_at (s ∷ symbols) h zero = (and_parts _ _ h).0
symbol_at (s ∷ symbols) h (suc i) = symbol_at symbols (and_parts _ _ h).1 i

symbol : (i : ℕ) → no_stop (get_or base64url i 0) ≡ true
symbol = symbol_at base64url refl

pub no_stop_in : (m : List ℕ) → list_all no_stop (encode_symbols base64url m) ≡ true
unfolding encode_symbols
no_stop_in [] = refl
no_stop_in (a ∷ []) = and_from _ _ (symbol (a / 4)) (and_from _ _ (symbol (a % 4 * 16)) refl)
no_stop_in (a ∷ b ∷ []) = and_from _ _ (symbol (a / 4)) (and_from _ _ (symbol (a % 4 * 16 + b / 16)) (and_from _ _ (symbol (b % 16 * 4)) refl))
no_stop_in (a ∷ b ∷ c ∷ rest) =
    and_from _ _ (symbol (a / 4)) (and_from _ _ (symbol (a % 4 * 16 + b / 16)) (and_from _ _ (symbol (b % 16 * 4 + c / 64)) (and_from _ _ (symbol (c % 64)) (no_stop_in rest))))

pub no_stop_encoded : (m : List ℕ) → list_all no_stop (encoded m) ≡ true
unfolding encoded
no_stop_encoded m = no_stop_in m

-- ---- the first full stop parts a text in one way

stop_head : (b : ℕ) (bs : List ℕ) → list_all no_stop (b ∷ bs) ≡ true → 46 ≡ b → ⊥
stop_head b bs h e = let bad : no_stop 46 ≡ true = subst (λ (x : ℕ). no_stop x ≡ true) (sym e) (and_parts _ _ h).0 in cc

pub parted : (a b x y : List ℕ) → list_all no_stop a ≡ true → list_all no_stop b ≡ true → a ++ 46 ∷ x ≡ b ++ 46 ∷ y → (a ≡ b) × (x ≡ y)
parted [] [] x y g h e = (refl, cc)
parted [] (d ∷ b) x y g h e = let same : 46 ≡ d = cc in absurd (stop_head d b h same)
parted (c ∷ a) [] x y g h e = let same : 46 ≡ c = cc in absurd (stop_head c a g same)
parted (c ∷ a) (d ∷ b) x y g h e =
    let same : c ≡ d = cc in
    let more : a ++ 46 ∷ x ≡ b ++ 46 ∷ y = cc in
    let rest = parted a b x y (and_parts _ _ g).1 (and_parts _ _ h).1 more in
    (rw same (ap (λ (tail : List ℕ). d ∷ tail) rest.0), rest.1)

pub jws_shows : (key other h p i q : List ℕ) → IsBytes h → IsBytes p → IsBytes i → IsBytes q → jws key h p ≡ jws other i q → (h ≡ i) × (p ≡ q)
unfolding jws
jws_shows key other h p i q hb pb ib qb e =
    let left = append_assoc (encoded h) (46 ∷ encoded p) (46 ∷ encoded (hmac key (signing_input h p))) in
    let right = append_assoc (encoded i) (46 ∷ encoded q) (46 ∷ encoded (hmac other (signing_input i q))) in
    let header = parted _ _ _ _ (no_stop_encoded h) (no_stop_encoded i) (sym left ∙ e ∙ right) in
    let payload = parted _ _ _ _ (no_stop_encoded p) (no_stop_encoded q) header.1 in
    (same_bytes h i hb ib header.0, same_bytes p q pb qb payload.0)

pub own_shows : (key other : List ℕ) (m n : Message) → IsMessage m → IsMessage n → own key m ≡ own other n → m ≡ n
unfolding own
own_shows key other m n first second e =
    let header : IsBytes own_header = bytes_from own_header refl in
    let payload = jws_shows key other own_header (canonical m) own_header (canonical n) header (text_bytes m first) header (text_bytes n second) e in
    one_text m n (canonical m) first second refl payload.1
