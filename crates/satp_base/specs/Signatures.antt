-- HMAC with SHA-256 (RFC 2104), and the compact JWS that it signs (RFC 7515, section 3.1; HS256 of RFC 7518, section 3.2).
use Rattle.std.specs.Prelude.{◌≡◌, ℕ, ◌-◌, List, ◌∷◌, ◌++◌, map, length, replicate, codes, bit_xor, nat_le, if◌then◌else◌}
use Rattle.base64.specs.Rfc4648.{encode_symbols}
use Rattle.base64.specs.GeneralPurpose.{IsBytes}
use Rattle.sha2.specs.Sha256.{sha256}
use Rattle.satp_base.specs.Canonical.{base64url, canonical}
use Rattle.satp_base.specs.Forms.{IsMessage}
use Rattle.satp_base.specs.declared.message.Message.{Message}

-- ---- HMAC

-- SHA-256 takes blocks of 64 bytes: a longer key is hashed first
abbrev pub short_key : List ℕ → List ℕ
short_key key = if nat_le (length key) 64 then key else sha256 key

-- zeros behind it make the key one block
abbrev pub key_block : List ℕ → List ℕ
key_block key = short_key key ++ replicate (64 - length (short_key key)) 0

abbrev pub xor_each : ℕ → List ℕ → List ℕ
xor_each byte block = map (bit_xor byte) block

-- the hash under the inner pad, and that under the outer pad
abbrev pub inner_hash : List ℕ → List ℕ → List ℕ
inner_hash key message = sha256 (xor_each 0x36 (key_block key) ++ message)

unfoldable pub hmac : List ℕ → List ℕ → List ℕ
hmac key message = sha256 (xor_each 0x5c (key_block key) ++ inner_hash key message)

-- ---- compact JWS

-- base64url without padding (RFC 4648, section 5)
unfoldable pub encoded : List ℕ → List ℕ
encoded bytes = encode_symbols base64url bytes

-- what is signed: the header and the payload with a full stop between them
abbrev pub signing_input : List ℕ → List ℕ → List ℕ
signing_input header payload = encoded header ++ 46 ∷ encoded payload

unfoldable pub jws : List ℕ → List ℕ → List ℕ → List ℕ
jws key header payload = signing_input header payload ++ 46 ∷ encoded (hmac key (signing_input header payload))

-- the header of this gateway's texts
abbrev pub own_header : List ℕ
own_header = codes "{\"alg\":\"HS256\"}"

-- the text of a message under a key: one key and one message have one text
unfoldable pub own : List ℕ → Message → List ℕ
own key m = jws key own_header (canonical m)

-- a text shows its header and its payload, whatever the key
abbrev pub OnePayload : Type 0
OnePayload =
    (key other : List ℕ) (header payload : List ℕ) (header' payload' : List ℕ)
    → IsBytes header → IsBytes payload → IsBytes header' → IsBytes payload'
    → jws key header payload ≡ jws other header' payload' → (header ≡ header') × (payload ≡ payload')

-- a message's own text is that of no other message, whatever the key
abbrev pub OneMessage : Type 0
OneMessage = (key other : List ℕ) (m n : Message) → IsMessage m → IsMessage n → own key m ≡ own other n → m ≡ n
