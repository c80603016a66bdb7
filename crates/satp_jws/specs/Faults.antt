-- Why bytes are no key, and why a text is no compact JWS under a key: each the first fault that holds.
use Rattle.std.specs.Prelude.{◌≡◌, ◌↔◌, ℕ, ◌==◌, List, [], ◌∷◌, ◌++◌, Bool, codes, length, nat_lt, Option, Some, None, is_some, option_and_then, unwrap_or, if◌then◌else◌}
use Rattle.std.specs.List.{slice_split}
use Rattle.std.specs.Str.{bytes_eq, is_utf8}
use Rattle.serde_json.specs.Data.{Data}
use Rattle.serde_json.specs.Read.{read}
use Rattle.serde_json.specs.Find.{get, as_str}
use Rattle.base64.specs.Engines.{url_safe_no_pad}
use Rattle.base64.specs.GeneralPurpose.{IsBytes, decoded_of}
use Rattle.satp_base.specs.Faults.{or_else}
use Rattle.satp_base.specs.Signatures.{encoded, hmac, own_header}
use Rattle.satp_jws.specs.declared.fault.KeyFault.{KeyFault}
use Rattle.satp_jws.specs.declared.fault.KeyFault.TheVariants.{Short, Long}
use Rattle.satp_jws.specs.declared.fault.JwsFault.{JwsFault}
use Rattle.satp_jws.specs.declared.fault.JwsFault.TheVariants.{Parts, NotBase64, Header, Algorithm, Critical, Signature}

abbrev pub key_fault : List ℕ → Option KeyFault
key_fault bytes = if nat_lt (length bytes) 32 then Some (Short (length bytes)) else if nat_lt 64 (length bytes) then Some (Long (length bytes)) else None

-- ---- the parts between the full stops

abbrev pub is_stop : ℕ → Bool
is_stop b = b == 46

abbrev pub parts_of : List ℕ → List (List ℕ)
parts_of text = slice_split is_stop text

-- the bytes whose base64url a part is, without padding and with zero trailing bits; none where it is that of no bytes
unfoldable pub decoded : List ℕ → Option (List ℕ)
decoded part = decoded_of url_safe_no_pad part

abbrev pub bytes_of : List ℕ → List ℕ
bytes_of part = unwrap_or (decoded part) []

-- what the parts say, where there are three of them
abbrev pub header_in : List (List ℕ) → List ℕ
header_in (header ∷ payload ∷ signature ∷ []) = bytes_of header
header_in _ = []

abbrev pub payload_in : List (List ℕ) → List ℕ
payload_in (header ∷ payload ∷ signature ∷ []) = bytes_of payload
payload_in _ = []

unfoldable pub header_of : List ℕ → List ℕ
header_of text = header_in (parts_of text)

unfoldable pub payload_of : List ℕ → List ℕ
payload_of text = payload_in (parts_of text)

-- ---- the header

-- the value that the bytes are, where they are UTF-8
unfoldable pub json_of : List ℕ → Option Data
json_of header = if is_utf8 header then read header else None

-- a member of a JSON object, where it has it
abbrev pub algorithm_of : Data → Option (List ℕ)
algorithm_of d = option_and_then as_str (get (codes "alg") d)

abbrev pub has_critical : Data → Bool
has_critical d = is_some (get (codes "crit") d)

abbrev pub algorithm_fault : Option (List ℕ) → Bool → Option JwsFault
algorithm_fault None critical = Some Header
algorithm_fault (Some name) critical = if bytes_eq name (codes "HS256") then (if critical then Some Critical else None) else Some Algorithm

abbrev pub data_fault : Option Data → Option JwsFault
data_fault None = Some Header
data_fault (Some d) = algorithm_fault (algorithm_of d) (has_critical d)

abbrev pub header_fault : List ℕ → Option JwsFault
header_fault header = data_fault (json_of header)

-- ---- the tests in their order

abbrev pub part_fault : ℕ → List ℕ → Option JwsFault
part_fault number part = if is_some (decoded part) then None else Some (NotBase64 number)

-- the third part is the base64url of the HMAC of the first two, with the full stop between them
abbrev pub signature_fault : List ℕ → List ℕ → List ℕ → List ℕ → Option JwsFault
signature_fault key header payload signature = if bytes_eq (bytes_of signature) (hmac key (header ++ 46 ∷ payload)) then None else Some Signature

unfoldable pub three_fault : List ℕ → List ℕ → List ℕ → List ℕ → Option JwsFault
three_fault key header payload signature =
    or_else (part_fault 1 header)
    (or_else (part_fault 2 payload)
    (or_else (part_fault 3 signature)
    (or_else (header_fault (bytes_of header))
    (signature_fault key header payload signature))))

abbrev pub parts_fault : List ℕ → List (List ℕ) → Option JwsFault
parts_fault key (header ∷ payload ∷ signature ∷ []) = three_fault key header payload signature
parts_fault key parts = Some (Parts (length parts))

unfoldable pub jws_fault : List ℕ → List ℕ → Option JwsFault
jws_fault key text = parts_fault key (parts_of text)

-- ---- laws

-- the header that this gateway's texts have passes the tests of headers
abbrev pub OwnHeaderPasses : Type 0
OwnHeaderPasses = header_fault own_header ≡ None

-- a part decodes exactly where it is the unpadded base64url of some bytes, and to these
abbrev pub DecodesWhatIsEncoded : Type 0
DecodesWhatIsEncoded = (part bytes : List ℕ) → IsBytes part → (decoded part ≡ Some bytes) ↔ (IsBytes bytes × (part ≡ encoded bytes))
