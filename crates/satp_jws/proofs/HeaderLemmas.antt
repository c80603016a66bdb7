-- The JSON value of a header.
use Rattle.std.proofs.Common.{◌≡◌, ℕ, zero, suc, ◌<◌, arith, Bool, true, false, cond, List, [], ◌∷◌, Option, Some, None, refl, ap, ◌∙◌}
use Rattle.std.specs.Prelude.{nat_lt, slice_index}
use Rattle.std.specs.List.{list_all}
use Rattle.std.specs.Str.{IsUtf8, is_utf8}
use Rattle.std.proofs.lemmas.Str.{IsUtf8-from_ascii, IsUtf8-from_is_utf8, is_utf8-from_IsUtf8}
use Rattle.std.proofs.lemmas.Bool.{and_parts, ltb-true}
use Rattle.serde_json.specs.Data.{Data}
use Rattle.serde_json.specs.Read.{read}
use Rattle.serde_json.proofs.OnLiterals.{serde_json_on_literals}
use Rattle.satp_base.specs.Signatures.{own_header}
use Rattle.satp_jws.specs.Faults.{data_fault, header_fault, json_of}

pub data_read : (header : List ℕ) (d : Data) → IsUtf8 header → read header ≡ Some d → json_of header ≡ Some d
unfolding json_of
data_read header d valid e = rw (is_utf8-from_IsUtf8 header valid) e

chosen_none : (b : Bool) (o : Option Data) → (b ≡ true → o ≡ None) → cond b o None ≡ None
chosen_none true o h = h refl
chosen_none false o h = refl

pub data_none : (header : List ℕ) → (IsUtf8 header → read header ≡ None) → json_of header ≡ None
unfolding json_of
data_none header h = chosen_none (is_utf8 header) (read header) (λ e. h (IsUtf8-from_is_utf8 header e))

-- ---- the header of each text that is signed here

ascii_from : (xs : List ℕ) → list_all (λ b. nat_lt b 128) xs ≡ true → (i : ℕ) → slice_index xs i < 128
ascii_from [] e i = omega arith
ascii_from (x ∷ xs) e zero = ltb-true x 128 (and_parts _ _ e).0
ascii_from (x ∷ xs) e (suc i) = ascii_from xs (and_parts _ _ e).1 i

own_json : json_of own_header ≡ read own_header
unfolding json_of
own_json = ap (λ (b : Bool). cond b (read own_header) None) (is_utf8-from_IsUtf8 own_header (IsUtf8-from_ascii own_header (ascii_from own_header refl)))

own_data : data_fault (read own_header) ≡ None
unfolding serde_json_on_literals
own_data = refl

pub own_header_passes : header_fault own_header ≡ None
own_header_passes = ap data_fault own_json ∙ own_data
