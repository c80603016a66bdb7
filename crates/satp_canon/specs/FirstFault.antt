-- The first fault of bytes that are to be a canonical text, over the JSON value that `serde_json` reads from them.
use Rattle.std.specs.Prelude.{◌≡◌, ◌≢◌, ◌↔◌, ℕ, ◌+◌, ◌&&◌, ◌==◌, Bool, false, not, List, [], ◌∷◌, ◌++◌, length, map, filter, fold, codes, nat_le, nat_lt, if◌then◌else◌, Option, Some, None, Result, Ok, Err, is_some, is_none, flat_map, option_and_then, option_map}
use Rattle.std.specs.List.{AllByRecursion, list_all, list_any}
use Rattle.std.specs.Option.{option_map_or}
use Rattle.std.specs.Ordering.{nat_cmp, match_ordering}
use Rattle.std.specs.declared.cmp.Ordering.TheVariants.{Greater}
use Rattle.std.specs.Cmp.Lexicographic.{slice_cmp}
use Rattle.std.specs.Str.{bytes_eq, is_utf8}
use Rattle.base64.specs.Engines.{url_safe_no_pad}
use Rattle.base64.specs.GeneralPurpose.{decode_of}
use Rattle.base64.specs.declared.decode.DecodeError.{DecodeError}
use Rattle.serde_json.specs.Data.{Data, Items, no_items, item, Members, no_members, member}
use Rattle.serde_json.specs.Find.{as_array, as_number, as_object, as_str, as_u64, get}
use Rattle.serde_json.specs.Read.{read}
use Rattle.serde_json.specs.Written.{compact_text}
use Rattle.satp_base.specs.Canonical as canon
use Rattle.satp_base.specs.Canonical.{kind_named, member_named, member_text, reason_named, row, terms_row}
use Rattle.satp_base.specs.Faults.{or_else, session_fault}
use Rattle.satp_base.specs.Forms.{is_entry}
use Rattle.satp_base.specs.Names.{is_name}
use Rattle.satp_base.specs.Numbers.{greatest_amount}
use Rattle.satp_base.specs.declared.member.MemberName.{MemberName}
use Rattle.satp_base.specs.declared.member.MemberName.TheVariants as name
use Rattle.satp_base.specs.declared.message.Kind.{Kind}
use Rattle.satp_canon.specs.declared.fault.CanonFault.{CanonFault}
use Rattle.satp_canon.specs.declared.fault.CanonFault.TheVariants as fault

-- ---- several tests

abbrev pub first_of : List (Option CanonFault) → Option CanonFault
first_of [] = None
first_of (o ∷ others) = or_else o (first_of others)

-- ---- names of members

abbrev pub member_list : Members → List (List ℕ)
member_list no_members = []
member_list (member name value others) = name ∷ member_list others

abbrev pub names_of : Data → List (List ℕ)
names_of d = option_map_or member_list (as_object d) []

abbrev pub is_named : List MemberName → List ℕ → Bool
is_named names text = list_any (λ n. bytes_eq (member_text n) text) names

-- the names that stand in the list and not in the object, and those that stand in the object and not in the list
abbrev pub odd_names : List MemberName → Data → List (List ℕ)
odd_names names d = filter (λ text. not (is_some (get text d))) (map member_text names) ++ filter (λ text. not (is_named names text)) (names_of d)

-- the lesser in byte order
abbrev pub lesser : List ℕ → List ℕ → List ℕ
lesser a b = match_ordering (slice_cmp nat_cmp a b) a a b

abbrev pub least_yet : Option (List ℕ) → List ℕ → Option (List ℕ)
least_yet None text = Some text
least_yet (Some yet) text = Some (lesser yet text)

abbrev pub least : List (List ℕ) → Option (List ℕ)
least texts = fold least_yet None texts

-- a doesn't stand after b in byte order
abbrev pub IsUpTo : List ℕ → List ℕ → Type 0
IsUpTo a b = slice_cmp nat_cmp a b ≢ Greater

-- the text stands in the list, and after none of it in byte order
pub record IsFirstOf (texts : List (List ℕ)) (text : List ℕ) : Type 0 where
  pub stands : (before : List (List ℕ)) × (after : List (List ℕ)) × (texts ≡ before ++ text ∷ after)
  pub least : AllByRecursion (IsUpTo text) texts

-- what is found is the first of the list, and nothing where there is none
abbrev pub FindsTheFirst : Type 0
FindsTheFirst = (texts : List (List ℕ)) (text : List ℕ) → (least texts ≡ Some text) ↔ IsFirstOf texts text

abbrev pub member_fault : List MemberName → Data → Option CanonFault
member_fault names d = option_map (λ text. fault.Member (member_named text)) (least (odd_names names d))

-- ---- forms of values

-- a whole number as `serde_json` reads it, without a fraction, exponent or sign
abbrev pub number_in : Option Data → Option ℕ
number_in found = option_and_then as_u64 (option_and_then as_number found)

abbrev pub text_in : Option Data → Option (List ℕ)
text_in found = option_and_then as_str found

abbrev pub holds_number : (ℕ → Bool) → Option Data → Bool
holds_number test found = option_map_or test (number_in found) false

abbrev pub holds_text : (List ℕ → Bool) → Option Data → Bool
holds_text test found = option_map_or test (text_in found) false

abbrev pub is_within : ℕ → ℕ → ℕ → Bool
is_within low high n = nat_le low n && nat_le n high

abbrev pub are_32 : Result (List ℕ) DecodeError → Bool
are_32 (Ok bytes) = length bytes == 32
are_32 (Err e) = false

-- the base64url of 32 bytes, without padding and with zero trailing bits (RFC 4648, sections 3.5 and 5)
abbrev pub is_link : List ℕ → Bool
is_link text = are_32 (decode_of url_safe_no_pad text)

abbrev pub item_list : Items → List Data
item_list no_items = []
item_list (item d ds) = d ∷ item_list ds

-- at most two entries
abbrev pub are_entries : List Data → Bool
are_entries ds = nat_le (length ds) 2 && list_all (λ d. holds_text is_entry (Some d)) ds

abbrev pub holds_entries : Option Data → Bool
holds_entries found = option_map_or (λ ds. are_entries (item_list ds)) (option_and_then as_array found) false

-- what stands at this name has the type and form that the name wants; what stands in terms is tested apart
abbrev pub has_form : MemberName → Option Data → Bool
has_form name.Amount found = holds_number (is_within 1 greatest_amount) found
has_form name.Asset found = holds_text is_name found
has_form name.Beneficiary found = holds_text is_name found
has_form name.Entries found = holds_entries found
has_form name.Kind found = holds_text (λ text. is_some (kind_named text)) found
has_form name.Last found = holds_text is_link found
has_form name.Length found = holds_number (is_within 0 11) found
has_form name.Originator found = holds_text is_name found
has_form name.Previous found = holds_text is_link found
has_form name.Reason found = holds_text (λ text. is_some (reason_named text)) found
has_form name.Receiver found = holds_text is_name found
has_form name.Sender found = holds_text is_name found
has_form name.Sequence found = holds_number (is_within 1 11) found
has_form name.Session found = holds_text (λ text. is_none (session_fault text)) found
has_form name.Terms found = is_some (option_and_then as_object found)
has_form name.Version found = holds_number (is_within 1 1) found
has_form name.Unknown found = false

abbrev pub fault_unless : Bool → MemberName → Option CanonFault
fault_unless good n = if good then None else Some (fault.Value n)

abbrev pub form_fault : Data → MemberName → Option CanonFault
form_fault d n = fault_unless (has_form n (get (member_text n) d)) n

-- the names in the terms are tested, and then their values
abbrev pub terms_fault : Data → Option CanonFault
terms_fault d = or_else (member_fault terms_row d) (first_of (map (form_fault d) terms_row))

abbrev pub value_faults : Data → MemberName → List (Option CanonFault)
value_faults d name.Terms = form_fault d name.Terms ∷ option_and_then terms_fault (get (codes "terms") d) ∷ []
value_faults d n = form_fault d n ∷ []

abbrev pub values_fault : List MemberName → Data → Option CanonFault
values_fault names d = first_of (flat_map (value_faults d) names)

-- ---- the value

-- the names of the kind's members, and then their values
abbrev pub kind_fault : Data → Option Kind → Option CanonFault
kind_fault d None = Some (fault.Value name.Kind)
kind_fault d (Some k) = or_else (member_fault (row k) d) (values_fault (row k) d)

-- a value that is no object has no member `kind`
abbrev pub data_fault : Data → Option CanonFault
data_fault d = option_map_or (λ v. kind_fault d (option_and_then kind_named (as_str v))) (get (codes "kind") d) (Some (fault.Member name.Kind))

-- ---- the text

-- the terms, in their order
abbrev pub written_field : Data → MemberName → canon.Member
written_field d n = (member_text n, option_map_or compact_text (get (member_text n) d) [])

abbrev pub written_value : MemberName → Data → List ℕ
written_value name.Terms d = canon.object (map (written_field d) terms_row)
written_value n d = compact_text d

-- the members of the kind, in their order, with the values that were read
abbrev pub written_member : Data → MemberName → canon.Member
written_member d n = (member_text n, option_map_or (written_value n) (get (member_text n) d) [])

abbrev pub written_as : Kind → Data → List ℕ
written_as k d = canon.object (map (written_member d) (row k))

-- the canonical text of the message that was read
abbrev pub written : Data → List ℕ
written d = option_map_or (λ k. written_as k d) (option_and_then kind_named (option_and_then as_str (get (codes "kind") d))) []

-- the first place where two texts differ, or the length of the shorter one
abbrev pub common : List ℕ → List ℕ → ℕ
common [] ys = 0
common (x ∷ xs) [] = 0
common (x ∷ xs) (y ∷ ys) = if x == y then common xs ys + 1 else 0

abbrev pub text_fault : List ℕ → List ℕ → Option CanonFault
text_fault text other = if bytes_eq text other then None else Some (fault.NotCanonical (common text other))

abbrev pub json_fault : List ℕ → Option Data → Option CanonFault
json_fault text None = Some fault.NotJson
json_fault text (Some d) = or_else (data_fault d) (text_fault text (written d))

-- the value that the bytes are, where they are UTF-8
abbrev pub json_of : List ℕ → Option Data
json_of text = if is_utf8 text then read text else None

abbrev pub longest : ℕ
longest = 8192

-- None: the bytes are the canonical text of a message
unfoldable pub first_fault : List ℕ → Option CanonFault
first_fault text = if nat_lt longest (length text) then Some (fault.Long (length text)) else json_fault text (json_of text)
