-- Canonical texts are ASCII.
use Rattle.std.proofs.Common.{◌≡◌, ℕ, zero, suc, ◌<◌, ◌^◌, Bool, true, nat_lt, List, [], ◌∷◌, ◌++◌, map, decimal, refl, ◌∙◌, arith}
use Rattle.std.specs.Prelude.{slice_index}
use Rattle.std.specs.List.{join_with_byte, list_all}
use Rattle.std.proofs.lemmas.Bool.{and_from, and_parts, ltb-true}
use Rattle.std.proofs.lemmas.List.Folds.{list_all-append}
use Rattle.satp_base.specs.Canonical.{array, body_value, canonical, field_member, fields, kind_of, kind_text, link_text, reason_text, Member, member, member_text, message_member, object, part_value, row, string, terms_fields, value, value_text}
use Rattle.satp_base.specs.Forms.{HasLink, IsBody, IsMessage}
use Rattle.satp_base.specs.Values.{name_text, session_text}
use Rattle.satp_base.specs.declared.member.MemberName.{MemberName}
use Rattle.satp_base.specs.declared.member.MemberName.TheVariants as name
use Rattle.satp_base.specs.declared.message.Terms.{Terms}
use Rattle.satp_base.specs.declared.message.Part.{Part}
use Rattle.satp_base.specs.declared.message.Part.TheVariants as part
use Rattle.satp_base.specs.declared.message.Body.{Body}
use Rattle.satp_base.specs.declared.message.Body.TheVariants as body
use Rattle.satp_base.specs.declared.message.Message.{Message}
use Rattle.satp_base.proofs.Plain.{ArePlain, IsPlain, is_plain, plain_decimal, plain_entries, plain_kind, plain_link, plain_name, plain_reason, plain_session, weaker}

abbrev pub is_ascii : ℕ → Bool
is_ascii b = nat_lt b 128

abbrev pub IsAscii : List ℕ → Type 0
IsAscii bytes = list_all is_ascii bytes ≡ true

both : (xs ys : List ℕ) → IsAscii xs → IsAscii ys → IsAscii (xs ++ ys)
both xs ys e f = list_all-append is_ascii xs ys ∙ and_from _ _ e f

from_plain : (xs : List ℕ) → IsPlain xs → IsAscii xs
from_plain = weaker is_plain is_ascii (λ b e. (and_parts _ _ e).1)

ascii_string : (xs : List ℕ) → IsPlain xs → IsAscii (string xs)
ascii_string xs e = both xs (34 ∷ []) (from_plain xs e) refl

ascii_decimal : (n : ℕ) → n < 2 ^ 64 → IsAscii (decimal n)
ascii_decimal n h = from_plain (decimal n) (plain_decimal n h)

ascii_join : (xs : List (List ℕ)) → list_all (list_all is_ascii) xs ≡ true → IsAscii (join_with_byte 44 xs)
ascii_join [] e = refl
ascii_join (x ∷ []) e = (and_parts _ _ e).0
ascii_join (x ∷ y ∷ xs) e = let p = and_parts _ _ e in both x (44 ∷ join_with_byte 44 (y ∷ xs)) p.0 (ascii_join (y ∷ xs) p.1)

ascii_object : (ms : List Member) → list_all (list_all is_ascii) (map member ms) ≡ true → IsAscii (object ms)
ascii_object ms e = both (join_with_byte 44 (map member ms)) (125 ∷ []) (ascii_join (map member ms) e) refl

ascii_name : (n : MemberName) → IsAscii (string (member_text n))
ascii_name name.Amount = refl
ascii_name name.Asset = refl
ascii_name name.Beneficiary = refl
ascii_name name.Entries = refl
ascii_name name.Kind = refl
ascii_name name.Last = refl
ascii_name name.Length = refl
ascii_name name.Originator = refl
ascii_name name.Previous = refl
ascii_name name.Reason = refl
ascii_name name.Receiver = refl
ascii_name name.Sender = refl
ascii_name name.Sequence = refl
ascii_name name.Session = refl
ascii_name name.Terms = refl
ascii_name name.Version = refl
ascii_name name.Unknown = refl

ascii_member : (n : MemberName) (v : List ℕ) → IsAscii v → IsAscii (member (member_text n, v))
ascii_member n v e = both (string (member_text n)) (58 ∷ v) (ascii_name n) e

ascii_terms : (t : Terms) → IsAscii (value_text (fields (terms_fields t)))
ascii_terms t =
    ascii_object (map field_member (terms_fields t))
    (and_from _ _ (ascii_member name.Amount (decimal t.amount.number) (ascii_decimal t.amount.number (omega (arith, t.amount.high))))
    (and_from _ _ (ascii_member name.Asset (string (name_text t.asset)) (ascii_string (name_text t.asset) (plain_name t.asset)))
    (and_from _ _ (ascii_member name.Beneficiary (string (name_text t.beneficiary)) (ascii_string (name_text t.beneficiary) (plain_name t.beneficiary)))
    (and_from _ _ (ascii_member name.Originator (string (name_text t.originator)) (ascii_string (name_text t.originator) (plain_name t.originator))) refl))))

ascii_words : (ws : List (List ℕ)) → ArePlain ws → IsAscii (array (map string ws))
ascii_words ws e = both (join_with_byte 44 (map string ws)) (93 ∷ []) (ascii_join (map string ws) (each ws e)) refl
  where
    each : (xs : List (List ℕ)) → ArePlain xs → list_all (list_all is_ascii) (map string xs) ≡ true
    each [] h = refl
    each (x ∷ xs) h = let p = and_parts _ _ h in and_from _ _ (ascii_string x p.0) (each xs p.1)

ascii_part : (p : Part) (n : MemberName) → IsAscii (value_text (part_value p n))
ascii_part (part.Proposal terms) name.Terms = ascii_terms terms
ascii_part (part.Reject reason) name.Reason = ascii_string (reason_text reason) (plain_reason reason)
ascii_part _ _ = refl

ascii_body : (b : Body) → IsBody b → HasLink b → (n : MemberName) → IsAscii (value_text (body_value b n))
ascii_body (body.Chain place previous p) h l name.Previous = ascii_string (link_text previous) (plain_link previous l)
ascii_body (body.Chain place previous p) h l name.Sequence = ascii_decimal place (omega (arith, h.0.high))
ascii_body (body.Chain place previous p) h l n = ascii_part p n
ascii_body (body.Recover length last) h l name.Last = ascii_string (link_text last) (plain_link last l)
ascii_body (body.Recover length last) h l name.Length = ascii_decimal length (omega (arith, h))
ascii_body (body.Update length entries) h l name.Entries = ascii_words entries (plain_entries entries h.1)
ascii_body (body.Update length entries) h l name.Length = ascii_decimal length (omega (arith, h.0))
ascii_body (body.Success length last) h l name.Last = ascii_string (link_text last) (plain_link last l)
ascii_body (body.Success length last) h l name.Length = ascii_decimal length (omega (arith, h))
ascii_body _ h l _ = refl

ascii_value : (m : Message) → IsMessage m → (n : MemberName) → IsAscii (value_text (value m n))
ascii_value m h name.Kind = ascii_string (kind_text (kind_of m.body)) (plain_kind (kind_of m.body))
ascii_value m h name.Receiver = ascii_string (name_text m.receiver) (plain_name m.receiver)
ascii_value m h name.Sender = ascii_string (name_text m.sender) (plain_name m.sender)
ascii_value m h name.Session = ascii_string (session_text m.session) (plain_session m.session)
ascii_value m h name.Version = ascii_decimal 1 (omega arith)
ascii_value m h n = ascii_body m.body h.0 h.1 n

pub ascii_text : (m : Message) → IsMessage m → IsAscii (canonical m)
unfolding canonical
ascii_text m h = ascii_object (map (message_member m) (row (kind_of m.body))) (each (row (kind_of m.body)))
  where
    each : (ns : List MemberName) → list_all (list_all is_ascii) (map member (map (message_member m) ns)) ≡ true
    each [] = refl
    each (n ∷ ns) = and_from _ _ (ascii_member n (value_text (value m n)) (ascii_value m h n)) (each ns)

pub ascii_at : (m : Message) (i : ℕ) → IsMessage m → slice_index (canonical m) i < 128
ascii_at m i h = at (canonical m) (ascii_text m h) i
  where
    at : (xs : List ℕ) → IsAscii xs → (i : ℕ) → slice_index xs i < 128
    at [] e i = omega arith
    at (x ∷ xs) e zero = ltb-true x 128 (and_parts _ _ e).0
    at (x ∷ xs) e (suc i) = at xs (and_parts _ _ e).1 i

-- so each of them is a byte
pub text_bytes : (m : Message) → IsMessage m → (i : ℕ) → slice_index (canonical m) i < 256
text_bytes m h i = omega (arith, ascii_at m i h)
