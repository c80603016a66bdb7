-- Reading a compact text gives the value back, and the text of a message is the compact text of its data.
use Rattle.std.proofs.Common.{◌≡◌, ℕ, ◌<◌, ◌≤◌, ◌^◌, true, List, [], ◌∷◌, ◌++◌, map, Some, option_and_then, refl, ap, ap₂, sym, ◌∙◌, arith, append_assoc, append-nil, suc}
use Rattle.std.specs.List.{join_with_byte}
use Rattle.std.proofs.lemmas.Bool.{and_parts, leb-true, eq-eqb, both_ways, not-true}
use Rattle.json.specs.Print.{quoted, escape, escape_byte}
use Rattle.json.specs.Json as json
use Rattle.json.specs.Tree.{json_tokens, HasNumbers}
use Rattle.json.specs.Tree as tree
use Rattle.json.specs.Lex.{tokens}
use Rattle.json.proofs.Printed.Strings.{escape_byte_plain}
use Rattle.json.proofs.Printed.Tokens.{tokens-print}
use Rattle.json.proofs.Printed.Trees.{ArePrintable-json_tokens, value-json_tokens}
use Rattle.json.proofs.Printed.Decimals.{IsNumber-decimal}
use Rattle.serde_json.specs.Data.{Data, object, string, number, unsigned, Items, no_items, item, Members, no_members, member}
use Rattle.serde_json.specs.Data as serde
use Rattle.serde_json.specs.Read.{read, of_json, of_items, max_depth}
use Rattle.serde_json.specs.Written.{outline, items_outline, compact_text, items_text, members_text}
use Rattle.serde_json.proofs.Texts.{print-outline}
use Rattle.serde_json.proofs.Numbers.{number_of-decimal}
use Rattle.satp_base.specs.Canonical as canon
use Rattle.satp_base.specs.declared.member.MemberName.{MemberName}
use Rattle.satp_base.specs.declared.member.MemberName.TheVariants as name
use Rattle.satp_base.proofs.Plain.{ArePlain, IsPlain, is_plain}
use Rattle.satp_canon.specs.Reads.{scalar_data, word_items}

-- ---- any value without a float

pub read-compact : (d : Data) → HasNumbers (outline d) → of_json (outline d) ≡ Some d → tree.depth (outline d) ≤ max_depth → read (compact_text d) ≡ Some d
read-compact d numbers back shallow =
    let ts = json_tokens (outline d) in
    let same : tokens (compact_text d) ≡ ts ++ [] = ap tokens (sym (print-outline d)) ∙ tokens-print ts (ArePrintable-json_tokens (outline d) numbers) ∙ sym (append-nil ts) in
    ap (λ l. option_and_then of_json (option_and_then (λ p. json.if_last p.0 p.1) (json.value max_depth l))) same
    ∙ ap (λ o. option_and_then of_json (option_and_then (λ p. json.if_last p.0 p.1) o)) (value-json_tokens (outline d) max_depth [] shallow)
    ∙ back

-- ---- what needs no escape

plain_byte : (b : ℕ) → is_plain b ≡ true → escape_byte b ≡ b ∷ []
plain_byte b e =
    let p = and_parts _ _ e in
    let q = and_parts _ _ p.0 in
    let r = and_parts _ _ q.0 in
    escape_byte_plain b (λ h. both_ways _ (not-true _ r.1) (eq-eqb b 34 h)) (λ h. both_ways _ (not-true _ q.1) (eq-eqb b 92 h)) (leb-true _ _ r.0)

plain : (s : List ℕ) → IsPlain s → escape s ≡ s
plain [] e = refl
plain (b ∷ s) e = let p = and_parts _ _ e in rw (plain_byte b p.0, plain s p.1) refl

pub quoted_plain : (s : List ℕ) → IsPlain s → quoted s ≡ canon.string s
quoted_plain s e = ap (λ t. 34 ∷ t ++ 34 ∷ []) (plain s e)

-- ---- values

-- a value whose words need no escape and whose numbers fit 64 bits
abbrev pub FitsScalar : canon.Scalar → Type 0
FitsScalar (canon.number n) = n < 2 ^ 64
FitsScalar (canon.word bytes) = IsPlain bytes

-- so its text reads back as it
pub record ReadsBack (d : Data) (text : List ℕ) : Type 0 where
  pub numbers : HasNumbers (outline d)
  pub back : of_json (outline d) ≡ Some d
  pub compact : compact_text d ≡ text

pub scalar_back : (s : canon.Scalar) → FitsScalar s → ReadsBack (scalar_data s) (canon.scalar_text s)
scalar_back (canon.number n) h = record { numbers = IsNumber-decimal n h; back = rw (number_of-decimal n h) refl; compact = refl }
scalar_back (canon.word bytes) h = record { numbers = tt; back = refl; compact = quoted_plain bytes h }

words_numbers : (ws : List (List ℕ)) → HasNumbers (json.array (items_outline (word_items ws)))
words_numbers [] = tt
words_numbers (w ∷ ws) = (tt, words_numbers ws)

words_back : (ws : List (List ℕ)) → of_items (items_outline (word_items ws)) ≡ Some (word_items ws)
words_back [] = refl
words_back (w ∷ ws) = rw (words_back ws) refl

words_compact : (ws : List (List ℕ)) → ArePlain ws → compact_text (serde.array (word_items ws)) ≡ canon.array (map canon.string ws)
words_compact [] e = refl
words_compact (w ∷ ws) e = let p = and_parts _ _ e in ap (λ (t : List ℕ). 91 ∷ t) (at w ws p.0 p.1)
  where
    at : (w : List ℕ) (ws : List (List ℕ)) → IsPlain w → ArePlain ws → quoted w ++ items_text true (word_items ws) ≡ join_with_byte 44 (map canon.string (w ∷ ws)) ++ 93 ∷ []
    at w [] e f = ap (λ (t : List ℕ). t ++ 93 ∷ []) (quoted_plain w e)
    at w (x ∷ xs) e f =
        let p = and_parts _ _ f in
        ap₂ (λ (a b : List ℕ). a ++ 44 ∷ b) (quoted_plain w e) (at x xs p.0 p.1) ∙ sym (append_assoc (canon.string w) (44 ∷ join_with_byte 44 (map canon.string (x ∷ xs))) (93 ∷ []))

pub words_read : (ws : List (List ℕ)) → ArePlain ws → ReadsBack (serde.array (word_items ws)) (canon.array (map canon.string ws))
words_read ws e = record { numbers = words_numbers ws; back = rw (words_back ws) refl; compact = words_compact ws e }

-- ---- members

abbrev pub Field : Type 0
Field = MemberName × Data

abbrev pub to_members : List Field → Members
to_members [] = no_members
to_members (f ∷ fs) = member (canon.member_text f.0) f.1 (to_members fs)

abbrev text_of : Field → List ℕ
text_of f = quoted (canon.member_text f.0) ++ 58 ∷ compact_text f.1

split : (k c rest : List ℕ) → k ++ 58 ∷ (c ++ rest) ≡ (k ++ 58 ∷ c) ++ rest
split k c rest = sym (append_assoc k (58 ∷ c) rest)

joined : (x : List ℕ) (fs : List Field) → x ++ members_text true (to_members fs) ≡ join_with_byte 44 (x ∷ map text_of fs) ++ 125 ∷ []
joined x [] = refl
joined x (f ∷ fs) =
    ap (λ l. x ++ 44 ∷ l) (split (quoted (canon.member_text f.0)) (compact_text f.1) (members_text true (to_members fs)) ∙ joined (text_of f) fs)
    ∙ sym (append_assoc x (44 ∷ join_with_byte 44 (text_of f ∷ map text_of fs)) (125 ∷ []))

compact_object : (f : Field) (fs : List Field) → compact_text (object (to_members (f ∷ fs))) ≡ 123 ∷ (join_with_byte 44 (map text_of (f ∷ fs)) ++ 125 ∷ [])
compact_object f fs = ap (λ l. 123 ∷ l) (split (quoted (canon.member_text f.0)) (compact_text f.1) (members_text true (to_members fs)) ∙ joined (text_of f) fs)

plain_name : (n : MemberName) → IsPlain (canon.member_text n)
plain_name name.Amount = refl
plain_name name.Asset = refl
plain_name name.Beneficiary = refl
plain_name name.Entries = refl
plain_name name.Kind = refl
plain_name name.Last = refl
plain_name name.Length = refl
plain_name name.Originator = refl
plain_name name.Previous = refl
plain_name name.Reason = refl
plain_name name.Receiver = refl
plain_name name.Sender = refl
plain_name name.Sequence = refl
plain_name name.Session = refl
plain_name name.Terms = refl
plain_name name.Version = refl
plain_name name.Unknown = refl

quoted_name : (n : MemberName) → quoted (canon.member_text n) ≡ canon.string (canon.member_text n)
quoted_name n = quoted_plain (canon.member_text n) (plain_name n)

-- the data and the text of each name in a list
module _ (f : MemberName → Data) (t : MemberName → List ℕ) (each : (n : MemberName) → ReadsBack (f n) (t n)) where
  abbrev pub own_fields : List MemberName → List Field
  own_fields ns = map (λ n. (n, f n)) ns

  abbrev pub own_object : List MemberName → Data
  own_object ns = object (to_members (own_fields ns))

  own_texts : (ns : List MemberName) → map text_of (own_fields ns) ≡ map canon.member (map (λ n. (canon.member_text n, t n)) ns)
  own_texts [] = refl
  own_texts (n ∷ ns) = ap₂ (λ (x : List ℕ) (xs : List (List ℕ)). x ∷ xs) (ap₂ (λ (a b : List ℕ). a ++ 58 ∷ b) (quoted_name n) (each n).compact) (own_texts ns)

  pub own_compact : (n : MemberName) (ns : List MemberName) → compact_text (own_object (n ∷ ns)) ≡ canon.object (map (λ n. (canon.member_text n, t n)) (n ∷ ns))
  own_compact n ns = compact_object (n, f n) (own_fields ns) ∙ ap (λ (xs : List (List ℕ)). 123 ∷ (join_with_byte 44 xs ++ 125 ∷ [])) (own_texts (n ∷ ns))

  pub own_numbers : (ns : List MemberName) → HasNumbers (outline (own_object ns))
  own_numbers [] = tt
  own_numbers (n ∷ ns) = ((each n).numbers, own_numbers ns)

  pub own_shallow : (ns : List MemberName) (k : ℕ) → ((n : MemberName) → tree.depth (outline (f n)) ≤ k) → tree.depth (outline (own_object ns)) ≤ suc k
  own_shallow [] k h = omega arith
  own_shallow (n ∷ ns) k h = let first = h n in let others = own_shallow ns k h in omega (arith, first, others)
