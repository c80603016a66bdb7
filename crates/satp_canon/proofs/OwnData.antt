-- The data of a message: it is what the message's text reads as, and it has no fault.
use Rattle.std.proofs.Common.{◌≡◌, ℕ, ◌<◌, ◌≤◌, ◌^◌, List, [], ◌∷◌, length, map, Some, refl, ap, sym, ◌∙◌, arith}
use Rattle.json.specs.Tree as tree
use Rattle.serde_json.specs.Data.{Data, object}
use Rattle.serde_json.specs.Data as serde
use Rattle.serde_json.specs.Read.{read, of_json}
use Rattle.serde_json.specs.Written.{outline, items_outline, compact_text}
use Rattle.satp_base.specs.Canonical as canon
use Rattle.satp_base.specs.Canonical.{canonical, kind_named, kind_of, kind_text, link_text, member_text, message_member, part_kind, part_value, body_value, reason_text, row, term, terms_fields, terms_row, value, value_text}
use Rattle.satp_base.specs.Forms.{HasLink, IsBody, IsMessage}
use Rattle.satp_base.specs.Values.{name_text, session_text}
use Rattle.satp_base.specs.declared.member.MemberName.{MemberName}
use Rattle.satp_base.specs.declared.member.MemberName.TheVariants as name
use Rattle.satp_base.specs.declared.message.Kind.{Kind}
use Rattle.satp_base.specs.declared.message.Kind.TheVariants.{TransferProposal, Reject, Recover, RecoverUpdate, RecoverSuccess}
use Rattle.satp_base.specs.declared.message.Terms.{Terms}
use Rattle.satp_base.specs.declared.message.Part.{Part}
use Rattle.satp_base.specs.declared.message.Part.TheVariants as part
use Rattle.satp_base.specs.declared.message.Body.{Body}
use Rattle.satp_base.specs.declared.message.Body.TheVariants as body
use Rattle.satp_base.specs.declared.message.Message.{Message}
use Rattle.satp_base.proofs.Plain.{plain_entries, plain_kind, plain_link, plain_name, plain_reason, plain_session}
use Rattle.satp_canon.specs.Reads.{scalar_data, word_items}
use Rattle.satp_canon.proofs.CompactTexts.{FitsScalar, ReadsBack, own_compact, own_numbers, own_shallow, read-compact, scalar_back, to_members, words_read}

-- ---- the data of a value

abbrev pub value_data : canon.Value → Data
value_data (canon.scalar s) = scalar_data s
value_data (canon.words ws) = serde.array (word_items ws)
value_data (canon.fields fs) = object (to_members (map (λ f. (f.0, scalar_data f.1)) fs))

scalar_flat : (s : canon.Scalar) → tree.depth (outline (scalar_data s)) ≤ 0
scalar_flat (canon.number n) = omega arith
scalar_flat (canon.word bytes) = omega arith

words_flat : (ws : List (List ℕ)) → tree.items_depth (items_outline (word_items ws)) ≤ 0
words_flat [] = omega arith
words_flat (w ∷ ws) = let h = words_flat ws in omega (arith, h)

fields_flat : (fs : List (MemberName × canon.Scalar)) → tree.depth (outline (object (to_members (map (λ f. (f.0, scalar_data f.1)) fs)))) ≤ 1
fields_flat [] = omega arith
fields_flat (f ∷ fs) = let first = scalar_flat f.1 in let others = fields_flat fs in omega (arith, first, others)

pub value_shallow : (v : canon.Value) → tree.depth (outline (value_data v)) ≤ 1
value_shallow (canon.scalar s) = let h = scalar_flat s in omega (arith, h)
value_shallow (canon.words ws) = let h = words_flat ws in omega (arith, h)
value_shallow (canon.fields fs) = fields_flat fs

-- ---- each value of a message reads back

fits_term : (t : Terms) (n : MemberName) → FitsScalar (term t n)
fits_term t name.Amount = omega (arith, t.amount.high)
fits_term t name.Asset = plain_name t.asset
fits_term t name.Beneficiary = plain_name t.beneficiary
fits_term t name.Originator = plain_name t.originator
fits_term t _ = refl

abbrev pub term_data : Terms → MemberName → Data
term_data t n = scalar_data (term t n)

abbrev pub term_text : Terms → MemberName → List ℕ
term_text t n = canon.scalar_text (term t n)

pub term_read : (t : Terms) (n : MemberName) → ReadsBack (term_data t n) (term_text t n)
term_read t n = scalar_back (term t n) (fits_term t n)

terms_back : (f : MemberName → Data) → ((n : MemberName) → of_json (outline (f n)) ≡ Some (f n)) → of_json (outline (object (to_members (map (λ n. (n, f n)) terms_row)))) ≡ Some (object (to_members (map (λ n. (n, f n)) terms_row)))
terms_back f e = rw (e name.Amount, e name.Asset, e name.Beneficiary, e name.Originator) refl

terms_read : (t : Terms) → ReadsBack (value_data (canon.fields (terms_fields t))) (value_text (canon.fields (terms_fields t)))
terms_read t = record {
  numbers = own_numbers (term_data t) (term_text t) (term_read t) terms_row;
  back = terms_back (term_data t) (λ n. (term_read t n).back);
  compact = own_compact (term_data t) (term_text t) (term_read t) name.Amount (name.Asset ∷ name.Beneficiary ∷ name.Originator ∷ []);
}

none_read : ReadsBack (value_data canon.none) (value_text canon.none)
none_read = scalar_back (canon.word []) refl

word_read : (bytes : List ℕ) → FitsScalar (canon.word bytes) → ReadsBack (value_data (canon.scalar (canon.word bytes))) (value_text (canon.scalar (canon.word bytes)))
word_read bytes h = scalar_back (canon.word bytes) h

number_read : (n : ℕ) → n < 2 ^ 64 → ReadsBack (value_data (canon.scalar (canon.number n))) (value_text (canon.scalar (canon.number n)))
number_read n h = scalar_back (canon.number n) h

part_read : (p : Part) (n : MemberName) → ReadsBack (value_data (part_value p n)) (value_text (part_value p n))
part_read (part.Proposal terms) name.Terms = terms_read terms
part_read (part.Reject reason) name.Reason = word_read (reason_text reason) (plain_reason reason)
part_read _ _ = none_read

body_read : (b : Body) → IsBody b → HasLink b → (n : MemberName) → ReadsBack (value_data (body_value b n)) (value_text (body_value b n))
body_read (body.Chain place previous p) h l name.Previous = word_read (link_text previous) (plain_link previous l)
body_read (body.Chain place previous p) h l name.Sequence = number_read place (omega (arith, h.0.high))
body_read (body.Chain place previous p) h l n = part_read p n
body_read (body.Recover length last) h l name.Last = word_read (link_text last) (plain_link last l)
body_read (body.Recover length last) h l name.Length = number_read length (omega (arith, h))
body_read (body.Update length entries) h l name.Entries = words_read entries (plain_entries entries h.1)
body_read (body.Update length entries) h l name.Length = number_read length (omega (arith, h.0))
body_read (body.Success length last) h l name.Last = word_read (link_text last) (plain_link last l)
body_read (body.Success length last) h l name.Length = number_read length (omega (arith, h))
body_read _ h l _ = none_read

pub value_read : (m : Message) → IsMessage m → (n : MemberName) → ReadsBack (value_data (value m n)) (value_text (value m n))
value_read m h name.Kind = word_read (kind_text (kind_of m.body)) (plain_kind (kind_of m.body))
value_read m h name.Receiver = word_read (name_text m.receiver) (plain_name m.receiver)
value_read m h name.Sender = word_read (name_text m.sender) (plain_name m.sender)
value_read m h name.Session = word_read (session_text m.session) (plain_session m.session)
value_read m h name.Version = number_read 1 (omega arith)
value_read m h n = body_read m.body h.0 h.1 n

-- ---- the whole message

abbrev pub own_value : Message → MemberName → Data
own_value m n = value_data (value m n)

abbrev pub object_of : (MemberName → Data) → List MemberName → Data
object_of f ns = object (to_members (map (λ n. (n, f n)) ns))

abbrev pub own_data : Message → Data
own_data m = object_of (own_value m) (row (kind_of m.body))

row_back : (k : Kind) (f : MemberName → Data) → ((n : MemberName) → of_json (outline (f n)) ≡ Some (f n)) → of_json (outline (object_of f (row k))) ≡ Some (object_of f (row k))
row_back TransferProposal f e = rw (e name.Kind, e name.Previous, e name.Receiver, e name.Sender, e name.Sequence, e name.Session, e name.Terms, e name.Version) refl
row_back Reject f e = rw (e name.Kind, e name.Previous, e name.Reason, e name.Receiver, e name.Sender, e name.Sequence, e name.Session, e name.Version) refl
row_back Recover f e = rw (e name.Kind, e name.Last, e name.Length, e name.Receiver, e name.Sender, e name.Session, e name.Version) refl
row_back RecoverSuccess f e = rw (e name.Kind, e name.Last, e name.Length, e name.Receiver, e name.Sender, e name.Session, e name.Version) refl
row_back RecoverUpdate f e = rw (e name.Entries, e name.Kind, e name.Length, e name.Receiver, e name.Sender, e name.Session, e name.Version) refl
row_back _ f e = rw (e name.Kind, e name.Previous, e name.Receiver, e name.Sender, e name.Sequence, e name.Session, e name.Version) refl

record Begins (ns : List MemberName) : Type 0 where
  first : MemberName
  others : List MemberName
  is : ns ≡ first ∷ others

row_begins : (k : Kind) → Begins (row k)
row_begins TransferProposal = record { first = name.Kind; others = _; is = refl }
row_begins Reject = record { first = name.Kind; others = _; is = refl }
row_begins Recover = record { first = name.Kind; others = _; is = refl }
row_begins RecoverSuccess = record { first = name.Kind; others = _; is = refl }
row_begins RecoverUpdate = record { first = name.Entries; others = _; is = refl }
row_begins _ = record { first = name.Kind; others = _; is = refl }

own_text : (m : Message) → IsMessage m → compact_text (own_data m) ≡ canonical m
unfolding canonical
own_text m h =
    let b = row_begins (kind_of m.body) in
    let t : MemberName → List ℕ = λ n. value_text (value m n) in
    ap (λ (ns : List MemberName). compact_text (object_of (own_value m) ns)) b.is
    ∙ own_compact (own_value m) t (value_read m h) b.first b.others
    ∙ ap (λ (ns : List MemberName). canon.object (map (message_member m) ns)) (sym b.is)

pub own_read : (m : Message) → IsMessage m → read (canonical m) ≡ Some (own_data m)
own_read m h =
    let t : MemberName → List ℕ = λ n. value_text (value m n) in
    ap read (sym (own_text m h))
    ∙ read-compact (own_data m) (own_numbers (own_value m) t (value_read m h) (row (kind_of m.body))) (row_back (kind_of m.body) (own_value m) (λ n. (value_read m h n).back))
    (let deep = own_shallow (own_value m) t (value_read m h) (row (kind_of m.body)) 1 (λ n. value_shallow (value m n)) in omega (arith, deep))
