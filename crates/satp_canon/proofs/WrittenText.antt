-- What is written for the values that were read is the text of the message that they make.
use Rattle.std.proofs.Common.{◌≡◌, ℕ, Bool, true, false, List, [], ◌∷◌, map, codes, Option, Some, refl, ap, ap₂, subst, sym, ◌∙◌, option_and_then}
use Rattle.std.specs.List.{AllByRecursion}
use Rattle.std.specs.Option.{option_map_or}
use Rattle.serde_json.specs.Data.{Data, string}
use Rattle.serde_json.specs.Find.{as_str, get}
use Rattle.serde_json.specs.Written.{compact_text}
use Rattle.satp_base.specs.Canonical as canon
use Rattle.satp_base.specs.Canonical.{canonical, kind_named, kind_of, kind_text, Member, member_text, message_member, part_value, body_value, row, term, terms_fields, terms_row, value, value_text}
use Rattle.satp_base.specs.Forms.{IsBody, IsMessage}
use Rattle.satp_base.specs.declared.member.MemberName.{MemberName}
use Rattle.satp_base.specs.declared.member.MemberName.TheVariants as name
use Rattle.satp_base.specs.declared.message.Kind.{Kind}
use Rattle.satp_base.specs.declared.message.Kind.TheVariants.{TransferProposal, ProposalReceipt, Reject, Recover, RecoverUpdate, RecoverSuccess}
use Rattle.satp_base.specs.declared.message.Link.{Link}
use Rattle.satp_base.specs.declared.name.Name.{Name}
use Rattle.satp_base.specs.declared.session.SessionId.{SessionId}
use Rattle.satp_base.specs.declared.message.Terms.{Terms}
use Rattle.satp_base.specs.declared.message.Part.{Part}
use Rattle.satp_base.specs.declared.message.Part.TheVariants as part
use Rattle.satp_base.specs.declared.message.Body.{Body}
use Rattle.satp_base.specs.declared.message.Body.TheVariants as body
use Rattle.satp_base.specs.declared.message.Message.{Message}
use Rattle.satp_base.proofs.OneText.{plain_row, same_kind}
use Rattle.satp_canon.specs.FirstFault.{written, written_as, written_field, written_member, written_value}
use Rattle.satp_canon.specs.Reads.{Holds, Reads, scalar_data}
use Rattle.satp_canon.proofs.OwnData.{object_of, own_data, own_value, term_data, term_read, value_data, value_read}

-- ---- members but terms

abbrev is_terms : MemberName → Bool
is_terms name.Terms = true
is_terms _ = false

abbrev Found : canon.Value → Data → MemberName → Type 0
Found v d n = get (member_text n) d ≡ Some (value_data v)

part_found : (p : Part) (n : MemberName) (o : Option Data) → is_terms n ≡ false → Holds (part_value p n) o → o ≡ Some (value_data (part_value p n))
part_found (part.Proposal terms) name.Terms o e h = absurd cc
part_found (part.Reject reason) name.Reason o e h = h
part_found _ _ o e h = h

body_found : (b : Body) (n : MemberName) (o : Option Data) → is_terms n ≡ false → Holds (body_value b n) o → o ≡ Some (value_data (body_value b n))
body_found (body.Chain place previous p) name.Previous o e h = h
body_found (body.Chain place previous p) name.Sequence o e h = h
body_found (body.Chain place previous p) n o e h = part_found p n o e h
body_found (body.Recover length last) name.Last o e h = h
body_found (body.Recover length last) name.Length o e h = h
body_found (body.Update length entries) name.Entries o e h = h
body_found (body.Update length entries) name.Length o e h = h
body_found (body.Success length last) name.Last o e h = h
body_found (body.Success length last) name.Length o e h = h
body_found _ _ o e h = h

value_found : (m : Message) (n : MemberName) (o : Option Data) → is_terms n ≡ false → Holds (value m n) o → o ≡ Some (own_value m n)
value_found m name.Kind o e h = h
value_found m name.Receiver o e h = h
value_found m name.Sender o e h = h
value_found m name.Session o e h = h
value_found m name.Version o e h = h
value_found m n o e h = body_found m.body n o e h

written_plain : (n : MemberName) (d : Data) → is_terms n ≡ false → written_value n d ≡ compact_text d
written_plain name.Terms d e = absurd cc
written_plain _ d e = refl

one_member : (m : Message) (d : Data) → IsMessage m → (n : MemberName) → is_terms n ≡ false → Holds (value m n) (get (member_text n) d) → written_member d n ≡ message_member m n
one_member m d h n e holds =
    ap (λ (t : List ℕ). (member_text n, t))
    (ap (λ (o : Option Data). option_map_or (written_value n) o []) (value_found m n (get (member_text n) d) e holds) ∙ written_plain n (own_value m n) e ∙ (value_read m h n).compact)

several : (m : Message) (d : Data) → IsMessage m → (ns : List MemberName) → AllByRecursion (λ n. is_terms n ≡ false) ns → AllByRecursion (λ n. Holds (value m n) (get (member_text n) d)) ns → map (written_member d) ns ≡ map (message_member m) ns
several m d h [] e holds = refl
several m d h (n ∷ ns) e holds = ap₂ (λ (x : Member) (xs : List Member). x ∷ xs) (one_member m d h n e.0 holds.0) (several m d h ns e.1 holds.1)

-- ---- terms

one_field : (t : Terms) (d : Data) (n : MemberName) → get (member_text n) d ≡ Some (term_data t n) → written_field d n ≡ canon.field_member (n, term t n)
one_field t d n e = ap (λ (x : List ℕ). (member_text n, x)) (ap (λ (o : Option Data). option_map_or compact_text o []) e ∙ (term_read t n).compact)

no_more : ◌≡◌ {A = List Member} [] []
no_more = refl

fields_written : (t : Terms) (d : Data) → AllByRecursion (λ f. get (member_text f.0) d ≡ Some (scalar_data f.1)) (terms_fields t) → written_value name.Terms d ≡ value_text (canon.fields (terms_fields t))
fields_written t d h =
    let also : Member → List Member → List Member = λ x xs. x ∷ xs in
    ap canon.object
    (ap₂ also (one_field t d name.Amount h.0)
    (ap₂ also (one_field t d name.Asset h.1.0)
    (ap₂ also (one_field t d name.Beneficiary h.1.1.0)
    (ap₂ also (one_field t d name.Originator h.1.1.1.0) no_more))))

terms_member : (m : Message) (t : Terms) (d : Data) → value m name.Terms ≡ canon.fields (terms_fields t) → Holds (canon.fields (terms_fields t)) (get (codes "terms") d) → written_member d name.Terms ≡ message_member m name.Terms
terms_member m t d is holds =
    ap (λ (x : List ℕ). (codes "terms", x))
    (ap (λ (o : Option Data). option_map_or (written_value name.Terms) o []) holds.1 ∙ fields_written t holds.0 holds.3 ∙ sym (ap value_text is))

-- ---- rows

abbrev AllHold : Message → Data → List MemberName → Type 0
AllHold m d ns = AllByRecursion (λ n. Holds (value m n) (get (member_text n) d)) ns

abbrev SameRow : Message → Data → List MemberName → Type 0
SameRow m d ns = map (written_member d) ns ≡ map (message_member m) ns

proposal_same : (m : Message) (t : Terms) (d : Data) → IsMessage m → value m name.Terms ≡ canon.fields (terms_fields t) → AllHold m d (row TransferProposal) → Holds (canon.fields (terms_fields t)) (get (codes "terms") d) → SameRow m d (row TransferProposal)
proposal_same m t d h is all holds =
    let also : Member → List Member → List Member = λ x xs. x ∷ xs in
    ap₂ also (one_member m d h name.Kind refl all.0)
    (ap₂ also (one_member m d h name.Previous refl all.1.0)
    (ap₂ also (one_member m d h name.Receiver refl all.1.1.0)
    (ap₂ also (one_member m d h name.Sender refl all.1.1.1.0)
    (ap₂ also (one_member m d h name.Sequence refl all.1.1.1.1.0)
    (ap₂ also (one_member m d h name.Session refl all.1.1.1.1.1.0)
    (ap₂ also (terms_member m t d is holds)
    (ap₂ also (one_member m d h name.Version refl all.1.1.1.1.1.1.1.0) no_more)))))))

abbrev none_terms : List MemberName → Type 0
none_terms ns = AllByRecursion (λ n. is_terms n ≡ false) ns

plain_terms : (ns : List MemberName) → ns ≡ row ProposalReceipt → none_terms ns
plain_terms ns e = subst none_terms (sym e) (refl, (refl, (refl, (refl, (refl, (refl, (refl, tt)))))))

row_same : (m : Message) (b : Body) (d : Data) → m.body ≡ b → IsMessage m → IsBody b → AllHold m d (row (kind_of b)) → SameRow m d (row (kind_of b))
row_same m (body.Chain p l (part.Proposal t)) d e h i all = let is = ap (λ (x : Body). body_value x name.Terms) e in proposal_same m t d h is all (subst (λ (v : canon.Value). Holds v (get (codes "terms") d)) is all.1.1.1.1.1.1.0)
row_same m (body.Chain p l (part.Plain k)) d e h i all = several m d h (row k) (plain_terms (row k) (plain_row k i.1)) all
row_same m (body.Chain p l (part.Reject r)) d e h i all = several m d h (row Reject) (refl, (refl, (refl, (refl, (refl, (refl, (refl, (refl, tt)))))))) all
row_same m (body.Recover n l) d e h i all = several m d h (row Recover) (refl, (refl, (refl, (refl, (refl, (refl, (refl, tt))))))) all
row_same m (body.Update n ws) d e h i all = several m d h (row RecoverUpdate) (refl, (refl, (refl, (refl, (refl, (refl, (refl, tt))))))) all
row_same m (body.Success n l) d e h i all = several m d h (row RecoverSuccess) (refl, (refl, (refl, (refl, (refl, (refl, (refl, tt))))))) all

kind_held : (m : Message) (d : Data) (k : Kind) → AllHold m d (row k) → get (codes "kind") d ≡ Some (string (kind_text (kind_of m.body)))
kind_held m d TransferProposal all = all.0
kind_held m d Reject all = all.0
kind_held m d Recover all = all.0
kind_held m d RecoverSuccess all = all.0
kind_held m d RecoverUpdate all = all.1.0
kind_held m d _ all = all.0

pub written_is : (m : Message) (d : Data) → IsMessage m → Reads m d → written d ≡ canonical m
unfolding canonical
written_is m d h reads =
    let k = kind_of m.body in
    ap (λ (o : Option Data). option_map_or (λ x. written_as x d) (option_and_then kind_named (option_and_then as_str o)) []) (kind_held m d k reads)
    ∙ ap (λ (o : Option Kind). option_map_or (λ x. written_as x d) o []) (same_kind k)
    ∙ ap canon.object (row_same m m.body d refl h h.0 reads)

-- ---- a message's own data has its values

fields_held : (t : Terms) → Holds (canon.fields (terms_fields t)) (Some (value_data (canon.fields (terms_fields t))))
fields_held t = (value_data (canon.fields (terms_fields t)), refl, refl, (refl, (refl, (refl, (refl, tt)))))

module _ (s : SessionId) (a c : Name) where
  abbrev with_body : Body → Message
  with_body b = record { session = s; sender = a; receiver = c; body = b }

  plain_held : (p : ℕ) (l : Link) (k : Kind) (ns : List MemberName) → ns ≡ row ProposalReceipt → (let m = with_body (body.Chain p l (part.Plain k)) in AllHold m (object_of (own_value m) ns) ns)
  plain_held p l k ns e =
      let m = with_body (body.Chain p l (part.Plain k)) in
      subst (λ (xs : List MemberName). AllHold m (object_of (own_value m) xs) xs) (sym e) (refl, (refl, (refl, (refl, (refl, (refl, (refl, tt)))))))

  body_held : (b : Body) → IsBody b → Reads (with_body b) (own_data (with_body b))
  body_held (body.Chain p l (part.Proposal t)) h = (refl, (refl, (refl, (refl, (refl, (refl, (fields_held t, (refl, tt))))))))
  body_held (body.Chain p l (part.Plain k)) h = plain_held p l k (row k) (plain_row k h.1)
  body_held (body.Chain p l (part.Reject r)) h = (refl, (refl, (refl, (refl, (refl, (refl, (refl, (refl, tt))))))))
  body_held (body.Recover n l) h = (refl, (refl, (refl, (refl, (refl, (refl, (refl, tt)))))))
  body_held (body.Update n ws) h = (refl, (refl, (refl, (refl, (refl, (refl, (refl, tt)))))))
  body_held (body.Success n l) h = (refl, (refl, (refl, (refl, (refl, (refl, (refl, tt)))))))

pub own_written : (m : Message) → IsMessage m → written (own_data m) ≡ canonical m
own_written m h = written_is m (own_data m) h (body_held m.session m.sender m.receiver m.body h.0)
