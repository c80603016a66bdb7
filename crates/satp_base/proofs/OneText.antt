-- No two messages have one text.
use Rattle.std.proofs.Common.{◌≡◌, ℕ, zero, suc, ◌+◌, ◌*◌, ◌/◌, ◌%◌, ◌<◌, ◌≤◌, ◌^◌, ◌&&◌, ◌==◌, Bool, true, List, [], ◌∷◌, ◌++◌, length, get_or, map, decimal, Some, IsTrue, inl, inr, ◌⊎◌, refl, ap, subst, sym, ◌∙◌, arith}
use Rattle.std.specs.Prelude.{slice_index, position, unwrap_or, ⊤}
use Rattle.std.proofs.lemmas.Bool.{and_parts, cases_lt, eqb-false, eqb-true}
use Rattle.std.proofs.lemmas.Fmt.{decimal_injective}
use Rattle.std.proofs.lemmas.List.{append_cancel_right}
use Rattle.base64.specs.Rfc4648.{encode_symbols}
use Rattle.satp_base.specs.Canonical.{IsText, fields, array, base64url, canonical, field_member, kind_named, kind_of, kind_text, link_text, Member, message_member, object, reason_named, reason_text, row, string, term, terms_fields, value_text}
use Rattle.satp_base.specs.Forms.{HasLink, IsBody, IsLink, IsMessage, IsPlace, are_entries, is_plain as is_plain_kind}
use Rattle.satp_base.specs.Values.{name_text, session_text}
use Rattle.satp_base.specs.declared.amount.Amount.{Amount}
use Rattle.satp_base.specs.declared.member.MemberName.{MemberName}
use Rattle.satp_base.specs.declared.member.MemberName.TheVariants as name
use Rattle.satp_base.specs.declared.name.Name.{Name}
use Rattle.satp_base.specs.declared.session.SessionId.{SessionId}
use Rattle.satp_base.specs.declared.message.Kind.{Kind}
use Rattle.satp_base.specs.declared.message.Kind.TheVariants.{TransferProposal, ProposalReceipt, TransferCommence, CommenceAck, LockAssert, LockReceipt, CommitPrepare, CommitReady, CommitFinal, CommitFinalAck, TransferComplete, Reject, Rollback, RollbackAck, Recover, RecoverUpdate, RecoverSuccess}
use Rattle.satp_base.specs.declared.message.Link.{Link}
use Rattle.satp_base.specs.declared.message.Reason.{Reason}
use Rattle.satp_base.specs.declared.message.Reason.TheVariants.{UnknownAsset, MintCapped, Aborted, LedgerTaken}
use Rattle.satp_base.specs.declared.message.Terms.{Terms}
use Rattle.satp_base.specs.declared.message.Part.TheVariants.{Proposal, Plain}
use Rattle.satp_base.specs.declared.message.Part.TheVariants as part
use Rattle.satp_base.specs.declared.message.Body.{Body}
use Rattle.satp_base.specs.declared.message.Body.TheVariants as body
use Rattle.satp_base.specs.declared.message.Message.{Message}
use Rattle.satp_base.specs.Keys.{same_amount}
use Rattle.satp_base.proofs.MemberTexts.{Alike, IsClosed, closed_array, closed_decimal, closed_object, closed_string, cut_array, cut_first, cut_object, same_tail}
use Rattle.satp_base.proofs.Exact.{same_session_text, same_text}
use Rattle.satp_base.proofs.Plain.{plain_entries, plain_kind, plain_link, plain_name, plain_reason, plain_session}

-- ---- links

abbrev all_below : (ℕ → Bool) → ℕ → Bool
all_below p zero = true
all_below p (suc n) = p n && all_below p n

below : (p : ℕ → Bool) (n i : ℕ) → all_below p n ≡ true → i < n → p i ≡ true
below p zero i e h = absurd (omega arith)
below p (suc n) i e h = elim (cases_lt i n) [
  | inl less ↦ below p n i (and_parts _ _ e).1 less
  | inr over ↦ let same : i ≡ n = omega arith in rw same (and_parts _ _ e).0
]

abbrev place_of : ℕ → ℕ
place_of symbol = unwrap_or (position (λ b. b == symbol) base64url) 0

placed : (i : ℕ) → i < 64 → place_of (slice_index base64url i) ≡ i
placed i h = eqb-true _ _ (below (λ k. place_of (slice_index base64url k) == k) 64 i refl h)

same_symbol : (i j : ℕ) → i < 64 → j < 64 → slice_index base64url i ≡ slice_index base64url j → i ≡ j
same_symbol i j f g e = sym (placed i f) ∙ ap place_of e ∙ placed j g

one : (a x : ℕ) → a < 256 → x < 256 → slice_index base64url (a / 4) ≡ slice_index base64url (x / 4) → slice_index base64url (a % 4 * 16) ≡ slice_index base64url (x % 4 * 16) → a ≡ x
one a x f g p q =
    let high = same_symbol (a / 4) (x / 4) (omega arith) (omega arith) p in
    let low = same_symbol (a % 4 * 16) (x % 4 * 16) (omega arith) (omega arith) q in
    omega arith

two : (a b x y : ℕ) → a < 256 → b < 256 → x < 256 → y < 256 → slice_index base64url (a / 4) ≡ slice_index base64url (x / 4) → slice_index base64url (a % 4 * 16 + b / 16) ≡ slice_index base64url (x % 4 * 16 + y / 16)
    → (a ≡ x) × (b / 16 ≡ y / 16)
two a b x y f g h i p q =
    let high = same_symbol (a / 4) (x / 4) (omega arith) (omega arith) p in
    let low = same_symbol (a % 4 * 16 + b / 16) (x % 4 * 16 + y / 16) (omega arith) (omega arith) q in
    (omega arith, omega arith)

record Four (a b c d x y z w : ℕ) (r s : List ℕ) : Type 0 where
  first : a ≡ x
  second : b ≡ y
  third : c ≡ z
  fourth : d ≡ w
  rest : r ≡ s

four : (a b c d x y z w : ℕ) (r s : List ℕ) → a ∷ b ∷ c ∷ d ∷ r ≡ x ∷ y ∷ z ∷ w ∷ s → Four a b c d x y z w r s
four a b c d x y z w r s e = record { first = cc; second = cc; third = cc; fourth = cc; rest = cc }

three : (a b c x y z : ℕ) → a ∷ b ∷ c ∷ [] ≡ x ∷ y ∷ z ∷ [] → (a ≡ x) × (b ≡ y) × (c ≡ z)
three a b c x y z e = (cc, cc, cc)

pair : (a b x y : ℕ) → a ∷ b ∷ [] ≡ x ∷ y ∷ [] → (a ≡ x) × (b ≡ y)
pair a b x y e = (cc, cc)

group : (a b c x y z : ℕ) (r s : List ℕ) → a ≡ x → b ≡ y → c ≡ z → r ≡ s → a ∷ b ∷ c ∷ r ≡ x ∷ y ∷ z ∷ s
group a b c x y z r s e f g h = rw (e, f, g, h) refl

same_symbols : (m n : List ℕ) → ((i : ℕ) → slice_index m i < 256) → ((i : ℕ) → slice_index n i < 256) → length m ≡ length n → encode_symbols base64url m ≡ encode_symbols base64url n → m ≡ n
unfolding encode_symbols
same_symbols [] [] f g h e = refl
same_symbols (a ∷ []) (x ∷ []) f g h e = let p = pair _ _ _ _ e in ap (λ (b : ℕ). b ∷ []) (one a x (f 0) (g 0) p.0 p.1)
same_symbols (a ∷ b ∷ []) (x ∷ y ∷ []) f g h e =
    let t = three _ _ _ _ _ _ e in
    let same = two a b x y (f 0) (f 1) (g 0) (g 1) t.0 t.1 in
    let p : b < 256 = f 1 in
    let q : y < 256 = g 1 in
    let low : b % 16 * 4 ≡ y % 16 * 4 = same_symbol (b % 16 * 4) (y % 16 * 4) (omega arith) (omega arith) t.2 in
    let second : b ≡ y = omega (arith, same.1) in
    rw (same.0, second) refl
same_symbols (a ∷ b ∷ c ∷ rest) (x ∷ y ∷ z ∷ others) f g h e =
    let t = four _ _ _ _ _ _ _ _ (encode_symbols base64url rest) (encode_symbols base64url others) e in
    let same = two a b x y (f 0) (f 1) (g 0) (g 1) t.first t.second in
    let p : b < 256 = f 1 in
    let q : y < 256 = g 1 in
    let r : c < 256 = f 2 in
    let s : z < 256 = g 2 in
    let middle : b % 16 * 4 + c / 64 ≡ y % 16 * 4 + z / 64 = same_symbol (b % 16 * 4 + c / 64) (y % 16 * 4 + z / 64) (omega arith) (omega arith) t.third in
    let low : c % 64 ≡ z % 64 = same_symbol (c % 64) (z % 64) (omega arith) (omega arith) t.fourth in
    let second : b ≡ y = omega (arith, same.1) in
    let third : c ≡ z = omega arith in
    group a b c x y z rest others same.0 second third (same_symbols rest others (λ i. f (suc (suc (suc i)))) (λ i. g (suc (suc (suc i)))) (omega arith) t.rest)
same_symbols [] (x ∷ n) f g h e = absurd (omega arith)
same_symbols (a ∷ m) [] f g h e = absurd (omega arith)
same_symbols (a ∷ []) (x ∷ y ∷ n) f g h e = absurd (omega arith)
same_symbols (a ∷ b ∷ m) (x ∷ []) f g h e = absurd (omega arith)
same_symbols (a ∷ b ∷ []) (x ∷ y ∷ z ∷ n) f g h e = absurd (omega arith)
same_symbols (a ∷ b ∷ c ∷ m) (x ∷ y ∷ []) f g h e = absurd (omega arith)

pub same_link : (a b : Link) → IsLink a → IsLink b → link_text a ≡ link_text b → a ≡ b
same_link a b f g e =
    let same = same_symbols a.0 b.0 f.bytes g.bytes (f.long ∙ sym g.long) e in
    ap (λ (bytes : List ℕ). let l : Link = record { 0 = bytes } in l) same

-- ---- what a value's text tells of it

pub same_string : (a b : List ℕ) → string a ≡ string b → a ≡ b
same_string a b e = append_cancel_right a b (34 ∷ []) (same_tail _ _ e)

pub same_kind : (k : Kind) → kind_named (kind_text k) ≡ Some k
same_kind TransferProposal = refl
same_kind ProposalReceipt = refl
same_kind TransferCommence = refl
same_kind CommenceAck = refl
same_kind LockAssert = refl
same_kind LockReceipt = refl
same_kind CommitPrepare = refl
same_kind CommitReady = refl
same_kind CommitFinal = refl
same_kind CommitFinalAck = refl
same_kind TransferComplete = refl
same_kind Reject = refl
same_kind Rollback = refl
same_kind RollbackAck = refl
same_kind Recover = refl
same_kind RecoverUpdate = refl
same_kind RecoverSuccess = refl

is_some : {A : Type 0} (a b : A) → Some a ≡ Some b → a ≡ b
is_some a b e = cc

one_kind : (k l : Kind) → kind_text k ≡ kind_text l → k ≡ l
one_kind k l e = is_some k l (sym (same_kind k) ∙ ap kind_named e ∙ same_kind l)

pub same_reason : (r : Reason) → reason_named (reason_text r) ≡ Some r
same_reason UnknownAsset = refl
same_reason MintCapped = refl
same_reason Aborted = refl
same_reason LedgerTaken = refl

one_reason : (r s : Reason) → reason_text r ≡ reason_text s → r ≡ s
one_reason r s e = is_some r s (sym (same_reason r) ∙ ap reason_named e ∙ same_reason s)

amount_small : (a : Amount) → a.number < 2 ^ 64
amount_small a = omega (arith, a.high)

place_small : (p : ℕ) → IsPlace p → p < 2 ^ 64
place_small p h = omega (arith, h.high)

length_small : (n : ℕ) → n ≤ 11 → n < 2 ^ 64
length_small n h = omega arith

one_name : (a b : Name) → string (name_text a) ≡ string (name_text b) → a ≡ b
one_name a b e = same_text a b (same_string _ _ e)

one_session : (a b : SessionId) → string (session_text a) ≡ string (session_text b) → a ≡ b
one_session a b e = same_session_text a b (same_string _ _ e)

terms_alike : (t u : Terms) → Alike (map field_member (terms_fields t)) (map field_member (terms_fields u))
terms_alike t u = (
  refl,
  closed_decimal _ _ (amount_small t.amount) (amount_small u.amount),
  (
    refl,
    closed_string _ _ (plain_name t.asset) (plain_name u.asset),
    (
      refl,
      closed_string _ _ (plain_name t.beneficiary) (plain_name u.beneficiary),
      (refl, closed_string _ _ (plain_name t.originator) (plain_name u.originator), tt),
    ),
  ),
)

closed_terms : (t u : Terms) → IsClosed (value_text (fields (terms_fields t))) (value_text (fields (terms_fields u)))
closed_terms t u =
    let rest : Terms → List Member = λ x. map (λ name. field_member (name, term x name)) (name.Asset ∷ name.Beneficiary ∷ name.Originator ∷ []) in
    closed_object (field_member (name.Amount, term t name.Amount)) (field_member (name.Amount, term u name.Amount)) (rest t) (rest u) (terms_alike t u)

-- the texts of the members are the same
abbrev Same : List Member → List Member → Type 0
Same [] [] = ⊤
Same [] (y ∷ ys) = ⊥
Same (x ∷ xs) [] = ⊥
Same (x ∷ xs) (y ∷ ys) = (x.1 ≡ y.1) × Same xs ys

same_members : (xs ys : List Member) → xs ≡ ys → Same xs ys
same_members xs ys e = subst (λ (zs : List Member). Same xs zs) e (own xs)
  where
    own : (zs : List Member) → Same zs zs
    own [] = tt
    own (z ∷ zs) = (refl, own zs)

members_same : (xs ys : List Member) → Alike xs ys → object xs ≡ object ys → Same xs ys
members_same [] [] a e = tt
members_same [] (y ∷ ys) a e = absurd a
members_same (x ∷ xs) [] a e = absurd a
members_same (x ∷ xs) (y ∷ ys) a e = same_members (x ∷ xs) (y ∷ ys) (cut_object x y xs ys [] [] a (ap (λ (o : List ℕ). o ++ []) e)).0

one_terms : (t u : Terms) → value_text (fields (terms_fields t)) ≡ value_text (fields (terms_fields u)) → t ≡ u
one_terms t u e =
    let same = members_same (map field_member (terms_fields t)) (map field_member (terms_fields u)) (terms_alike t u) e in
    let a : t.amount ≡ u.amount = same_amount t.amount u.amount (decimal_injective _ _ (amount_small t.amount) (amount_small u.amount) same.0) in
    let b : t.asset ≡ u.asset = one_name _ _ same.1.0 in
    let c : t.beneficiary ≡ u.beneficiary = one_name _ _ same.1.1.0 in
    let d : t.originator ≡ u.originator = one_name _ _ same.1.1.1.0 in
    terms_of t.amount u.amount t.asset u.asset t.beneficiary u.beneficiary t.originator u.originator a b c d
  where
    terms_of : (a b : Amount) (c d e f g h : Name) → a ≡ b → c ≡ d → e ≡ f → g ≡ h
        → (let t : Terms = record { amount = a; asset = c; beneficiary = e; originator = g } in t) ≡ record { amount = b; asset = d; beneficiary = f; originator = h }
    terms_of a b c d e f g h p q r s = rw (p, q, r, s) refl

-- ---- the kind stands where every text of its row begins

abbrev chain_row : List MemberName
chain_row = row ProposalReceipt

pub plain_row : (k : Kind) → IsTrue (is_plain_kind k) → row k ≡ chain_row
plain_row TransferProposal e = absurd cc
plain_row Reject e = absurd cc
plain_row Recover e = absurd cc
plain_row RecoverUpdate e = absurd cc
plain_row RecoverSuccess e = absurd cc
plain_row _ e = refl

record BeginsWithKind (k : Kind) : Type 0 where
  next : MemberName
  rest : List MemberName
  is : row k ≡ name.Kind ∷ next ∷ rest

begins : (k : Kind) → (k ≡ RecoverUpdate) ⊎ BeginsWithKind k
begins RecoverUpdate = inl refl
begins TransferProposal = inr (record { next = name.Previous; rest = _; is = refl })
begins Reject = inr (record { next = name.Previous; rest = _; is = refl })
begins Recover = inr (record { next = name.Last; rest = _; is = refl })
begins RecoverSuccess = inr (record { next = name.Last; rest = _; is = refl })
begins _ = inr (record { next = name.Previous; rest = _; is = refl })

abbrev text_in : Message → List MemberName → List ℕ
text_in m names = object (map (message_member m) names)

abbrev text_of : Message → List ℕ
text_of m = text_in m (row (kind_of m.body))

-- the third byte of a text
abbrev third : List ℕ → ℕ
third t = get_or t 2 0

update_apart : (m n : Message) (next : MemberName) (rest : List MemberName) → text_in m (row RecoverUpdate) ≡ text_in n (name.Kind ∷ next ∷ rest) → ⊥
update_apart m n next rest e = eqb-false 101 107 refl (ap third e)

first_kind : (m n : Message) (next other : MemberName) (rest others : List MemberName) → text_in m (name.Kind ∷ next ∷ rest) ≡ text_in n (name.Kind ∷ other ∷ others) → kind_of m.body ≡ kind_of n.body
first_kind m n next other rest others e =
    one_kind _ _ (same_string _ _ (ap (λ (x : Member). x.1) (cut_first (message_member m name.Kind) (message_member n name.Kind) (map (message_member m) (next ∷ rest)) (map (message_member n) (other ∷ others)) refl
    (closed_string _ _ (plain_kind (kind_of m.body)) (plain_kind (kind_of n.body))) e)))

kinds_same : (m n : Message) → text_of m ≡ text_of n → kind_of m.body ≡ kind_of n.body
kinds_same m n e = elim (begins (kind_of m.body)) [
  | inl update ↦ elim (begins (kind_of n.body)) [
    | inl other ↦ update ∙ sym other
    | inr b ↦ absurd (update_apart m n b.next b.rest (ap (λ (k : Kind). text_in m (row k)) (sym update) ∙ e ∙ ap (text_in n) b.is))
  ]
  | inr a ↦ elim (begins (kind_of n.body)) [
    | inl other ↦ absurd (update_apart n m a.next a.rest (ap (λ (k : Kind). text_in n (row k)) (sym other) ∙ sym e ∙ ap (text_in m) a.is))
    | inr b ↦ first_kind m n a.next b.next a.rest b.rest (sym (ap (text_in m) a.is) ∙ e ∙ ap (text_in n) b.is)
  ]
]

-- ---- messages of one kind

closed_names : (a b : Name) → IsClosed (string (name_text a)) (string (name_text b))
closed_names a b = closed_string _ _ (plain_name a) (plain_name b)

closed_sessions : (a b : SessionId) → IsClosed (string (session_text a)) (string (session_text b))
closed_sessions a b = closed_string _ _ (plain_session a) (plain_session b)

closed_kinds : (k l : Kind) → IsClosed (string (kind_text k)) (string (kind_text l))
closed_kinds k l = closed_string _ _ (plain_kind k) (plain_kind l)

closed_links : (a b : Link) → IsLink a → IsLink b → IsClosed (string (link_text a)) (string (link_text b))
closed_links a b f g = closed_string _ _ (plain_link a f) (plain_link b g)

closed_places : (p q : ℕ) → IsPlace p → IsPlace q → IsClosed (decimal p) (decimal q)
closed_places p q f g = closed_decimal p q (place_small p f) (place_small q g)

closed_lengths : (p q : ℕ) → p ≤ 11 → q ≤ 11 → IsClosed (decimal p) (decimal q)
closed_lengths p q f g = closed_decimal p q (length_small p f) (length_small q g)

closed_version : IsClosed (decimal 1) (decimal 1)
closed_version = closed_decimal 1 1 (omega arith) (omega arith)

one_place : (p q : ℕ) → IsPlace p → IsPlace q → decimal p ≡ decimal q → p ≡ q
one_place p q f g = decimal_injective p q (place_small p f) (place_small q g)

one_length : (p q : ℕ) → p ≤ 11 → q ≤ 11 → decimal p ≡ decimal q → p ≡ q
one_length p q f g = decimal_injective p q (length_small p f) (length_small q g)

one_link : (a b : Link) → IsLink a → IsLink b → string (link_text a) ≡ string (link_text b) → a ≡ b
one_link a b f g e = same_link a b f g (same_string _ _ e)

one_list : (x y : List (List ℕ)) → IsTrue (are_entries x) → IsTrue (are_entries y) → array (map string x) ≡ array (map string y) → x ≡ y
one_list x y f g e = cut_array x y (plain_entries x f) (plain_entries y g) e

abbrev message : SessionId → Name → Name → Body → Message
message session sender receiver b = record { session = session; sender = sender; receiver = receiver; body = b }

one_message : (s t : SessionId) (a b c d : Name) (x y : Body) → s ≡ t → a ≡ b → c ≡ d → x ≡ y → message s a c x ≡ message t b d y
one_message s t a b c d x y e f g h = rw (e, f, g, h) refl

abbrev Goal : Body → Body → Type 0
Goal x y = (s t : SessionId) (a b c d : Name) → IsBody x × HasLink x → IsBody y × HasLink y → kind_of x ≡ kind_of y → text_of (message s a c x) ≡ text_of (message t b d y) → message s a c x ≡ message t b d y

proposals : (p q : ℕ) (l k : Link) (t u : Terms) → Goal (body.Chain p l (part.Proposal t)) (body.Chain q k (part.Proposal u))
proposals p q l k t u s z a b c d f g same e =
    let xs = map (message_member (message s a c (body.Chain p l (part.Proposal t)))) (row TransferProposal) in
    let ys = map (message_member (message z b d (body.Chain q k (part.Proposal u)))) (row TransferProposal) in
    let alike : Alike xs ys =
    (refl, closed_kinds TransferProposal TransferProposal, (refl, closed_links l k f.1 g.1, (refl, closed_names c d, (refl, closed_names a b, (refl, closed_places p q f.0.0 g.0.0, (refl, closed_sessions s z, (refl, closed_terms t u, (refl, closed_version, tt)))))))) in
    let same = members_same xs ys alike e in
    let place = one_place p q f.0.0 g.0.0 same.1.1.1.1.0 in
    let link = one_link l k f.1 g.1 same.1.0 in
    let terms = one_terms t u same.1.1.1.1.1.1.0 in
    one_message s z a b c d _ _ (one_session s z same.1.1.1.1.1.0) (one_name a b same.1.1.1.0) (one_name c d same.1.1.0) (rw (place, link, terms) refl)

rejects : (p q : ℕ) (l k : Link) (t u : Reason) → Goal (body.Chain p l (part.Reject t)) (body.Chain q k (part.Reject u))
rejects p q l k t u s z a b c d f g same e =
    let xs = map (message_member (message s a c (body.Chain p l (part.Reject t)))) (row Reject) in
    let ys = map (message_member (message z b d (body.Chain q k (part.Reject u)))) (row Reject) in
    let alike : Alike xs ys =
    (refl, closed_kinds Reject Reject, (refl, closed_links l k f.1 g.1, (refl, closed_string _ _ (plain_reason t) (plain_reason u), (refl, closed_names c d, (refl, closed_names a b, (refl, closed_places p q f.0.0 g.0.0, (refl, closed_sessions s z, (refl, closed_version, tt)))))))) in
    let same = members_same xs ys alike e in
    let place = one_place p q f.0.0 g.0.0 same.1.1.1.1.1.0 in
    let link = one_link l k f.1 g.1 same.1.0 in
    let reason = one_reason t u (same_string _ _ same.1.1.0) in
    one_message s z a b c d _ _ (one_session s z same.1.1.1.1.1.1.0) (one_name a b same.1.1.1.1.0) (one_name c d same.1.1.1.0) (rw (place, link, reason) refl)

plains : (p q : ℕ) (l k : Link) (v w : Kind) → Goal (body.Chain p l (part.Plain v)) (body.Chain q k (part.Plain w))
plains p q l k v w s z a b c d f g is e =
    let m = message s a c (body.Chain p l (part.Plain v)) in
    let n = message z b d (body.Chain q k (part.Plain w)) in
    let xs = map (message_member m) chain_row in
    let ys = map (message_member n) chain_row in
    let alike : Alike xs ys =
    (refl, closed_kinds v w, (refl, closed_links l k f.1 g.1, (refl, closed_names c d, (refl, closed_names a b, (refl, closed_places p q f.0.0 g.0.0, (refl, closed_sessions s z, (refl, closed_version, tt))))))) in
    let texts : object xs ≡ object ys = ap (text_in m) (sym (plain_row v f.0.1)) ∙ e ∙ ap (text_in n) (plain_row w g.0.1) in
    let same = members_same xs ys alike texts in
    let place = one_place p q f.0.0 g.0.0 same.1.1.1.1.0 in
    let link = one_link l k f.1 g.1 same.1.0 in
    one_message s z a b c d _ _ (one_session s z same.1.1.1.1.1.0) (one_name a b same.1.1.1.0) (one_name c d same.1.1.0) (rw (place, link, is) refl)

recovers : (p q : ℕ) (l k : Link) → Goal (body.Recover p l) (body.Recover q k)
recovers p q l k s z a b c d f g is e =
    let xs = map (message_member (message s a c (body.Recover p l))) (row Recover) in
    let ys = map (message_member (message z b d (body.Recover q k))) (row Recover) in
    let alike : Alike xs ys =
    (refl, closed_kinds Recover Recover, (refl, closed_links l k f.1 g.1, (refl, closed_lengths p q f.0 g.0, (refl, closed_names c d, (refl, closed_names a b, (refl, closed_sessions s z, (refl, closed_version, tt))))))) in
    let same = members_same xs ys alike e in
    let long = one_length p q f.0 g.0 same.1.1.0 in
    let link = one_link l k f.1 g.1 same.1.0 in
    one_message s z a b c d _ _ (one_session s z same.1.1.1.1.1.0) (one_name a b same.1.1.1.1.0) (one_name c d same.1.1.1.0) (rw (long, link) refl)

successes : (p q : ℕ) (l k : Link) → Goal (body.Success p l) (body.Success q k)
successes p q l k s z a b c d f g is e =
    let xs = map (message_member (message s a c (body.Success p l))) (row RecoverSuccess) in
    let ys = map (message_member (message z b d (body.Success q k))) (row RecoverSuccess) in
    let alike : Alike xs ys =
    (refl, closed_kinds RecoverSuccess RecoverSuccess, (refl, closed_links l k f.1 g.1, (refl, closed_lengths p q f.0 g.0, (refl, closed_names c d, (refl, closed_names a b, (refl, closed_sessions s z, (refl, closed_version, tt))))))) in
    let same = members_same xs ys alike e in
    let long = one_length p q f.0 g.0 same.1.1.0 in
    let link = one_link l k f.1 g.1 same.1.0 in
    one_message s z a b c d _ _ (one_session s z same.1.1.1.1.1.0) (one_name a b same.1.1.1.1.0) (one_name c d same.1.1.1.0) (rw (long, link) refl)

updates : (p q : ℕ) (v w : List (List ℕ)) → Goal (body.Update p v) (body.Update q w)
updates p q v w s z a b c d f g is e =
    let xs = map (message_member (message s a c (body.Update p v))) (row RecoverUpdate) in
    let ys = map (message_member (message z b d (body.Update q w))) (row RecoverUpdate) in
    let alike : Alike xs ys =
    (refl, closed_array v w (plain_entries v f.0.1) (plain_entries w g.0.1), (refl, closed_kinds RecoverUpdate RecoverUpdate, (refl, closed_lengths p q f.0.0 g.0.0, (refl, closed_names c d, (refl, closed_names a b, (refl, closed_sessions s z, (refl, closed_version, tt))))))) in
    let same = members_same xs ys alike e in
    let long = one_length p q f.0.0 g.0.0 same.1.1.0 in
    let list = one_list v w f.0.1 g.0.1 same.0 in
    one_message s z a b c d _ _ (one_session s z same.1.1.1.1.1.0) (one_name a b same.1.1.1.1.0) (one_name c d same.1.1.1.0) (rw (long, list) refl)

-- the sort of a body, which its kind tells

abbrev sort_of : Body → ℕ
sort_of (body.Chain place previous (part.Proposal terms)) = 0
sort_of (body.Chain place previous (part.Plain kind)) = 1
sort_of (body.Chain place previous (part.Reject reason)) = 2
sort_of (body.Recover length last) = 3
sort_of (body.Update length entries) = 4
sort_of (body.Success length last) = 5

abbrev kind_sort : Kind → ℕ
kind_sort TransferProposal = 0
kind_sort Reject = 2
kind_sort Recover = 3
kind_sort RecoverUpdate = 4
kind_sort RecoverSuccess = 5
kind_sort _ = 1

plain_sort : (k : Kind) → IsTrue (is_plain_kind k) → kind_sort k ≡ 1
plain_sort TransferProposal e = absurd cc
plain_sort Reject e = absurd cc
plain_sort Recover e = absurd cc
plain_sort RecoverUpdate e = absurd cc
plain_sort RecoverSuccess e = absurd cc
plain_sort _ e = refl

sorted : (x : Body) → IsBody x → kind_sort (kind_of x) ≡ sort_of x
sorted (body.Chain place previous (part.Proposal terms)) h = refl
sorted (body.Chain place previous (part.Plain kind)) h = plain_sort kind h.1
sorted (body.Chain place previous (part.Reject reason)) h = refl
sorted (body.Recover length last) h = refl
sorted (body.Update length entries) h = refl
sorted (body.Success length last) h = refl

by_sort : (x y : Body) → sort_of x ≡ sort_of y → Goal x y
by_sort (body.Chain p l (part.Proposal t)) (body.Chain q k (part.Proposal u)) e = proposals p q l k t u
by_sort (body.Chain p l (part.Plain t)) (body.Chain q k (part.Plain u)) e = plains p q l k t u
by_sort (body.Chain p l (part.Reject t)) (body.Chain q k (part.Reject u)) e = rejects p q l k t u
by_sort (body.Recover p l) (body.Recover q k) e = recovers p q l k
by_sort (body.Update p l) (body.Update q k) e = updates p q l k
by_sort (body.Success p l) (body.Success q k) e = successes p q l k
by_sort x (body.Chain q k (part.Proposal u)) e = absurd (omega arith)
by_sort x (body.Chain q k (part.Plain u)) e = absurd (omega arith)
by_sort x (body.Chain q k (part.Reject u)) e = absurd (omega arith)
by_sort x y e = absurd (omega arith)

pub one_text : (m n : Message) (t : List ℕ) → IsMessage m → IsMessage n → IsText m t → IsText n t → m ≡ n
unfolding canonical
one_text m n t f g d e =
    let same : text_of m ≡ text_of n = sym d ∙ e in
    let kinds = kinds_same m n same in
    by_sort m.body n.body (sym (sorted m.body f.0) ∙ ap kind_sort kinds ∙ sorted n.body g.0) m.session n.session m.sender n.sender m.receiver n.receiver f g kinds same
