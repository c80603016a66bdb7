-- How long the signed texts of messages are, and of which bytes.
use Rattle.std.proofs.Common.{◌≡◌, ℕ, zero, suc, ◌+◌, ◌*◌, ◌/◌, ◌%◌, ◌<◌, ◌≤◌, Bool, true, false, List, [], ◌∷◌, ◌++◌, length, get_or, map, decimal, refl, ◌∙◌, arith}
use Rattle.std.specs.Prelude.{slice_index, nat_le}
use Rattle.std.specs.List.{join_with_byte, list_all, sum_by}
use Rattle.std.proofs.lemmas.Bool.{and_from, and_parts, leb-true}
use Rattle.std.proofs.lemmas.Fmt.{length-decimal-le}
use Rattle.std.proofs.lemmas.List.{length-append}
use Rattle.std.proofs.lemmas.List.Folds.{list_all-append}
use Rattle.std.proofs.lemmas.List.Sums.{sum_by-cons}
use Rattle.base64.specs.Rfc4648.{encode_symbols}
use Rattle.sha2.proofs.Facts256.{length-sha256}
use Rattle.satp_base.specs.Canonical.{Member, array, body_value, field_member, part_value, base64url, canonical, kind_of, kind_text, link_text, member, member_text, message_member, object, part_kind, reason_text, row, string, term, terms_fields, value, value_text}
use Rattle.satp_base.specs.Canonical.Value.{fields}
use Rattle.satp_base.specs.Forms.{HasLink, IsBody, IsLink, IsMessage, IsPart, are_entries, is_entry, is_entry_byte}
use Rattle.satp_base.specs.Names.{is_name_byte}
use Rattle.satp_base.specs.Signatures.{encoded, hmac, jws, own, own_header, signing_input}
use Rattle.satp_base.specs.Sizes.{longest_chain_text, longest_own_text}
use Rattle.satp_base.specs.Values.{name_text, session_text}
use Rattle.satp_base.specs.Verdicts.{IsChainBody}
use Rattle.satp_base.specs.declared.member.MemberName.{MemberName}
use Rattle.satp_base.specs.declared.member.MemberName.TheVariants as name
use Rattle.satp_base.specs.declared.message.Body.{Body}
use Rattle.satp_base.specs.declared.message.Body.TheVariants as body
use Rattle.satp_base.specs.declared.message.Kind.{Kind}
use Rattle.satp_base.specs.declared.message.Kind.TheVariants.{TransferProposal, ProposalReceipt, TransferCommence, CommenceAck, LockAssert, LockReceipt, CommitPrepare, CommitReady, CommitFinal, CommitFinalAck, TransferComplete, Reject, Rollback, RollbackAck, Recover, RecoverUpdate, RecoverSuccess}
use Rattle.satp_base.specs.declared.message.Link.{Link}
use Rattle.satp_base.specs.declared.message.Message.{Message}
use Rattle.satp_base.specs.declared.message.Part.{Part}
use Rattle.satp_base.specs.declared.message.Part.TheVariants as part
use Rattle.satp_base.specs.declared.message.Reason.{Reason}
use Rattle.satp_base.specs.declared.message.Reason.TheVariants.{UnknownAsset, MintCapped, Aborted, LedgerTaken}
use Rattle.satp_base.specs.declared.message.Terms.{Terms}
use Rattle.satp_base.specs.declared.name.Name.{Name}
use Rattle.satp_base.specs.declared.session.SessionId.{SessionId}
use Rattle.satp_base.proofs.AsciiText.{text_bytes}
use Rattle.satp_base.proofs.Forms.{form_parts, form_from, held}
use Rattle.satp_base.proofs.HashLemmas.{bytes_from, hash_bytes}

-- ---- base64url

each_at : (p : ℕ → Bool) (xs : List ℕ) (i : ℕ) → list_all p xs ≡ true → i < length xs → p (get_or xs i 0) ≡ true
each_at p [] i e h = absurd (omega (arith, h))
each_at p (x ∷ xs) zero e h = (and_parts _ _ e).0
each_at p (x ∷ xs) (suc i) e h = each_at p xs i (and_parts _ _ e).1 (omega (arith, h))

symbol : (i : ℕ) → i < 64 → is_entry_byte (get_or base64url i 0) ≡ true
symbol i h = each_at is_entry_byte base64url i refl h

-- its symbols are those of an entry
symbols : (m : List ℕ) → ((i : ℕ) → slice_index m i < 256) → list_all is_entry_byte (encode_symbols base64url m) ≡ true
unfolding encode_symbols
symbols [] h = refl
symbols (a ∷ []) h = let p : a < 256 = h 0 in and_from _ _ (symbol (a / 4) (omega arith)) (and_from _ _ (symbol (a % 4 * 16) (omega arith)) refl)
symbols (a ∷ b ∷ []) h =
    let p : a < 256 = h 0 in
    let q : b < 256 = h 1 in
    and_from _ _ (symbol (a / 4) (omega arith)) (and_from _ _ (symbol (a % 4 * 16 + b / 16) (omega arith)) (and_from _ _ (symbol (b % 16 * 4) (omega arith)) refl))
symbols (a ∷ b ∷ c ∷ rest) h =
    let p : a < 256 = h 0 in
    let q : b < 256 = h 1 in
    let r : c < 256 = h 2 in
    and_from _ _ (symbol (a / 4) (omega arith)) (and_from _ _ (symbol (a % 4 * 16 + b / 16) (omega arith)) (and_from _ _ (symbol (b % 16 * 4 + c / 64) (omega arith)) (and_from _ _ (symbol (c % 64) (omega arith)) (symbols rest (λ i. h (suc (suc (suc i))))))))

-- four symbols for three bytes
few-symbols : (m : List ℕ) → 3 * length (encode_symbols base64url m) ≤ 4 * length m + 2
unfolding encode_symbols
few-symbols [] = omega arith
few-symbols (a ∷ []) = omega arith
few-symbols (a ∷ b ∷ []) = omega arith
few-symbols (a ∷ b ∷ c ∷ rest) = let h = few-symbols rest in omega (arith, h)

enough-symbols : (m : List ℕ) → length m ≤ length (encode_symbols base64url m)
unfolding encode_symbols
enough-symbols [] = omega arith
enough-symbols (a ∷ []) = omega arith
enough-symbols (a ∷ b ∷ []) = omega arith
enough-symbols (a ∷ b ∷ c ∷ rest) = let h = enough-symbols rest in omega (arith, h)

-- ---- lengths of values

short-name : (n : Name) → length (name_text n) ≤ 32
short-name n = (form_parts 32 is_name_byte (name_text n) (held 32 is_name_byte n.count n.bytes n.valid).form).short

short-kind : (k : Kind) → length (kind_text k) ≤ 17
short-kind = elim [ TransferProposal ↦ omega arith | ProposalReceipt ↦ omega arith | TransferCommence ↦ omega arith | CommenceAck ↦ omega arith | LockAssert ↦ omega arith | LockReceipt ↦ omega arith | CommitPrepare ↦ omega arith | CommitReady ↦ omega arith | CommitFinal ↦ omega arith | CommitFinalAck ↦ omega arith | TransferComplete ↦ omega arith | Reject ↦ omega arith | Rollback ↦ omega arith | RollbackAck ↦ omega arith | Recover ↦ omega arith | RecoverUpdate ↦ omega arith | RecoverSuccess ↦ omega arith ]

short-reason : (r : Reason) → length (reason_text r) ≤ 13
short-reason = elim [ UnknownAsset ↦ omega arith | MintCapped ↦ omega arith | Aborted ↦ omega arith | LedgerTaken ↦ omega arith ]

long-string : (s : List ℕ) → length (string s) ≡ length s + 2
long-string s = let h = length-append s (34 ∷ []) in omega (arith, h)

short-session : (s : SessionId) → length (session_text s) ≤ 43
short-session s =
    let h = length-append (name_text s.gateway) (46 ∷ decimal s.number) in
    let n = short-name s.gateway in
    let d = length-decimal-le 10 s.number (omega arith) (omega (arith, s.high)) (omega (arith, s.high)) in
    omega (arith, h, n, d)

short-link : (l : Link) → IsLink l → length (link_text l) ≤ 43
short-link l h = let f = few-symbols l.0 in omega (arith, f, h.long)

short-place : (n : ℕ) → n ≤ 11 → length (decimal n) ≤ 2
short-place n h = length-decimal-le 2 n (omega arith) (omega (arith, h)) (omega (arith, h))

-- ---- objects

abbrev room : Member → ℕ
room m = length m.0 + length m.1 + 4

long-member : (m : Member) → length (member m) + 1 ≡ room m
long-member m =
    let a = long-string m.0 in
    let b = length-append (string m.0) (58 ∷ m.1) in
    omega (arith, a, b)

long-join : (m : Member) (ms : List Member) → length (join_with_byte 44 (map member (m ∷ ms))) + 1 ≡ sum_by room (m ∷ ms)
long-join m [] = let a = long-member m in let b = sum_by-cons room m [] in omega (arith, a, b)
long-join m (n ∷ ms) =
    let a = long-member m in
    let b = sum_by-cons room m (n ∷ ms) in
    let c = long-join n ms in
    let d = length-append (member m) (44 ∷ join_with_byte 44 (map member (n ∷ ms))) in
    omega (arith, a, b, c, d)

long-object : (m : Member) (ms : List Member) → length (object (m ∷ ms)) ≡ sum_by room (m ∷ ms) + 1
long-object m ms =
    let a = long-join m ms in
    let b = length-append (join_with_byte 44 (map member (m ∷ ms))) (125 ∷ []) in
    omega (arith, a, b)

short-amount : (t : Terms) → length (decimal t.amount.number) ≤ 16
short-amount t = length-decimal-le 16 t.amount.number (omega arith) (omega (arith, t.amount.high)) (omega (arith, t.amount.high))

-- ---- the values of a message

-- the most bytes of the value of a member
abbrev most : MemberName → ℕ
most name.Kind = 19
most name.Last = 45
most name.Previous = 45
most name.Reason = 15
most name.Receiver = 34
most name.Sender = 34
most name.Session = 45
most name.Terms = 167
most name.Entries = 4103
most _ = 2

two-most : (n : MemberName) → 2 ≤ most n
two-most = elim [ name.Amount ↦ omega arith | name.Asset ↦ omega arith | name.Beneficiary ↦ omega arith | name.Entries ↦ omega arith | name.Kind ↦ omega arith | name.Last ↦ omega arith | name.Length ↦ omega arith | name.Originator ↦ omega arith | name.Previous ↦ omega arith | name.Reason ↦ omega arith | name.Receiver ↦ omega arith | name.Sender ↦ omega arith | name.Sequence ↦ omega arith | name.Session ↦ omega arith | name.Terms ↦ omega arith | name.Version ↦ omega arith | name.Unknown ↦ omega arith ]

short-terms : (t : Terms) → length (value_text (fields (terms_fields t))) ≤ 167
short-terms t =
    let a = long-object (field_member (name.Amount, term t name.Amount)) (map field_member (map (λ (n : MemberName). (n, term t n)) (name.Asset ∷ name.Beneficiary ∷ name.Originator ∷ []))) in
    let b = short-amount t in
    let c = long-string (name_text t.asset) in
    let d = short-name t.asset in
    let e = long-string (name_text t.beneficiary) in
    let f = short-name t.beneficiary in
    let g = long-string (name_text t.originator) in
    let h = short-name t.originator in
    omega (arith, a, b, c, d, e, f, g, h)

short-entry : (e : List ℕ) → is_entry e ≡ true → length (string e) ≤ 2050
short-entry e h = let a = long-string e in let b = (form_parts 2048 is_entry_byte e h).short in omega (arith, a, b)

-- at most two texts of at most 2,048 bytes
short-entries : (es : List (List ℕ)) → are_entries es ≡ true → length (array (map string es)) ≤ 4103
short-entries [] h = omega arith
short-entries (e ∷ []) h =
    let all : list_all is_entry (e ∷ []) ≡ true = (and_parts (nat_le (length (e ∷ [])) 2) _ h).1 in
    let a = short-entry e (and_parts (is_entry e) true all).0 in
    let b = length-append (string e) (93 ∷ []) in
    omega (arith, a, b)
short-entries (e ∷ f ∷ []) h =
    let all : list_all is_entry (e ∷ f ∷ []) ≡ true = (and_parts (nat_le (length (e ∷ f ∷ [])) 2) _ h).1 in
    let a = short-entry e (and_parts (is_entry e) (list_all is_entry (f ∷ [])) all).0 in
    let b = short-entry f (and_parts (is_entry f) true (and_parts (is_entry e) (list_all is_entry (f ∷ [])) all).1).0 in
    let c = length-append (string e) (44 ∷ string f) in
    let d = length-append (string e ++ 44 ∷ string f) (93 ∷ []) in
    omega (arith, a, b, c, d)
short-entries (e ∷ f ∷ g ∷ es) h = let k : length (e ∷ f ∷ g ∷ es) ≤ 2 = leb-true _ 2 (and_parts (nat_le (length (e ∷ f ∷ g ∷ es)) 2) (list_all is_entry (e ∷ f ∷ g ∷ es)) h).0 in absurd (omega (arith, k))

short-part : (p : Part) (n : MemberName) → length (value_text (part_value p n)) ≤ most n
short-part (part.Proposal t) name.Terms = short-terms t
short-part (part.Reject r) name.Reason = let a = long-string (reason_text r) in let b = short-reason r in omega (arith, a, b)
short-part (part.Plain k) n = two-most n
short-part (part.Proposal t) n = two-most n
short-part (part.Reject r) n = two-most n

short-body : (b : Body) → IsBody b → HasLink b → (n : MemberName) → length (value_text (body_value b n)) ≤ most n
short-body (body.Chain place previous p) h l name.Previous = let a = long-string (link_text previous) in let b = short-link previous l in omega (arith, a, b)
short-body (body.Chain place previous p) h l name.Sequence = short-place place h.0.high
short-body (body.Chain place previous p) h l n = short-part p n
short-body (body.Recover count last) h l name.Last = let a = long-string (link_text last) in let b = short-link last l in omega (arith, a, b)
short-body (body.Recover count last) h l name.Length = short-place count h
short-body (body.Recover count last) h l n = two-most n
short-body (body.Update count entries) h l name.Entries = short-entries entries h.1
short-body (body.Update count entries) h l name.Length = short-place count h.0
short-body (body.Update count entries) h l n = two-most n
short-body (body.Success count last) h l name.Last = let a = long-string (link_text last) in let b = short-link last l in omega (arith, a, b)
short-body (body.Success count last) h l name.Length = short-place count h
short-body (body.Success count last) h l n = two-most n

-- the version's is one digit
abbrev most_of : MemberName → ℕ
most_of name.Version = 1
most_of n = most n

short-value : (m : Message) → IsMessage m → (n : MemberName) → length (value_text (value m n)) ≤ most_of n
short-value m h name.Kind = let a = long-string (kind_text (kind_of m.body)) in let b = short-kind (kind_of m.body) in omega (arith, a, b)
short-value m h name.Receiver = let a = long-string (name_text m.receiver) in let b = short-name m.receiver in omega (arith, a, b)
short-value m h name.Sender = let a = long-string (name_text m.sender) in let b = short-name m.sender in omega (arith, a, b)
short-value m h name.Session = let a = long-string (session_text m.session) in let b = short-session m.session in omega (arith, a, b)
short-value m h name.Version = length-decimal-le 1 1 (omega arith) (omega arith) (omega arith)
short-value m h n = short-body m.body h.0 h.1 n

-- ---- the canonical text

abbrev row_room : MemberName → ℕ
row_room n = length (member_text n) + most_of n + 4

sum-row : (m : Message) → IsMessage m → (ns : List MemberName) → sum_by room (map (message_member m) ns) ≤ sum_by row_room ns
sum-row m h [] = omega arith
sum-row m h (n ∷ ns) =
    let a = sum_by-cons room (message_member m n) (map (message_member m) ns) in
    let b = sum_by-cons row_room n ns in
    let c = sum-row m h ns in
    let d = short-value m h n in
    omega (arith, a, b, c, d)

-- the most bytes of the text of a message of this kind
abbrev most_text : Kind → ℕ
most_text RecoverUpdate = 4312
most_text _ = 433

rows : (k : Kind) → sum_by row_room (row k) + 1 ≤ most_text k
rows = elim [ TransferProposal ↦ omega arith | ProposalReceipt ↦ omega arith | TransferCommence ↦ omega arith | CommenceAck ↦ omega arith | LockAssert ↦ omega arith | LockReceipt ↦ omega arith | CommitPrepare ↦ omega arith | CommitReady ↦ omega arith | CommitFinal ↦ omega arith | CommitFinalAck ↦ omega arith | TransferComplete ↦ omega arith | Reject ↦ omega arith | Rollback ↦ omega arith | RollbackAck ↦ omega arith | Recover ↦ omega arith | RecoverUpdate ↦ omega arith | RecoverSuccess ↦ omega arith ]

object-row : (m : Message) (ns : List MemberName) → 1 ≤ length ns → length (object (map (message_member m) ns)) ≡ sum_by room (map (message_member m) ns) + 1
object-row m [] h = absurd (omega (arith, h))
object-row m (n ∷ ns) h = long-object (message_member m n) (map (message_member m) ns)

some-row : (k : Kind) → 1 ≤ length (row k)
some-row = elim [ TransferProposal ↦ omega arith | ProposalReceipt ↦ omega arith | TransferCommence ↦ omega arith | CommenceAck ↦ omega arith | LockAssert ↦ omega arith | LockReceipt ↦ omega arith | CommitPrepare ↦ omega arith | CommitReady ↦ omega arith | CommitFinal ↦ omega arith | CommitFinalAck ↦ omega arith | TransferComplete ↦ omega arith | Reject ↦ omega arith | Rollback ↦ omega arith | RollbackAck ↦ omega arith | Recover ↦ omega arith | RecoverUpdate ↦ omega arith | RecoverSuccess ↦ omega arith ]

short-text : (m : Message) → IsMessage m → length (canonical m) ≤ most_text (kind_of m.body)
unfolding canonical
short-text m h =
    let k = kind_of m.body in
    let a = object-row m (row k) (some-row k) in
    let b = sum-row m h (row k) in
    let c = rows k in
    omega (arith, a, b, c)

least-text : (k : Kind) → most_text k ≤ 4312
least-text = elim [ TransferProposal ↦ omega arith | ProposalReceipt ↦ omega arith | TransferCommence ↦ omega arith | CommenceAck ↦ omega arith | LockAssert ↦ omega arith | LockReceipt ↦ omega arith | CommitPrepare ↦ omega arith | CommitReady ↦ omega arith | CommitFinal ↦ omega arith | CommitFinalAck ↦ omega arith | TransferComplete ↦ omega arith | Reject ↦ omega arith | Rollback ↦ omega arith | RollbackAck ↦ omega arith | Recover ↦ omega arith | RecoverUpdate ↦ omega arith | RecoverSuccess ↦ omega arith ]

-- a chain's message isn't an update
chain-most : (b : Body) → IsChainBody b → IsBody b → most_text (kind_of b) ≤ 433
chain-most (body.Chain place previous (part.Plain RecoverUpdate)) c h = absurd (cc h.1)
chain-most (body.Chain place previous (part.Plain k)) c h = omega arith
chain-most (body.Chain place previous (part.Proposal t)) c h = omega arith
chain-most (body.Chain place previous (part.Reject r)) c h = omega arith
chain-most (body.Recover count last) c h = absurd c
chain-most (body.Update count entries) c h = absurd c
chain-most (body.Success count last) c h = absurd c

-- ---- the signed text

hash-bytes : (key m : List ℕ) (i : ℕ) → slice_index (hmac key m) i < 256
unfolding hmac
hash-bytes key m = hash_bytes _

hash-long : (key m : List ℕ) → length (hmac key m) ≡ 32
unfolding hmac
hash-long key m = length-sha256 _

encoded-bytes : (m : List ℕ) → ((i : ℕ) → slice_index m i < 256) → list_all is_entry_byte (encoded m) ≡ true
unfolding encoded
encoded-bytes m h = symbols m h

encoded-short : (m : List ℕ) → 3 * length (encoded m) ≤ 4 * length m + 2
unfolding encoded
encoded-short m = few-symbols m

encoded-long : (m : List ℕ) → length m ≤ length (encoded m)
unfolding encoded
encoded-long m = enough-symbols m

jws-bytes : (key header payload : List ℕ) → ((i : ℕ) → slice_index header i < 256) → ((i : ℕ) → slice_index payload i < 256) → list_all is_entry_byte (jws key header payload) ≡ true
unfolding jws
jws-bytes key header payload h p =
    list_all-append is_entry_byte (signing_input header payload) (46 ∷ encoded (hmac key (signing_input header payload)))
    ∙ and_from _ _
    (list_all-append is_entry_byte (encoded header) (46 ∷ encoded payload) ∙ and_from _ _ (encoded-bytes header h) (encoded-bytes payload p))
    (encoded-bytes (hmac key (signing_input header payload)) (hash-bytes key (signing_input header payload)))

jws-length : (key header payload : List ℕ) → length (jws key header payload) ≡ length (encoded header) + length (encoded payload) + length (encoded (hmac key (signing_input header payload))) + 2
unfolding jws
jws-length key header payload =
    let a = length-append (signing_input header payload) (46 ∷ encoded (hmac key (signing_input header payload))) in
    let b = length-append (encoded header) (46 ∷ encoded payload) in
    omega (arith, a, b)

pub payload-shorter : (key header payload : List ℕ) → length payload ≤ length (jws key header payload)
payload-shorter key header payload =
    let a = jws-length key header payload in
    let b = encoded-long payload in
    omega (arith, a, b)

own-length : (key : List ℕ) (m : Message) (n : ℕ) → length (canonical m) ≤ n → (1 ≤ length (own key m)) × (3 * length (own key m) ≤ 4 * n + 197)
unfolding own
own-length key m n h =
    let a = jws-length key own_header (canonical m) in
    let b = encoded-short own_header in
    let c = encoded-short (canonical m) in
    let d = encoded-short (hmac key (signing_input own_header (canonical m))) in
    let e = hash-long key (signing_input own_header (canonical m)) in
    (omega (arith, a), omega (arith, a, b, c, d, e, h))

own-bytes : (key : List ℕ) (m : Message) → IsMessage m → list_all is_entry_byte (own key m) ≡ true
unfolding own
own-bytes key m f = jws-bytes key own_header (canonical m) (bytes_from own_header refl) (text_bytes m f)

pub own-short : (key : List ℕ) (m : Message) → IsMessage m → length (own key m) ≤ longest_own_text
own-short key m f =
    let a = short-text m f in
    let b = least-text (kind_of m.body) in
    let c = own-length key m 4312 (omega (arith, a, b)) in
    omega (arith, c.1)

-- the text of a chain's message may be an entry of an update
pub chain-short : (key : List ℕ) (m : Message) → IsMessage m → IsChainBody m.body → (1 ≤ length (own key m)) × (length (own key m) ≤ longest_chain_text)
chain-short key m f chained =
    let a = short-text m f in
    let b = chain-most m.body chained f.0 in
    let c = own-length key m 433 (omega (arith, a, b)) in
    (c.0, omega (arith, c.1))

pub chain-entry : (key : List ℕ) (m : Message) → IsMessage m → IsChainBody m.body → is_entry (own key m) ≡ true
chain-entry key m f chained =
    let h = chain-short key m f chained in
    form_from 2048 is_entry_byte (own key m) (record { some = h.0; short = omega (arith, h.1); bytes = own-bytes key m f })

pub chain_texts_are_entries : (key : List ℕ) (m : Message) → IsMessage m → IsChainBody m.body → (1 ≤ length (own key m)) × (length (own key m) ≤ longest_chain_text) × (is_entry (own key m) ≡ true)
chain_texts_are_entries key m f chained = let h = chain-short key m f chained in (h.0, h.1, chain-entry key m f chained)
