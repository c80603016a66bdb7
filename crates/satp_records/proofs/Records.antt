-- The fields of a record that can be stored fit its format, and two such records with the same fields are one.
use Rattle.std.proofs.Common.{◌≡◌, ℕ, ◌<◌, ◌≤◌, ◌^◌, Bool, true, false, not, List, [], ◌∷◌, ◌++◌, length, get_or, IsTrue, refl, sym, ap, ◌∙◌, arith}
use Rattle.std.specs.Prelude.{is_some}
use Rattle.std.specs.Int.{w32, w64, to_be_bytes, from_be_bytes}
use Rattle.std.specs.Str.{bytes_eq}
use Rattle.std.proofs.lemmas.Bool.{and_from, le-leb, leb-true}
use Rattle.std.proofs.lemmas.Slice.Eq.{bytes_eq-Decides}
use Rattle.std.proofs.lemmas.Nat.{from_be_bytes-to_be_bytes_4, from_be_bytes-to_be_bytes_8}
use Rattle.satp_base.specs.Names.{is_name_byte, is_address_byte}
use Rattle.satp_base.specs.Numbers.{greatest_amount}
use Rattle.satp_base.specs.Values.{name_text, address_text}
use Rattle.satp_base.specs.Keys.{same_amount, same_session}
use Rattle.satp_base.specs.declared.address.Address.{Address}
use Rattle.satp_base.specs.declared.amount.Amount.{Amount}
use Rattle.satp_base.specs.declared.name.Name.{Name}
use Rattle.satp_base.specs.declared.session.SessionId.{SessionId}
use Rattle.satp_base.specs.declared.ledger.LedgerKind.{LedgerKind}
use Rattle.satp_base.specs.declared.ledger.LedgerKind.TheVariants.{Accounts, Outputs}
use Rattle.satp_base.specs.declared.ledger.LedgerOp.{LedgerOp}
use Rattle.satp_base.specs.declared.ledger.LedgerOp.TheVariants.{Lock, Burn, Mint, Assign, Release}
use Rattle.satp_base.specs.declared.message.Kind.{Kind}
use Rattle.satp_base.specs.declared.message.Kind.TheVariants as kind
use Rattle.satp_base.specs.declared.message.Role.{Role}
use Rattle.satp_base.specs.declared.message.Role.TheVariants.{Origin, Recipient}
use Rattle.satp_base.specs.declared.message.Terms.{Terms}
use Rattle.satp_base.specs.declared.record.Rec.{Rec}
use Rattle.satp_base.specs.declared.record.Rec.TheVariants as rec
use Rattle.satp_base.specs.declared.record.Way.{Way}
use Rattle.satp_base.specs.declared.record.Way.TheVariants.{Commit, Back}
use Rattle.satp_base.specs.declared.record.Cause.TheVariants as cause
use Rattle.satp_base.proofs.Exact.{name_holds, address_holds, same_text, same_address_text}
use Rattle.satp_base.proofs.Forms.{form_parts}
use Rattle.satp_base.proofs.Equalities.{same_terms}
use Rattle.satp_records.specs.Shapes.{Fits}
use Rattle.satp_records.specs.Formats.{format_of, shapes_of, name_shape, peer_shape, address_shape, key_shape, text_shape, number_shape, amount_shape, code_shape, role_byte, kind_byte, operation_byte, way_byte, ledger_byte, session_texts, terms_texts, texts, payload_of, IsFormed, IsFormedRec, IsMessageText, is_answer}
use Rattle.satp_records.specs.declared.stored.Stored.{Stored}
use Rattle.satp_records.specs.declared.stored.Stored.TheVariants as stored
use Rattle.satp_records.proofs.Lists.{FitsAll, IsPayload}

-- ---- fields fit

name_fits : (before : List (List ℕ)) (n : Name) → Fits name_shape before (name_text n)
name_fits before n =
    let form = (name_holds n).form in
    let h = form_parts 32 is_name_byte (name_text n) form in
    record { low = h.some; high = h.short; good = form }

other_text : (own peer : List ℕ) → (own ≡ peer → ⊥) → not (bytes_eq own peer) ≡ true
other_text own peer other = at (bytes_eq own peer) refl
  where
    at : (b : Bool) → bytes_eq own peer ≡ b → not b ≡ true
    at true e = absurd (other ((bytes_eq-Decides own peer).0 e))
    at false e = refl

peer_fits : (own peer : Name) → (own ≡ peer → ⊥) → Fits peer_shape (name_text own ∷ []) (name_text peer)
peer_fits own peer other =
    let form = (name_holds peer).form in
    let h = form_parts 32 is_name_byte (name_text peer) form in
    record { low = h.some; high = h.short; good = and_from _ _ form (other_text (name_text own) (name_text peer) (λ e. other (same_text own peer e))) }

address_fits : (before : List (List ℕ)) (a : Address) → Fits address_shape before (address_text a)
address_fits before a =
    let form = (address_holds a).form in
    let h = form_parts 64 is_address_byte (address_text a) form in
    record { low = h.some; high = h.short; good = form }

key_fits : (before : List (List ℕ)) (bytes : List ℕ) → 32 ≤ length bytes → length bytes ≤ 64 → Fits key_shape before bytes
key_fits before bytes low high = record { low = low; high = high; good = refl }

text_fits : (before : List (List ℕ)) (bytes : List ℕ) → IsMessageText bytes → Fits text_shape before bytes
text_fits before bytes h = record { low = h.0; high = h.1; good = refl }

number_fits : (before : List (List ℕ)) (s : SessionId) → Fits number_shape before (to_be_bytes w32 s.number)
number_fits before s = record { low = omega arith; high = omega arith; good = rw (from_be_bytes-to_be_bytes_4 s.number (omega (arith, s.high))) (le-leb _ _ s.low) }

amount_fits : (before : List (List ℕ)) (n : ℕ) → 1 ≤ n → n ≤ greatest_amount → Fits amount_shape before (to_be_bytes w64 n)
amount_fits before n low high = record { low = omega arith; high = omega arith; good = rw (from_be_bytes-to_be_bytes_8 n (omega (arith, high))) (and_from _ _ (le-leb _ _ low) (le-leb _ _ high)) }

code_fits : (before : List (List ℕ)) (first last byte : ℕ) → first ≤ byte → byte ≤ last → Fits (code_shape first last) before (byte ∷ [])
code_fits before first last byte low high = record { low = omega arith; high = omega arith; good = and_from _ _ (le-leb _ _ low) (le-leb _ _ high) }

role_fits : (before : List (List ℕ)) (r : Role) → Fits (code_shape 0 1) before (role_byte r ∷ [])
role_fits before Origin = code_fits before 0 1 0 (omega arith) (omega arith)
role_fits before Recipient = code_fits before 0 1 1 (omega arith) (omega arith)

operation_fits : (before : List (List ℕ)) (op : LedgerOp) → Fits (code_shape 1 5) before (operation_byte op ∷ [])
operation_fits before Lock = code_fits before 1 5 1 (omega arith) (omega arith)
operation_fits before Burn = code_fits before 1 5 2 (omega arith) (omega arith)
operation_fits before Mint = code_fits before 1 5 3 (omega arith) (omega arith)
operation_fits before Assign = code_fits before 1 5 4 (omega arith) (omega arith)
operation_fits before Release = code_fits before 1 5 5 (omega arith) (omega arith)

way_fits : (before : List (List ℕ)) (w : Way) → Fits (code_shape 1 8) before (way_byte w ∷ [])
way_fits before w = let b = bounds w in code_fits before 1 8 (way_byte w) b.0 b.1
  where
    bounds : (w : Way) → (1 ≤ way_byte w) × (way_byte w ≤ 8)
    bounds Commit = (omega arith, omega arith)
    bounds (Back cause.Aborted) = (omega arith, omega arith)
    bounds (Back cause.LockRefused) = (omega arith, omega arith)
    bounds (Back cause.Rejected) = (omega arith, omega arith)
    bounds (Back cause.Rescued) = (omega arith, omega arith)
    bounds (Back cause.UnknownAsset) = (omega arith, omega arith)
    bounds (Back cause.MintCapped) = (omega arith, omega arith)
    bounds (Back cause.LedgerTaken) = (omega arith, omega arith)

ledger_fits : (before : List (List ℕ)) (k : LedgerKind) → Fits (code_shape 1 2) before (ledger_byte k ∷ [])
ledger_fits before Accounts = code_fits before 1 2 1 (omega arith) (omega arith)
ledger_fits before Outputs = code_fits before 1 2 2 (omega arith) (omega arith)

kind_fits : (before : List (List ℕ)) (k : Kind) → IsTrue (is_answer k) → Fits (code_shape 2 14) before (kind_byte k ∷ [])
kind_fits before k answer = code_fits before 2 14 (kind_byte k) (leb-true 2 (kind_byte k) answer) (at_most k)
  where
    at_most : (k : Kind) → kind_byte k ≤ 14
    at_most kind.TransferProposal = omega arith
    at_most kind.ProposalReceipt = omega arith
    at_most kind.TransferCommence = omega arith
    at_most kind.CommenceAck = omega arith
    at_most kind.LockAssert = omega arith
    at_most kind.LockReceipt = omega arith
    at_most kind.CommitPrepare = omega arith
    at_most kind.CommitReady = omega arith
    at_most kind.CommitFinal = omega arith
    at_most kind.CommitFinalAck = omega arith
    at_most kind.TransferComplete = omega arith
    at_most kind.Reject = omega arith
    at_most kind.Rollback = omega arith
    at_most kind.RollbackAck = omega arith
    at_most kind.Recover = omega arith
    at_most kind.RecoverUpdate = omega arith
    at_most kind.RecoverSuccess = omega arith

-- ---- records fit

abbrev Parts : Stored → Type 0
Parts s = (is_some (format_of (texts s).0) ≡ true) × FitsAll (shapes_of (format_of (texts s).0)) [] (texts s).1

fits_rec : (s : SessionId) (r : Rec) (message : List ℕ) → IsFormedRec r message → Parts (stored.Session s r message)
fits_rec s (rec.Began o t) message h =
    (refl, (name_fits _ s.gateway, (number_fits _ s, (role_fits _ o, (amount_fits _ t.amount.number t.amount.low t.amount.high, (name_fits _ t.asset, (name_fits _ t.beneficiary, (name_fits _ t.originator, (text_fits _ message h, tt)))))))))
fits_rec s (rec.Took k) message h = (refl, (name_fits _ s.gateway, (number_fits _ s, (kind_fits _ k h.0, (text_fits _ message h.1, tt)))))
fits_rec s (rec.Made k) message h = (refl, (name_fits _ s.gateway, (number_fits _ s, (kind_fits _ k h.0, (text_fits _ message h.1, tt)))))
fits_rec s (rec.Did op) message h = (refl, (name_fits _ s.gateway, (number_fits _ s, (operation_fits _ op, tt))))
fits_rec s (rec.Chose w) message h = (refl, (name_fits _ s.gateway, (number_fits _ s, (way_fits _ w, tt))))
fits_rec s rec.Rescue message h = (refl, (name_fits _ s.gateway, (number_fits _ s, tt)))

fits_record : (s : Stored) → IsFormed s → Parts s
fits_record (stored.Setup s) h = (refl, (name_fits _ s.name, (peer_fits s.name s.peer h.2, (address_fits _ s.at, (key_fits _ s.key h.0 h.1, tt)))))
fits_record (stored.Session s r message) h = fits_rec s r message h
fits_record (stored.Kind k) h = (refl, (ledger_fits _ k, tt))
fits_record (stored.Asset n cap) h = (refl, (name_fits _ n, (amount_fits _ cap h.0 h.1, tt)))
fits_record (stored.Hold a owner units) h = (refl, (name_fits _ a, (name_fits _ owner, (amount_fits _ units.number units.low units.high, tt))))
fits_record (stored.Act op s t) h =
    (refl, (operation_fits _ op, (name_fits _ s.gateway, (number_fits _ s, (amount_fits _ t.amount.number t.amount.low t.amount.high, (name_fits _ t.asset, (name_fits _ t.beneficiary, (name_fits _ t.originator, tt))))))))

-- a record that can be stored has a payload of its fields
pub record_payload : (s : Stored) → IsFormed s → IsPayload (texts s) (payload_of s)
record_payload s h = let p = fits_record s h in record { known = p.0; fits = p.1; is = refl }

-- ---- what a field stands for is one thing

both : (a b : List ℕ) (xs ys : List (List ℕ)) → a ∷ xs ≡ b ∷ ys → (a ≡ b) × (xs ≡ ys)
both a b xs ys e = (cc, cc)

one_byte : (a b : ℕ) → a ∷ [] ≡ b ∷ [] → a ≡ b
one_byte a b e = cc

-- what has a byte is found again by it
found_again : {A : Type 0} (byte : A → ℕ) (at : ℕ → A) (a b : A) → at (byte a) ≡ a → at (byte b) ≡ b → byte a ≡ byte b → a ≡ b
found_again byte at a b p q e = sym p ∙ ap at e ∙ q

abbrev role_at : ℕ → Role
role_at n = get_or (Origin ∷ Recipient ∷ []) n Origin

role_again : (r : Role) → role_at (role_byte r) ≡ r
role_again Origin = refl
role_again Recipient = refl

abbrev operation_at : ℕ → LedgerOp
operation_at n = get_or (Lock ∷ Lock ∷ Burn ∷ Mint ∷ Assign ∷ Release ∷ []) n Lock

operation_again : (op : LedgerOp) → operation_at (operation_byte op) ≡ op
operation_again Lock = refl
operation_again Burn = refl
operation_again Mint = refl
operation_again Assign = refl
operation_again Release = refl

abbrev way_at : ℕ → Way
way_at n = get_or (Commit ∷ Commit ∷ Back cause.Aborted ∷ Back cause.LockRefused ∷ Back cause.Rejected ∷ Back cause.Rescued ∷ Back cause.UnknownAsset ∷ Back cause.MintCapped ∷ Back cause.LedgerTaken ∷ []) n Commit

way_again : (w : Way) → way_at (way_byte w) ≡ w
way_again Commit = refl
way_again (Back cause.Aborted) = refl
way_again (Back cause.LockRefused) = refl
way_again (Back cause.Rejected) = refl
way_again (Back cause.Rescued) = refl
way_again (Back cause.UnknownAsset) = refl
way_again (Back cause.MintCapped) = refl
way_again (Back cause.LedgerTaken) = refl

abbrev ledger_at : ℕ → LedgerKind
ledger_at n = get_or (Accounts ∷ Accounts ∷ Outputs ∷ []) n Accounts

ledger_again : (k : LedgerKind) → ledger_at (ledger_byte k) ≡ k
ledger_again Accounts = refl
ledger_again Outputs = refl

abbrev kind_at : ℕ → Kind
kind_at n = get_or (kind.TransferProposal ∷ kind.TransferProposal ∷ kind.ProposalReceipt ∷ kind.TransferCommence ∷ kind.CommenceAck ∷ kind.LockAssert ∷ kind.LockReceipt ∷ kind.CommitPrepare ∷ kind.CommitReady ∷ kind.CommitFinal ∷ kind.CommitFinalAck ∷ kind.TransferComplete ∷ kind.Reject ∷ kind.Rollback ∷ kind.RollbackAck ∷ []) n kind.TransferProposal

kind_again : (k : Kind) → IsTrue (is_answer k) → kind_at (kind_byte k) ≡ k
kind_again kind.TransferProposal h = absurd cc
kind_again kind.ProposalReceipt h = refl
kind_again kind.TransferCommence h = refl
kind_again kind.CommenceAck h = refl
kind_again kind.LockAssert h = refl
kind_again kind.LockReceipt h = refl
kind_again kind.CommitPrepare h = refl
kind_again kind.CommitReady h = refl
kind_again kind.CommitFinal h = refl
kind_again kind.CommitFinalAck h = refl
kind_again kind.TransferComplete h = refl
kind_again kind.Reject h = refl
kind_again kind.Rollback h = refl
kind_again kind.RollbackAck h = refl
kind_again kind.Recover h = absurd cc
kind_again kind.RecoverUpdate h = absurd cc
kind_again kind.RecoverSuccess h = absurd cc

same_code : {A : Type 0} (byte : A → ℕ) (at : ℕ → A) (a b : A) → at (byte a) ≡ a → at (byte b) ≡ b → byte a ∷ [] ≡ byte b ∷ [] → a ≡ b
same_code byte at a b p q e = found_again byte at a b p q (one_byte (byte a) (byte b) e)

same_number : (m n : ℕ) → m < 2 ^ 32 → n < 2 ^ 32 → to_be_bytes w32 m ≡ to_be_bytes w32 n → m ≡ n
same_number m n p q e = sym (from_be_bytes-to_be_bytes_4 m p) ∙ ap (from_be_bytes w32) e ∙ from_be_bytes-to_be_bytes_4 n q

same_units : (m n : ℕ) → m < 2 ^ 64 → n < 2 ^ 64 → to_be_bytes w64 m ≡ to_be_bytes w64 n → m ≡ n
same_units m n p q e = sym (from_be_bytes-to_be_bytes_8 m p) ∙ ap (from_be_bytes w64) e ∙ from_be_bytes-to_be_bytes_8 n q

units_small : (a : Amount) → a.number < 2 ^ 64
units_small a = omega (arith, a.high)

-- a session, and the fields behind it
same_at_session : (s t : SessionId) (xs ys : List (List ℕ)) → name_text s.gateway ∷ to_be_bytes w32 s.number ∷ xs ≡ name_text t.gateway ∷ to_be_bytes w32 t.number ∷ ys → (s ≡ t) × (xs ≡ ys)
same_at_session s t xs ys e =
    let p = both (name_text s.gateway) (name_text t.gateway) (to_be_bytes w32 s.number ∷ xs) (to_be_bytes w32 t.number ∷ ys) e in
    let q = both (to_be_bytes w32 s.number) (to_be_bytes w32 t.number) xs ys p.1 in
    (same_session s t (same_text s.gateway t.gateway p.0) (same_number s.number t.number (omega (arith, s.high)) (omega (arith, t.high)) q.0), q.1)

-- terms, and the fields behind them
same_at_terms : (a b : Terms) (xs ys : List (List ℕ))
    → to_be_bytes w64 a.amount.number ∷ name_text a.asset ∷ name_text a.beneficiary ∷ name_text a.originator ∷ xs ≡ to_be_bytes w64 b.amount.number ∷ name_text b.asset ∷ name_text b.beneficiary ∷ name_text b.originator ∷ ys
    → (a ≡ b) × (xs ≡ ys)
same_at_terms a b xs ys e =
    let p = both (to_be_bytes w64 a.amount.number) (to_be_bytes w64 b.amount.number) (name_text a.asset ∷ name_text a.beneficiary ∷ name_text a.originator ∷ xs) (name_text b.asset ∷ name_text b.beneficiary ∷ name_text b.originator ∷ ys) e in
    let q = both (name_text a.asset) (name_text b.asset) (name_text a.beneficiary ∷ name_text a.originator ∷ xs) (name_text b.beneficiary ∷ name_text b.originator ∷ ys) p.1 in
    let r = both (name_text a.beneficiary) (name_text b.beneficiary) (name_text a.originator ∷ xs) (name_text b.originator ∷ ys) q.1 in
    let s = both (name_text a.originator) (name_text b.originator) xs ys r.1 in
    let amount = same_amount a.amount b.amount (same_units a.amount.number b.amount.number (units_small a.amount) (units_small b.amount) p.0) in
    (same_terms a b amount (same_text a.asset b.asset q.0) (same_text a.beneficiary b.beneficiary r.0) (same_text a.originator b.originator s.0), s.1)

-- ---- records of the same fields are one

both_empty : (a b : List ℕ) → a ≡ [] → b ≡ [] → a ≡ b
both_empty a b p q = p ∙ sym q

same_rec : (s : SessionId) (r : Rec) (a : List ℕ) (t : SessionId) (q : Rec) (b : List ℕ) → IsFormedRec r a → IsFormedRec q b
    → (texts (stored.Session s r a)).0 ≡ (texts (stored.Session t q b)).0 → (texts (stored.Session s r a)).1 ≡ (texts (stored.Session t q b)).1 → stored.Session s r a ≡ stored.Session t q b
same_rec s (rec.Began o m) a t (rec.Began p n) b h k tag e =
    let x = same_at_session s t ((role_byte o ∷ []) ∷ (terms_texts m ++ a ∷ [])) ((role_byte p ∷ []) ∷ (terms_texts n ++ b ∷ [])) e in
    let y = both (role_byte o ∷ []) (role_byte p ∷ []) (terms_texts m ++ a ∷ []) (terms_texts n ++ b ∷ []) x.1 in
    let z = same_at_terms m n (a ∷ []) (b ∷ []) y.1 in
    let w = both a b [] [] z.1 in
    let role = same_code role_byte role_at o p (role_again o) (role_again p) y.0 in
    λ i. stored.Session (x.0 i) (rec.Began (role i) (z.0 i)) (w.0 i)
same_rec s (rec.Took k) a t (rec.Took l) b h g tag e =
    let x = same_at_session s t ((kind_byte k ∷ []) ∷ a ∷ []) ((kind_byte l ∷ []) ∷ b ∷ []) e in
    let y = both (kind_byte k ∷ []) (kind_byte l ∷ []) (a ∷ []) (b ∷ []) x.1 in
    let z = both a b [] [] y.1 in
    let kind = same_code kind_byte kind_at k l (kind_again k h.0) (kind_again l g.0) y.0 in
    λ i. stored.Session (x.0 i) (rec.Took (kind i)) (z.0 i)
same_rec s (rec.Made k) a t (rec.Made l) b h g tag e =
    let x = same_at_session s t ((kind_byte k ∷ []) ∷ a ∷ []) ((kind_byte l ∷ []) ∷ b ∷ []) e in
    let y = both (kind_byte k ∷ []) (kind_byte l ∷ []) (a ∷ []) (b ∷ []) x.1 in
    let z = both a b [] [] y.1 in
    let kind = same_code kind_byte kind_at k l (kind_again k h.0) (kind_again l g.0) y.0 in
    λ i. stored.Session (x.0 i) (rec.Made (kind i)) (z.0 i)
same_rec s (rec.Did k) a t (rec.Did l) b h g tag e =
    let x = same_at_session s t ((operation_byte k ∷ []) ∷ []) ((operation_byte l ∷ []) ∷ []) e in
    let y = both (operation_byte k ∷ []) (operation_byte l ∷ []) [] [] x.1 in
    let op = same_code operation_byte operation_at k l (operation_again k) (operation_again l) y.0 in
    let text = both_empty a b h g in
    λ i. stored.Session (x.0 i) (rec.Did (op i)) (text i)
same_rec s (rec.Chose k) a t (rec.Chose l) b h g tag e =
    let x = same_at_session s t ((way_byte k ∷ []) ∷ []) ((way_byte l ∷ []) ∷ []) e in
    let y = both (way_byte k ∷ []) (way_byte l ∷ []) [] [] x.1 in
    let way = same_code way_byte way_at k l (way_again k) (way_again l) y.0 in
    let text = both_empty a b h g in
    λ i. stored.Session (x.0 i) (rec.Chose (way i)) (text i)
same_rec s rec.Rescue a t rec.Rescue b h g tag e =
    let x = same_at_session s t [] [] e in
    let text = both_empty a b h g in
    λ i. stored.Session (x.0 i) rec.Rescue (text i)
same_rec s r a t q b h k tag e = absurd cc

rec_tag : (s : SessionId) (r : Rec) (a : List ℕ) → (1 ≤ (texts (stored.Session s r a)).0) × ((texts (stored.Session s r a)).0 ≤ 6)
rec_tag s (rec.Began o m) a = (omega arith, omega arith)
rec_tag s (rec.Took k) a = (omega arith, omega arith)
rec_tag s (rec.Made k) a = (omega arith, omega arith)
rec_tag s (rec.Did op) a = (omega arith, omega arith)
rec_tag s (rec.Chose w) a = (omega arith, omega arith)
rec_tag s rec.Rescue a = (omega arith, omega arith)

pub same : (s t : Stored) → IsFormed s → IsFormed t → (texts s).0 ≡ (texts t).0 → (texts s).1 ≡ (texts t).1 → s ≡ t
same (stored.Setup a) (stored.Setup b) h g tag e =
    let p = both (name_text a.name) (name_text b.name) (name_text a.peer ∷ address_text a.at ∷ a.key ∷ []) (name_text b.peer ∷ address_text b.at ∷ b.key ∷ []) e in
    let q = both (name_text a.peer) (name_text b.peer) (address_text a.at ∷ a.key ∷ []) (address_text b.at ∷ b.key ∷ []) p.1 in
    let r = both (address_text a.at) (address_text b.at) (a.key ∷ []) (b.key ∷ []) q.1 in
    let s = both a.key b.key [] [] r.1 in
    let name = same_text a.name b.name p.0 in
    let peer = same_text a.peer b.peer q.0 in
    let at = same_address_text a.at b.at r.0 in
    λ i. stored.Setup (record { name = name i; peer = peer i; at = at i; key = s.0 i })
same (stored.Session s r a) (stored.Session t q b) h g tag e = same_rec s r a t q b h g tag e
same (stored.Kind k) (stored.Kind l) h g tag e =
    let y = both (ledger_byte k ∷ []) (ledger_byte l ∷ []) [] [] e in
    ap stored.Kind (same_code ledger_byte ledger_at k l (ledger_again k) (ledger_again l) y.0)
same (stored.Asset m c) (stored.Asset n d) h g tag e =
    let p = both (name_text m) (name_text n) (to_be_bytes w64 c ∷ []) (to_be_bytes w64 d ∷ []) e in
    let q = both (to_be_bytes w64 c) (to_be_bytes w64 d) [] [] p.1 in
    let name = same_text m n p.0 in
    let cap = same_units c d (omega (arith, h.1)) (omega (arith, g.1)) q.0 in
    λ i. stored.Asset (name i) (cap i)
same (stored.Hold a o u) (stored.Hold b p v) h g tag e =
    let x = both (name_text a) (name_text b) (name_text o ∷ to_be_bytes w64 u.number ∷ []) (name_text p ∷ to_be_bytes w64 v.number ∷ []) e in
    let y = both (name_text o) (name_text p) (to_be_bytes w64 u.number ∷ []) (to_be_bytes w64 v.number ∷ []) x.1 in
    let z = both (to_be_bytes w64 u.number) (to_be_bytes w64 v.number) [] [] y.1 in
    let asset = same_text a b x.0 in
    let owner = same_text o p y.0 in
    let amount = same_amount u v (same_units u.number v.number (units_small u) (units_small v) z.0) in
    λ i. stored.Hold (asset i) (owner i) (amount i)
same (stored.Act k s m) (stored.Act l t n) h g tag e =
    let p = both (operation_byte k ∷ []) (operation_byte l ∷ []) (session_texts s ++ terms_texts m) (session_texts t ++ terms_texts n) e in
    let q = same_at_session s t (terms_texts m) (terms_texts n) p.1 in
    let r = same_at_terms m n [] [] q.1 in
    let op = same_code operation_byte operation_at k l (operation_again k) (operation_again l) p.0 in
    λ i. stored.Act (op i) (q.0 i) (r.0 i)
same (stored.Session s r a) t h g tag e = absurd (let b = rec_tag s r a in omega (arith, tag, b.0, b.1))
same s (stored.Session t q b) h g tag e = absurd (let c = rec_tag t q b in omega (arith, tag, c.0, c.1))
same s t h g tag e = absurd cc
