-- The bytes of names, numbers, links and words need no escape in JSON.
use Rattle.std.proofs.Common.{◌≡◌, ℕ, zero, suc, ◌+◌, ◌*◌, ◌/◌, ◌%◌, ◌<◌, ◌≤◌, ◌^◌, ◌&&◌, ◌||◌, ◌==◌, Bool, true, not, nat_le, nat_lt, List, [], ◌∷◌, length, get_or, decimal, inl, inr, ◌⊎◌, refl, ap, ◌∙◌, arith}
use Rattle.std.specs.Prelude.{slice_index}
use Rattle.std.specs.List.{list_all}
use Rattle.std.specs.Str.Parse.{AllDigits}
use Rattle.std.proofs.lemmas.Bool.{and_parts, and_from, le-leb, leb-true, ne_eqb, eqb-true, lt-ltb, or_cases}
use Rattle.std.proofs.lemmas.List.Folds.{list_all-append}
use Rattle.std.proofs.lemmas.Fmt.{decimal_is_IsNumeral}
use Rattle.std.proofs.lemmas.Str.Parse.{digit_from_value}
use Rattle.base64.specs.Rfc4648.{encode_symbols}
use Rattle.satp_base.specs.Canonical.{base64url, kind_text, link_text, reason_text}
use Rattle.satp_base.specs.Forms.{IsLink, are_entries, is_entry, is_entry_byte}
use Rattle.satp_base.specs.Names.{is_name_byte, is_lower, is_upper}
use Rattle.satp_base.specs.Numbers.{is_digit}
use Rattle.satp_base.specs.Values.{name_text, session_text}
use Rattle.satp_base.specs.declared.name.Name.{Name}
use Rattle.satp_base.specs.declared.session.SessionId.{SessionId}
use Rattle.satp_base.specs.declared.message.Kind.{Kind}
use Rattle.satp_base.specs.declared.message.Kind.TheVariants.{TransferProposal, ProposalReceipt, TransferCommence, CommenceAck, LockAssert, LockReceipt, CommitPrepare, CommitReady, CommitFinal, CommitFinalAck, TransferComplete, Reject, Rollback, RollbackAck, Recover, RecoverUpdate, RecoverSuccess}
use Rattle.satp_base.specs.declared.message.Link.{Link}
use Rattle.satp_base.specs.declared.message.Reason.{Reason}
use Rattle.satp_base.specs.declared.message.Reason.TheVariants.{UnknownAsset, MintCapped, Aborted, LedgerTaken}
use Rattle.satp_base.proofs.Exact.{name_bytes}

-- ASCII, neither a control character nor a quotation mark nor a backslash
abbrev pub is_plain : ℕ → Bool
is_plain b = nat_le 32 b && not (b == 34) && not (b == 92) && nat_lt b 128

abbrev pub IsPlain : List ℕ → Type 0
IsPlain bytes = list_all is_plain bytes ≡ true

pub weaker : (p q : ℕ → Bool) → ((b : ℕ) → p b ≡ true → q b ≡ true) → (s : List ℕ) → list_all p s ≡ true → list_all q s ≡ true
weaker p q h [] e = refl
weaker p q h (b ∷ s) e = let x = and_parts _ _ e in and_from _ _ (h b x.0) (weaker p q h s x.1)

plain_at : (b : ℕ) → 32 ≤ b → b < 128 → (b ≡ 34 → ⊥) → (b ≡ 92 → ⊥) → is_plain b ≡ true
plain_at b low high quote slash = and_from _ _ (and_from _ _ (and_from _ _ (le-leb _ _ low) (ap not (ne_eqb b 34 quote))) (ap not (ne_eqb b 92 slash))) (lt-ltb _ _ high)

plain_between : (low high b : ℕ) → 32 ≤ low → high < 128 → (34 < low) → (high < 92) ⊎ (92 < low) → (nat_le low b && nat_le b high) ≡ true → is_plain b ≡ true
plain_between low high b p q r s e =
    let x = and_parts (nat_le low b) (nat_le b high) e in
    let above : low ≤ b = leb-true _ _ x.0 in
    let below : b ≤ high = leb-true _ _ x.1 in
    plain_at b (omega arith) (omega arith) (λ h. omega arith) (elim s [ inl under ↦ λ h. omega arith | inr over ↦ λ h. omega arith ])

plain_is : (b c : ℕ) → is_plain c ≡ true → (b == c) ≡ true → is_plain b ≡ true
plain_is b c p e = rw (eqb-true b c e) p

plain_lower : (b : ℕ) → is_lower b ≡ true → is_plain b ≡ true
plain_lower b e = plain_between 97 122 b (omega arith) (omega arith) (omega arith) (inr (omega arith)) e

plain_digit : (b : ℕ) → is_digit b ≡ true → is_plain b ≡ true
plain_digit b e = plain_between 48 57 b (omega arith) (omega arith) (omega arith) (inl (omega arith)) e

plain_upper : (b : ℕ) → is_upper b ≡ true → is_plain b ≡ true
plain_upper b e = plain_between 65 90 b (omega arith) (omega arith) (omega arith) (inl (omega arith)) e

plain_or : (p q r : Bool) → (p ≡ true → r ≡ true) → (q ≡ true → r ≡ true) → (p || q) ≡ true → r ≡ true
plain_or p q r f g e = elim (or_cases p q e) [ inl x ↦ f x | inr x ↦ g x ]

plain_name_byte : (b : ℕ) → is_name_byte b ≡ true → is_plain b ≡ true
plain_name_byte b = plain_or _ _ _ (plain_or _ _ _ (plain_lower b) (plain_digit b)) (plain_is b 45 refl)

plain_entry_byte : (b : ℕ) → is_entry_byte b ≡ true → is_plain b ≡ true
plain_entry_byte b =
    plain_or _ _ _ (plain_or _ _ _ (plain_or _ _ _ (plain_or _ _ _ (plain_or _ _ _ (plain_upper b) (plain_lower b)) (plain_digit b)) (plain_is b 45 refl)) (plain_is b 95 refl)) (plain_is b 46 refl)

pub plain_name : (n : Name) → IsPlain (name_text n)
plain_name n = weaker is_name_byte is_plain plain_name_byte (name_text n) (name_bytes n)

pub plain_entry : (bytes : List ℕ) → is_entry bytes ≡ true → IsPlain bytes
plain_entry bytes e = weaker is_entry_byte is_plain plain_entry_byte bytes (and_parts _ _ e).1

abbrev pub ArePlain : List (List ℕ) → Type 0
ArePlain xs = list_all (list_all is_plain) xs ≡ true

pub plain_entries : (es : List (List ℕ)) → are_entries es ≡ true → ArePlain es
plain_entries es e = each es (and_parts _ _ e).1
  where
    each : (xs : List (List ℕ)) → list_all is_entry xs ≡ true → list_all (list_all is_plain) xs ≡ true
    each [] h = refl
    each (x ∷ xs) h = let p = and_parts _ _ h in and_from _ _ (plain_entry x p.0) (each xs p.1)

pub digits_decimal : (n : ℕ) → n < 2 ^ 64 → list_all is_digit (decimal n) ≡ true
digits_decimal n h = all (decimal n) (decimal_is_IsNumeral n h).0.1
  where
    all : (cs : List ℕ) → AllDigits 10 cs → list_all is_digit cs ≡ true
    all [] e = refl
    all (c ∷ cs) e = let range = digit_from_value c e.0 in and_from _ _ (and_from _ _ (le-leb _ _ range.0) (le-leb _ _ range.1)) (all cs e.1)

pub plain_decimal : (n : ℕ) → n < 2 ^ 64 → IsPlain (decimal n)
plain_decimal n h = weaker is_digit is_plain plain_digit (decimal n) (digits_decimal n h)

pub plain_session : (s : SessionId) → IsPlain (session_text s)
plain_session s = list_all-append is_plain (name_text s.gateway) (46 ∷ decimal s.number) ∙ and_from _ _ (plain_name s.gateway) (plain_decimal s.number (omega (arith, s.high)))

each_at : (p : ℕ → Bool) (xs : List ℕ) (i : ℕ) → list_all p xs ≡ true → i < length xs → p (get_or xs i 0) ≡ true
each_at p [] i e h = absurd (omega arith)
each_at p (x ∷ xs) zero e h = (and_parts _ _ e).0
each_at p (x ∷ xs) (suc i) e h = each_at p xs i (and_parts _ _ e).1 (omega arith)

symbol : (i : ℕ) → i < 64 → is_plain (slice_index base64url i) ≡ true
symbol i h = each_at is_plain base64url i refl h

plain_symbols : (m : List ℕ) → ((i : ℕ) → slice_index m i < 256) → IsPlain (encode_symbols base64url m)
unfolding encode_symbols
plain_symbols [] h = refl
plain_symbols (a ∷ []) h = let p : a < 256 = h 0 in and_from _ _ (symbol (a / 4) (omega arith)) (and_from _ _ (symbol (a % 4 * 16) (omega arith)) refl)
plain_symbols (a ∷ b ∷ []) h =
    let p : a < 256 = h 0 in
    let q : b < 256 = h 1 in
    and_from _ _ (symbol (a / 4) (omega arith)) (and_from _ _ (symbol (a % 4 * 16 + b / 16) (omega arith)) (and_from _ _ (symbol (b % 16 * 4) (omega arith)) refl))
plain_symbols (a ∷ b ∷ c ∷ rest) h =
    let p : a < 256 = h 0 in
    let q : b < 256 = h 1 in
    let r : c < 256 = h 2 in
    and_from _ _ (symbol (a / 4) (omega arith)) (and_from _ _ (symbol (a % 4 * 16 + b / 16) (omega arith)) (and_from _ _ (symbol (b % 16 * 4 + c / 64) (omega arith)) (and_from _ _ (symbol (c % 64) (omega arith)) (plain_symbols rest (λ i. h (suc (suc (suc i))))))))

pub plain_link : (link : Link) → IsLink link → IsPlain (link_text link)
plain_link link good = plain_symbols link.0 good.bytes

pub plain_kind : (k : Kind) → IsPlain (kind_text k)
plain_kind TransferProposal = refl
plain_kind ProposalReceipt = refl
plain_kind TransferCommence = refl
plain_kind CommenceAck = refl
plain_kind LockAssert = refl
plain_kind LockReceipt = refl
plain_kind CommitPrepare = refl
plain_kind CommitReady = refl
plain_kind CommitFinal = refl
plain_kind CommitFinalAck = refl
plain_kind TransferComplete = refl
plain_kind Reject = refl
plain_kind Rollback = refl
plain_kind RollbackAck = refl
plain_kind Recover = refl
plain_kind RecoverUpdate = refl
plain_kind RecoverSuccess = refl

pub plain_reason : (r : Reason) → IsPlain (reason_text r)
plain_reason UnknownAsset = refl
plain_reason MintCapped = refl
plain_reason Aborted = refl
plain_reason LedgerTaken = refl
