-- Payloads are the journal of one gateway, and it goes on by the records that may come.
use Rattle.std.proofs.Common.{◌≡◌, ◌≢◌, ◌⊎◌, ◌<◌, inl, inr, ◌+◌, ◌-◌, ℕ, zero, suc, List, [], ◌∷◌, ◌++◌, map, take, drop, Some, IsTrue, refl, sym, ap, ap₂, subst, ◌∙◌, arith, take-append-drop}
use Rattle.std.specs.List.{AllByRecursion, take-map}
use Rattle.std.proofs.lemmas.Bool.{cases_lt}
use Rattle.std.proofs.lemmas.List.{map-append, take-take}
use Rattle.satp_base.specs.Forms.{is_entry, is_entry_byte}
use Rattle.satp_base.specs.Tales.{maker}
use Rattle.satp_base.specs.declared.message.Kind.{Kind}
use Rattle.satp_base.specs.declared.message.Kind.TheVariants.{TransferProposal, ProposalReceipt, TransferCommence, CommenceAck, LockAssert, LockReceipt, CommitPrepare, CommitReady, CommitFinal, CommitFinalAck, TransferComplete, Reject, Rollback, RollbackAck, Recover, RecoverUpdate, RecoverSuccess}
use Rattle.satp_base.specs.declared.message.Role.{Role}
use Rattle.satp_base.specs.declared.record.Rec.{Rec}
use Rattle.satp_base.specs.declared.record.Rec.TheVariants.{Began, Took, Made, Did, Chose, Rescue}
use Rattle.satp_base.proofs.Forms.{form_parts}
use Rattle.satp_records.specs.Formats.{IsFormedRec, IsMessageText, is_answer, payload_of}
use Rattle.satp_records.specs.declared.stored.Setup.{Setup}
use Rattle.satp_records.specs.declared.stored.Stored.{Stored as Journaled}
use Rattle.satp_records.specs.declared.stored.Stored.TheVariants as journaled
use Rattle.satp_records.proofs.Payloads.{one_record}
use Rattle.satp_sides.specs.LogLaws.{HasText}
use Rattle.satp_sides.specs.Logs.{IsLog, MayCome}
use Rattle.satp_sides.specs.Points.{Party, Stored}
use Rattle.satp_sides.proofs.LogLaw.{log-all, log-grows}
use Rattle.satp_sides.proofs.LogTexts.{log-texts}
use Rattle.satp_log.specs.Journals.{IsFirstRefused, IsJournal, IsSomeJournal, JournalsGoOn, NoneRefused, OneJournal, OneRefused, PrefixesAreJournals, party_of, payload_in, payloads_of}

-- ---- records of a log can be stored

message-text : (t : List ℕ) → IsTrue (is_entry t) → IsMessageText t
message-text t h = let parts = form_parts 2048 is_entry_byte t h in (parts.some, parts.short)

an-answer : (kind : Kind) (role : Role) → kind ≢ TransferProposal → maker kind ≡ Some role → IsTrue (is_answer kind)
an-answer TransferProposal role n m = absurd (n refl)
an-answer ProposalReceipt role n m = refl
an-answer TransferCommence role n m = refl
an-answer CommenceAck role n m = refl
an-answer LockAssert role n m = refl
an-answer LockReceipt role n m = refl
an-answer CommitPrepare role n m = refl
an-answer CommitReady role n m = refl
an-answer CommitFinal role n m = refl
an-answer CommitFinalAck role n m = refl
an-answer TransferComplete role n m = refl
an-answer Reject role n m = refl
an-answer Rollback role n m = refl
an-answer RollbackAck role n m = refl
an-answer Recover role n m = absurd (cc m)
an-answer RecoverUpdate role n m = absurd (cc m)
an-answer RecoverSuccess role n m = absurd (cc m)

formed-text : (r : Rec) (t : List ℕ) → HasText r t → IsFormedRec r t
formed-text (Began role terms) t h = message-text t h
formed-text (Took kind) t h = (an-answer kind h.1.0 h.0 h.1.1, message-text t h.2)
formed-text (Made kind) t h = (an-answer kind h.1.0 h.0 h.1.1, message-text t h.2)
formed-text (Did op) t h = h
formed-text (Chose way) t h = h
formed-text Rescue t h = h

pub formed-record : (p : Party) (xs : List Stored) (x : Stored) → IsLog p xs → MayCome p xs x → IsFormedRec x.rec x.text
formed-record p xs x log m = formed-text x.rec x.text (log-texts p xs x log m)

abbrev IsStored : Stored → Type 0
IsStored x = IsFormedRec x.rec x.text

all-more : (xs : List Stored) (x : Stored) → AllByRecursion IsStored xs → IsStored x → AllByRecursion IsStored (xs ++ x ∷ [])
all-more [] x h k = (k, tt)
all-more (y ∷ xs) x h k = (h.0, all-more xs x h.1 k)

all-stored : (p : Party) (xs : List Stored) → IsLog p xs → AllByRecursion IsStored xs
all-stored p xs log = log-all p (AllByRecursion IsStored) tt (λ ys y l old m. all-more ys y old (formed-record p ys y l m)) xs log

-- ---- payloads determine their records

parts-of : Journaled → Stored → Stored
parts-of (journaled.Session s r t) x = record { session = s; rec = r; text = t }
parts-of _ x = x

same-stored : (x y : Stored) → journaled.Session x.session x.rec x.text ≡ journaled.Session y.session y.rec y.text → x ≡ y
unfolding parts-of
same-stored x y e = ap (λ j. parts-of j x) e

pub one-payload : (x y : Stored) → IsStored x → IsStored y → payload_in x ≡ payload_in y → x ≡ y
one-payload x y h k e = same-stored x y (one_record (journaled.Session x.session x.rec x.text) (journaled.Session y.session y.rec y.text) h k e)

heads : (a b : List ℕ) (x y : List (List ℕ)) → a ∷ x ≡ b ∷ y → (a ≡ b) × (x ≡ y)
heads a b x y e = (cc, cc)

one-list : (xs ys : List Stored) → AllByRecursion IsStored xs → AllByRecursion IsStored ys → map payload_in xs ≡ map payload_in ys → xs ≡ ys
one-list [] [] h k e = refl
one-list [] (y ∷ ys) h k e = absurd (cc e)
one-list (x ∷ xs) [] h k e = absurd (cc e)
one-list (x ∷ xs) (y ∷ ys) h k e =
    let both = heads (payload_in x) (payload_in y) (map payload_in xs) (map payload_in ys) e in
    ap₂ (λ (z : Stored) (zs : List Stored). z ∷ zs) (one-payload x y h.0 k.0 both.0) (one-list xs ys h.1 k.1 both.1)

setup-in : Journaled → Setup → Setup
setup-in (journaled.Setup s) x = s
setup-in _ x = x

same-setup : (s t : Setup) → journaled.Setup s ≡ journaled.Setup t → s ≡ t
unfolding setup-in
same-setup s t e = ap (λ j. setup-in j s) e

pub one-journal : OneJournal
one-journal payloads setup other xs ys a b =
    let both = heads (payload_of (journaled.Setup setup)) (payload_of (journaled.Setup other)) (map payload_in xs) (map payload_in ys) (sym a.list ∙ b.list) in (
      same-setup setup other (one_record (journaled.Setup setup) (journaled.Setup other) a.formed b.formed both.0),
      one-list xs ys (all-stored (party_of setup) xs a.log) (all-stored (party_of other) ys b.log) both.1,
    )

-- ---- first payloads

prefix-of : (setup : Setup) (xs : List Stored) (payloads : List (List ℕ)) (m : ℕ) → IsJournal payloads setup xs → IsJournal (take (suc m) payloads) setup (take m xs)
prefix-of setup xs payloads m j = record {
  list = ap (take (suc m)) j.list ∙ ap (λ (ps : List (List ℕ)). payload_of (journaled.Setup setup) ∷ ps) (take-map payload_in m xs);
  formed = j.formed;
  log = (log-grows (party_of setup)).first (take m xs) (drop m xs) (subst (IsLog (party_of setup)) (sym (take-append-drop m xs)) j.log);
}

pub prefixes : PrefixesAreJournals
prefixes payloads setup xs zero j h = absurd (omega (arith, h))
prefixes payloads setup xs (suc m) j h =
    let same : suc m - 1 ≡ m = omega arith in
    subst (λ k. IsJournal (take (suc m) payloads) setup (take k xs)) (sym same) (prefix-of setup xs payloads m j)

no-empty : (setup : Setup) (xs : List Stored) → [] ≡ payloads_of setup xs → ⊥
no-empty setup xs e = cc e

pub none-refused : NoneRefused
none-refused payloads (setup, xs, j) =
    (λ e. no-empty setup xs (sym e ∙ j.list), λ index refused. refused.refused (setup, take (index + 1 - 1) xs, prefixes payloads setup xs (index + 1) j (omega arith)))

refused-later : (payloads : List (List ℕ)) (a b : ℕ) → a < b → IsFirstRefused payloads a → (b ≡ 0) ⊎ IsSomeJournal (take b payloads) → ⊥
refused-later payloads a b w first (inl e) = omega (arith, w, e)
refused-later payloads a b w first (inr (setup, xs, j)) =
    first.refused (setup, take (a + 1 - 1) xs, subst (λ ps. IsJournal ps setup (take (a + 1 - 1) xs)) (take-take (a + 1) b payloads (omega (arith, w))) (prefixes (take b payloads) setup xs (a + 1) j (omega arith)))

pub one-refused : OneRefused
one-refused payloads a b first other = elim (cases_lt a b) [
  | inl w ↦ absurd (refused-later payloads a b w first other.before)
  | inr v ↦ elim (cases_lt b a) [ inl w ↦ absurd (refused-later payloads b a w other first.before) | inr w ↦ omega (arith, v, w) ]
]

-- ---- a payload more

pub goes-more : (payloads : List (List ℕ)) (setup : Setup) (xs : List Stored) (x : Stored) → IsJournal payloads setup xs → MayCome (party_of setup) xs x → IsJournal (payloads ++ payload_in x ∷ []) setup (xs ++ x ∷ [])
goes-more payloads setup xs x j m = record {
  list = ap (λ (ps : List (List ℕ)). ps ++ payload_in x ∷ []) j.list ∙ ap (λ (ps : List (List ℕ)). payload_of (journaled.Setup setup) ∷ ps) (sym (map-append payload_in xs (x ∷ [])));
  formed = j.formed;
  log = (log-grows (party_of setup)).more xs x j.log m;
}

abbrev Last : List Stored → Type 0
Last xs = (before : List Stored) × (last : Stored) × (xs ≡ before ++ last ∷ [])

by-last : (xs : List Stored) → (xs ≡ []) ⊎ Last xs
by-last [] = inl refl
by-last (x ∷ xs) = elim (by-last xs) [ inl e ↦ inr ([], x, ap (λ (l : List Stored). x ∷ l) e) | inr (before, last, e) ↦ inr (x ∷ before, last, ap (λ (l : List Stored). x ∷ l) e) ]

no-last : (ps : List (List ℕ)) (p : List ℕ) → [] ≡ ps ++ p ∷ [] → ⊥
no-last [] p e = cc e
no-last (q ∷ ps) p e = cc e

same-last : (ps qs : List (List ℕ)) (p q : List ℕ) → ps ++ p ∷ [] ≡ qs ++ q ∷ [] → (ps ≡ qs) × (p ≡ q)
same-last [] [] p q e = (refl, (heads p q [] [] e).0)
same-last [] (b ∷ qs) p q e = absurd (no-last qs q (heads p b [] (qs ++ q ∷ []) e).1)
same-last (a ∷ ps) [] p q e = absurd (no-last ps p (sym (heads a q (ps ++ p ∷ []) [] e).1))
same-last (a ∷ ps) (b ∷ qs) p q e =
    let h = heads a b (ps ++ p ∷ []) (qs ++ q ∷ []) e in
    let t = same-last ps qs p q h.1 in
    (ap₂ (λ (x : List ℕ) (xs : List (List ℕ)). x ∷ xs) h.0 t.0, t.1)

module _ (payloads : List (List ℕ)) (setup : Setup) (xs : List Stored) (j : IsJournal payloads setup xs) (payload : List ℕ) where
  abbrev Comes : Type 0
  Comes = (x : Stored) × (payload ≡ payload_in x) × MayCome (party_of setup) xs x

  alone : (other : Setup) → payloads ++ payload ∷ [] ≡ payload_of (journaled.Setup other) ∷ [] → ⊥
  alone other e =
      let whole : payload_of (journaled.Setup setup) ∷ (map payload_in xs ++ payload ∷ []) ≡ payload_of (journaled.Setup other) ∷ [] = sym (ap (λ (ps : List (List ℕ)). ps ++ payload ∷ []) j.list) ∙ e in
      no-last (map payload_in xs) payload (sym (heads (payload_of (journaled.Setup setup)) (payload_of (journaled.Setup other)) (map payload_in xs ++ payload ∷ []) [] whole).1)

  last-comes : (other : Setup) (before : List Stored) (x : Stored) → IsJournal (payloads ++ payload ∷ []) other (before ++ x ∷ []) → Comes
  last-comes other before x k =
      let whole = k.list ∙ ap (λ (ps : List (List ℕ)). payload_of (journaled.Setup other) ∷ ps) (map-append payload_in before (x ∷ [])) in
      let parts = same-last payloads (payloads_of other before) payload (payload_in x) whole in
      let first : IsJournal payloads other before = record { list = parts.0; formed = k.formed; log = (log-grows (party_of other)).first before (x ∷ []) k.log } in
      let one = one-journal payloads setup other xs before j first in
      let may = (log-grows (party_of other)).next before x [] k.log in
      (x, parts.1, subst (λ (s : Setup). MayCome (party_of s) xs x) (sym one.0) (subst (λ (l : List Stored). MayCome (party_of other) l x) (sym one.1) may))

  pub only-comes : IsSomeJournal (payloads ++ payload ∷ []) → Comes
  only-comes (other, ys, k) = elim (by-last ys) [
    | inl e ↦ absurd (alone other (k.list ∙ ap (payloads_of other) e))
    | inr (before, x, e) ↦ last-comes other before x (subst (IsJournal (payloads ++ payload ∷ []) other) e k)
  ]

pub journals-go-on : JournalsGoOn
journals-go-on payloads setup xs j = record { more = λ x m. goes-more payloads setup xs x j m; only = λ payload is. only-comes payloads setup xs j payload is }
