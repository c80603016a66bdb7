-- A log with one record more.
use Rattle.std.proofs.Common.{◌≡◌, ◌≢◌, ◌+◌, ℕ, zero, suc, Bool, true, false, cond, get_or, List, [], ◌∷◌, ◌++◌, Option, Some, None, refl, sym, ap, ap₂, subst, ◌∙◌}
use Rattle.std.specs.Prelude.{slice_get, slice_set, nat_lt, Result, Ok, Err, if◌then◌else◌}
use Rattle.std.proofs.lemmas.Bool.{lt-ltb}
use Rattle.std.proofs.lemmas.List.{map-append}
use Rattle.std.proofs.lemmas.Option.{get_or_from_slice_get}
use Rattle.satp_base.specs.declared.message.Role.TheVariants.{Origin, Recipient}
use Rattle.satp_base.specs.declared.record.Rec.{Rec}
use Rattle.satp_base.specs.declared.record.Rec.TheVariants.{Began, Took, Made, Did, Chose, Rescue}
use Rattle.satp_base.specs.declared.session.SessionId.{SessionId}
use Rattle.satp_records.specs.Formats.{IsFormed, payload_of}
use Rattle.satp_records.specs.declared.fault.RecordFault.{RecordFault}
use Rattle.satp_records.specs.declared.fault.RecordFault.TheVariants as decoding
use Rattle.satp_records.specs.declared.stored.Setup.{Setup}
use Rattle.satp_records.specs.declared.stored.Stored.{Stored as Journaled}
use Rattle.satp_records.specs.declared.stored.Stored.TheVariants as journaled
use Rattle.satp_records.proofs.Payloads.{one_record}
use Rattle.satp_sides.specs.Logs.{IsLog, MayCome}
use Rattle.satp_sides.specs.Points.{Party, Stored, Text, begun, is_session, most_sessions, records_of, stored}
use Rattle.satp_sides.proofs.Bounds.{not-begun}
use Rattle.satp_sides.proofs.LogLaw.{log-all}
use Rattle.satp_sides.proofs.Records.{session-self, view-none}
use Rattle.satp_log.specs.Folding.{AddAnswers, AddsOne, BeginAnswers, HasRoom, IsStateOf, State}
use Rattle.satp_log.specs.Journals.{IsJournal, IsSomeJournal, party_of}
use Rattle.satp_log.specs.Logged.{AddsRecord, AddsTo, AllHeld, Enters, HoldsOne, IsPlaceOf, LogHolds, LogState, begins, counts_with, sessions_in, sessions_of, with_spare}
use Rattle.satp_log.specs.declared.fault.Misfit.{Misfit}
use Rattle.satp_log.specs.declared.fault.Misfit.TheVariants.{Refused, Memory}
use Rattle.satp_log.specs.declared.held.Held.{Held}
use Rattle.satp_log.proofs.Comings.{Comes, comes}
use Rattle.satp_log.proofs.Folds.{begin-else, slot-parts}
use Rattle.satp_log.proofs.JournalLemmas.{formed-record, goes-more, one-payload, only-comes}
use Rattle.satp_log.proofs.LogLemmas.{Decodes, NotIn, Others, held-apart, held-more, new-kept, no-record, no-view-is, none-some, one-begun, others-of, sessions-more, sessions-same, state-apart, state-at, under, unnamed}

-- ---- the sessions of a log are distinct

abbrev Distinct : List SessionId → Type 0
Distinct [] = Unit {0}
Distinct (s ∷ ss) = NotIn s ss × Distinct ss

not-in-more : (t s : SessionId) (ss : List SessionId) → NotIn t ss → s ≢ t → NotIn t (ss ++ s ∷ [])
not-in-more t s [] n d = (d, tt)
not-in-more t s (u ∷ ss) n d = (n.0, not-in-more t s ss n.1 d)

distinct-more : (s : SessionId) (ss : List SessionId) → Distinct ss → NotIn s ss → Distinct (ss ++ s ∷ [])
distinct-more s [] d n = (tt, tt)
distinct-more s (t ∷ ss) d n = (not-in-more t s ss d.0 (λ e. n.0 (sym e)), distinct-more s ss d.1 n.1)

not-true : (b : Bool) → b ≡ false → b ≡ true → ⊥
not-true b f t = let h : false ≡ true = sym f ∙ t in cc h

new-head : (s : SessionId) (x : Stored) (xs : List Stored) (b : Bool) → is_session s x.session ≡ b → records_of s (x ∷ xs) ≡ [] → (x.session ≢ s) × (records_of s xs ≡ [])
new-head s x xs true h e = absurd (let k : x ∷ records_of s xs ≡ [] = sym (ap (λ b. cond b (x ∷ records_of s xs) (records_of s xs)) h) ∙ e in cc k)
new-head s x xs false h e = (λ same. not-true (is_session s x.session) h (ap (is_session s) same ∙ session-self s), sym (ap (λ b. cond b (x ∷ records_of s xs) (records_of s xs)) h) ∙ e)

new-in : (s : SessionId) (xs : List Stored) → records_of s xs ≡ [] → NotIn s (sessions_in xs)
new-in s [] e = tt
new-in s (x ∷ xs) e = let (d, rest) = new-head s x xs (is_session s x.session) refl e in new-kept s x xs (begins x.rec) refl d (new-in s xs rest)

begun-new : (p : Party) (xs : List Stored) (s : SessionId) (text : Text) (r : Rec) → begins r ≡ true → Comes p xs s text r → records_of s xs ≡ []
begun-new p xs s text (Began role terms) b c = c.new
begun-new p xs s text (Took kind) b c = absurd (cc b)
begun-new p xs s text (Made kind) b c = absurd (cc b)
begun-new p xs s text (Did op) b c = absurd (cc b)
begun-new p xs s text (Chose way) b c = absurd (cc b)
begun-new p xs s text Rescue b c = absurd (cc b)

distinct-next : (p : Party) (xs : List Stored) (x : Stored) → Distinct (sessions_in xs) → MayCome p xs x → Distinct (sessions_in (xs ++ x ∷ []))
distinct-next p xs x old m = go (begins x.rec) refl
  where
    go : (b : Bool) → begins x.rec ≡ b → Distinct (sessions_in (xs ++ x ∷ []))
    go true b = subst Distinct (sym (sessions-more xs x b)) (distinct-more x.session (sessions_in xs) old (new-in x.session xs (begun-new p xs x.session x.text x.rec b (comes p xs x m))))
    go false b = subst Distinct (sym (sessions-same xs x b)) old

sessions-distinct : (p : Party) (xs : List Stored) → IsLog p xs → Distinct (sessions_in xs)
sessions-distinct p xs log = log-all p (λ ys. Distinct (sessions_in ys)) tt (λ ys y l old m. distinct-next p ys y old m) xs log

-- ---- a record more of a session that an entry is of

apart-at : (s : SessionId) (hs : List Held) (i : ℕ) (h : Held) → NotIn s (sessions_of hs) → slice_get hs i ≡ Some h → h.session ≢ s
apart-at s [] i h n e = absurd (cc e)
apart-at s (x ∷ hs) zero h n e = let same : x ≡ h = cc e in subst (λ (y : Held). y.session ≢ s) same n.0
apart-at s (x ∷ hs) (suc i) h n e = apart-at s hs i h n.1 e

not-others : (s t : SessionId) (hs : List Held) → t ≡ s → NotIn t (sessions_of hs) → Others s hs
not-others s t [] e n = tt
not-others s t (x ∷ hs) e n = ((λ q. n.0 (q ∙ sym e)), not-others s t hs e n.1)

held-set : (p : Party) (xs : List Stored) (s : SessionId) (r : Rec) (text : Text) (hs : List Held) (i : ℕ) (h k : Held) → Distinct (sessions_of hs) → AllHeld p xs hs → slice_get hs i ≡ Some h → h.session ≡ s
    → IsStateOf p k.session (xs ++ stored s r text ∷ []) k.state → AllHeld p (xs ++ stored s r text ∷ []) (slice_set hs i k)
held-set p xs s r text [] i h k d all e q state = tt
held-set p xs s r text (x ∷ hs) zero h k d all e q state =
    let same : x ≡ h = cc e in
    (state, held-apart p xs s r text hs (not-others s x.session hs (ap (λ (y : Held). y.session) same ∙ q) d.0) all.1)
held-set p xs s r text (x ∷ hs) (suc i) h k d all e q state =
    (state-apart p xs x.session s r text x.state (λ y. apart-at x.session hs i h d.0 e (q ∙ sym y)) all.0, held-set p xs s r text hs i h k d.1 all.1 e q state)

sessions-set : (hs : List Held) (i : ℕ) (h k : Held) → slice_get hs i ≡ Some h → k.session ≡ h.session → sessions_of (slice_set hs i k) ≡ sessions_of hs
sessions-set [] i h k e q = refl
sessions-set (x ∷ hs) zero h k e q = let same : x ≡ h = cc e in ap (λ (t : SessionId). t ∷ sessions_of hs) (q ∙ ap (λ (y : Held). y.session) (sym same))
sessions-set (x ∷ hs) (suc i) h k e q = ap (λ (ss : List SessionId). x.session ∷ ss) (sessions-set hs i h k e q)

set-self : (hs : List Held) (i : ℕ) (h k : Held) → slice_get hs i ≡ Some h → k ≡ h → slice_set hs i k ≡ hs
set-self [] i h k e q = refl
set-self (x ∷ hs) zero h k e q = let same : x ≡ h = cc e in ap (λ (y : Held). y ∷ hs) (q ∙ sym same)
set-self (x ∷ hs) (suc i) h k e q = ap (λ (ys : List Held). x ∷ ys) (set-self hs i h k e q)

-- ---- counts

two-counts : (a b c d : ℕ) → ◌≡◌ {A = Option (ℕ × ℕ)} (Some (a, b)) (Some (c, d)) → (a ≡ c) × (b ≡ d)
two-counts a b c d e = let same : (a, b) ≡ (c, d) = cc e in (ap (λ (p : ℕ × ℕ). p.0) same, ap (λ (p : ℕ × ℕ). p.1) same)

no-counts : (a b : ℕ) → ◌≡◌ {A = Option (ℕ × ℕ)} None (Some (a, b)) → ⊥
no-counts a b e = cc e

-- what the counts are with the record
pub record Counted (s : SessionId) (r : Rec) (text : Text) (xs : List Stored) (started accepted : ℕ) : Type 0 where
  pub room : HasRoom r xs
  pub started_is : started ≡ begun Origin (xs ++ stored s r text ∷ [])
  pub accepted_is : accepted ≡ begun Recipient (xs ++ stored s r text ∷ [])

uncounted : (s : SessionId) (r : Rec) (text : Text) (xs : List Stored) (a b : ℕ) → HasRoom r xs → begun Origin (xs ++ stored s r text ∷ []) ≡ begun Origin xs → begun Recipient (xs ++ stored s r text ∷ []) ≡ begun Recipient xs
    → ◌≡◌ {A = Option (ℕ × ℕ)} (Some (begun Origin xs, begun Recipient xs)) (Some (a, b)) → Counted s r text xs a b
uncounted s r text xs a b room n m e = let both = two-counts (begun Origin xs) (begun Recipient xs) a b e in record { room = room; started_is = sym both.0 ∙ sym n; accepted_is = sym both.1 ∙ sym m }

counted : (s : SessionId) (r : Rec) (text : Text) (xs : List Stored) (a b : ℕ) → counts_with r (begun Origin xs) (begun Recipient xs) ≡ Some (a, b) → Counted s r text xs a b
counted s (Began Origin terms) text xs a b e = go (nat_lt (begun Origin xs) most_sessions) refl e
  where
    go : (c : Bool) → nat_lt (begun Origin xs) most_sessions ≡ c → ◌≡◌ {A = Option (ℕ × ℕ)} (if c then Some (begun Origin xs + 1, begun Recipient xs) else None) (Some (a, b)) → Counted s (Began Origin terms) text xs a b
    go true lt e =
        let both = two-counts (begun Origin xs + 1) (begun Recipient xs) a b e in
        let x = stored s (Began Origin terms) text in
        record { room = under (begun Origin xs) most_sessions lt; started_is = sym both.0 ∙ sym (one-begun Origin xs x refl); accepted_is = sym both.1 ∙ sym (not-begun Recipient xs x refl) }
    go false lt e = absurd (no-counts a b e)
counted s (Began Recipient terms) text xs a b e = go (nat_lt (begun Recipient xs) most_sessions) refl e
  where
    go : (c : Bool) → nat_lt (begun Recipient xs) most_sessions ≡ c → ◌≡◌ {A = Option (ℕ × ℕ)} (if c then Some (begun Origin xs, begun Recipient xs + 1) else None) (Some (a, b)) → Counted s (Began Recipient terms) text xs a b
    go true lt e =
        let both = two-counts (begun Origin xs) (begun Recipient xs + 1) a b e in
        let x = stored s (Began Recipient terms) text in
        record { room = under (begun Recipient xs) most_sessions lt; started_is = sym both.0 ∙ sym (not-begun Origin xs x refl); accepted_is = sym both.1 ∙ sym (one-begun Recipient xs x refl) }
    go false lt e = absurd (no-counts a b e)
counted s (Took kind) text xs a b e = uncounted s (Took kind) text xs a b tt (not-begun Origin xs (stored s (Took kind) text) refl) (not-begun Recipient xs (stored s (Took kind) text) refl) e
counted s (Made kind) text xs a b e = uncounted s (Made kind) text xs a b tt (not-begun Origin xs (stored s (Made kind) text) refl) (not-begun Recipient xs (stored s (Made kind) text) refl) e
counted s (Did op) text xs a b e = uncounted s (Did op) text xs a b tt (not-begun Origin xs (stored s (Did op) text) refl) (not-begun Recipient xs (stored s (Did op) text) refl) e
counted s (Chose way) text xs a b e = uncounted s (Chose way) text xs a b tt (not-begun Origin xs (stored s (Chose way) text) refl) (not-begun Recipient xs (stored s (Chose way) text) refl) e
counted s Rescue text xs a b e = uncounted s Rescue text xs a b tt (not-begun Origin xs (stored s Rescue text) refl) (not-begun Recipient xs (stored s Rescue text) refl) e

-- a record that begins no session changes no count
same-counts : (s : SessionId) (r : Rec) (text : Text) (xs : List Stored) → begins r ≡ false → Counted s r text xs (begun Origin xs) (begun Recipient xs)
same-counts s (Began role terms) text xs b = absurd (cc b)
same-counts s (Took kind) text xs b = counted s (Took kind) text xs (begun Origin xs) (begun Recipient xs) refl
same-counts s (Made kind) text xs b = counted s (Made kind) text xs (begun Origin xs) (begun Recipient xs) refl
same-counts s (Did op) text xs b = counted s (Did op) text xs (begun Origin xs) (begun Recipient xs) refl
same-counts s (Chose way) text xs b = counted s (Chose way) text xs (begun Origin xs) (begun Recipient xs) refl
same-counts s Rescue text xs b = counted s Rescue text xs (begun Origin xs) (begun Recipient xs) refl

-- one session too many
full : (p : Party) (s : SessionId) (r : Rec) (text : Text) (xs : List Stored) → ((a b : ℕ) → counts_with r (begun Origin xs) (begun Recipient xs) ≡ Some (a, b) → ⊥) → Comes p xs s text r → ⊥
full p s (Began Origin terms) text xs n c =
    n (begun Origin xs + 1) (begun Recipient xs) (ap (λ (b : Bool). if b then Some (begun Origin xs + 1, begun Recipient xs) else None) (lt-ltb (begun Origin xs) most_sessions c.room))
full p s (Began Recipient terms) text xs n c =
    n (begun Origin xs) (begun Recipient xs + 1) (ap (λ (b : Bool). if b then Some (begun Origin xs, begun Recipient xs + 1) else None) (lt-ltb (begun Recipient xs) most_sessions c.room))
full p s (Took kind) text xs n c = n (begun Origin xs) (begun Recipient xs) refl
full p s (Made kind) text xs n c = n (begun Origin xs) (begun Recipient xs) refl
full p s (Did op) text xs n c = n (begun Origin xs) (begun Recipient xs) refl
full p s (Chose way) text xs n c = n (begun Origin xs) (begun Recipient xs) refl
full p s Rescue text xs n c = n (begun Origin xs) (begun Recipient xs) refl

-- ---- which records begin a session

begins-new : (p : Party) (s : SessionId) (r : Rec) (text : Text) (xs : List Stored) → records_of s xs ≡ [] → MayCome p xs (stored s r text) → begins r ≡ true
begins-new p s (Began role terms) text xs new m = refl
begins-new p s (Took kind) text xs new m = absurd (begin-else p s xs new (Took kind) text (λ role terms e. cc e) m)
begins-new p s (Made kind) text xs new m = absurd (begin-else p s xs new (Made kind) text (λ role terms e. cc e) m)
begins-new p s (Did op) text xs new m = absurd (begin-else p s xs new (Did op) text (λ role terms e. cc e) m)
begins-new p s (Chose way) text xs new m = absurd (begin-else p s xs new (Chose way) text (λ role terms e. cc e) m)
begins-new p s Rescue text xs new m = absurd (begin-else p s xs new Rescue text (λ role terms e. cc e) m)

begins-not : (p : Party) (s : SessionId) (r : Rec) (text : Text) (xs : List Stored) (state : State) → IsStateOf p s xs state → MayCome p xs (stored s r text) → begins r ≡ false
begins-not p s r text xs state h m = go (begins r) refl
  where
    go : (b : Bool) → begins r ≡ b → b ≡ false
    go false e = refl
    go true e =
        let new = begun-new p xs s text r e (comes p xs (stored s r text) m) in
        absurd (none-some state.view (sym (view-none s xs new) ∙ (slot-parts _ _ _ _ h.slot).0))

-- ---- one session more

pub spared : (log : LogState) (setup : Setup) (xs : List Stored) (n : ℕ) → LogHolds log setup xs → LogHolds (with_spare log n) setup xs
spared log setup xs n h = record { setup_is = h.setup_is; sessions = h.sessions; states = h.states; started = h.started; accepted = h.accepted }

pub entered : (setup : Setup) (xs : List Stored) (log new : LogState) (s : SessionId) (r : Rec) (text : Text) (state : State) (a b : ℕ) → LogHolds log setup xs → IsPlaceOf log.entries s None → begins r ≡ true → Counted s r text xs a b
    → AddsOne (party_of setup) s xs r text state → Enters log s state a b new → HoldsOne setup xs s r text new
entered setup xs log new s r text state a b holds place first c one e =
    let x = stored s r text in
    let k : Held = record { session = s; state = state } in
    let others = others-of s log.entries place in (
      one.0,
      record {
        setup_is = e.setup_is ∙ holds.setup_is;
        sessions = ap sessions_of e.entries_are ∙ map-append (λ (h : Held). h.session) log.entries (k ∷ []) ∙ ap (λ (ss : List SessionId). ss ++ s ∷ []) holds.sessions ∙ sym (sessions-more xs x first);
        states = subst (AllHeld (party_of setup) (xs ++ x ∷ [])) (sym e.entries_are) (held-more (party_of setup) (xs ++ x ∷ []) log.entries k (held-apart (party_of setup) xs s r text log.entries others holds.states) one.1);
        started = e.started_is ∙ c.started_is;
        accepted = e.accepted_is ∙ c.accepted_is;
      },
    )

-- ---- answers of a record

module _ (setup : Setup) (xs : List Stored) (now old : LogState) (is : old ≡ now) (s : SessionId) (r : Rec) (text : Text) (log : IsLog (party_of setup) xs) (holds : LogHolds now setup xs) where
  here : LogHolds old setup xs
  here = subst (λ l. LogHolds l setup xs) (sym is) holds

  pub party-is : (key : List ℕ) → key ≡ old.setup.key → party_of setup ≡ record { name = old.setup.name; peer = old.setup.peer; key = key }
  party-is key e = sym (ap party_of here.setup_is) ∙ ap (λ k. record { name = old.setup.name; peer = old.setup.peer; key = k }) (sym e)

  pub new-session : IsPlaceOf now.entries s None → records_of s xs ≡ []
  new-session n = unnamed (party_of setup) s xs log (no-view-is now setup xs s holds now.entries refl n)

  counts-here : (o : Option (ℕ × ℕ)) → o ≡ counts_with r old.started old.accepted → o ≡ counts_with r (begun Origin xs) (begun Recipient xs)
  counts-here o e = e ∙ ap (λ a. counts_with r a old.accepted) here.started ∙ ap (λ b. counts_with r (begun Origin xs) b) here.accepted

  pub too-many : (o : Option (ℕ × ℕ)) → o ≡ counts_with r old.started old.accepted → ((a b : ℕ) → o ≡ Some (a, b) → ⊥) → AddsRecord setup xs s r text now now (Err Refused)
  too-many o e n = (λ m. full (party_of setup) s r text xs (λ a b q. n a b (counts-here o e ∙ q)) (comes (party_of setup) xs (stored s r text) m), refl)

  pub counts-are : (o : Option (ℕ × ℕ)) (a b : ℕ) → o ≡ counts_with r old.started old.accepted → o ≡ Some (a, b) → Counted s r text xs a b
  counts-are o a b e q = counted s r text xs a b (sym (counts-here o e) ∙ q)

  pub session-added : (mid new : LogState) (o : Option (ℕ × ℕ)) (a b : ℕ) (state : State) → IsPlaceOf now.entries s None → o ≡ counts_with r old.started old.accepted → o ≡ Some (a, b) → BeginAnswers (party_of setup) s xs r text (Ok state)
      → mid ≡ with_spare now mid.spare → Enters mid s state a b new → AddsRecord setup xs s r text now new (Ok tt)
  session-added mid new o a b state place e q begun same enters =
      entered setup xs mid new s r text state a b (subst (λ l. LogHolds l setup xs) (sym same) (spared now setup xs mid.spare holds)) (subst (λ (l : LogState). IsPlaceOf l.entries s None) (sym same) place)
      (begins-new (party_of setup) s r text xs (new-session place) begun.0) (counts-are o a b e q) begun enters

  pub session-refused : (m : Misfit) → BeginAnswers (party_of setup) s xs r text (Err m) → AddsRecord setup xs s r text now now (Err m)
  session-refused Refused n = (n, refl)
  session-refused Memory n = refl

  pub key-is : (key : List ℕ) → key ≡ old.setup.key → (party_of setup).key ≡ key
  key-is key e = sym (ap (λ (t : Setup). t.key) here.setup_is) ∙ sym e

  pub found-at : (es : List Held) (i : ℕ) (h : Held) → es ≡ old.entries → IsPlaceOf es s (Some i) → h ≡ get_or old.entries i h → (slice_get old.entries i ≡ Some h) × (h.session ≡ s)
  found-at es i h e (k, at, same, first) q =
      let there = ap (λ (l : List Held). slice_get l i) (sym e) ∙ at in
      let is-k : h ≡ k = q ∙ get_or_from_slice_get old.entries i k h there in
      (there ∙ ap Some (sym is-k), ap (λ (y : Held). y.session) is-k ∙ same)

  pub state-there : (i : ℕ) (h : Held) → slice_get old.entries i ≡ Some h → h.session ≡ s → IsStateOf (party_of setup) s xs h.state
  state-there i h e q = subst (λ t. IsStateOf (party_of setup) t xs h.state) q (state-at old setup xs s here old.entries i h here.states e)

  kept-entries : (i : ℕ) (h k : Held) → slice_get old.entries i ≡ Some h → k.session ≡ h.session → k.state ≡ h.state → record { setup = old.setup; entries = slice_set old.entries i k; started = old.started; accepted = old.accepted; spare = old.spare } ≡ now
  kept-entries i h k e p q =
      let same : k ≡ h = ap₂ (λ (t : SessionId) (u : State). record { session = t; state = u }) p q in
      ap (λ (es : List Held). record { setup = old.setup; entries = es; started = old.started; accepted = old.accepted; spare = old.spare }) (set-self old.entries i h k e same) ∙ is

  pub state-added : (i : ℕ) (h k : Held) (result : Result (Unit {0}) Misfit) → slice_get old.entries i ≡ Some h → h.session ≡ s → k.session ≡ h.session → AddAnswers (party_of setup) s xs h.state r text k.state result
      → AddsRecord setup xs s r text now (record { setup = old.setup; entries = slice_set old.entries i k; started = old.started; accepted = old.accepted; spare = old.spare }) result
  state-added i h k (Ok tt) e q same a =
      let x = stored s r text in
      let b = begins-not (party_of setup) s r text xs h.state (state-there i h e q) a.0 in
      let c = same-counts s r text xs b in
      let distinct = subst Distinct (sym here.sessions) (sessions-distinct (party_of setup) xs log) in (
        a.0,
        record {
          setup_is = here.setup_is;
          sessions = sessions-set old.entries i h k e same ∙ here.sessions ∙ sym (sessions-same xs x b);
          states = held-set (party_of setup) xs s r text old.entries i h k distinct here.states e q (subst (λ t. IsStateOf (party_of setup) t (xs ++ x ∷ []) k.state) (sym (same ∙ q)) a.1);
          started = here.started ∙ c.started_is;
          accepted = here.accepted ∙ c.accepted_is;
        },
      )
  state-added i h k (Err Refused) e q same a = (a.0, kept-entries i h k e same a.1)
  state-added i h k (Err Memory) e q same a = kept-entries i h k e same a

-- ---- answers of a payload

pub adds : (payloads : List (List ℕ)) (setup : Setup) (xs : List Stored) (payload : List ℕ) (old new : LogState) (s : SessionId) (r : Rec) (text : Text) (result : Result (Unit {0}) Misfit) → IsJournal payloads setup xs
    → IsFormed (journaled.Session s r text) → payload ≡ payload_of (journaled.Session s r text) → AddsRecord setup xs s r text old new result → AddsTo payloads setup xs payload old new result
adds payloads setup xs payload old new s r text (Ok tt) j f e a =
    let x = stored s r text in
    (x, subst (λ q. IsJournal (payloads ++ q ∷ []) setup (xs ++ x ∷ [])) (sym e) (goes-more payloads setup xs x j a.0), a.1)
adds payloads setup xs payload old new s r text (Err Refused) j f e a = (refused, a.1)
  where
    refused : IsSomeJournal (payloads ++ payload ∷ []) → ⊥
    refused some =
        let (y, q, may) = only-comes payloads setup xs j payload some in
        a.0 (subst (MayCome (party_of setup) xs) (one-payload y (stored s r text) (formed-record (party_of setup) xs y j.log may) f (sym q ∙ e)) may)
adds payloads setup xs payload old new s r text (Err Memory) j f e a = a

pub adds-session : (payloads : List (List ℕ)) (setup : Setup) (xs : List Stored) (payload : List ℕ) (old new : LogState) (x : Journaled) (s : SessionId) (r : Rec) (text bytes : Text) (result : Result (Unit {0}) Misfit)
    → IsJournal payloads setup xs → IsFormed x → payload ≡ payload_of x → x ≡ journaled.Session s r text → bytes ≡ text → AddsRecord setup xs s r bytes old new result → AddsTo payloads setup xs payload old new result
adds-session payloads setup xs payload old new x s r text bytes result j f e is b a =
    adds payloads setup xs payload old new s r text result j (subst IsFormed is f) (e ∙ ap payload_of is) (subst (λ t. AddsRecord setup xs s r t old new result) b a)

-- no other record comes after the first
pub adds-other : (payloads : List (List ℕ)) (setup : Setup) (xs : List Stored) (payload : List ℕ) (now : LogState) (x : Journaled) → IsJournal payloads setup xs → IsFormed x → payload ≡ payload_of x
    → ((s : SessionId) (r : Rec) (text : Text) → x ≡ journaled.Session s r text → ⊥) → AddsTo payloads setup xs payload now now (Err Refused)
adds-other payloads setup xs payload now x j f e n = (refused, refl)
  where
    refused : IsSomeJournal (payloads ++ payload ∷ []) → ⊥
    refused some =
        let (y, q, may) = only-comes payloads setup xs j payload some in
        let as_y = journaled.Session y.session y.rec y.text in
        n y.session y.rec y.text (sym (one_record as_y x (formed-record (party_of setup) xs y j.log may) f (sym q ∙ e)))

pub adds-err : (payloads : List (List ℕ)) (setup : Setup) (xs : List Stored) (payload : List ℕ) (now : LogState) (result : Result Journaled RecordFault) (f : RecordFault) (m : Misfit) → IsJournal payloads setup xs → result ≡ Err f → Decodes payload result
    → (f ≡ decoding.Memory → m ≡ Memory) → (f ≢ decoding.Memory → m ≡ Refused) → AddsTo payloads setup xs payload now now (Err m)
adds-err payloads setup xs payload now result f Memory j is only memory other = refl
adds-err payloads setup xs payload now result f Refused j is only memory other =
    (refused, refl)
  where
    not-memory : f ≡ decoding.Memory → ⊥
    not-memory e = let h = memory e in cc h

    refused : IsSomeJournal (payloads ++ payload ∷ []) → ⊥
    refused some =
        let (y, q, may) = only-comes payloads setup xs j payload some in
        no-record payload result f is only not-memory (journaled.Session y.session y.rec y.text) (formed-record (party_of setup) xs y j.log may) q
