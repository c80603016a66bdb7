-- A log holds what the records say, with one record more.
use Rattle.std.proofs.Common.{◌≡◌, ◌≢◌, inl, inr, ◌<◌, ◌+◌, ℕ, zero, suc, Bool, true, false, cond, List, [], ◌∷◌, ◌++◌, length, map, Option, Some, None, refl, sym, ap, ap₂, subst, ◌∙◌}
use Rattle.std.specs.Prelude.{filter, slice_get, option_map, nat_lt, Result, Ok, Err, IfOk}
use Rattle.std.specs.List.{AllByRecursion}
use Rattle.std.proofs.lemmas.Bool.{ltb-true}
use Rattle.std.proofs.lemmas.List.{append-nil, map-append, length_push}
use Rattle.std.proofs.lemmas.List.Elements.{filter-append}
use Rattle.satp_base.specs.Views.{view_of}
use Rattle.satp_base.specs.declared.message.Role.{Role}
use Rattle.satp_base.specs.declared.record.Rec.{Rec}
use Rattle.satp_base.specs.declared.record.Rec.TheVariants.{Began, Took, Made, Did, Chose, Rescue}
use Rattle.satp_base.specs.declared.session.SessionId.{SessionId}
use Rattle.satp_base.specs.declared.view.View.{View}
use Rattle.satp_records.specs.Formats.{IsFormed, payload_of}
use Rattle.satp_records.specs.Views.{UnlessMemory}
use Rattle.satp_records.specs.declared.fault.RecordFault.{RecordFault}
use Rattle.satp_records.specs.declared.fault.RecordFault.TheVariants as decoding
use Rattle.satp_records.specs.declared.stored.Setup.{Setup}
use Rattle.satp_records.specs.declared.stored.Stored.{Stored as Journaled}
use Rattle.satp_records.specs.declared.stored.Stored.TheVariants as journaled
use Rattle.satp_sides.specs.Logs.{IsLog, MayCome}
use Rattle.satp_sides.specs.Points.{Party, Stored, Text, began_as, begun, is_session, records_of, slot, stored, view_in}
use Rattle.satp_sides.proofs.LogLaw.{log-all, log-grows}
use Rattle.satp_sides.proofs.Records.{chain-apart, is-session, records-apart, session-self, view-apart, view-first, view-here}
use Rattle.satp_log.specs.Folding.{IsStateOf, State}
use Rattle.satp_log.specs.Journals.{IsJournal, party_of}
use Rattle.satp_log.specs.Logged.{AllHeld, BeginsLog, IsPlaceOf, LogHolds, LogState, begins, sessions_in, sessions_of}
use Rattle.satp_log.specs.declared.fault.Misfit.{Misfit}
use Rattle.satp_log.specs.declared.fault.Misfit.TheVariants.{Refused, Memory}
use Rattle.satp_log.specs.declared.held.Held.{Held}
use Rattle.satp_log.proofs.Comings.{Comes, comes}

-- ---- entries of other sessions

pub is-not : (t s : SessionId) → t ≢ s → is_session t s ≡ false
is-not t s n = go (is_session t s) refl
  where
    go : (b : Bool) → is_session t s ≡ b → b ≡ false
    go true e = absurd (n (is-session t s e))
    go false e = refl

pub state-apart : (p : Party) (xs : List Stored) (t s : SessionId) (r : Rec) (text : Text) (state : State) → t ≢ s → IsStateOf p t xs state → IsStateOf p t (xs ++ stored s r text ∷ []) state
state-apart p xs t s r text state n h =
    let apart = is-not t s n in
    record {
      slot = ap₂ (λ (o : Option View) (ts : List Text). option_map (λ v. slot v ts) o) (view-apart t xs (stored s r text) apart) (chain-apart t xs (stored s r text) apart) ∙ h.slot;
      session = h.session;
      recipient = h.recipient;
      chain = h.chain;
      sound = h.sound;
    }

abbrev pub Others : SessionId → List Held → Type 0
Others s hs = AllByRecursion (λ (h : Held). h.session ≢ s) hs

pub held-apart : (p : Party) (xs : List Stored) (s : SessionId) (r : Rec) (text : Text) (hs : List Held) → Others s hs → AllHeld p xs hs → AllHeld p (xs ++ stored s r text ∷ []) hs
held-apart p xs s r text [] n h = tt
held-apart p xs s r text (x ∷ hs) n h = (state-apart p xs x.session s r text x.state n.0 h.0, held-apart p xs s r text hs n.1 h.1)

pub held-more : (p : Party) (xs : List Stored) (hs : List Held) (h : Held) → AllHeld p xs hs → IsStateOf p h.session xs h.state → AllHeld p xs (hs ++ h ∷ [])
held-more p xs [] h all one = (one, tt)
held-more p xs (x ∷ hs) h all one = (all.0, held-more p xs hs h all.1 one)

pub others-of : (s : SessionId) (hs : List Held) → IsPlaceOf hs s None → Others s hs
others-of s [] n = tt
others-of s (x ∷ hs) n = (n 0 x refl, others-of s hs (λ i h e. n (suc i) h e))

others-in : (s : SessionId) (hs : List Held) → Others s hs → AllByRecursion (λ t. t ≢ s) (sessions_of hs)
others-in s [] n = tt
others-in s (x ∷ hs) n = (n.0, others-in s hs n.1)

-- ---- sessions that no record begins

abbrev pub NotIn : SessionId → List SessionId → Type 0
NotIn s ss = AllByRecursion (λ t. t ≢ s) ss

kept : Bool → Stored → List Stored → List SessionId
kept b x xs = map (λ (y : Stored). y.session) (cond b (x ∷ filter (λ (y : Stored). begins y.rec) xs) (filter (λ (y : Stored). begins y.rec) xs))

rest-in : (s : SessionId) (x : Stored) (xs : List Stored) (b : Bool) → begins x.rec ≡ b → NotIn s (sessions_in (x ∷ xs)) → NotIn s (sessions_in xs)
unfolding kept
rest-in s x xs true e n = (subst (λ c. NotIn s (kept c x xs)) e n).1
rest-in s x xs false e n = subst (λ c. NotIn s (kept c x xs)) e n

began-in : (s : SessionId) (x : Stored) (xs : List Stored) → begins x.rec ≡ true → NotIn s (sessions_in (x ∷ xs)) → x.session ≢ s
unfolding kept
began-in s x xs e n = (subst (λ c. NotIn s (kept c x xs)) e n).0

pub new-kept : (s : SessionId) (x : Stored) (xs : List Stored) (b : Bool) → begins x.rec ≡ b → x.session ≢ s → NotIn s (sessions_in xs) → NotIn s (sessions_in (x ∷ xs))
unfolding kept
new-kept s x xs true e d n = subst (λ c. NotIn s (kept c x xs)) (sym e) (d, n)
new-kept s x xs false e d n = subst (λ c. NotIn s (kept c x xs)) (sym e) n

head-view : (r : Rec) (rs : List Rec) → (begins r ≡ true → ⊥) → view_of (r ∷ rs) ≡ None
head-view (Began role terms) rs n = absurd (n refl)
head-view (Took k) rs n = refl
head-view (Made k) rs n = refl
head-view (Did op) rs n = refl
head-view (Chose way) rs n = refl
head-view Rescue rs n = refl

view-cons : (s : SessionId) (x : Stored) (xs : List Stored) (b : Bool) → is_session s x.session ≡ b → NotIn s (sessions_in (x ∷ xs)) → view_in s xs ≡ None → view_in s (x ∷ xs) ≡ None
view-cons s x xs true h n old =
    ap (λ b. view_of (map (λ (y : Stored). y.rec) (cond b (x ∷ records_of s xs) (records_of s xs)))) h
    ∙ head-view x.rec (map (λ (y : Stored). y.rec) (records_of s xs)) (λ e. began-in s x xs e n (sym (is-session s x.session h)))
view-cons s x xs false h n old = ap (λ b. view_of (map (λ (y : Stored). y.rec) (cond b (x ∷ records_of s xs) (records_of s xs)))) h ∙ old

pub no-view : (s : SessionId) (xs : List Stored) → NotIn s (sessions_in xs) → view_in s xs ≡ None
no-view s [] n = refl
no-view s (x ∷ xs) n = view-cons s x xs (is_session s x.session) refl n (no-view s xs (rest-in s x xs (begins x.rec) refl n))

pub none-some : (v : View) → None ≡ Some v → ⊥
none-some v e = cc e

-- in a log a session without a view has no records
abbrev Unseen : SessionId → List Stored → Type 0
Unseen s xs = view_in s xs ≡ None → records_of s xs ≡ []

seen : (p : Party) (xs : List Stored) (x : Stored) → Comes p xs x.session x.text x.rec → (v : View) × (view_in x.session (xs ++ x ∷ []) ≡ Some v)
seen p xs x c = go x.rec refl c
  where
    named : (v : View) → view_in x.session xs ≡ Some v → (v : View) × (view_in x.session (xs ++ x ∷ []) ≡ Some v)
    named v e = (_, view-here x.session xs x v (session-self x.session) e)

    go : (r : Rec) → x.rec ≡ r → Comes p xs x.session x.text r → (v : View) × (view_in x.session (xs ++ x ∷ []) ≡ Some v)
    go (Began role terms) e c = (_, view-first x.session xs x (session-self x.session) c.new ∙ ap (λ r. view_of (r ∷ [])) e)
    go (Took k) e c = named c.view c.named
    go (Made k) e c = named c.view c.named
    go (Did op) e c = named c.view c.named
    go (Chose way) e c = named c.view c.named
    go Rescue e c = named c.view c.named

unseen-more : (p : Party) (s : SessionId) (xs : List Stored) (x : Stored) → Unseen s xs → MayCome p xs x → Unseen s (xs ++ x ∷ [])
unseen-more p s xs x old m none = go (is_session s x.session) refl
  where
    go : (b : Bool) → is_session s x.session ≡ b → records_of s (xs ++ x ∷ []) ≡ []
    go false n = records-apart s xs x n ∙ old (sym (view-apart s xs x n) ∙ none)
    go true y =
        let same = is-session s x.session y in
        let (v, there) = seen p xs x (comes p xs x m) in
        absurd (none-some v (sym (subst (λ t. view_in t (xs ++ x ∷ []) ≡ None) same none) ∙ there))

pub unnamed : (p : Party) (s : SessionId) (xs : List Stored) → IsLog p xs → view_in s xs ≡ None → records_of s xs ≡ []
unnamed p s xs log = log-all p (Unseen s) (λ e. refl) (λ ys y l old m. unseen-more p s ys y old m) xs log

-- ---- counts

pub one-begun : (role : Role) (xs : List Stored) (x : Stored) → began_as role x.rec ≡ true → begun role (xs ++ x ∷ []) ≡ begun role xs + 1
one-begun role xs x y =
    ap length (filter-append (λ (z : Stored). began_as role z.rec) xs (x ∷ []))
    ∙ ap (λ b. length (filter (λ (z : Stored). began_as role z.rec) xs ++ cond b (x ∷ []) [])) y
    ∙ length_push (filter (λ (z : Stored). began_as role z.rec) xs) x

pub under : (a most : ℕ) → nat_lt a most ≡ true → a < most
under a most e = ltb-true a most e

-- ---- sessions with one record more

sessions-grown : (xs : List Stored) (x : Stored) → sessions_in (xs ++ x ∷ []) ≡ sessions_in xs ++ map (λ (y : Stored). y.session) (cond (begins x.rec) (x ∷ []) [])
sessions-grown xs x =
    ap (map (λ (y : Stored). y.session)) (filter-append (λ (y : Stored). begins y.rec) xs (x ∷ []))
    ∙ map-append (λ (y : Stored). y.session) (filter (λ (y : Stored). begins y.rec) xs) (cond (begins x.rec) (x ∷ []) [])

pub sessions-more : (xs : List Stored) (x : Stored) → begins x.rec ≡ true → sessions_in (xs ++ x ∷ []) ≡ sessions_in xs ++ x.session ∷ []
sessions-more xs x b = sessions-grown xs x ∙ ap (λ c. sessions_in xs ++ map (λ (y : Stored). y.session) (cond c (x ∷ []) [])) b

pub sessions-same : (xs : List Stored) (x : Stored) → begins x.rec ≡ false → sessions_in (xs ++ x ∷ []) ≡ sessions_in xs
sessions-same xs x b = sessions-grown xs x ∙ ap (λ c. sessions_in xs ++ map (λ (y : Stored). y.session) (cond c (x ∷ []) [])) b ∙ append-nil (sessions_in xs)

-- ---- the first payload

abbrev pub Decodes : List ℕ → Result Journaled RecordFault → Type 0
Decodes payload result = (x : Journaled) → IsFormed x → payload ≡ payload_of x → UnlessMemory result (Ok x)

head-is : (a b : List ℕ) (y : List (List ℕ)) → a ∷ [] ≡ b ∷ y → a ≡ b
head-is a b y e = cc e

not-ok : (f : RecordFault) (x : Journaled) → ◌≡◌ {A = Result Journaled RecordFault} (Err f) (Ok x) → ⊥
not-ok f x e = cc e

err-is : (f g : RecordFault) → ◌≡◌ {A = Result Journaled RecordFault} (Err f) (Err g) → f ≡ g
err-is f g e = cc e

pub no-record : (payload : List ℕ) (result : Result Journaled RecordFault) (f : RecordFault) → result ≡ Err f → Decodes payload result → (f ≡ decoding.Memory → ⊥) → (x : Journaled) → IsFormed x → payload ≡ payload_of x → ⊥
no-record payload result f is only some x formed e = elim (only x formed e) [ inl q ↦ not-ok f x (sym is ∙ q) | inr q ↦ some (err-is f decoding.Memory (sym is ∙ q)) ]

pub begin-err : (payload : List ℕ) (result : Result Journaled RecordFault) (f : RecordFault) (m : Misfit) → result ≡ Err f → Decodes payload result → (f ≡ decoding.Memory → m ≡ Memory) → (f ≢ decoding.Memory → m ≡ Refused) → BeginsLog payload (Err m)
begin-err payload result f Memory is only memory other = tt
begin-err payload result f Refused is only memory other = λ some. by some.0 some.1 some.2
  where
    not-memory : f ≡ decoding.Memory → ⊥
    not-memory e = let h = memory e in cc h

    by : (setup : Setup) (xs : List Stored) → IsJournal (payload ∷ []) setup xs → ⊥
    by setup xs j = no-record payload result f is only not-memory (journaled.Setup setup) j.formed (head-is payload (payload_of (journaled.Setup setup)) _ j.list)

abbrev Found : List ℕ → Result Journaled RecordFault → Type 0
Found payload result = IfOk result (λ x. IsFormed x × (payload ≡ payload_of x))

pub begin-ok : (payload : List ℕ) (result : Result Journaled RecordFault) (x : Journaled) (setup : Setup) (entries : List Held) (spare : ℕ) → result ≡ Ok x → x ≡ journaled.Setup setup → Found payload result → entries ≡ []
    → BeginsLog payload (Ok (record { setup = setup; entries = entries; started = 0; accepted = 0; spare = spare }))
begin-ok payload result x setup entries spare is what found none =
    let h = subst (Found payload) (is ∙ ap Ok what) found in (
      setup,
      record { list = ap (λ (p : List ℕ). p ∷ []) h.1; formed = h.0; log = (log-grows (party_of setup)).none },
      record {
        setup_is = refl;
        sessions = ap sessions_of none;
        states = subst (AllHeld (party_of setup) []) (sym none) tt;
        started = refl;
        accepted = refl;
      },
    )

-- ---- looking up

module _ (log : LogState) (setup : Setup) (xs : List Stored) (s : SessionId) (h : LogHolds log setup xs) where
  pub state-at : (hs : List Held) (i : ℕ) (k : Held) → AllHeld (party_of setup) xs hs → slice_get hs i ≡ Some k → IsStateOf (party_of setup) k.session xs k.state
  state-at [] i k all e = absurd (cc e)
  state-at (x ∷ hs) zero k all e = let same : x ≡ k = cc e in subst (λ (y : Held). IsStateOf (party_of setup) y.session xs y.state) same all.0
  state-at (x ∷ hs) (suc i) k all e = state-at hs i k all.1 e

  pub not-found : IsPlaceOf log.entries s None → view_in s xs ≡ None
  not-found n = no-view s xs (subst (NotIn s) h.sessions (others-in s log.entries (others-of s log.entries n)))

  pub no-view-is : (es : List Held) → es ≡ log.entries → IsPlaceOf es s None → view_in s xs ≡ None
  no-view-is es e n = not-found (subst (λ l. IsPlaceOf l s None) e n)
