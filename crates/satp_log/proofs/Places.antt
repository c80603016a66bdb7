-- The first entry of a session.
use Rattle.std.proofs.Common.{◌≡◌, ◌≢◌, ◌<◌, ℕ, zero, suc, Bool, true, false, get_or, List, [], ◌∷◌, ◌++◌, length, Option, Some, None, refl, sym, ap, subst, ◌∙◌, arith}
use Rattle.std.specs.Prelude.{slice_get, slice_set, option_map, option_and_then, if◌then◌else◌}
use Rattle.std.proofs.lemmas.Option.{get_or_from_slice_get}
use Rattle.satp_base.specs.declared.session.SessionId.{SessionId}
use Rattle.satp_base.specs.declared.view.View.{View}
use Rattle.satp_records.specs.declared.stored.Setup.{Setup}
use Rattle.satp_chain.specs.Chained.{texts_in}
use Rattle.satp_sides.specs.Calls.{text_of}
use Rattle.satp_sides.specs.Points.{Party, Slot, Stored, chain_in, is_session, slot, view_in}
use Rattle.satp_sides.proofs.Records.{is-session, session-self}
use Rattle.satp_chain.specs.declared.signed.Signed.{Signed}
use Rattle.satp_base.specs.declared.record.Rec.{Rec}
use Rattle.satp_log.specs.Folding.{IsNextOf, IsStateOf, State, state_with}
use Rattle.satp_log.specs.Journals.{party_of}
use Rattle.satp_log.specs.Logged.{AllHeld, Enters, FoundIn, IsComing, IsPlaceOf, LogHolds, LogState, state_in, text_in}
use Rattle.satp_log.specs.declared.held.Held.{Held}
use Rattle.satp_log.proofs.Entries.{get-within}
use Rattle.satp_log.proofs.Folds.{slot-parts}
use Rattle.satp_log.proofs.LogLemmas.{is-not, not-found}

here : (s t : SessionId) → t ≡ s → is_session s t ≡ true
here s t e = ap (is_session s) e ∙ session-self s

elsewhere : (s t : SessionId) → t ≢ s → is_session s t ≡ false
elsewhere s t n = is-not s t (λ e. n (sym e))

-- no entry before this place is of the session
abbrev pub FirstAt : List Held → SessionId → ℕ → Type 0
FirstAt hs s i = (j : ℕ) (k : Held) → j < i → slice_get hs j ≡ Some k → k.session ≢ s

first-rest : (x : Held) (hs : List Held) (s : SessionId) (i : ℕ) → FirstAt (x ∷ hs) s (suc i) → FirstAt hs s i
first-rest x hs s i n j k w e = n (suc j) k (omega (arith, w)) e

first-head : (x : Held) (hs : List Held) (s : SessionId) (i : ℕ) → FirstAt (x ∷ hs) s (suc i) → x.session ≢ s
first-head x hs s i n = n 0 x (omega arith) refl

pub state-there-is : (s : SessionId) (hs : List Held) (i : ℕ) (h : Held) → slice_get hs i ≡ Some h → h.session ≡ s → FirstAt hs s i → state_in s hs ≡ Some h.state
state-there-is s [] i h e q n = absurd (cc e)
state-there-is s (x ∷ hs) zero h e q n =
    let same : x ≡ h = cc e in
    ap (λ b. if b then Some x.state else state_in s hs) (here s x.session (ap (λ (y : Held). y.session) same ∙ q)) ∙ ap (λ (y : Held). Some y.state) same
state-there-is s (x ∷ hs) (suc i) h e q n =
    ap (λ b. if b then Some x.state else state_in s hs) (elsewhere s x.session (first-head x hs s i n)) ∙ state-there-is s hs i h e q (first-rest x hs s i n)

pub no-state : (s : SessionId) (hs : List Held) → IsPlaceOf hs s None → state_in s hs ≡ None
no-state s [] n = refl
no-state s (x ∷ hs) n = ap (λ b. if b then Some x.state else state_in s hs) (elsewhere s x.session (n 0 x refl)) ∙ no-state s hs (λ i h e. n (suc i) h e)

place-more : (s : SessionId) (x : Held) (hs : List Held) → x.session ≢ s → IsPlaceOf hs s None → (i : ℕ) (h : Held) → slice_get (x ∷ hs) i ≡ Some h → h.session ≢ s
place-more s x hs n rest zero h e = let same : x ≡ h = cc e in subst (λ (y : Held). y.session ≢ s) same n
place-more s x hs n rest (suc i) h e = rest i h e

none-there : (s : SessionId) (i : ℕ) (h : Held) → slice_get [] i ≡ Some h → h.session ≢ s
none-there s i h e = absurd (cc e)

some-none : (st : State) → Some st ≡ None → ⊥
some-none st e = cc e

none-some : (st : State) → None ≡ Some st → ⊥
none-some st e = cc e

some-is : (a b : State) → Some a ≡ Some b → a ≡ b
some-is a b e = cc e

not-false : (b : Bool) → b ≡ true → b ≡ false → ⊥
not-false b t f = let h : true ≡ false = sym t ∙ f in cc h

no-place-more : (s : SessionId) (x : Held) (hs : List Held) (b : Bool) → is_session s x.session ≡ b → state_in s (x ∷ hs) ≡ None → (state_in s hs ≡ None → IsPlaceOf hs s None) → IsPlaceOf (x ∷ hs) s None
no-place-more s x hs true y e rest = absurd (some-none x.state (sym (ap (λ b. if b then Some x.state else state_in s hs) y) ∙ e))
no-place-more s x hs false y e rest =
    place-more s x hs (λ q. not-false (is_session s x.session) (here s x.session q) y) (rest (sym (ap (λ b. if b then Some x.state else state_in s hs) y) ∙ e))

pub no-place : (s : SessionId) (hs : List Held) → state_in s hs ≡ None → IsPlaceOf hs s None
no-place s [] e = none-there s
no-place s (x ∷ hs) e = no-place-more s x hs (is_session s x.session) refl e (λ n. no-place s hs n)

-- ---- an entry set, and one more

pub set-state : (s : SessionId) (hs : List Held) (i : ℕ) (h k : Held) → slice_get hs i ≡ Some h → k.session ≡ s → FirstAt hs s i → state_in s (slice_set hs i k) ≡ Some k.state
set-state s [] i h k e q n = absurd (cc e)
set-state s (x ∷ hs) zero h k e q n = ap (λ b. if b then Some k.state else state_in s hs) (here s k.session q)
set-state s (x ∷ hs) (suc i) h k e q n =
    ap (λ b. if b then Some x.state else state_in s (slice_set hs i k)) (elsewhere s x.session (first-head x hs s i n)) ∙ set-state s hs i h k e q (first-rest x hs s i n)

pub more-state : (s : SessionId) (hs : List Held) (k : Held) → IsPlaceOf hs s None → k.session ≡ s → state_in s (hs ++ k ∷ []) ≡ Some k.state
more-state s [] k n q = ap (λ b. if b then Some k.state else None) (here s k.session q)
more-state s (x ∷ hs) k n q = ap (λ b. if b then Some x.state else state_in s (hs ++ k ∷ [])) (elsewhere s x.session (n 0 x refl)) ∙ more-state s hs k (λ i h e. n (suc i) h e) q

-- ---- looking up

held-state-more : (p : Party) (s : SessionId) (xs : List Stored) (x : Held) (hs : List Held) (st : State) (b : Bool) → is_session s x.session ≡ b → IsStateOf p x.session xs x.state → state_in s (x ∷ hs) ≡ Some st
    → (state_in s hs ≡ Some st → IsStateOf p s xs st) → IsStateOf p s xs st
held-state-more p s xs x hs st true y one e rest =
    let same = some-is x.state st (sym (ap (λ b. if b then Some x.state else state_in s hs) y) ∙ e) in
    subst (IsStateOf p s xs) same (subst (λ t. IsStateOf p t xs x.state) (sym (is-session s x.session y)) one)
held-state-more p s xs x hs st false y one e rest = rest (sym (ap (λ b. if b then Some x.state else state_in s hs) y) ∙ e)

held-state : (p : Party) (s : SessionId) (xs : List Stored) (hs : List Held) (st : State) → AllHeld p xs hs → state_in s hs ≡ Some st → IsStateOf p s xs st
held-state p s xs [] st all e = absurd (none-some st e)
held-state p s xs (x ∷ hs) st all e = held-state-more p s xs x hs st (is_session s x.session) refl all.0 e (λ n. held-state p s xs hs st all.1 n)

pub found-in : (log : LogState) (setup : Setup) (xs : List Stored) (s : SessionId) (o : Option State) → o ≡ state_in s log.entries → LogHolds log setup xs → FoundIn (party_of setup) s xs o
found-in log setup xs s (Some st) e h = held-state (party_of setup) s xs log.entries st h.states (sym e)
found-in log setup xs s None e h = ap (option_map (λ v. slot v (chain_in s xs))) (not-found log setup xs s h (no-place s log.entries (sym e)))

at-place : (es old : List Held) (i : ℕ) (x : Held) → es ≡ old → slice_get es i ≡ Some x → slice_get old i ≡ Some x
at-place es old i x e at = ap (λ (l : List Held). slice_get l i) (sym e) ∙ at

first-of : (es old : List Held) (s : SessionId) (i : ℕ) → es ≡ old → FirstAt es s i → FirstAt old s i
first-of es old s i e first = subst (λ l. FirstAt l s i) e first

pub place-state : (log : LogState) (es others : List Held) (i : ℕ) (held : Held) (s : SessionId) → es ≡ log.entries → others ≡ log.entries → IsPlaceOf es s (Some i) → held ≡ get_or others i held → Some held.state ≡ state_in s log.entries
place-state log es others i held s e o (k, at, same, first) here =
    let is : held ≡ k = here ∙ get_or_from_slice_get others i k held (at-place es others i k (e ∙ sym o) at) in
    ap (λ (y : Held). Some y.state) is ∙ sym (state-there-is s log.entries i k (at-place es log.entries i k e at) same (first-of es log.entries s i e first))

pub no-place-state : (log : LogState) (es : List Held) (s : SessionId) → es ≡ log.entries → IsPlaceOf es s None → None ≡ state_in s log.entries
no-place-state log es s e n = sym (no-state s log.entries (subst (λ l. IsPlaceOf l s None) e n))

pub place-within : (es : List Held) (s : SessionId) (i : ℕ) → IsPlaceOf es s (Some i) → i < length es
place-within es s i (k, at, same, first) = get-within es i k at

pub coming-next : (log : LogState) (s : SessionId) (r : Rec) (message : Option Signed) (st : State) → Some st ≡ state_in s log.entries → IsComing log s r message → IsNextOf st log.setup.key r message
coming-next log s r message st e c = subst (λ x. IsNextOf x log.setup.key r message) (sym (some-is st c.state (e ∙ c.there))) c.next

pub none-coming : (log : LogState) (es : List Held) (s : SessionId) (r : Rec) (message : Option Signed) → es ≡ log.entries → IsPlaceOf es s None → IsComing log s r message → ⊥
none-coming log es s r message e n c = none-some c.state (no-place-state log es s e n ∙ c.there)

pub pushed-state : (log : LogState) (es old : List Held) (i : ℕ) (held k : Held) (s : SessionId) (r : Rec) (message : Option Signed) → es ≡ old → old ≡ log.entries → IsPlaceOf es s (Some i) → held ≡ get_or old i held
    → k.session ≡ held.session → k.state ≡ state_with held.state r message → (state : State) → state_in s log.entries ≡ Some state → state_in s (slice_set old i k) ≡ Some (state_with state r message)
pushed-state log es old i held k s r message e o (x, at, same, first) here q w state there =
    let at' = at-place es old i x e at in
    let is : held ≡ x = here ∙ get_or_from_slice_get old i x held at' in
    let first' = first-of es old s i e first in
    let now = some-is x.state state (sym (state-there-is s old i x at' same first') ∙ ap (state_in s) o ∙ there) in
    set-state s old i x k at' (q ∙ ap (λ (y : Held). y.session) is ∙ same) first' ∙ ap (λ (y : State). Some y) (w ∙ ap (λ (y : State). state_with y r message) (ap (λ (y : Held). y.state) is ∙ now))

pub entered-state : (old new : LogState) (s : SessionId) (st : State) (a b : ℕ) → state_in s old.entries ≡ None → Enters old s st a b new → state_in s new.entries ≡ Some st
entered-state old new s st a b n e = ap (state_in s) e.entries_are ∙ more-state s old.entries (record { session = s; state = st }) (no-place s old.entries n) refl

pub view-found : (p : Party) (s : SessionId) (xs : List Stored) (st : State) (v : View) → v ≡ st.view → IsStateOf p s xs st → Some v ≡ view_in s xs
view-found p s xs st v e h = ap Some e ∙ sym (slot-parts (view_in s xs) (chain_in s xs) st.view (texts_in st.chain) h.slot).0

pub text-found : (p : Party) (s : SessionId) (xs : List Stored) (st : State) (place : ℕ) (r : Option (List ℕ)) → r ≡ text_of (texts_in st.chain) place → IsStateOf p s xs st → r ≡ text_in s xs place
text-found p s xs st place r e h = e ∙ sym (ap (option_and_then (λ (l : Slot). text_of l.texts place)) h.slot)
