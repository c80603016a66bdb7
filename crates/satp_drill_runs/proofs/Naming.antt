-- Which sessions records name, as they grow: only a start begins a session of the gateway's own name.
use Rattle.std.proofs.Common.{◌≡◌, ◌≢◌, ℕ, Bool, true, false, List, [], ◌∷◌, ◌++◌, Option, Some, None, refl, sym, ap, subst, ◌∙◌}
use Rattle.std.specs.Prelude.{drop, map, option_map, take, is_some, if◌then◌else◌}
use Rattle.std.proofs.lemmas.List.{append-nil, take-append-drop}
use Rattle.satp_base.proofs.GenesisLemmas.{names_refl}
use Rattle.satp_base.specs.Founding.{equal_names}
use Rattle.satp_base.specs.Roles.{both, negate}
use Rattle.satp_base.specs.Views.{view_of}
use Rattle.satp_base.specs.declared.message.Message.{Message}
use Rattle.satp_base.specs.declared.message.Role.TheVariants.{Recipient}
use Rattle.satp_base.specs.declared.message.Terms.{Terms}
use Rattle.satp_base.specs.declared.session.SessionId.{SessionId}
use Rattle.satp_base.specs.declared.view.View.{View}
use Rattle.satp_sides.proofs.Records.{is-session, session-self}
use Rattle.satp_sides.specs.Calls.{Call, Starts, Works, Aborts, Rescues, Hears, Refusal, Full, Receiver, Strange, Run, accepted, body_refusal, by_tests, first_refusal, is_full, is_misaddressed, is_named, is_strange, late_in, refusal_of, run_of, test, would_begin}
use Rattle.satp_sides.specs.Others.{session_of}
use Rattle.satp_sides.specs.Points.{Move, Says, Party, Side, Stored, Text, chain_in, is_session as same_session, most_sessions, moved_by, slot, slot_in, view_in}
use Rattle.satp_world.proofs.EffectLaw.{others-stay}
use Rattle.satp_world.specs.Histories.{Called, Stopped, after_event, after_moves, call_moves}
use Rattle.satp_world.specs.Worlds.{Gateway, Setting, World, name_at, party_at, side_at}
use Rattle.satp_world.specs.Worlds.Gateway.{A, B}

-- ---- one call

none-moves : (o : Option Refusal) (r : Refusal) (run : Run) → o ≡ Some r → (by_tests o run).moves ≡ []
none-moves o r run e = ap (λ x. (by_tests x run).moves) e

first-is : (r : Refusal) (ts : List (Option Refusal)) (b : Bool) → b ≡ true → first_refusal (test b r ∷ ts) ≡ Some r
first-is r ts b e = ap (λ x. first_refusal (test x r ∷ ts)) e

-- a call of the gateway's own session that no record names is refused, but a start
module _ (p : Party) (side : Side) where
  unnamed : (s : SessionId) → view_in s side.records ≡ None → negate (is_named s side.records) ≡ true
  unnamed s none = ap (λ o. negate (is_some (option_map (λ v. slot v (chain_in s side.records)) o))) none

  strange : (s : SessionId) → s.gateway ≡ p.name → view_in s side.records ≡ None → is_strange p side.records s ≡ true
  strange s own none =
      let here : equal_names s.gateway p.name ≡ true = subst (λ n. equal_names s.gateway n ≡ true) own (names_refl s.gateway) in
      ap (λ (b : Bool). if b then negate (is_named s side.records) else negate (equal_names s.gateway p.peer)) here ∙ unnamed s none

  refuses-hears : (m : Message) (b : Bool) (ts : List (Option Refusal)) → is_strange p side.records m.session ≡ true → (r : Refusal) × (first_refusal (test b Receiver ∷ test (is_strange p side.records m.session) (Strange m.session) ∷ ts) ≡ Some r)
  refuses-hears m true ts e = (Receiver, refl)
  refuses-hears m false ts e = (Strange m.session, first-is (Strange m.session) ts (is_strange p side.records m.session) e)

  -- it has no moves
  abbrev IsIdle : Call → Type 0
  IsIdle call = (run_of p side call).moves ≡ []

  pub idle : (call : Call) → (session_of call).gateway ≡ p.name → view_in (session_of call) side.records ≡ None → ((s : SessionId) (terms : Terms) → call ≡ Starts s terms → ⊥) → IsIdle call
  unfolding run_of refusal_of
  idle (Starts s terms) own none h = absurd (h s terms refl)
  idle (Works s) own none h = none-moves (refusal_of p side.records (Works s)) (Strange s) (accepted p side (Works s)) (ap (λ b. test b (Strange s)) (unnamed s none))
  idle (Rescues s) own none h = none-moves (refusal_of p side.records (Rescues s)) (Strange s) (accepted p side (Rescues s)) (ap (λ b. test b (Strange s)) (unnamed s none))
  idle (Aborts s) own none h = none-moves (refusal_of p side.records (Aborts s)) (Strange s) (accepted p side (Aborts s)) (first-is (Strange s) (late_in (slot_in s side.records) ∷ []) (negate (is_named s side.records)) (unnamed s none))
  idle (Hears m t e) own none h =
      let r = refuses-hears m (is_misaddressed p m) (body_refusal p side.records m t e m.body ∷ test (both (would_begin p side.records m t) (is_full Recipient side.records)) (Full most_sessions) ∷ []) (strange m.session own none) in
      none-moves (refusal_of p side.records (Hears m t e)) r.0 (accepted p side (Hears m t e)) r.1

  -- the records name a session that they didn't name only where the call is its start
  names-by : (call : Call) (first rest : List Move) → (run_of p side call).moves ≡ first ++ rest → (s : SessionId) → s.gateway ≡ p.name → view_in s side.records ≡ None
      → (v : View) → view_in s (moved_by side first).records ≡ Some v → (b : Bool) → same_session s (session_of call) ≡ b → ((t : SessionId) (terms : Terms) → call ≡ Starts t terms → ⊥) → ⊥
  names-by call first rest is s own none v e false apart h =
      let n : s ≢ session_of call = λ x. let y = subst (λ t. same_session s t ≡ true) x (session-self s) in cc (y, apart) in
      let stays = others-stay p side call first rest is s n in
      let same : view_in s (moved_by side first).records ≡ view_in s side.records = ap (λ ys. view_of (map (λ (x : Stored). x.rec) ys)) stays.records in
      cc (same, none, e)
  names-by call first rest is s own none v e true same h =
      let here = is-session s (session_of call) same in
      let no_moves = idle call (ap (λ (t : SessionId). t.gateway) (sym here) ∙ own) (ap (λ t. view_in t side.records) (sym here) ∙ none) h in
      let no_first = first-none first rest (sym is ∙ no_moves) in
      let still : view_in s (moved_by side first).records ≡ view_in s side.records = ap (λ ms. view_in s (moved_by side ms).records) no_first in
      cc (still, none, e)
    where
      first-none : (xs ys : List Move) → xs ++ ys ≡ [] → xs ≡ []
      first-none [] ys e = refl
      first-none (x ∷ xs) ys e = absurd (cc e)

-- ---- a world

module _ (st : Setting) (P : Gateway → SessionId → Type 0) where
  -- each session of a gateway's own name that its records name is one of these
  abbrev pub Named : World → Type 0
  Named w = (g : Gateway) (s : SessionId) (v : View) → s.gateway ≡ name_at st g → view_in s (side_at w g).records ≡ Some v → P g s

  -- a call starts none but one of these
  abbrev pub Begins : Gateway → Call → Type 0
  Begins g (Starts s terms) = P g s
  Begins g call = Unit {0}

  starts-one : (g : Gateway) (side : Side) (call : Call) (first rest : List Move) → (run_of (party_at st g) side call).moves ≡ first ++ rest → Begins g call
      → (s : SessionId) (v : View) → s.gateway ≡ name_at st g → view_in s side.records ≡ None → view_in s (moved_by side first).records ≡ Some v → P g s
  starts-one g side (Starts t terms) first rest is begins s v own none e = by (same_session s t) refl
    where
      by : (b : Bool) → same_session s t ≡ b → P g s
      by true same = subst (P g) (sym (is-session s t same)) begins
      by false apart =
          let n : s ≢ t = λ x. let y = subst (λ z. same_session s z ≡ true) x (session-self s) in cc (y, apart) in
          let stays = others-stay (party_at st g) side (Starts t terms) first rest is s n in
          let same : view_in s (moved_by side first).records ≡ view_in s side.records = ap (λ ys. view_of (map (λ (x : Stored). x.rec) ys)) stays.records in
          absurd (cc (same, none, e))
  starts-one g side (Works t) first rest is begins s v own none e = absurd (names-by (party_at st g) side (Works t) first rest is s own none v e (same_session s t) refl (λ u terms x. cc x))
  starts-one g side (Aborts t) first rest is begins s v own none e = absurd (names-by (party_at st g) side (Aborts t) first rest is s own none v e (same_session s t) refl (λ u terms x. cc x))
  starts-one g side (Rescues t) first rest is begins s v own none e = absurd (names-by (party_at st g) side (Rescues t) first rest is s own none v e (same_session s t) refl (λ u terms x. cc x))
  starts-one g side (Hears m t c) first rest is begins s v own none e = absurd (names-by (party_at st g) side (Hears m t c) first rest is s own none v e (same_session s m.session) refl (λ u terms x. cc x))

  moves-named : (w : World) (g : Gateway) (first : List Move) → ((s : SessionId) (v : View) → s.gateway ≡ name_at st g → view_in s (side_at w g).records ≡ None → view_in s (moved_by (side_at w g) first).records ≡ Some v → P g s)
      → Named w → Named (after_moves w g first)
  moves-named w g first new old q s v own e = by w g q first own new old e
    where
      at : (side : Side) (q : Gateway) (first : List Move) → ((v : View) → view_in s side.records ≡ None → view_in s (moved_by side first).records ≡ Some v → P q s) → ((u : View) → view_in s side.records ≡ Some u → P q s)
          → view_in s (moved_by side first).records ≡ Some v → P q s
      at side q first new old e = go (view_in s side.records) refl
        where
          go : (o : Option View) → view_in s side.records ≡ o → P q s
          go None none = new v none e
          go (Some u) some = old u some

      by : (w : World) (g q : Gateway) (first : List Move) → s.gateway ≡ name_at st q → ((s : SessionId) (v : View) → s.gateway ≡ name_at st g → view_in s (side_at w g).records ≡ None → view_in s (moved_by (side_at w g) first).records ≡ Some v → P g s) → Named w
          → view_in s (side_at (after_moves w g first) q).records ≡ Some v → P q s
      by w A A first own new old e = at w.a A first (λ u. new s u own) (λ u. old A s u own) e
      by w B B first own new old e = at w.b B first (λ u. new s u own) (λ u. old B s u own) e
      by w A B first own new old e = old B s v own e
      by w B A first own new old e = old A s v own e

  pub call-named : (w : World) (g : Gateway) (call : Call) → Begins g call → Named w → Named (after_event st w (Called g call))
  call-named w g call begins old = moves-named w g (call_moves st w g call) (λ s v. starts-one g (side_at w g) call (call_moves st w g call) [] (sym (append-nil (call_moves st w g call))) begins s v) old

  pub stop-named : (w : World) (g : Gateway) (call : Call) (n : ℕ) → Begins g call → Named w → Named (after_event st w (Stopped g call n))
  stop-named w g call n begins old =
      let ms = call_moves st w g call in
      moves-named w g (take n ms) (λ s v. starts-one g (side_at w g) call (take n ms) (drop n ms) (sym (take-append-drop n ms)) begins s v) old

  pub say-named : (w : World) (g : Gateway) (t : Text) → Named w → Named (after_moves w g (Says t ∷ []))
  say-named w g t old = moves-named w g (Says t ∷ []) (λ s v own none e. absurd (cc (none, e))) old
