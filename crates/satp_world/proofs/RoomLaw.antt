-- A gateway has room for each session that its peer has begun.
use Rattle.std.proofs.Common.{◌≡◌, ℕ, ◌+◌, ◌≤◌, Bool, true, false, cond, List, [], ◌∷◌, ◌++◌, map, length, Option, Some, None, refl, sym, ap, ◌∙◌, arith}
use Rattle.std.specs.Prelude.{filter}
use Rattle.std.specs.List.{sum_by}
use Rattle.std.proofs.lemmas.List.{map-append}
use Rattle.std.proofs.lemmas.List.Elements.{filter-append}
use Rattle.std.proofs.lemmas.List.Sums.{sum_by-append, sum_by-cons}
use Rattle.satp_base.specs.Founding.{Founding, counted}
use Rattle.satp_base.specs.Views.{begin}
use Rattle.satp_base.specs.declared.ledger.Entry.{Entry}
use Rattle.satp_base.specs.declared.message.Role.{Role}
use Rattle.satp_base.specs.declared.message.Role.TheVariants.{Origin, Recipient}
use Rattle.satp_base.specs.declared.session.SessionId.{SessionId}
use Rattle.satp_base.specs.declared.view.View.{View}
use Rattle.satp_sides.specs.LogLaws.{IsOfRole}
use Rattle.satp_sides.specs.Logs.{IsLog, MayCome}
use Rattle.satp_sides.specs.Logs.MayCome.{Starts, Accepts, Takes, Makes, Notes}
use Rattle.satp_sides.specs.Points.{Party, Stored, began_as, is_session, records_of, view_in}
use Rattle.satp_sides.proofs.Bounds.{logs-bounded, note-begins-not}
use Rattle.satp_sides.proofs.LogLaw.{log-all, log-sessions}
use Rattle.satp_sides.proofs.Records.{is-session, push-head, session-self, view-apart, view-first, view-here, view-none}
use Rattle.satp_world.specs.Kept.{Names, RoomLeft}
use Rattle.satp_world.specs.Sessions.{SessionStands}
use Rattle.satp_world.specs.Worlds.{Gateway, Reached, Setting, World, name_at, opposite, party_at, session_in, side_at}
use Rattle.satp_world.specs.Worlds.Gateway.{A, B}
use Rattle.satp_world.proofs.Amounts.{all-within, of, whole}
use Rattle.satp_world.proofs.KeptLaw.{logs-kept}
use Rattle.satp_world.proofs.WorldLaw.{law_safety}

-- ---- the sessions that records begin in a role, each counted once

abbrev begun_in : Role → List Stored → List (SessionId × ℕ)
begun_in role xs = map (λ x. (x.session, 1)) (filter (λ x. began_as role x.rec) xs)

abbrev count : Role → SessionId → List Stored → ℕ
count role s xs = of is_session s (begun_in role xs)

ones : (xs : List Stored) → whole (map (λ x. (x.session, 1)) xs) ≡ length xs
ones [] = refl
ones (x ∷ xs) = let h = sum_by-cons (λ (e : SessionId × ℕ). e.1) (x.session, 1) (map (λ y. (y.session, 1)) xs) in let k = ones xs in omega (arith, h, k)

abbrev one : Role → SessionId → Stored → ℕ
one role s x = cond (began_as role x.rec) (counted (is_session s x.session) 1) 0

-- one record more
count-more : (role : Role) (s : SessionId) (xs : List Stored) (x : Stored) → count role s (xs ++ x ∷ []) ≡ count role s xs + one role s x
count-more role s xs x =
    let f : SessionId × ℕ → ℕ = λ e. counted (is_session s e.0) e.1 in
    let lists = ap (map (λ (y : Stored). (y.session, 1))) (filter-append (λ y. began_as role y.rec) xs (x ∷ [])) ∙ map-append (λ (y : Stored). (y.session, 1)) (filter (λ y. began_as role y.rec) xs) (cond (began_as role x.rec) (x ∷ []) []) in
    ap (sum_by f) lists ∙ sum_by-append f (begun_in role xs) (map (λ (y : Stored). (y.session, 1)) (cond (began_as role x.rec) (x ∷ []) [])) ∙ ap (λ n. count role s xs + n) (last (began_as role x.rec))
  where
    last : (b : Bool) → sum_by (λ (e : SessionId × ℕ). counted (is_session s e.0) e.1) (map (λ (y : Stored). (y.session, 1)) (cond b (x ∷ []) [])) ≡ cond b (counted (is_session s x.session) 1) 0
    last true = let h = sum_by-cons (λ (e : SessionId × ℕ). counted (is_session s e.0) e.1) (x.session, 1) [] in omega (arith, h)
    last false = refl

abbrev same_role : Role → Role → Bool
same_role Origin Origin = true
same_role Origin Recipient = false
same_role Recipient Origin = false
same_role Recipient Recipient = true

-- a session that records name was begun once, in the role of its view
abbrev marks : Role → Option View → ℕ
marks role None = 0
marks role (Some v) = counted (same_role role v.role) 1

abbrev Counted : Role → SessionId → List Stored → Type 0
Counted role s xs = count role s xs ≡ marks role (view_in s xs)

-- a record that begins no session
counted-else : (role : Role) (s : SessionId) (xs : List Stored) (x : Stored) (v : View) → Counted role s xs → began_as role x.rec ≡ false → view_in x.session xs ≡ Some v → Counted role s (xs ++ x ∷ [])
counted-else role s xs x v old n e =
    let none : one role s x ≡ 0 = ap (λ b. cond b (counted (is_session s x.session) 1) 0) n in
    let more = count-more role s xs x in
    let same : count role s (xs ++ x ∷ []) ≡ count role s xs = omega (arith, none, more) in
    same ∙ old ∙ go (is_session s x.session) refl
  where
    go : (b : Bool) → is_session s x.session ≡ b → marks role (view_in s xs) ≡ marks role (view_in s (xs ++ x ∷ []))
    go false m = sym (ap (marks role) (view-apart s xs x m))
    go true y =
        let here = ap (λ z. view_in z xs) (is-session s x.session y) ∙ e in
        ap (marks role) here ∙ ap (λ r. counted (same_role role r) 1) (sym (push-head v x.rec).0) ∙ sym (ap (marks role) (view-here s xs x v y here))

-- the first record of a session
counted-first : (role mine : Role) (s : SessionId) (xs : List Stored) (x : Stored) (v : View) → Counted role s xs → records_of x.session xs ≡ [] → view_in x.session (xs ++ x ∷ []) ≡ Some v → v.role ≡ mine → began_as role x.rec ≡ same_role role mine
    → Counted role s (xs ++ x ∷ [])
counted-first role mine s xs x v old none e r began = count-more role s xs x ∙ go (is_session s x.session) refl
  where
    cases : (b c : Bool) → cond b (counted c 1) 0 ≡ counted c (counted b 1)
    cases true true = refl
    cases true false = refl
    cases false true = refl
    cases false false = refl

    by : one role s x ≡ counted (is_session s x.session) (counted (same_role role mine) 1)
    by = cases (began_as role x.rec) (is_session s x.session) ∙ ap (λ b. counted (is_session s x.session) (counted b 1)) began

    go : (b : Bool) → is_session s x.session ≡ b → count role s xs + one role s x ≡ marks role (view_in s (xs ++ x ∷ []))
    go false m =
        let zero : one role s x ≡ 0 = by ∙ ap (λ c. counted c (counted (same_role role mine) 1)) m in
        let still : count role s xs ≡ marks role (view_in s (xs ++ x ∷ [])) = old ∙ sym (ap (marks role) (view-apart s xs x m)) in
        omega (arith, zero, still)
    go true y =
        let same = is-session s x.session y in
        let before : count role s xs ≡ 0 = old ∙ ap (marks role) (view-none s xs (ap (λ z. records_of z xs) same ∙ none)) in
        let new : one role s x ≡ counted (same_role role mine) 1 = by ∙ ap (λ c. counted c (counted (same_role role mine) 1)) y in
        let after : marks role (view_in s (xs ++ x ∷ [])) ≡ counted (same_role role mine) 1 = ap (λ z. marks role (view_in z (xs ++ x ∷ []))) same ∙ ap (marks role) e ∙ ap (λ q. counted (same_role role q) 1) r in
        omega (arith, before, new, after)

counted-more : (p : Party) (role : Role) (s : SessionId) (xs : List Stored) (x : Stored) → Counted role s xs → MayCome p xs x → Counted role s (xs ++ x ∷ [])
counted-more p Origin s xs _ old (Starts t terms g e c) = counted-first Origin Origin s xs _ (begin Origin terms) old e (view-first t xs _ (session-self t) e) refl refl
counted-more p Recipient s xs _ old (Starts t terms g e c) = counted-first Recipient Origin s xs _ (begin Origin terms) old e (view-first t xs _ (session-self t) e) refl refl
counted-more p Origin s xs _ old (Accepts t terms g e c) = counted-first Origin Recipient s xs _ (begin Recipient terms) old e (view-first t xs _ (session-self t) e) refl refl
counted-more p Recipient s xs _ old (Accepts t terms g e c) = counted-first Recipient Recipient s xs _ (begin Recipient terms) old e (view-first t xs _ (session-self t) e) refl refl
counted-more p Origin s xs _ old (Takes t v part e rule f) = counted-else Origin s xs _ v old refl e
counted-more p Recipient s xs _ old (Takes t v part e rule f) = counted-else Recipient s xs _ v old refl e
counted-more p Origin s xs _ old (Makes t v part e rule f) = counted-else Origin s xs _ v old refl e
counted-more p Recipient s xs _ old (Makes t v part e rule f) = counted-else Recipient s xs _ v old refl e
counted-more p role s xs _ old (Notes t v r e rule n) = counted-else role s xs _ v old (note-begins-not r n role) e

counts : (p : Party) (role : Role) (s : SessionId) (xs : List Stored) → IsLog p xs → Counted role s xs
counts p role s xs log = log-all p (Counted role s) refl (λ ys y l old may. counted-more p role s ys y old may) xs log

-- ---- both sides

twice-named : (st : Setting) (g : Gateway) → name_at st (opposite (opposite g)) ≡ name_at st g
twice-named st A = refl
twice-named st B = refl

not-origin : (v : View) → v.role ≡ Origin → marks Recipient (Some v) ≡ 0
not-origin v e = ap (λ r. counted (same_role Recipient r) 1) e

-- a session that the recipient's records name is begun by the origin's
origin-has : (o w : Option View) (e f : Entry) → SessionStands (record { a = o; b = w; a_entry = e; b_entry = f }) → marks Recipient w ≤ marks Origin o
origin-has None None e f k = omega arith
origin-has (Some u) None e f k = omega arith
origin-has None (Some v) e f k = absurd k
origin-has (Some u) (Some v) e f k =
    let a : marks Origin (Some u) ≡ 1 = ap (λ r. counted (same_role Origin r) 1) k.roles.0 in
    let b : marks Recipient (Some v) ≡ 1 = ap (λ r. counted (same_role Recipient r) 1) k.roles.1 in
    omega (arith, a, b)

-- a session is of one gateway alone
one-name : (st : Setting) (s : SessionId) (g : Gateway) → s.gateway ≡ name_at st g → s.gateway ≡ name_at st (opposite g) → ⊥
one-name st s A p q = st.differ (sym p ∙ q)
one-name st s B p q = st.differ (sym q ∙ p)

role-or : (r : Role) → (P : Type 0) → (r ≡ Origin → P) → (r ≡ Recipient → P) → P
role-or Origin P f g = f refl
role-or Recipient P f g = g refl

named-or : (o : Option View) → (P : Type 0) → (o ≡ None → P) → ((v : View) → o ≡ Some v → P) → P
named-or None P f g = f refl
named-or (Some v) P f g = g v refl

module _ (st : Setting) (a b : Founding) (w : World) (r : Reached st a b w) (g : Gateway) where
  abbrev mine : List Stored
  mine = (side_at w g).records

  abbrev theirs : List Stored
  theirs = (side_at w (opposite g)).records

  -- of every session
  both-marks : (s : SessionId) → marks Recipient (view_in s theirs) ≤ marks Origin (view_in s mine)
  both-marks s = named-or (view_in s theirs) (marks Recipient (view_in s theirs) ≤ marks Origin (view_in s mine))
      (λ e. let h = ap (marks Recipient) e in omega (arith, h))
      (λ v e. role-or v.role (marks Recipient (view_in s theirs) ≤ marks Origin (view_in s mine))
      (λ o. let h = ap (marks Recipient) e ∙ not-origin v o in omega (arith, h))
      (λ q.
      (let k = (log-sessions (party_at st (opposite g)) theirs (logs-kept st a b w r (opposite g)) s v e).role in
      let named = as_recipient v.role q k in
      origin-has (view_in s mine) (view_in s theirs) (session_in w g s).a_entry (session_in w g s).b_entry ((law_safety st a b w r).stands g s named))))
    where
      as_recipient : (role : Role) → role ≡ Recipient → IsOfRole (party_at st (opposite g)) s role → s.gateway ≡ name_at st g
      as_recipient Origin q k = absurd (cc q)
      as_recipient Recipient q k = k ∙ twice-named st g

  abbrev with_it : SessionId → List (SessionId × ℕ)
  with_it s = (s, 1) ∷ begun_in Recipient theirs

  fits : (s : SessionId) → s.gateway ≡ name_at st g → Names w g s → records_of s theirs ≡ [] → (key : SessionId) → of is_session key (with_it s) ≤ of is_session key (begun_in Origin mine)
  fits s h known none key =
      let c = counts (party_at st (opposite g)) Recipient key theirs (logs-kept st a b w r (opposite g)) in
      let d = counts (party_at st g) Origin key mine (logs-kept st a b w r g) in
      let e = sum_by-cons (λ (x : SessionId × ℕ). counted (is_session key x.0) x.1) (s, 1) (begun_in Recipient theirs) in
      let m = both-marks key in
      go (is_session key s) refl c d e m
    where
      go : (y : Bool) → is_session key s ≡ y → count Recipient key theirs ≡ marks Recipient (view_in key theirs) → count Origin key mine ≡ marks Origin (view_in key mine)
          → of is_session key (with_it s) ≡ counted (is_session key s) 1 + count Recipient key theirs → marks Recipient (view_in key theirs) ≤ marks Origin (view_in key mine)
          → of is_session key (with_it s) ≤ of is_session key (begun_in Origin mine)
      go false n c d e m = let z = ap (λ y. counted y 1) n in omega (arith, c, d, e, m, z)
      go true y c d e m =
          let same = is-session key s y in
          let z = ap (λ x. counted x 1) y in
          let gone : marks Recipient (view_in key theirs) ≡ 0 = ap (marks Recipient) (view-none key theirs (ap (λ q. records_of q theirs) same ∙ none)) in
          let (v, e') = known in
          let role = origin-role (log-sessions (party_at st g) mine (logs-kept st a b w r g) s v e').role in
          let there : marks Origin (view_in key mine) ≡ 1 = ap (λ q. marks Origin (view_in q mine)) same ∙ ap (marks Origin) e' ∙ ap (λ q. counted (same_role Origin q) 1) role in
          omega (arith, c, d, e, z, gone, there)
        where
          origin-role : {x : Role} → IsOfRole (party_at st g) s x → x ≡ Origin
          origin-role {x = Origin} k = refl
          origin-role {x = Recipient} k = absurd (one-name st s g h k)

pub room-left : RoomLeft
room-left st a b w r g s h known none =
    let all = all-within is_session is-session session-self (with_it st a b w r g s) (begun_in Origin (side_at w g).records) (fits st a b w r g s h known none) in
    let more = sum_by-cons (λ (e : SessionId × ℕ). e.1) (s, 1) (begun_in Recipient (side_at w (opposite g)).records) in
    let theirs = ones (filter (λ x. began_as Recipient x.rec) (side_at w (opposite g)).records) in
    let ours = ones (filter (λ x. began_as Origin x.rec) (side_at w g).records) in
    let most = logs-bounded (party_at st g) (side_at w g).records (logs-kept st a b w r g) Origin in
    omega (arith, all, more, theirs, ours, most)
