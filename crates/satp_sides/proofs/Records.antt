-- A list of records with one record more: what it says of its session, and of the others.
use Rattle.std.proofs.Common.{◌≡◌, ℕ, zero, suc, ◌<◌, true, false, cond, List, [], ◌∷◌, ◌++◌, map, length, Some, None, refl, ap, ◌∙◌, arith, ◌⊎◌, inl, inr}
use Rattle.std.specs.Prelude.{slice_get}
use Rattle.std.specs.List.{flat_map}
use Rattle.std.proofs.lemmas.List.{append-nil, map-append}
use Rattle.std.proofs.lemmas.List.Elements.{filter-append}
use Rattle.std.proofs.lemmas.List.Concat.{flat_map-append}
use Rattle.std.specs.Ordering.{is_eq}
use Rattle.std.specs.Cmp.{eq_by_cmp_equiv}
use Rattle.std.specs.declared.cmp.Ordering.{Ordering}
use Rattle.std.specs.declared.cmp.Ordering.TheVariants.{Less, Equal, Greater}
use Rattle.satp_base.specs.Keys.{session_cmp}
use Rattle.satp_base.specs.Views.{begin, push, view_from, view_of}
use Rattle.satp_base.specs.declared.session.SessionId.{SessionId}
use Rattle.satp_base.specs.declared.record.Rec.{Rec}
use Rattle.satp_base.specs.declared.record.Rec.TheVariants.{Began, Took, Made, Did, Chose, Rescue}
use Rattle.satp_base.specs.declared.view.View.{View}
use Rattle.satp_base.proofs.SessionLemmas.{exact_sessions, sessions_total}
use Rattle.satp_sides.specs.Points.{Stored, chain_in, is_session, records_of, texts_in_record, view_in}

-- ---- equal sessions

pub is-session : (s t : SessionId) → is_session s t ≡ true → s ≡ t
is-session s t h = exact_sessions s t (equal (session_cmp s t) h)
  where
    equal : (o : Ordering) → is_eq o ≡ true → o ≡ Equal
    equal Less h = absurd (cc h)
    equal Equal h = refl
    equal Greater h = absurd (cc h)

pub session-self : (s : SessionId) → is_session s s ≡ true
session-self s = (eq_by_cmp_equiv sessions_total).refl s

-- ---- the records of a session

pub records-here : (s : SessionId) (xs : List Stored) (x : Stored) → is_session s x.session ≡ true → records_of s (xs ++ x ∷ []) ≡ records_of s xs ++ x ∷ []
records-here s xs x h = filter-append (λ y. is_session s y.session) xs (x ∷ []) ∙ ap (λ b. records_of s xs ++ cond b (x ∷ []) []) h

pub records-apart : (s : SessionId) (xs : List Stored) (x : Stored) → is_session s x.session ≡ false → records_of s (xs ++ x ∷ []) ≡ records_of s xs
records-apart s xs x h = filter-append (λ y. is_session s y.session) xs (x ∷ []) ∙ ap (λ b. records_of s xs ++ cond b (x ∷ []) []) h ∙ append-nil (records_of s xs)

pub view-apart : (s : SessionId) (xs : List Stored) (x : Stored) → is_session s x.session ≡ false → view_in s (xs ++ x ∷ []) ≡ view_in s xs
view-apart s xs x h = ap (λ ys. view_of (map (λ y. y.rec) ys)) (records-apart s xs x h)

pub chain-apart : (s : SessionId) (xs : List Stored) (x : Stored) → is_session s x.session ≡ false → chain_in s (xs ++ x ∷ []) ≡ chain_in s xs
chain-apart s xs x h = ap (flat_map texts_in_record) (records-apart s xs x h)

pub chain-here : (s : SessionId) (xs : List Stored) (x : Stored) → is_session s x.session ≡ true → chain_in s (xs ++ x ∷ []) ≡ chain_in s xs ++ texts_in_record x
chain-here s xs x h =
    ap (flat_map texts_in_record) (records-here s xs x h)
    ∙ flat_map-append texts_in_record (records_of s xs) (x ∷ [])
    ∙ ap (λ ys. chain_in s xs ++ ys) (append-nil (texts_in_record x))

-- the view behind one record more
pub from-more : (v : View) (rs : List Rec) (r : Rec) → view_from v (rs ++ r ∷ []) ≡ push (view_from v rs) r
from-more v [] r = refl
from-more v (q ∷ rs) r = from-more (push v q) rs r

of-more : (rs : List Rec) (v : View) (r : Rec) → view_of rs ≡ Some v → view_of (rs ++ r ∷ []) ≡ Some (push v r)
of-more [] v r h = absurd (cc h)
of-more (Began role terms ∷ rs) v r h = ap Some (from-more (begin role terms) rs r ∙ ap (λ w. push w r) (same h))
  where
    same : Some (view_from (begin role terms) rs) ≡ Some v → view_from (begin role terms) rs ≡ v
    same e = cc e
of-more (Took kind ∷ rs) v r h = absurd (cc h)
of-more (Made kind ∷ rs) v r h = absurd (cc h)
of-more (Did op ∷ rs) v r h = absurd (cc h)
of-more (Chose way ∷ rs) v r h = absurd (cc h)
of-more (Rescue ∷ rs) v r h = absurd (cc h)

pub view-here : (s : SessionId) (xs : List Stored) (x : Stored) (v : View) → is_session s x.session ≡ true → view_in s xs ≡ Some v → view_in s (xs ++ x ∷ []) ≡ Some (push v x.rec)
view-here s xs x v h e =
    ap (λ ys. view_of (map (λ y. y.rec) ys)) (records-here s xs x h)
    ∙ ap view_of (map-append (λ (y : Stored). y.rec) (records_of s xs) (x ∷ []))
    ∙ of-more (map (λ y. y.rec) (records_of s xs)) v x.rec e

-- the first record of a session
pub view-first : (s : SessionId) (xs : List Stored) (x : Stored) → is_session s x.session ≡ true → records_of s xs ≡ [] → view_in s (xs ++ x ∷ []) ≡ view_of (x.rec ∷ [])
view-first s xs x h e = ap (λ ys. view_of (map (λ y. y.rec) ys)) (records-here s xs x h ∙ ap (λ ys. ys ++ x ∷ []) e)

pub chain-none : (s : SessionId) (xs : List Stored) → records_of s xs ≡ [] → chain_in s xs ≡ []
chain-none s xs e = ap (flat_map texts_in_record) e

pub view-none : (s : SessionId) (xs : List Stored) → records_of s xs ≡ [] → view_in s xs ≡ None
view-none s xs e = ap (λ ys. view_of (map (λ y. y.rec) ys)) e

-- ---- a record more keeps whose view it is, and its terms

pub push-head : (v : View) (r : Rec) → ((push v r).role ≡ v.role) × ((push v r).terms ≡ v.terms)
push-head v (Began role terms) = (refl, refl)
push-head v (Took kind) = (refl, refl)
push-head v (Made kind) = (refl, refl)
push-head v (Did op) = (refl, refl)
push-head v (Chose way) = (refl, refl)
push-head v Rescue = (refl, refl)

-- ---- places in a list

pub get-old : {X : Type 0} (xs ys : List X) (n : ℕ) (t : X) → slice_get xs n ≡ Some t → slice_get (xs ++ ys) n ≡ Some t
get-old [] ys n t h = absurd (cc h)
get-old (x ∷ xs) ys zero t h = h
get-old (x ∷ xs) ys (suc n) t h = get-old xs ys n t h

pub get-new : {X : Type 0} (xs : List X) (y : X) → slice_get (xs ++ y ∷ []) (length xs) ≡ Some y
get-new [] y = refl
get-new (x ∷ xs) y = get-new xs y

pub get-split : {X : Type 0} (xs : List X) (y : X) (n : ℕ) (t : X) → slice_get (xs ++ y ∷ []) n ≡ Some t → (slice_get xs n ≡ Some t) ⊎ ((n ≡ length xs) × (y ≡ t))
get-split [] y zero t h = inr (refl, cc h)
get-split [] y (suc n) t h = absurd (cc h)
get-split (x ∷ xs) y zero t h = inl h
get-split (x ∷ xs) y (suc n) t h = elim (get-split xs y n t h) [ inl p ↦ inl p | inr p ↦ inr (ap suc p.0, p.1) ]

pub get-bound : {X : Type 0} (xs : List X) (n : ℕ) (t : X) → slice_get xs n ≡ Some t → n < length xs
get-bound [] n t h = absurd (cc h)
get-bound (x ∷ xs) zero t h = omega arith
get-bound (x ∷ xs) (suc n) t h = let k = get-bound xs n t h in omega arith
