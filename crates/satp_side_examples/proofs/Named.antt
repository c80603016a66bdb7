-- In a log a session that isn't named has no record.
use Rattle.std.proofs.Common.{◌≡◌, Bool, true, false, List, [], ◌∷◌, ◌++◌, Option, Some, None, refl, sym, ap, ◌∙◌}
use Rattle.satp_base.specs.Views.{view_of}
use Rattle.satp_base.specs.declared.session.SessionId.{SessionId}
use Rattle.satp_base.specs.declared.view.View.{View}
use Rattle.satp_sides.specs.Calls.{is_named}
use Rattle.satp_sides.specs.Logs.{IsLog, MayCome}
use Rattle.satp_sides.specs.Logs.MayCome.{Starts, Accepts, Takes, Makes, Notes}
use Rattle.satp_sides.specs.Points.{Party, Stored, is_session, records_of, view_in}
use Rattle.satp_sides.proofs.LogLaw.{log-all}
use Rattle.satp_sides.proofs.Records.{is-session, records-apart, view-apart, view-first, view-here}
use Rattle.satp_side_examples.specs.Tested.{LogsNameSessions}

abbrev Unnamed : List Stored → Type 0
Unnamed xs = (s : SessionId) → view_in s xs ≡ None → records_of s xs ≡ []

-- the first record of a session names it
first-names : (p : Party) (xs : List Stored) (x : Stored) → MayCome p xs x → view_in x.session xs ≡ None → view_of (x.rec ∷ []) ≡ None → ⊥
first-names p xs _ (Starts s terms g e c) none h = cc h
first-names p xs _ (Accepts s terms g e c) none h = cc h
first-names p xs _ (Takes s v part e rule f) none h = cc (e, none)
first-names p xs _ (Makes s v part e rule f) none h = cc (e, none)
first-names p xs _ (Notes s v r e rule n) none h = cc (e, none)

module _ (p : Party) (xs : List Stored) (x : Stored) (old : Unnamed xs) (may : MayCome p xs x) (s : SessionId) (e : view_in s (xs ++ x ∷ []) ≡ None) where
  here : is_session s x.session ≡ true → (o : Option View) → view_in s xs ≡ o → records_of s (xs ++ x ∷ []) ≡ []
  here same (Some v) h = let some = view-here s xs x v same h in absurd (cc (some, e))
  here same None h =
      let one = is-session s x.session same in
      absurd (first-names p xs x may (sym (ap (λ (z : SessionId). view_in z xs) one) ∙ h) (sym (view-first s xs x same (old s h)) ∙ e))

  by-session : (b : Bool) → is_session s x.session ≡ b → records_of s (xs ++ x ∷ []) ≡ []
  by-session true same = here same (view_in s xs) refl
  by-session false apart = records-apart s xs x apart ∙ old s (sym (view-apart s xs x apart) ∙ e)

pub unnamed : (p : Party) (xs : List Stored) → IsLog p xs → (s : SessionId) → view_in s xs ≡ None → records_of s xs ≡ []
unnamed p xs log = log-all p Unnamed (λ s e. refl) (λ ys y l old may s e. by-session p ys y old may s e (is_session s y.session) refl) xs log

no-view : (s : SessionId) (xs : List Stored) → is_named s xs ≡ false → (o : Option View) → view_in s xs ≡ o → view_in s xs ≡ None
no-view s xs h None e = e
no-view s xs h (Some v) e = let bad : true ≡ false = rw e at h in absurd (cc bad)

pub logs-name : LogsNameSessions
logs-name p xs log s h = unnamed p xs log s (no-view s xs h (view_in s xs) refl)
