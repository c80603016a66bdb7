-- What a site tells after a list of steps, and after one that failed.
use Rattle.std.proofs.Common.{◌≡◌, Some, List, [], ◌∷◌, ◌++◌, sym, ap, ◌∙◌, subst, refl, inl, inr, ⊎_elim}
use Rattle.satp_base.specs.declared.area.Event.{Event}
use Rattle.satp_base.specs.Calls.{Told, calls_of}
use Rattle.satp_base.specs.Segments.{IsCut}
use Rattle.satp_base.specs.Trail.{Trail, extended}
use Rattle.satp_base.proofs.Cuts.{cut_left, cut_none, cut_right, cut_whole}
use Rattle.satp_base.proofs.Made.{among_cut, events_of_calls}
use Rattle.satp_base.proofs.Trails.{extended_none, extended_twice}
use Rattle.satp_stops.specs.Stops.{Kept, Step, FailsIn, StopsIn, StepsTell, after_step, segments, step_events, told_step, told_steps}
use Rattle.satp_stops.specs.Stops.Step.{Stores, Operates, Says}

told_one : (k : Kept) (m : Step) (t : Told) → (told_step k m t).trail ≡ extended t.trail (step_events k m)
told_one k (Stores q) t = refl
told_one k (Operates op session terms) t = refl
told_one k Says t = sym (extended_none t.trail)

told_all : (steps : List Step) (t : Told) (k : Kept) → (told_steps k steps t).trail ≡ extended t.trail (segments k steps)
told_all [] t k = sym (extended_none t.trail)
told_all (m ∷ ms) t k =
    told_all ms (told_step k m t) (after_step k m) ∙ ap (λ (u : Trail). extended u (segments (after_step k m) ms)) (told_one k m t) ∙ extended_twice t.trail (step_events k m) (segments (after_step k m) ms)

some_trail : {x y : Trail} → Some x ≡ Some y → x ≡ y
some_trail e = cc

-- the events that were made are a cut of these
abbrev CutOf : List Event → Told → Told → Type 0
CutOf whole t new = (events : List Event) × IsCut whole events × (new.trail ≡ extended t.trail events)

fails_cut : (k : Kept) (m : Step) (rest : List Event) (t new : Told) → FailsIn k m t new → CutOf (step_events k m ++ rest) t new
fails_cut k (Stores q) rest t new fails =
    let whole = step_events k (Stores q) in
    let r = among_cut (calls_of whole) (Some t) (Some new) fails in
    (r.0, cut_left whole rest r.0 (subst (λ (l : List Event). IsCut l r.0) (events_of_calls whole) r.1), some_trail r.2)
fails_cut k (Operates op session terms) rest t new (events, took, is) =
    (events, ⊎_elim (cut_none _ events) (cut_whole (step_events k (Operates op session terms)) rest events) took, ⊎_elim (ap (λ (u : Told). u.trail)) (ap (λ (u : Told). u.trail)) is)
fails_cut k Says rest t new fails = absurd fails

told_stops : (steps : List Step) (t new : Told) (k : Kept) → StopsIn k steps t new → CutOf (segments k steps) t new
told_stops [] t new k stops = absurd stops
told_stops (m ∷ ms) t new k (inl fails) = fails_cut k m (segments (after_step k m) ms) t new fails
told_stops (m ∷ ms) t new k (inr later) =
    let rest = told_stops ms (told_step k m t) new (after_step k m) later in (
      step_events k m ++ rest.0,
      cut_right (step_events k m) (segments (after_step k m) ms) rest.0 rest.1,
      rest.2 ∙ ap (λ (u : Trail). extended u rest.0) (told_one k m t) ∙ extended_twice t.trail (step_events k m) rest.0,
    )

pub steps_tell : StepsTell
steps_tell t new k steps = (told_all steps t k, told_stops steps t new k)
