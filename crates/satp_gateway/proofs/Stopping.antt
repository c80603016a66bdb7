-- What a stop leaves of a set-up, and what the whole of it leaves.
use Rattle.std.proofs.Common.{◌≡◌, ◌<◌, ◌≤◌, ◌⊎◌, ◌-◌, ℕ, zero, suc, ◌+◌, List, [], ◌∷◌, ◌++◌, length, take, Option, Some, None, option_map, Result, Ok, Err, refl, sym, ap, subst, ◌∙◌, inl, inr, arith, append_assoc}
use Rattle.std.specs.Prelude.{OnOk}
use Rattle.std.proofs.lemmas.Bool.{cases_lt}
use Rattle.std.proofs.lemmas.List.{append-nil, append_cancel_left, take-append-le}
use Rattle.std.proofs.lemmas.List.Sums.{fold-append}
use Rattle.std.proofs.Math.Seq.{take-append-add}
use Rattle.satp_base.specs.declared.area.Area.TheVariants.{JournalA}
use Rattle.satp_base.specs.declared.area.Event.{Event}
use Rattle.satp_base.specs.declared.area.Event.TheVariants.{Founded}
use Rattle.satp_base.specs.Calls.{Told, Makes, calls_of}
use Rattle.satp_base.specs.Format.{IsPayload, Stands}
use Rattle.satp_base.specs.Laws.{IsInAppend, RestsAt}
use Rattle.satp_base.specs.Segments.{IsCut}
use Rattle.satp_base.specs.Trail.{Trail, Standing, IsImage, KeepsModel, Leaves, extended, next, seen, settled, standing}
use Rattle.satp_base.proofs.Closing.{append_leaves, append_ends}
use Rattle.satp_base.proofs.Cuts.{cut_front}
use Rattle.satp_base.proofs.Made.{GrowsBy, made_grows}
use Rattle.satp_base.proofs.Standings.{take_nil}
use Rattle.satp_base.proofs.Trails.{extended_none, extended_twice, keeps_before, keeps_front}
use Rattle.satp_journal.specs.Opening.{IsInOpening, OpenStops, Rests}
use Rattle.satp_journal.proofs.AppendLemmas.{Keeps, trail_is}
use Rattle.satp_points.specs.States.{Tells, tells}
use Rattle.satp_gateway.specs.SettingUp.{Establishes, IsVacant, Opens, Plan, RestsSetUp, VacancyAnswers, VacantAnswers, founds, setup_events}
use Rattle.satp_gateway.specs.SettingUp.{vacant as vacant_journal}
use Rattle.satp_gateway.specs.SetUpStops.{HasFounded, IsInFounding, IsInSetUp, SetUpStops, VacantRests, VacantStops}
use Rattle.satp_gateway.specs.declared.fault.SetUpFault.{SetUpFault}
use Rattle.satp_gateway.proofs.Deciding.{opens_stands}
use Rattle.satp_gateway.proofs.Growing.{FoundingEvents, FoundsBy, NoneFounds, OpensBy, founds_by, none_founded, none_take, opening_by, opens_by}

-- a founding changes no area
stands_founded : (t : Trail) → standing (extended t (Founded ∷ [])) JournalA ≡ standing t JournalA
stands_founded t = fold-append (next JournalA) (settled (t.start JournalA)) t.events (Founded ∷ [])

rests_founded : (t : Trail) → RestsAt t JournalA [] → RestsAt (extended t (Founded ∷ [])) JournalA []
rests_founded t rests image here = rests image (subst (λ (s : Standing). Leaves s image) (stands_founded t) here)

nothing_founded : HasFounded [] → ⊥
nothing_founded has = none_founded [] tt has

module _ (p : Plan) where
  -- ---- over an open journal

  module _ (ok : IsPayload p.payload) (t : Trail) (rests : RestsAt t JournalA []) where
    unfounded : (image : List ℕ) → IsImage (extended t []) JournalA image → IsInFounding p [] image
    unfounded image here = record { before = λ none. rests image (subst (λ (x : Trail). IsImage x JournalA image) (extended_none t) here); after = λ has. absurd (nothing_founded has) }

    -- from the founding on
    appended : (es : List Event) → IsCut (setup_events p) es → KeepsModel (extended t (Founded ∷ es)) → (k : ℕ) (image : List ℕ) → IsImage (extended t (Founded ∷ take k es)) JournalA image → IsInAppend [] p.payload image
    appended es cut keeps k image here =
        append_leaves (extended t (Founded ∷ [])) JournalA [] p.payload (take k es) ok (rests_founded t rests) (cut_front (setup_events p) es cut k)
        (subst KeepsModel (sym (extended_twice t (Founded ∷ []) (take k es))) (keeps_front t (Founded ∷ es) (suc k) keeps)) image (subst (λ (x : Trail). IsImage x JournalA image) (sym (extended_twice t (Founded ∷ []) (take k es))) here)

    founded : (es : List Event) → IsCut (setup_events p) es → KeepsModel (extended t (Founded ∷ es)) → (n : ℕ) (image : List ℕ) → IsImage (extended t (take n (Founded ∷ es))) JournalA image → IsInFounding p (take n (Founded ∷ es)) image
    founded es cut keeps zero image here = unfounded image here
    founded es cut keeps (suc k) image here = record { before = λ none. absurd (none ([], take k es, refl)); after = λ has. appended es cut keeps k image here }

    in_founding : (events : List Event) → FoundingEvents p events → KeepsModel (extended t events) → (n : ℕ) (image : List ℕ) → IsImage (extended t (take n events)) JournalA image → IsInFounding p (take n events) image
    in_founding events (inl none) keeps n image here =
        let e : take n events ≡ [] = ap (take n) none ∙ take_nil n in subst (λ (l : List Event). IsInFounding p l image) (sym e) (unfounded image (subst (λ (l : List Event). IsImage (extended t l) JournalA image) e here))
    in_founding events (inr (es, is, cut)) keeps n image here =
        subst (λ (l : List Event). IsInFounding p (take n l) image) (sym is)
        (founded es cut (subst (λ (l : List Event). KeepsModel (extended t l)) is keeps) n image (subst (λ (l : List Event). IsImage (extended t (take n l)) JournalA image) is here))

  vacant_by : IsPayload p.payload → (old new : Option Told) → Keeps new → FoundsBy p old new → VacantStops p old new
  vacant_by ok None new keeps founds = tt
  vacant_by ok (Some t) None keeps founds = λ rests. tt
  vacant_by ok (Some t) (Some u) keeps (events, which, grows) = λ rests.
      let e = trail_is t u events grows in (events, e, in_founding ok t.trail rests events which (subst KeepsModel e (keeps u refl)))

  pub vacant_stops : IsPayload p.payload → (old new : Tells) (result : Result (Unit {0}) SetUpFault) → Keeps new.told → VacantAnswers p old new result → VacantStops p old.told new.told
  vacant_stops ok old new result keeps answers = vacant_by ok old.told new.told keeps (founds_by p old new result answers)

  pub vacant_rests : IsPayload p.payload → (old : Option Told) (new : Tells) → Keeps new.told → Establishes p old new → VacantRests p old new.told
  vacant_rests ok old new keeps is = by old new.told keeps (founds_by p (tells old None) new (Ok tt) is) is.0
    where
      by : (o n : Option Told) → Keeps n → FoundsBy p o n → Makes (calls_of (setup_events p)) (option_map (founds p) o) n → VacantRests p o n
      by None n keeps grows makes = tt
      by (Some t) None keeps grows makes = λ rests. tt
      by (Some t) (Some u) keeps grows makes = λ rests.
          let e : u.trail ≡ extended (extended t.trail (Founded ∷ [])) (setup_events p) = trail_is (founds p t) u (setup_events p) (made_grows 4 (setup_events p) (Some (founds p t)) (Some u) makes) in
          subst (λ (x : Trail). RestsAt x JournalA (p.payload ∷ [])) (sym e)
          (append_ends (extended t.trail (Founded ∷ [])) JournalA [] p.payload ok (rests_founded t.trail rests) (keeps_before (extended t.trail (Founded ∷ [])) (setup_events p) (subst KeepsModel e (keeps u refl))))

  -- ---- all of it

  -- an opening, which founds nothing
  module _ (t m : Told) (stops : OpenStops JournalA (Some t) (Some m)) (by : OpensBy (Some t) (Some m)) where
    abbrev first : List Event
    first = stops.0

    first_none : NoneFounds first
    first_none = subst NoneFounds (append_cancel_left t.trail.events by.0 first (ap (λ (x : Trail). x.events) (sym (trail_is t m by.0 by.2) ∙ stops.1))) by.1

    early : (n : ℕ) (image : List ℕ) → IsImage (extended t.trail (take n first)) JournalA image → IsInSetUp p t.trail (take n first) image
    early n image here = record { before = λ none. stops.2 n image here; after = λ has. absurd (none_founded (take n first) (none_take n first first_none) has) }

    pub opening_alone : SetUpStops p (Some t) (Some m)
    opening_alone = (first, stops.1, early)

    module _ (ok : IsPayload p.payload) (stands : Stands (seen t.trail JournalA) []) (rests : RestsAt m.trail JournalA []) where
      along : (es : List Event) → extended t.trail (first ++ es) ≡ extended m.trail es
      along es = sym (extended_twice t.trail first es) ∙ ap (λ (x : Trail). extended x es) (sym stops.1)

      late : (es : List Event) → IsCut (setup_events p) es → KeepsModel (extended m.trail (Founded ∷ es)) → (n : ℕ) (image : List ℕ) → IsImage (extended t.trail (take n (first ++ Founded ∷ es))) JournalA image → IsInSetUp p t.trail (take n (first ++ Founded ∷ es)) image
      late es cut keeps n image here = at (cases_lt (length first) n)
        where
          at : (length first < n) ⊎ (n ≤ length first) → IsInSetUp p t.trail (take n (first ++ Founded ∷ es)) image
          at (inr le) =
              let front = take-append-le n first (Founded ∷ es) le in
              subst (λ (l : List Event). IsInSetUp p t.trail l image) (sym front) (early n image (subst (λ (l : List Event). IsImage (extended t.trail l) JournalA image) front here))
          at (inl lt) =
              let k = n - length first - 1 in
              let is_n : n ≡ length first + suc k = omega (arith, lt) in
              let front : take n (first ++ Founded ∷ es) ≡ first ++ Founded ∷ take k es = ap (λ (i : ℕ). take i (first ++ Founded ∷ es)) is_n ∙ take-append-add first (Founded ∷ es) (suc k) in
              subst (λ (l : List Event). IsInSetUp p t.trail l image) (sym front) (record {
                before = λ none. absurd (none (first, take k es, refl));
                after = λ has. (
                  stands,
                  appended ok m.trail rests es cut keeps k image
                      (subst (λ (x : Trail). IsImage x JournalA image) (along (Founded ∷ take k es)) (subst (λ (l : List Event). IsImage (extended t.trail l) JournalA image) front here)),
                );
              })

      pub then_founding : (u : Told) → KeepsModel u.trail → FoundsBy p (Some m) (Some u) → SetUpStops p (Some t) (Some u)
      then_founding u keeps (events, inl none, grows) =
          let same : u.trail ≡ m.trail = trail_is m u events grows ∙ ap (extended m.trail) none ∙ extended_none m.trail in (first, same ∙ stops.1, early)
      then_founding u keeps (events, inr (es, is, cut), grows) =
          let e : u.trail ≡ extended m.trail (Founded ∷ es) = trail_is m u events grows ∙ ap (extended m.trail) is in (first ++ Founded ∷ es, e ∙ sym (along (Founded ∷ es)), late es cut (subst KeepsModel e keeps))

  pub unopened_stops : (fault : SetUpFault) (old new : Tells) → VacancyAnswers {V = Unit {0}} old new (Err fault) → OpenStops JournalA old.told new.told → SetUpStops p old.told new.told
  unopened_stops fault old new answers stops = by old.told new.told stops (opening_by fault old new answers)
    where
      by : (o n : Option Told) → OpenStops JournalA o n → OpensBy o n → SetUpStops p o n
      by None n stops opens = tt
      by (Some t) None stops opens = tt
      by (Some t) (Some u) stops opens = opening_alone t u stops opens

  pub opened_stops : IsPayload p.payload → (old opened new : Tells) (result : Result (Unit {0}) SetUpFault) → Keeps new.told → IsVacant old opened → OpenStops JournalA old.told opened.told → Rests opened.told vacant_journal
      → VacantAnswers p opened new result → SetUpStops p old.told new.told
  opened_stops ok old opened new result keeps vacant stops rests answers = by old.told opened.told new.told keeps vacant.0 stops rests (founds_by p opened new result answers)
    where
      by : (o m n : Option Told) → Keeps n → Opens [] o m → OpenStops JournalA o m → Rests m vacant_journal → FoundsBy p m n → SetUpStops p o n
      by None m n keeps opens stops rests founds = tt
      by (Some t) m None keeps opens stops rests founds = tt
      by (Some t) None (Some u) keeps opens stops rests founds = absurd (let e = opens.2.2 in cc)
      by (Some t) (Some m) (Some u) keeps opens stops rests founds = then_founding t m stops (opens_by [] (Some t) (Some m) opens) ok (opens_stands [] t (Some m) opens) rests u (keeps u refl) founds

  pub rests_set_up : (opened new : Option Told) → Makes (calls_of (setup_events p)) (option_map (founds p) opened) new → Rests opened vacant_journal → VacantRests p opened new → RestsSetUp p new
  rests_set_up None None is rests still = tt
  rests_set_up None (Some u) is rests still = absurd cc
  rests_set_up (Some m) None is rests still = tt
  rests_set_up (Some m) (Some u) is rests still = still rests
