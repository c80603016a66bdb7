use Rattle.std.proofs.Common.{◌≡◌, ◌≢◌, ◌≤◌, ℕ, Bool, true, false, List, [], ◌∷◌, ◌++◌, Some, None, take, Ok, Err, refl, sym, ap, ◌∙◌, subst, inl, inr, arith, lit≤, rules}
use Rattle.std.specs.List.{flat_map}
use Rattle.std.proofs.lemmas.List.{append_cancel_left}
use Rattle.std.specs.Prelude.{slice_index}
use Rattle.satp_base.specs.Acts.{founded}
use Rattle.satp_base.specs.Calls.{Told, made}
use Rattle.satp_base.specs.Format.{IsPayload, Stands}
use Rattle.satp_base.specs.Segments.{append_events}
use Rattle.satp_base.specs.Trail.{IsImage, KeepsModel, Trail, extended}
use Rattle.satp_base.specs.declared.area.Area.TheVariants.{JournalA}
use Rattle.satp_base.specs.declared.area.Event.{Event}
use Rattle.satp_base.specs.declared.area.Event.TheVariants.{Founded}
use Rattle.satp_base.proofs.Closing.{either_stands}
use Rattle.satp_base.proofs.Readings.{one_list}
use Rattle.satp_journal.specs.Opening.{Finds, Rests}
use Rattle.satp_journal.proofs.OpenLemmas.{mended_stops, open_rests}
use Rattle.satp_points.specs.States.{Tells, tells}
use Rattle.satp_gateway.specs.SettingUp.{IsVacant, SetUpAnswers, UnlessFailed, VacantAnswers}
use Rattle.satp_gateway.specs.SetUpStops.{IsInFounding, IsInSetUp, SetUpStops, VacantRests, VacantStops}
use Rattle.satp_gateway.specs.declared.fault.SetUpFault.TheVariants.{Already}
use Rattle.satp_gateway.proofs.Deciding.{decided}
use Rattle.satp_gateway.proofs.Growing.{none_founded}
use Rattle.satp_gateway.proofs.Stopping.{opened_stops, unopened_stops, vacant_rests, vacant_stops}
use Rattle.satp_examples.specs.Appending.{closed, held, uncalled, opened as journal_of}
use Rattle.satp_examples.specs.Journals.{abc, abc_then, d}
use Rattle.satp_examples.specs.Ledgers.{with_gold}
use Rattle.satp_examples.specs.Segments.{synced}
use Rattle.satp_examples.specs.SetUps.{empty, opened, plan, set_up, there}
use Rattle.satp_examples.specs.SetUpStops.{SetsUpBy, opens, stores}
use Rattle.satp_examples.proofs.Images.{is_whole}
use Rattle.satp_examples.proofs.set_up_stops.law_set_up_stops.Goals as goal

-- what is told before the set-up, after the opening and after all
old : Tells
old = tells (Some empty) None

vacancy : Tells
vacancy = tells (Some opened) None

whole : Tells
whole = tells (Some set_up) (Some (founded with_gold))

d_fits : IsPayload d
d_fits = search rules

finds : Finds JournalA (Some empty) (held []) []
finds = (refl, search rules, refl, refl)

is_vacant : IsVacant old vacancy
unfolding old vacancy
is_vacant = ((journal_of [], refl, ([], finds, refl)), refl)

established : VacantAnswers plan vacancy whole (Ok tt)
unfolding vacancy whole
established = (refl, (refl, refl))

some : abc ∷ [] ≢ []
some e = absurd cc

already : SetUpAnswers plan (tells (Some (uncalled closed)) None) (tells (Some there) None) (Err Already)
already = inl ((abc ∷ [], some, (journal_of (abc ∷ []), refl, (closed, (refl, is_whole, refl, refl), refl))), refl)

same_told : (t u : Told) → Some t ≡ Some u → t ≡ u
same_told t u e = cc

keeps_set_up : (t : Told) → Some set_up ≡ Some t → KeepsModel t.trail
keeps_set_up t e = subst (λ (x : Told). KeepsModel x.trail) (same_told set_up t e) (λ area. (tt, (tt, (tt, (tt, (tt, (tt, (tt, (tt, tt)))))))))

keeps_there : (t : Told) → Some there ≡ Some t → KeepsModel t.trail
keeps_there t e = subst (λ (x : Told). KeepsModel x.trail) (same_told there t e) (λ area. (tt, tt))

keeps_opened : (t : Told) → Some opened ≡ Some t → KeepsModel t.trail
keeps_opened t e = subst (λ (x : Told). KeepsModel x.trail) (same_told opened t e) (λ area. (tt, (tt, (tt, tt))))

journal_rests : Rests (Some opened) (held [])
journal_rests = open_rests JournalA (held []) [] (Some empty) (Some opened) finds refl

vacant_stopped : VacantStops plan (Some opened) (Some set_up)
unfolding vacancy whole
vacant_stopped = vacant_stops plan d_fits vacancy whole (Ok tt) keeps_set_up established

vacant_rested : VacantRests plan (Some opened) (Some set_up)
unfolding vacancy whole
vacant_rested = vacant_rests plan d_fits (Some opened) whole keeps_set_up established

stopped : SetUpStops plan (Some empty) (Some set_up)
unfolding old vacancy whole
stopped = opened_stops plan d_fits old vacancy whole (Ok tt) keeps_set_up is_vacant (mended_stops JournalA (held []) [] (Some empty) (Some opened) keeps_opened finds refl) journal_rests established

over_there : SetUpStops plan (Some (uncalled closed)) (Some there)
over_there =
    unopened_stops plan Already (tells (Some (uncalled closed)) None) (tells (Some there) None) ((abc ∷ [], some, (journal_of (abc ∷ []), refl, (closed, (refl, is_whole, refl, refl), refl))), refl)
    (mended_stops JournalA (held (abc ∷ [])) closed (Some (uncalled closed)) (Some there) keeps_there (refl, is_whole, refl, refl) refl)

-- what is said at one event, of the events that are there
at_event : (old : Told) (events : List Event) → old.trail.events ≡ [] → SetsUpBy old events → (n : ℕ) (image : List ℕ) → IsImage (extended old.trail (take n events)) JournalA image → IsInSetUp plan old.trail (take n events) image
at_event old events none (all, is, at) n image left =
    let same : events ≡ all = subst (λ es. es ++ events ≡ es ++ all) none (ap (λ (t : Trail). t.events) is) in
    subst (λ es. IsInSetUp plan old.trail (take n es) image) (sym same) (at n image (subst (λ es. IsImage (extended old.trail (take n es)) JournalA image) same left))

-- ---- what an empty area may become

other_stands : Stands (1 ∷ 0 ∷ 1 ∷ 101 ∷ 0 ∷ []) ((101 ∷ []) ∷ [])
other_stands = search rules

abbrev first_byte : List (List ℕ) → ℕ
first_byte qs = slice_index (flat_map (λ q. q) qs) 0

too_early : ¬ SetsUpBy empty (opens ++ stores ++ Founded ∷ [])
too_early h =
    let opening = (at_event empty _ refl h 7 (1 ∷ 0 ∷ 1 ∷ 100 ∷ 0 ∷ []) (search rules)).before (none_founded (opens ++ stores) (tt, (tt, (tt, (tt, (tt, (tt, (tt, tt)))))))) in
    let bad : 5 ≤ 1 = opening.short _ refl (lit≤ tt) in
    absurd (omega (arith, bad))

-- the record stands before the founding
vacant_too_early : ¬ VacantStops plan (Some opened) (Some (made 5 (stores ++ Founded ∷ []) opened))
vacant_too_early h =
    let s = h journal_rests in
    let same : stores ++ Founded ∷ [] ≡ s.0 = append_cancel_left opened.trail.events (stores ++ Founded ∷ []) s.0 (ap (λ (t : Trail). t.events) s.1) in
    let at : (n : ℕ) (image : List ℕ) → IsImage (extended opened.trail (take n (stores ++ Founded ∷ []))) JournalA image → IsInFounding plan (take n (stores ++ Founded ∷ [])) image =
    λ n image left. subst (λ es. IsInFounding plan (take n es) image) (sym same) (s.2 n image (subst (λ es. IsImage (extended opened.trail (take n es)) JournalA image) same left)) in
    let rest = (at 4 (1 ∷ 0 ∷ 1 ∷ 100 ∷ 0 ∷ []) (search rules)).before (none_founded stores (tt, (tt, (tt, (tt, tt))))) in
    let bytes = rest.1.bytes in
    absurd cc

other_record : ¬ SetsUpBy empty (opens ++ Founded ∷ append_events JournalA 0 (101 ∷ []))
other_record h = elim (either_stands [] d _ d_fits ((at_event empty _ refl h 8 (1 ∷ 0 ∷ 1 ∷ 101 ∷ 0 ∷ []) (search rules)).after (opens, append_events JournalA 0 (101 ∷ []), refl)).1) [
  | inl none ↦ let same = one_list _ [] ((101 ∷ []) ∷ []) none other_stands in absurd cc
  | inr stored ↦ let same = one_list _ (d ∷ []) ((101 ∷ []) ∷ []) stored other_stands in let bad : 100 ≡ 101 = ap first_byte same in absurd (omega (arith, bad))
]

behind_record : ¬ SetsUpBy (uncalled closed) (synced ∷ Founded ∷ append_events JournalA 6 d)
behind_record h =
    let read = ((at_event (uncalled closed) _ refl h 6 (abc_then (1 ∷ 0 ∷ 1 ∷ 100 ∷ 0 ∷ [])) (search rules)).after (synced ∷ [], append_events JournalA 6 d, refl)).0 in
    let same = one_list closed [] (abc ∷ []) read is_whole in absurd cc

-- ---- all of it

not_done : UnlessFailed (Ok tt) (Err Already) → ⊥
not_done (inl e) = absurd cc
not_done (inr (inl e)) = absurd cc
not_done (inr (inr e)) = absurd cc

pub returns : goal.returns
returns c = record {
  whole = stopped;
  over_a_record = over_there;
  not_stored_before_the_founding = too_early;
  not_another_record = other_record;
  not_behind_another_record = behind_record;
  over_a_vacancy = vacant_stopped;
  not_stored_over_a_vacancy_before_the_founding = vacant_too_early;
  rests_over_a_vacancy = vacant_rested;
  not_at_rest_unfounded = λ h. let bytes = (h journal_rests (0 ∷ []) (search rules)).1.bytes in absurd cc;
  rests = vacant_rested journal_rests;
  not_without_the_record = λ h. let bytes = (h (0 ∷ []) (search rules)).1.bytes in absurd cc;
  not_with_a_record_more = λ h. let bytes = (h (1 ∷ 0 ∷ 1 ∷ 100 ∷ 1 ∷ 0 ∷ 3 ∷ 97 ∷ 98 ∷ 99 ∷ 0 ∷ []) (search rules)).1.bytes in absurd cc;
  decided = decided plan (tells (Some (uncalled closed)) None) (tells (Some there) None) (Err Already) already;
  not_done_over_a_record = λ h. not_done (h.1 (abc ∷ []) some is_whole);
}
