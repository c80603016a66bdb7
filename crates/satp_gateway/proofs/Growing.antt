-- The events of a set-up.
use Rattle.std.proofs.Common.{◌≡◌, ◌⊎◌, ℕ, zero, suc, Bool, true, false, List, [], ◌∷◌, ◌++◌, length, take, Option, Some, None, option_map, Result, Ok, Err, refl, sym, ap, ◌∙◌, subst, inl, inr}
use Rattle.satp_base.specs.Acts.{Asks}
use Rattle.satp_base.specs.Calls.{Told, ask_failed, call_failed, calls_of, events_in}
use Rattle.satp_base.specs.Segments.{IsCut, mend_events, open_events, shut_events, wants_gate}
use Rattle.satp_base.specs.Trail.{extended}
use Rattle.satp_base.specs.declared.area.Area.{Area}
use Rattle.satp_base.specs.declared.area.Area.TheVariants.{JournalA}
use Rattle.satp_base.specs.declared.area.Event.{Event}
use Rattle.satp_base.specs.declared.area.Event.TheVariants.{Acted, Cut, Founded, Left, Synced, Wrote}
use Rattle.satp_base.specs.declared.ledger.LedgerCall.TheVariants.{Found}
use Rattle.satp_base.proofs.Made.{GrowsBy, among_cut, failed_grows, made_grows, made_none}
use Rattle.satp_base.proofs.Trails.{extended_twice}
use Rattle.satp_journal.specs.Opening.{FailsToMend, OpenAnswers, open_calls, read_calls}
use Rattle.satp_journal.specs.State.{gate_of}
use Rattle.satp_journal.proofs.OpenLemmas.{opened_events}
use Rattle.satp_points.specs.States.{Tells}
use Rattle.satp_gateway.specs.SettingUp.{FailsToEstablish, FailsToFound, Opens, Plan, VacancyAnswers, VacantAnswers, founds, setup_events}
use Rattle.satp_gateway.specs.SetUpStops.{HasFounded}
use Rattle.satp_gateway.specs.declared.fault.SetUpFault.{SetUpFault}
use Rattle.satp_gateway.specs.declared.fault.SetUpFault.TheVariants.{Already, Damaged, Site, Memory}

-- ---- events without a founding

abbrev pub IsOther : Event → Type 0
IsOther Founded = ⊥
IsOther (Wrote area at bytes) = Unit {0}
IsOther (Cut area n) = Unit {0}
IsOther (Synced area) = Unit {0}
IsOther (Left area bytes) = Unit {0}
IsOther (Acted op session terms) = Unit {0}

abbrev pub NoneFounds : List Event → Type 0
NoneFounds [] = Unit {0}
NoneFounds (e ∷ es) = IsOther e × NoneFounds es

none_then : (before after : List Event) → NoneFounds (before ++ Founded ∷ after) → ⊥
none_then [] after none = none.0
none_then (e ∷ before) after none = none_then before after none.1

pub none_founded : (events : List Event) → NoneFounds events → HasFounded events → ⊥
none_founded events none (before, after, is) = none_then before after (subst NoneFounds is none)

pub none_take : (n : ℕ) (events : List Event) → NoneFounds events → NoneFounds (take n events)
none_take zero events none = tt
none_take (suc n) [] none = tt
none_take (suc n) (e ∷ events) none = (none.0, none_take n events none.1)

none_left : (events : List Event) (area : Area) (bytes : List ℕ) → NoneFounds events → NoneFounds (events ++ Left area bytes ∷ [])
none_left [] area bytes none = (tt, tt)
none_left (e ∷ events) area bytes none = (none.0, none_left events area bytes none.1)

none_cut : (whole events : List Event) → NoneFounds whole → IsCut whole events → NoneFounds events
none_cut whole events none (n, inl is) = subst NoneFounds (sym is) (none_take n whole none)
none_cut whole events none (n, inr (area, bytes, of, is)) = subst NoneFounds (sym is) (none_left (take n whole) area bytes (none_take n whole none))

none_opens : (image : List ℕ) (gate : ℕ) → NoneFounds (open_events JournalA image gate)
none_opens image gate = (tt, by (wants_gate image gate) refl)
  where
    by : (wants : Bool) → wants_gate image gate ≡ wants → NoneFounds (mend_events JournalA image gate)
    by true e = rw e (tt, (tt, tt))
    by false e = rw e tt

-- ---- the events of an opening

abbrev pub OpensBy : Option Told → Option Told → Type 0
OpensBy old new = (events : List Event) × NoneFounds events × GrowsBy events old new

none_calls : (image : List ℕ) (gate : ℕ) → NoneFounds (events_in (open_calls JournalA image gate))
none_calls image gate = subst NoneFounds (sym (opened_events JournalA image gate)) (none_opens image gate)

pub opens_by : (payloads : List (List ℕ)) (old new : Option Told) → Opens payloads old new → OpensBy old new
opens_by payloads old new (journal, list, (image, finds, is)) =
    let calls = open_calls JournalA image (gate_of journal.held) in (events_in calls, none_calls image (gate_of journal.held), made_grows (length calls) (events_in calls) old new is)

read_by : (n : ℕ) (old new : Option Told) → GrowsBy (Synced JournalA ∷ []) old new → OpensBy old new
read_by n old new grows = (Synced JournalA ∷ [], (tt, tt), grows)

pub opening_by : (fault : SetUpFault) (old new : Tells) → VacancyAnswers {V = Unit {0}} old new (Err fault) → OpensBy old.told new.told
opening_by Already old new ((payloads, some, opens), same) = opens_by payloads old.told new.told opens
opening_by (Damaged at) old new ((image, read, damage, is), same) = read_by 3 old.told new.told (made_grows 3 (Synced JournalA ∷ []) old.told new.told is)
opening_by Site old new (inl fails, same) = let r = among_cut (read_calls JournalA) old.told new.told fails in (r.0, none_cut (Synced JournalA ∷ []) r.0 (tt, tt) r.1, r.2)
opening_by Site old new (inr (image, held, finds, fails), same) =
    let r = among_cut (open_calls JournalA image (gate_of held)) old.told new.told fails in (r.0, none_cut _ r.0 (none_calls image (gate_of held)) r.1, r.2)
opening_by Memory old new (inl is, same) = read_by 2 old.told new.told (made_grows 2 (Synced JournalA ∷ []) old.told new.told is)
opening_by Memory old new (inr is, same) = read_by 3 old.told new.told (made_grows 3 (Synced JournalA ∷ []) old.told new.told is)

-- ---- the events of a founding and an append

-- none, or the founding and a cut of the append
abbrev pub FoundingEvents : Plan → List Event → Type 0
FoundingEvents p events = (events ≡ []) ⊎ ((es : List Event) × (events ≡ Founded ∷ es) × IsCut (setup_events p) es)

abbrev pub FoundsBy : Plan → Option Told → Option Told → Type 0
FoundsBy p old new = (events : List Event) × FoundingEvents p events × GrowsBy events old new

module _ (p : Plan) where
  grows_founded : (es : List Event) (old new : Option Told) → GrowsBy es (option_map (founds p) old) new → GrowsBy (Founded ∷ es) old new
  grows_founded es None new grows = grows
  grows_founded es (Some t) new grows = grows ∙ ap Some (extended_twice t.trail (Founded ∷ []) es)

  named_grows : (es : List Event) (old new : Option Told) → new ≡ option_map (ask_failed (Found p.kind p.genesis) es) old → GrowsBy es old new
  named_grows es None new is = ap (λ (o : Option Told). option_map (λ (t : Told). t.trail) o) is
  named_grows es (Some t) new is = ap (λ (o : Option Told). option_map (λ (t : Told). t.trail) o) is

  founding_is : (events : List Event) → (events ≡ Founded ∷ []) ⊎ (events ≡ []) → FoundingEvents p events
  founding_is events (inl one) = inr ([], one, (0, inl refl))
  founding_is events (inr none) = inl none

  fails_by : (old : Option Told) (new : Tells) → FailsToEstablish p old new → FoundsBy p old new.told
  fails_by old new (inl ((events, which, inl named), none)) = (events, founding_is events which, named_grows events old new.told named)
  fails_by old new (inl ((events, which, inr counted), none)) = (events, founding_is events which, failed_grows events old new.told counted)
  fails_by old new (inr (fails, genesis)) =
      let r = among_cut (calls_of (setup_events p)) (option_map (founds p) old) new.told fails in (Founded ∷ r.0, inr (r.0, refl, r.1), grows_founded r.0 old new.told r.2)

  pub founds_by : (old new : Tells) (result : Result (Unit {0}) SetUpFault) → VacantAnswers p old new result → FoundsBy p old.told new.told
  founds_by old new (Ok done) is = (Founded ∷ setup_events p, inr (setup_events p, refl, (4, inl refl)), grows_founded (setup_events p) old.told new.told (made_grows 4 (setup_events p) _ new.told is.0))
  founds_by old new (Err Site) fails = fails_by old.told new fails
  founds_by old new (Err Memory) same = ([], inl refl, made_grows 0 [] old.told new.told (same.0 ∙ sym (made_none old.told)))
  founds_by old new (Err Already) bad = absurd bad
  founds_by old new (Err (Damaged at)) bad = absurd bad
