-- An append, as its answer and as a stop leaves it.
use Rattle.std.proofs.Common.{◌≡◌, ◌<◌, ℕ, ◌+◌, List, [], ◌∷◌, ◌++◌, length, take, Option, Some, None, refl, sym, ap, ◌∙◌, subst, inl, arith, length-append}
use Rattle.std.proofs.lemmas.List.Sums.{fold-append}
use Rattle.satp_base.specs.declared.area.Area.{Area}
use Rattle.satp_base.specs.declared.area.Event.{Event}
use Rattle.satp_base.specs.Calls.{Told, Makes, FailsAmong, events_in}
use Rattle.satp_base.specs.Format.{IsPayload, counted, records}
use Rattle.satp_base.specs.Laws.{RestsAt}
use Rattle.satp_base.specs.Segments.{IsCut, append_events}
use Rattle.satp_base.specs.Trail.{Trail, Standing, KeepsModel, extended, next, overlaid, seen, settled}
use Rattle.satp_base.proofs.Appends.{records-push}
use Rattle.satp_base.proofs.Closing.{append_leaves, append_ends}
use Rattle.satp_base.proofs.Cuts.{cut_front}
use Rattle.satp_base.proofs.Made.{GrowsBy, among_cut, made_grows, made_none}
use Rattle.satp_base.proofs.Standings.{length-overlaid, same_area_refl}
use Rattle.satp_base.proofs.Trails.{keeps_front}
use Rattle.satp_journal.specs.State.{Held, Fits, gate_of}
use Rattle.satp_journal.specs.Appending.{AppendStops, AppendRests, append_calls, events_of}

-- what a device tells keeps the disk model
abbrev pub Keeps : Option Told → Type 0
Keeps told = (t : Told) → told ≡ Some t → KeepsModel t.trail

some_trail : {x y : Trail} → Some x ≡ Some y → x ≡ y
some_trail e = cc

pub trail_is : (t u : Told) (events : List Event) → GrowsBy events (Some t) (Some u) → u.trail ≡ extended t.trail events
trail_is t u events is = some_trail is

pub made_trail : (t u : Told) (calls : List (Option Event)) → Makes calls (Some t) (Some u) → u.trail ≡ extended t.trail (events_in calls)
made_trail t u calls is = trail_is t u (events_in calls) (made_grows (length calls) (events_in calls) (Some t) (Some u) is)

module _ (q : List ℕ) (held : Held) (ok : IsPayload q) where
  -- the events of an append that were added
  abbrev pub Adds : Option Told → Option Told → Type 0
  Adds old new = (events : List Event) × IsCut (events_of held q) events × GrowsBy events old new

  pub adds_none : (told : Option Told) → Adds told told
  adds_none told = ([], (0, inl refl), made_grows 0 [] told told (sym (made_none told)))

  pub adds_all : (old new : Option Told) → Makes (append_calls held q) old new → Adds old new
  adds_all old new is = (events_of held q, (4, inl refl), made_grows 4 (events_of held q) old new is)

  pub adds_some : (old new : Option Told) → FailsAmong (append_calls held q) old new → Adds old new
  adds_some old new fails = among_cut (append_calls held q) old new fails

  pub append_stops : (old new : Option Told) → Keeps new → Adds old new → AppendStops q held old new
  append_stops None new keeps adds = λ payloads at. tt
  append_stops (Some t) None keeps adds = λ payloads at rests. tt
  append_stops (Some t) (Some u) keeps (events, cut, is) = λ payloads at rests.
      let e = trail_is t u events is in
      let whole = subst (λ (n : ℕ). IsCut (append_events held.area n q) events) (sym at) cut in (
        events,
        e,
        λ n image here. append_leaves t.trail held.area payloads q (take n events) ok rests (cut_front (append_events held.area (length (records payloads)) q) events whole n) (keeps_front t.trail events n (subst KeepsModel e (keeps u refl))) image here,
      )

  pub append_rests : (old new : Option Told) → Keeps old → Makes (append_calls held q) old new → AppendRests q held old new
  append_rests None new keeps is = λ payloads at. tt
  append_rests (Some t) None keeps is = λ payloads at rests. tt
  append_rests (Some t) (Some u) keeps is = λ payloads at rests.
      subst (λ (x : Trail). RestsAt x held.area (payloads ++ q ∷ [])) (sym (made_trail t u (append_calls held q) is))
      (subst (λ (n : ℕ). RestsAt (extended t.trail (append_events held.area n q)) held.area (payloads ++ q ∷ [])) at (append_ends t.trail held.area payloads q ok rests (keeps t refl)))

seen_appended : (t : Trail) (area : Area) (gate : ℕ) (q : List ℕ) → seen (extended t (append_events area gate q)) area ≡ overlaid (overlaid (seen t area) (gate + 1) (counted q ++ 0 ∷ [])) gate (1 ∷ [])
seen_appended t area gate q = ap (λ (s : Standing). s.now) (fold-append (next area) (settled (t.start area)) t.events (append_events area gate q)) ∙ rw (same_area_refl area) refl

appended_within : (t : Trail) (area : Area) (gate : ℕ) (q : List ℕ) → gate < length (seen t area) → gate + length q + 3 < length (seen (extended t (append_events area gate q)) area)
appended_within t area gate q lt =
    let first = length-overlaid (seen t area) (gate + 1) (counted q ++ 0 ∷ []) (omega (arith, lt)) in
    let second = length-overlaid (overlaid (seen t area) (gate + 1) (counted q ++ 0 ∷ [])) gate (1 ∷ []) (omega (arith, lt, first)) in
    omega (arith, lt, first, second, ap length (seen_appended t area gate q), length-append (counted q) (0 ∷ []))

gate_more : (payloads : List (List ℕ)) (q : List ℕ) → length (records (payloads ++ q ∷ [])) ≡ length (records payloads) + length q + 3
gate_more payloads q = rw (records-push payloads q) (omega (arith, length-append (records payloads) (1 ∷ counted q)))

pub append_fits : (q : List ℕ) (held : Held) (after : List (List ℕ)) (old new : Option Told) → Fits held old → after ≡ held.payloads ++ q ∷ [] → Makes (append_calls held q) old new → Fits (record held { payloads = after }) new
append_fits q held after None new fits longer is x there = cc
append_fits q held after (Some t) new fits longer is x there =
    let e = made_trail t x (append_calls held q) (subst (Makes (append_calls held q) (Some t)) there is) in
    omega (arith, appended_within t.trail held.area (gate_of held) q (fits t refl), ap (λ (y : Trail). length (seen y held.area)) e, ap (λ (l : List (List ℕ)). length (records l)) longer, gate_more held.payloads q)
