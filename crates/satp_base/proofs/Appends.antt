-- An append behind a closed gate, one event after the other.
use Rattle.std.proofs.Common.{◌≡◌, ◌≤◌, ◌<◌, ◌⊎◌, ℕ, zero, suc, ◌+◌, List, [], ◌∷◌, ◌++◌, length, take, drop, get_or, set, refl, sym, ap, ◌∙◌, subst, inl, inr, arith, append_assoc, length-append}
use Rattle.std.proofs.lemmas.List.{append-nil, length-take, take_at, drop_at, take-append-drop}
use Rattle.std.proofs.lemmas.List.Sums.{fold-append}
use Rattle.std.specs.List.{fold, AllByRecursion}
use Rattle.satp_base.specs.declared.area.Area.{Area}
use Rattle.satp_base.specs.declared.area.Event.{Event}
use Rattle.satp_base.specs.Trail.{Trail, Standing, Leaves, settled, overlaid, wrote, next, standing, extended, IsImage, KeepsModel, KeepsFrom}
use Rattle.satp_base.specs.Format.{IsPayload, counted, records, EndsAt}
use Rattle.satp_base.specs.Segments.{IsCut, append_events}
use Rattle.satp_base.proofs.Standings.{IsSound, sound-settled, image_of_base, write_behind, sound_along, reads_along, keeps_split, here_settled, same_area_refl, only_settled, one_free, take_nil, cut_leaves}

pub records-push : (payloads : List (List ℕ)) (q : List ℕ) → records (payloads ++ q ∷ []) ≡ records payloads ++ 1 ∷ counted q
records-push [] q = append-nil (1 ∷ counted q)
records-push (p ∷ payloads) q = rw (records-push payloads q, append_assoc (1 ∷ counted p) (records payloads) (1 ∷ counted q)) refl

pub valid-push : (payloads : List (List ℕ)) (q : List ℕ) → IsPayload q → AllByRecursion IsPayload payloads → AllByRecursion IsPayload (payloads ++ q ∷ [])
valid-push [] q ok valid = (ok, tt)
valid-push (p ∷ payloads) q ok valid = (valid.0, valid-push payloads q ok valid.1)

pub set_gate : (xs : List ℕ) (rest : List ℕ) (old gate : ℕ) → set (xs ++ old ∷ rest) (length xs) gate ≡ xs ++ gate ∷ rest
set_gate [] rest old gate = refl
set_gate (x ∷ xs) rest old gate = ap (λ (l : List ℕ). x ∷ l) (set_gate xs rest old gate)

-- one byte laid over a gate
pub laid_over_gate : (front rest : List ℕ) (old gate : ℕ) → overlaid (front ++ old ∷ rest) (length front) (gate ∷ []) ≡ front ++ gate ∷ rest
laid_over_gate front rest old gate = rw (take_at front (old ∷ rest) _ refl, past, append_assoc front (gate ∷ []) rest) refl
  where
    past : drop (length front + 1) (front ++ old ∷ rest) ≡ rest
    past = rw (← append_assoc front (old ∷ []) rest) (drop_at (front ++ old ∷ []) rest _ (length-append front (old ∷ [])))

-- the record behind an open gate is one of the list
pub longer_ends : (payloads : List (List ℕ)) (q behind image : List ℕ) → IsPayload q → EndsAt payloads 1 (counted q ++ 0 ∷ behind) image → EndsAt (payloads ++ q ∷ []) 0 behind image
longer_ends payloads q behind image ok ends =
    record { valid = valid-push payloads q ok ends.valid; bytes = ends.bytes ∙ sym (rw (records-push payloads q, append_assoc (records payloads) (1 ∷ counted q) (0 ∷ behind)) refl) }

-- The gates that count as closed: 0 is one of them.
module _ (IsShut : ℕ → Type 0) (zero_shuts : IsShut 0) where
  -- these payloads, and then such a gate
  abbrev pub Ends : List (List ℕ) → List ℕ → Type 0
  Ends payloads image = (gate : ℕ) × (behind : List ℕ) × IsShut gate × EndsAt payloads gate behind image

  -- that, or some gate with the whole record behind it
  abbrev pub Stores : List (List ℕ) → List ℕ → List ℕ → Type 0
  Stores payloads q image = Ends payloads image ⊎ ((gate : ℕ) × (behind : List ℕ) × EndsAt payloads gate (counted q ++ 0 ∷ behind) image)

  module _ (payloads : List (List ℕ)) (q : List ℕ) where
    front_is : (image behind : List ℕ) (gate : ℕ) → image ≡ records payloads ++ gate ∷ behind → take (length (records payloads) + 1) image ≡ records payloads ++ gate ∷ []
    front_is image behind gate is = rw (is, ← append_assoc (records payloads) (gate ∷ []) behind) (take_at (records payloads ++ gate ∷ []) behind _ (length-append (records payloads) (gate ∷ [])))

    -- the front up to the closed gate decides
    ends_by_front : (d c : List ℕ) → Ends payloads d → take (length (records payloads) + 1) d ≡ take (length (records payloads) + 1) c → Ends payloads c
    ends_by_front d c (gate, behind, shut, ends) same = (gate, drop (length (records payloads) + 1) c, shut, record { valid = ends.valid; bytes = whole })
      where
        whole : c ≡ records payloads ++ gate ∷ drop (length (records payloads) + 1) c
        whole =
            sym (take-append-drop (length (records payloads) + 1) c)
            ∙ ap (λ (l : List ℕ). l ++ drop (length (records payloads) + 1) c) (sym same ∙ front_is d behind gate ends.bytes)
            ∙ append_assoc (records payloads) (gate ∷ []) (drop (length (records payloads) + 1) c)

    -- what the frame makes of an area whose gate is closed
    framed : (now behind frame : List ℕ) (gate : ℕ) → now ≡ records payloads ++ gate ∷ behind → (tail : List ℕ) × (overlaid now (length (records payloads) + 1) frame ≡ records payloads ++ gate ∷ (frame ++ tail))
    framed now behind frame gate is = (drop (length (records payloads) + 1 + length frame) now, whole)
      where
        whole : overlaid now (length (records payloads) + 1) frame ≡ records payloads ++ gate ∷ (frame ++ drop (length (records payloads) + 1 + length frame) now)
        whole = rw (front_is now behind gate is, append_assoc (records payloads ++ gate ∷ []) frame _, append_assoc (records payloads) (gate ∷ []) _) refl

    abbrev frame : List ℕ
    frame = counted q ++ 0 ∷ []

    -- from an area whose gate is closed on
    module _ (s : Standing) (sound : IsSound s) (here : Leaves s s.now) (closed : (c : List ℕ) → Leaves s c → Ends payloads c) (ok : IsPayload q) where
      first : Ends payloads (take s.least s.base)
      first = closed _ (image_of_base s sound)

      gate_below : length (records payloads) + 1 ≤ s.least
      gate_below = omega (arith, ap length first.3.bytes, length-take s.least s.base, length-append (records payloads) (first.0 ∷ first.1), sound.base)

      abbrev one : Standing
      one = wrote s (length (records payloads) + 1) frame

      in_one : (c : List ℕ) → Leaves one c → Ends payloads c
      in_one c leaves =
          let d = write_behind s (length (records payloads) + 1) (length (records payloads) + 1) frame c sound gate_below (omega arith) (omega (arith, gate_below, here.no_shorter)) leaves in
          ends_by_front d.0 c (closed d.0 d.1) d.2

      closed_now : Ends payloads s.now
      closed_now = closed s.now here

      abbrev gate : ℕ
      gate = closed_now.0

      staged : (tail : List ℕ) × (one.now ≡ records payloads ++ gate ∷ (frame ++ tail))
      staged = framed s.now closed_now.1 frame gate closed_now.3.bytes

      frame_is : frame ++ staged.0 ≡ counted q ++ 0 ∷ staged.0
      frame_is = append_assoc (counted q) (0 ∷ []) staged.0

      in_two : (c : List ℕ) → Leaves (settled one.now) c → Ends payloads c
      in_two c leaves = (gate, frame ++ staged.0, closed_now.2, record { valid = first.3.valid; bytes = only_settled one.now c leaves ∙ staged.1 })

      abbrev three : Standing
      three = wrote (settled one.now) (length (records payloads)) (1 ∷ [])

      in_three : (c : List ℕ) → Leaves three c → Stores payloads q c
      in_three c leaves = inr (get_or c (length (records payloads)) 0, staged.0, record { valid = first.3.valid; bytes = whole })
        where
          short : length (records payloads) < length one.now
          short = rw staged.1 (omega (arith, length-append (records payloads) (gate ∷ (frame ++ staged.0))))

          whole : c ≡ records payloads ++ get_or c (length (records payloads)) 0 ∷ (counted q ++ 0 ∷ staged.0)
          whole =
              one_free one.now c (length (records payloads)) 1 short leaves
              ∙ ap (λ (l : List ℕ). set l (length (records payloads)) (get_or c (length (records payloads)) 0)) staged.1
              ∙ set_gate (records payloads) (frame ++ staged.0) gate _
              ∙ ap (λ (l : List ℕ). records payloads ++ get_or c (length (records payloads)) 0 ∷ l) frame_is

      now_four : overlaid one.now (length (records payloads)) (1 ∷ []) ≡ records payloads ++ 1 ∷ (counted q ++ 0 ∷ staged.0)
      now_four =
          ap (λ (l : List ℕ). overlaid l (length (records payloads)) (1 ∷ [])) staged.1
          ∙ laid_over_gate (records payloads) (frame ++ staged.0) gate 1
          ∙ ap (λ (l : List ℕ). records payloads ++ 1 ∷ l) frame_is

      in_four : (c : List ℕ) → Leaves (settled (overlaid one.now (length (records payloads)) (1 ∷ []))) c → EndsAt payloads 1 (counted q ++ 0 ∷ staged.0) c
      in_four c leaves = record { valid = first.3.valid; bytes = only_settled _ c leaves ∙ now_four }

      -- how the area stands behind n of the events
      abbrev states : ℕ → Standing
      states zero = s
      states (suc zero) = one
      states (suc (suc zero)) = settled one.now
      states (suc (suc (suc zero))) = three
      states (suc (suc (suc (suc n)))) = settled (overlaid one.now (length (records payloads)) (1 ∷ []))

      in_states : (n : ℕ) (c : List ℕ) → Leaves (states n) c → Stores payloads q c
      in_states zero c leaves = inl (closed c leaves)
      in_states (suc zero) c leaves = inl (in_one c leaves)
      in_states (suc (suc zero)) c leaves = inl (in_two c leaves)
      in_states (suc (suc (suc zero))) c leaves = in_three c leaves
      in_states (suc (suc (suc (suc n)))) c leaves = inr (1, staged.0, in_four c leaves)

      abbrev whole_of : Area → List Event
      whole_of area = append_events area (length (records payloads)) q

      -- the write of the frame and its sync leave the gate closed
      before_gate : (area : Area) (n : ℕ) (c : List ℕ) → Leaves (fold (next area) s (take n (take 2 (whole_of area)))) c → Ends payloads c
      before_gate area zero c leaves = closed c leaves
      before_gate area (suc zero) c leaves = in_one c (subst (λ (st : Standing). Leaves st c) folded leaves)
        where
          folded : fold (next area) s (take 1 (take 2 (whole_of area))) ≡ one
          folded = rw (same_area_refl area) refl
      before_gate area (suc (suc n)) c leaves = in_two c (subst (λ (st : Standing). Leaves st c) folded leaves)
        where
          folded : fold (next area) s (take (suc (suc n)) (take 2 (whole_of area))) ≡ settled one.now
          folded = rw (same_area_refl area, take_nil n) refl

      cut_before_gate : (area : Area) (events : List Event) → IsCut (take 2 (whole_of area)) events → KeepsFrom area s events → (c : List ℕ) → Leaves (fold (next area) s events) c → Ends payloads c
      cut_before_gate area events cut keeps c leaves = before_gate area cut.0 c (cut_leaves area (take 2 (whole_of area)) s events cut keeps c leaves)

      fold_states : (area : Area) (n : ℕ) → fold (next area) s (take n (whole_of area)) ≡ states n
      fold_states area zero = refl
      fold_states area (suc zero) = rw (same_area_refl area) refl
      fold_states area (suc (suc zero)) = rw (same_area_refl area) refl
      fold_states area (suc (suc (suc zero))) = rw (same_area_refl area) refl
      fold_states area (suc (suc (suc (suc n)))) = rw (same_area_refl area, take_nil n) refl

      all_four : (n : ℕ) (c : List ℕ) → 4 ≤ n → Leaves (states n) c → EndsAt payloads 1 (counted q ++ 0 ∷ staged.0) c
      all_four zero c le leaves = absurd (omega (arith, le))
      all_four (suc zero) c le leaves = absurd (omega (arith, le))
      all_four (suc (suc zero)) c le leaves = absurd (omega (arith, le))
      all_four (suc (suc (suc zero))) c le leaves = absurd (omega (arith, le))
      all_four (suc (suc (suc (suc n)))) c le leaves = in_four c leaves

      -- the whole append is among these events
      four_of : (area : Area) (events more : List Event) → (cut : IsCut (whole_of area) events) → events ≡ whole_of area ++ more → 4 ≤ cut.0
      four_of area events more (zero, inl is) e = absurd cc
      four_of area events more (zero, inr (a, bytes, of, is)) e = absurd cc
      four_of area events more (suc zero, inl is) e = absurd cc
      four_of area events more (suc zero, inr (a, bytes, of, is)) e = absurd cc
      four_of area events more (suc (suc zero), inl is) e = absurd cc
      four_of area events more (suc (suc zero), inr (a, bytes, of, is)) e = absurd cc
      four_of area events more (suc (suc (suc zero)), inl is) e = absurd cc
      four_of area events more (suc (suc (suc zero)), inr (a, bytes, of, is)) e = absurd cc
      four_of area events more (suc (suc (suc (suc n))), is) e = omega arith

      cut_after : (area : Area) (events more : List Event) → IsCut (whole_of area) events → events ≡ whole_of area ++ more → KeepsFrom area s events → (c : List ℕ) → Leaves (fold (next area) s events) c → EndsAt payloads 1 (counted q ++ 0 ∷ staged.0) c
      cut_after area events more cut all keeps c leaves =
          all_four cut.0 c (four_of area events more cut all) (subst (λ (st : Standing). Leaves st c) (fold_states area cut.0) (cut_leaves area (whole_of area) s events cut keeps c leaves))

      in_cut : (area : Area) (events : List Event) → IsCut (whole_of area) events → KeepsFrom area s events → (c : List ℕ) → Leaves (fold (next area) s events) c → Stores payloads q c
      in_cut area events cut keeps c leaves =
          in_states cut.0 c (subst (λ (st : Standing). Leaves st c) (fold_states area cut.0) (cut_leaves area (whole_of area) s events cut keeps c leaves))

      at_end : (area : Area) (c : List ℕ) → Leaves (fold (next area) s (whole_of area)) c → EndsAt (payloads ++ q ∷ []) 0 staged.0 c
      at_end area c leaves = longer_ends payloads q staged.0 c ok (in_four c (subst (λ (st : Standing). Leaves st c) (fold_states area 4) leaves))

  -- each image of the area ends so
  abbrev pub AllEnd : Trail → Area → List (List ℕ) → Type 0
  AllEnd t area payloads = (c : List ℕ) → IsImage t area c → Ends payloads c

  module _ (t : Trail) (area : Area) (payloads : List (List ℕ)) (q : List ℕ) (ok : IsPayload q) (all : AllEnd t area payloads) where
    abbrev s : Standing
    s = standing t area

    sound : IsSound s
    sound = sound_along area t.events _ (sound-settled (t.start area))

    here_at : (events : List Event) → KeepsModel (extended t events) → (Leaves s s.now) × KeepsFrom area s events
    here_at events keeps = let split = keeps_split area (settled (t.start area)) t.events events (keeps area) in (reads_along area t.events _ (here_settled (t.start area)) split.0, split.1)

    from_here : (events : List Event) (image : List ℕ) → IsImage (extended t events) area image → Leaves (fold (next area) s events) image
    from_here events image is = subst (λ (st : Standing). Leaves st image) (fold-append (next area) (settled (t.start area)) t.events events) is

    abbrev whole : List Event
    whole = append_events area (length (records payloads)) q

    pub stores_leave : (events : List Event) → IsCut whole events → KeepsModel (extended t events) → (image : List ℕ) → IsImage (extended t events) area image → Stores payloads q image
    stores_leave events cut keeps image is = let h = here_at events keeps in in_cut payloads q s sound h.0 all ok area events cut h.1 image (from_here events image is)

    pub stores_before : (events : List Event) → IsCut (take 2 whole) events → KeepsModel (extended t events) → (image : List ℕ) → IsImage (extended t events) area image → Ends payloads image
    stores_before events cut keeps image is = let h = here_at events keeps in cut_before_gate payloads q s sound h.0 all ok area events cut h.1 image (from_here events image is)

    pub stores_after : (events more : List Event) → IsCut whole events → events ≡ whole ++ more → KeepsModel (extended t events) → (image : List ℕ) → IsImage (extended t events) area image → (behind : List ℕ) × EndsAt payloads 1 (counted q ++ 0 ∷ behind) image
    stores_after events more cut begins keeps image is = let h = here_at events keeps in (_, cut_after payloads q s sound h.0 all ok area events more cut begins h.1 image (from_here events image is))

    pub stores_end : KeepsModel t → (image : List ℕ) → IsImage (extended t whole) area image → (behind : List ℕ) × EndsAt (payloads ++ q ∷ []) 0 behind image
    stores_end keeps image is = let here = reads_along area t.events _ (here_settled (t.start area)) (keeps area) in (_, at_end payloads q s sound here all ok area image (from_here whole image is))
