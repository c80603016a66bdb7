-- An opening, one event after the other.
use Rattle.std.proofs.Common.{◌≡◌, ◌≢◌, ◌≤◌, ◌<◌, ◌⊎◌, ℕ, zero, suc, ◌||◌, ◌==◌, not, Bool, true, false, if◌then◌else◌, List, [], ◌∷◌, ◌++◌, length, take, get_or, set, refl, sym, ap, ◌∙◌, subst, inl, inr, ⊎_elim, arith, length-append}
use Rattle.std.proofs.lemmas.Bool.{cases_eq}
use Rattle.std.proofs.lemmas.Map.Views.{exact_unsigned_eq}
use Rattle.std.proofs.Math.Seq.{get_or-append_seam}
use Rattle.std.proofs.lemmas.List.Sums.{fold-append}
use Rattle.std.specs.List.{fold}
use Rattle.satp_base.specs.declared.area.Area.{Area}
use Rattle.satp_base.specs.declared.area.Event.{Event}
use Rattle.satp_base.specs.declared.area.Event.TheVariants.{Wrote, Synced}
use Rattle.satp_base.specs.Trail.{Trail, Standing, Leaves, settled, overlaid, wrote, next, standing, extended, seen, IsImage, KeepsModel, KeepsFrom}
use Rattle.satp_base.specs.Format.{IsPayload, counted, records, EndsAt, Stands, IsMendable, IsAtRest}
use Rattle.satp_base.specs.Segments.{IsCut, wants_gate, shut_events, open_events}
use Rattle.satp_base.specs.Laws.{HasRecord, IsInAppend, IsInMend, IsOpening, OpenBegins, OpenLeaves, OpenKeeps, OpenStaysShort, OpenEnds}
use Rattle.satp_base.proofs.Standings.{reads_along, keeps_split, here_settled, same_area_refl, only_settled, one_free, take_nil, cut_leaves}
use Rattle.satp_base.proofs.Appends.{set_gate, laid_over_gate, longer_ends}
use Rattle.satp_base.proofs.Readings.{one_end, one_list}
use Rattle.satp_base.proofs.Closing.{stands_closed, rest_stands}

-- behind the first sync alone
sync_states : (area : Area) (s : Standing) (n : ℕ) (c : List ℕ) → Leaves s s.now → Leaves (fold (next area) s (take n (Synced area ∷ []))) c → Leaves s c
sync_states area s zero c here leaves = leaves
sync_states area s (suc n) c here leaves = subst (λ (l : List ℕ). Leaves s l) (sym (only_settled s.now c settled_leaves)) here
  where
    folded : fold (next area) s (take (suc n) (Synced area ∷ [])) ≡ settled s.now
    folded = rw (take_nil n, same_area_refl area) refl

    settled_leaves : Leaves (settled s.now) c
    settled_leaves = subst (λ (st : Standing). Leaves st c) folded leaves

pub open_begins : OpenBegins
open_begins t area events cut keeps image is =
    let split = keeps_split area (settled (t.start area)) t.events events (keeps area) in
    let at = cut_leaves area (Synced area ∷ []) (standing t area) events cut split.1 image (subst (λ (st : Standing). Leaves st image) (fold-append (next area) (settled (t.start area)) t.events events) is) in
    sync_states area (standing t area) cut.0 image (reads_along area t.events _ (here_settled (t.start area)) split.0) at

-- an opening that writes the gate, or does not
abbrev opens_with : Area → ℕ → Bool → List Event
opens_with area place w = Synced area ∷ (if w then shut_events area place else [])

-- from what was read on, where it ends at some gate
module _ (payloads : List (List ℕ)) (gate : ℕ) (behind : List ℕ) (s : Standing) (ends : EndsAt payloads gate behind s.now) where
  abbrev place : ℕ
  place = length (records payloads)

  within : place < length s.now
  within = rw ends.bytes (omega (arith, length-append (records payloads) (gate ∷ behind)))

  abbrev Some_gate : List ℕ → Type 0
  Some_gate c = (g : ℕ) × EndsAt payloads g behind c

  in_write : (c : List ℕ) → Leaves (wrote (settled s.now) place (0 ∷ [])) c → Some_gate c
  in_write c leaves = (
    get_or c place 0,
    record {
      valid = ends.valid;
      bytes = one_free s.now c place 0 within leaves ∙ ap (λ (l : List ℕ). set l place (get_or c place 0)) ends.bytes ∙ set_gate (records payloads) behind gate _;
    },
  )

  overlay_is : overlaid s.now place (0 ∷ []) ≡ records payloads ++ 0 ∷ behind
  overlay_is = ap (λ (l : List ℕ). overlaid l place (0 ∷ [])) ends.bytes ∙ laid_over_gate (records payloads) behind gate 0

  at_end : (c : List ℕ) → Leaves (settled (overlaid s.now place (0 ∷ []))) c → EndsAt payloads 0 behind c
  at_end c leaves = record { valid = ends.valid; bytes = only_settled _ c leaves ∙ overlay_is }

  only_read : (c : List ℕ) → Leaves (settled s.now) c → EndsAt payloads gate behind c
  only_read c leaves = record { valid = ends.valid; bytes = only_settled s.now c leaves ∙ ends.bytes }

  shut_states : (area : Area) (n : ℕ) (c : List ℕ) → Leaves (fold (next area) s (take (suc n) (opens_with area place true))) c → Some_gate c
  shut_states area zero c leaves = (gate, only_read c (subst (λ (st : Standing). Leaves st c) folded leaves))
    where
      folded : fold (next area) s (Synced area ∷ []) ≡ settled s.now
      folded = rw (same_area_refl area) refl
  shut_states area (suc zero) c leaves = in_write c (subst (λ (st : Standing). Leaves st c) folded leaves)
    where
      folded : fold (next area) s (Synced area ∷ Wrote area place (0 ∷ []) ∷ []) ≡ wrote (settled s.now) place (0 ∷ [])
      folded = rw (same_area_refl area) refl
  shut_states area (suc (suc n)) c leaves = (0, at_end c (subst (λ (st : Standing). Leaves st c) folded leaves))
    where
      folded : fold (next area) s (take (suc (suc (suc n))) (opens_with area place true)) ≡ settled (overlaid s.now place (0 ∷ []))
      folded = rw (same_area_refl area, take_nil n) refl

  kept_states : (area : Area) (n : ℕ) (c : List ℕ) → Leaves (fold (next area) s (take (suc n) (opens_with area place false))) c → EndsAt payloads gate behind c
  kept_states area n c leaves = only_read c (subst (λ (st : Standing). Leaves st c) folded leaves)
    where
      folded : fold (next area) s (take (suc n) (opens_with area place false)) ≡ settled s.now
      folded = rw (take_nil n, same_area_refl area) refl

  -- the gate may have changed only where it is written
  states : (area : Area) (w : Bool) (n : ℕ) (c : List ℕ) → Leaves (fold (next area) s (take (suc n) (opens_with area place w))) c → (g : ℕ) × EndsAt payloads g behind c × ((w ≡ true) ⊎ (g ≡ gate))
  states area true n c leaves = let r = shut_states area n c leaves in (r.0, r.1, inl refl)
  states area false n c leaves = (gate, kept_states area n c leaves, inr refl)

  last_state : (area : Area) (w : Bool) (c : List ℕ) → (w ≡ false → gate ≡ 0) → Leaves (fold (next area) s (opens_with area place w)) c → IsAtRest payloads c
  last_state area true c is leaves = (behind, at_end c (subst (λ (st : Standing). Leaves st c) folded leaves))
    where
      folded : fold (next area) s (opens_with area place true) ≡ settled (overlaid s.now place (0 ∷ []))
      folded = rw (same_area_refl area) refl
  last_state area false c is leaves = (behind, subst (λ (g : ℕ). EndsAt payloads g behind c) (is refl) (kept_states area 0 c leaves))

  gate_read : wants_gate s.now place ≡ not (gate == 0)
  gate_read = rw (ends.bytes, get_or-append_seam (records payloads) gate behind 0) (right_of (length (records payloads ++ gate ∷ behind) == 0) (not (gate == 0)) (λ e. some (exact_unsigned_eq _ 0 e)))
    where
      some : length (records payloads ++ gate ∷ behind) ≡ 0 → ⊥
      some e = omega (arith, e, length-append (records payloads) (gate ∷ behind))

      right_of : (a b : Bool) → (a ≡ true → ⊥) → (a || b) ≡ b
      right_of true b none = absurd (none refl)
      right_of false b none = refl

  wanted : wants_gate s.now place ≡ true → gate ≢ 0
  wanted w is = not_true (gate == 0) (sym gate_read ∙ w) (rw is refl)
    where
      not_true : (b : Bool) → not b ≡ true → b ≡ true → ⊥
      not_true true e is = cc
      not_true false e is = cc

  not_wanted : wants_gate s.now place ≡ false → gate ≡ 0
  not_wanted w = exact_unsigned_eq gate 0 (not_false (gate == 0) (sym gate_read ∙ w))
    where
      not_false : (b : Bool) → not b ≡ false → b ≡ true
      not_false true e = refl
      not_false false e = cc

-- what was read has at most one byte
module _ (s : Standing) (short : length s.now ≤ 1) where
  empty_states : (area : Area) (n : ℕ) (c : List ℕ) → s.now ≡ [] → Leaves (fold (next area) s (take (suc n) (opens_with area 0 true))) c → length c ≤ 1
  empty_states area zero c none leaves = rw (only_settled s.now c (subst (λ (st : Standing). Leaves st c) folded leaves)) short
    where
      folded : fold (next area) s (Synced area ∷ []) ≡ settled s.now
      folded = rw (same_area_refl area) refl
  empty_states area (suc zero) c none leaves = omega (arith, (subst (λ (st : Standing). Leaves st c) folded leaves).no_longer)
    where
      folded : fold (next area) s (Synced area ∷ Wrote area 0 (0 ∷ []) ∷ []) ≡ wrote (settled []) 0 (0 ∷ [])
      folded = rw (same_area_refl area, none) refl
  empty_states area (suc (suc n)) c none leaves = rw (only_settled (0 ∷ []) c (subst (λ (st : Standing). Leaves st c) folded leaves)) (omega arith)
    where
      folded : fold (next area) s (take (suc (suc (suc n))) (opens_with area 0 true)) ≡ settled (0 ∷ [])
      folded = rw (same_area_refl area, take_nil n, none) refl

  short_states : (area : Area) (l : List ℕ) (n : ℕ) (c : List ℕ) → s.now ≡ l → Leaves (fold (next area) s (take (suc n) (opens_with area 0 (wants_gate l 0)))) c → length c ≤ 1
  short_states area [] n c is leaves = empty_states area n c is leaves
  short_states area (x ∷ []) n c is leaves =
      let ends : EndsAt [] x [] s.now = record { valid = tt; bytes = is } in
      let r = states [] x [] s ends area (wants_gate (x ∷ []) 0) n c leaves in
      omega (arith, ap length r.1.bytes)
  short_states area (x ∷ y ∷ l) n c is leaves = absurd (omega (arith, ap length is, short))

  short_end : (area : Area) (l : List ℕ) (c : List ℕ) → s.now ≡ l → Leaves (fold (next area) s (opens_with area 0 (wants_gate l 0))) c → IsAtRest [] c
  short_end area [] c is leaves = ([], record { valid = tt; bytes = only_settled (0 ∷ []) c (subst (λ (st : Standing). Leaves st c) folded leaves) })
    where
      folded : fold (next area) s (opens_with area 0 true) ≡ settled (0 ∷ [])
      folded = rw (same_area_refl area, is) refl
  short_end area (x ∷ []) c is leaves =
      let ends : EndsAt [] x [] s.now = record { valid = tt; bytes = is } in
      last_state [] x [] s ends area (wants_gate (x ∷ []) 0) c (λ w. not_wanted [] x [] s ends (subst (λ (l : List ℕ). wants_gate l 0 ≡ false) (sym is) w)) leaves
  short_end area (x ∷ y ∷ l) c is leaves = absurd (omega (arith, ap length is, short))

-- what an image of a mend stands for
module _ (payloads : List (List ℕ)) (gate : ℕ) (behind : List ℕ) (s : Standing) (shut : gate ≢ 1) (ends : EndsAt payloads gate behind s.now) (long : 1 < length s.now) (mendable : IsMendable s.now) where
  with_one : (c : List ℕ) → gate ≢ 0 → EndsAt payloads 1 behind c → IsInMend s.now payloads c
  with_one c some at = from mendable
    where
      from : IsMendable s.now → IsInMend s.now payloads c
      from (inl short) = absurd (omega (arith, short, long))
      from (inr (inl (p, (b, e)))) = absurd (some (one_end payloads p gate 0 behind b s.now ends e (inl shut) (inl (λ x. cc))).gate)
      from (inr (inr (longer, (p, g, b, other, e, st)))) =
          let same = one_end payloads p gate g behind b s.now ends e (inl shut) (inl other) in
          let whole : c ≡ records p ++ 1 ∷ b = at.bytes ∙ ap (λ (l : List (List ℕ)). records l ++ 1 ∷ behind) same.payloads ∙ ap (λ (l : List ℕ). records p ++ 1 ∷ l) same.behind in
          inr (longer, (p, g, b, other, e, st), subst (λ (l : List ℕ). Stands l longer) (sym whole) st)

  pub in_mend : (w : Bool) (g : ℕ) (c : List ℕ) → (w ≡ true → gate ≢ 0) → EndsAt payloads g behind c → (w ≡ true) ⊎ (g ≡ gate) → IsInMend s.now payloads c
  in_mend w g c wants at written = ⊎_elim open_gate (λ other. inl (stands_closed payloads g behind c other at)) (cases_eq g 1)
    where
      open_gate : g ≡ 1 → IsInMend s.now payloads c
      open_gate is = ⊎_elim (λ on. with_one c (wants on) (subst (λ (n : ℕ). EndsAt payloads n behind c) is at)) (λ same. absurd (shut (sym same ∙ is))) written

module _ (area : Area) (payloads : List (List ℕ)) (s : Standing) where
  abbrev pub events_of : List Event
  events_of = open_events area s.now (length (records payloads))

  -- the images of the first n of these events
  abbrev pub LeavesAt : ℕ → List ℕ → Type 0
  LeavesAt n c = Leaves (fold (next area) s (take n events_of)) c

  abbrev wants : Bool
  wants = wants_gate s.now (length (records payloads))

  mend_at : Stands s.now payloads → IsMendable s.now → (n : ℕ) (c : List ℕ) → LeavesAt (suc n) c → IsInMend s.now payloads c
  mend_at (inl (short, none)) mendable n c leaves = inl (inl (short_states s short area s.now n c refl (subst (λ (l : List (List ℕ)). Leaves (fold (next area) s (take (suc n) (open_events area s.now (length (records l))))) c) none leaves), none))
  mend_at (inr (long, (gate, behind, shut, ends))) mendable n c leaves =
      let r = states payloads gate behind s ends area wants n c leaves in in_mend payloads gate behind s shut ends long mendable wants r.0 c (wanted payloads gate behind s ends) r.1 r.2

  short_at : Stands s.now payloads → length s.now ≤ 1 → (n : ℕ) (c : List ℕ) → LeavesAt (suc n) c → length c ≤ 1
  short_at (inl (short, none)) le n c leaves = short_states s short area s.now n c refl (subst (λ (l : List (List ℕ)). Leaves (fold (next area) s (take (suc n) (open_events area s.now (length (records l))))) c) none leaves)
  short_at (inr (long, closed)) le n c leaves = absurd (omega (arith, long, le))

  -- what stands after the gate stays, and a gate that is 0 stays
  pub rest_at : IsAtRest payloads s.now → (n : ℕ) (c : List ℕ) → LeavesAt (suc n) c → IsAtRest payloads c
  rest_at (behind, ends) n c leaves =
      let r = states payloads 0 behind s ends area wants n c leaves in
      (behind, subst (λ (g : ℕ). EndsAt payloads g behind c) (⊎_elim (λ on. absurd (wanted payloads 0 behind s ends on refl)) (λ same. same) r.2) r.1)

  record_at : (q : List ℕ) → HasRecord payloads q s.now → (n : ℕ) (c : List ℕ) → LeavesAt (suc n) c → HasRecord payloads q c
  record_at q (gate, behind, ends) n c leaves = let r = states payloads gate (counted q ++ 0 ∷ behind) s ends area wants n c leaves in (r.0, behind, r.1)

  -- from the first sync on
  from_sync : (P : List ℕ → Type 0) → ((n : ℕ) (c : List ℕ) → LeavesAt (suc n) c → P c) → (events : List Event) → IsCut events_of (Synced area ∷ events) → KeepsFrom area s (Synced area ∷ events) → (c : List ℕ) → Leaves (fold (next area) s (Synced area ∷ events)) c → P c
  from_sync P each events (zero, inl is) keeps c leaves = absurd cc
  from_sync P each events (zero, inr (a, bytes, of, is)) keeps c leaves = absurd cc
  from_sync P each events (suc n, cut) keeps c leaves = each n c (cut_leaves area events_of s (Synced area ∷ events) (suc n, cut) keeps c leaves)

  mend_end : Stands s.now payloads → (c : List ℕ) → Leaves (fold (next area) s events_of) c → IsAtRest payloads c
  mend_end (inl (short, none)) c leaves =
      subst (λ (l : List (List ℕ)). IsAtRest l c) (sym none) (short_end s short area s.now c refl (subst (λ (l : List (List ℕ)). Leaves (fold (next area) s (open_events area s.now (length (records l)))) c) none leaves))
  mend_end (inr (long, (gate, behind, shut, ends))) c leaves = last_state payloads gate behind s ends area wants c (not_wanted payloads gate behind s ends) leaves

-- an image of an append, where one of the two lists was read
module _ (area : Area) (list payloads : List (List ℕ)) (q : List ℕ) (s : Standing) (ok : IsPayload q) where
  at_list : (known : List (List ℕ)) → Stands s.now list → Stands s.now known → (n : ℕ) (c : List ℕ) → LeavesAt area list s n c → LeavesAt area known s n c
  at_list known stands other n c leaves = subst (λ (l : List (List ℕ)). LeavesAt area l s n c) (one_list s.now list known stands other) leaves

  -- where the gate is open already, nothing is written
  open_at : (behind : List ℕ) → Stands s.now list → EndsAt payloads 1 (counted q ++ 0 ∷ behind) s.now → (n : ℕ) (c : List ℕ) → LeavesAt area list s (suc n) c → HasRecord payloads q c
  open_at behind stands ends n c leaves =
      let longer = payloads ++ q ∷ [] in
      let rest : IsAtRest longer s.now = (behind, longer_ends payloads q behind s.now ok ends) in
      let r = states longer 0 behind s rest.1 area (wants_gate s.now (length (records longer))) n c (at_list longer stands (rest_stands longer s.now rest) (suc n) c leaves) in
      let zero_there = ⊎_elim (λ on. absurd (wanted longer 0 behind s rest.1 on refl)) (λ same. same) r.2 in
      let same : c ≡ s.now = r.1.bytes ∙ ap (λ (g : ℕ). records longer ++ g ∷ behind) zero_there ∙ sym rest.1.bytes in
      (1, behind, subst (EndsAt payloads 1 (counted q ++ 0 ∷ behind)) (sym same) ends)

  pub keep_at : Stands s.now list → IsInAppend payloads q s.now → (n : ℕ) (c : List ℕ) → LeavesAt area list s (suc n) c → IsInAppend payloads q c
  keep_at stands (inl rest) n c leaves = inl (rest_at area payloads s rest n c (at_list payloads stands (rest_stands payloads s.now rest) (suc n) c leaves))
  keep_at stands (inr (gate, behind, ends)) n c leaves = ⊎_elim open_gate shut_gate (cases_eq gate 1)
    where
      open_gate : gate ≡ 1 → IsInAppend payloads q c
      open_gate is = inr (open_at behind stands (subst (λ (g : ℕ). EndsAt payloads g (counted q ++ 0 ∷ behind) s.now) is ends) n c leaves)

      shut_gate : gate ≢ 1 → IsInAppend payloads q c
      shut_gate shut = inr (record_at area payloads s q (gate, behind, ends) n c (at_list payloads stands (stands_closed payloads gate (counted q ++ 0 ∷ behind) s.now shut ends) (suc n) c leaves))

-- the images of a trail with further events, from how its area stands
module _ (t : Trail) (area : Area) where
  abbrev pub here : Standing
  here = standing t area

  pub from_here : (events : List Event) (image : List ℕ) → IsImage (extended t events) area image → Leaves (fold (next area) here events) image
  from_here events image is = subst (λ (st : Standing). Leaves st image) (fold-append (next area) (settled (t.start area)) t.events events) is

  pub keeps_from : (events : List Event) → KeepsModel (extended t events) → KeepsFrom area here events
  keeps_from events keeps = (keeps_split area (settled (t.start area)) t.events events (keeps area)).1

  -- the images from the first sync on
  opening_leaves : (P : List ℕ → Type 0) (payloads : List (List ℕ)) (events : List Event) → IsOpening t area payloads events → ((n : ℕ) (c : List ℕ) → LeavesAt area payloads here (suc n) c → P c)
      → (image : List ℕ) → IsImage (extended t (Synced area ∷ events)) area image → P image
  opening_leaves P payloads events opens each image is = from_sync area payloads here P each events opens.cut (keeps_from (Synced area ∷ events) opens.keeps) image (from_here (Synced area ∷ events) image is)

pub open_leaves : OpenLeaves
open_leaves t area payloads events opens mendable = opening_leaves t area (IsInMend (seen t area) payloads) payloads events opens (mend_at area payloads (standing t area) opens.reads mendable)

pub open_keeps : OpenKeeps
open_keeps t area list payloads q events opens ok is = opening_leaves t area (IsInAppend payloads q) list events opens (keep_at area list payloads q (standing t area) ok opens.reads is)

pub open_stays_short : OpenStaysShort
open_stays_short t area payloads events opens short = opening_leaves t area (λ c. length c ≤ 1) payloads events opens (short_at area payloads (standing t area) opens.reads short)

pub open_ends : OpenEnds
open_ends t area payloads stands image is = mend_end area payloads (standing t area) stands image (from_here t area (open_events area (seen t area) (length (records payloads))) image is)
