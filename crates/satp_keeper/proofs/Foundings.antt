-- What a stop leaves of a founding.
use Rattle.std.proofs.Common.{◌≡◌, ℕ, zero, suc, List, [], ◌∷◌, ◌++◌, length, take, Option, Some, None, refl, ap, subst, sym, ◌∙◌, inl, inr, ⊎_elim, arith, append_assoc}
use Rattle.std.specs.List.{AllByRecursion, fold}
use Rattle.std.proofs.lemmas.List.{append-nil}
use Rattle.std.proofs.lemmas.List.Sums.{fold-append}
use Rattle.std.proofs.Math.Seq.{take-append_seam}
use Rattle.satp_base.specs.declared.area.Area.TheVariants.{Ledger}
use Rattle.satp_base.specs.declared.area.Event.{Event}
use Rattle.satp_base.specs.declared.area.Event.TheVariants.{Cut, Left, Synced}
use Rattle.satp_base.specs.Calls.{Told, FailsAmong, Makes, events_in}
use Rattle.satp_base.specs.Format.{IsPayload, Stands, records}
use Rattle.satp_base.specs.Laws.{IsOpening, RestsAt}
use Rattle.satp_base.specs.Segments.{IsCut, append_events, last_area, open_events}
use Rattle.satp_base.specs.Trail.{Trail, Standing, IsImage, KeepsModel, Leaves, extended, next, seen, settled, standing}
use Rattle.satp_base.proofs.Closing.{append_ends, append_leaves, either_stands, rest_stands}
use Rattle.satp_base.proofs.Cuts.{cut_append, cut_front}
use Rattle.satp_base.proofs.Made.{GrowsBy, among_cut, events_of_calls, events_prefix, made_grows, made_none}
use Rattle.satp_base.proofs.Opens.{open_ends, open_stays_short}
use Rattle.satp_base.proofs.Standings.{cut_leaves, keeps_split, take_nil}
use Rattle.satp_base.proofs.Trails.{extended_none, extended_twice, keeps_before, keeps_front}
use Rattle.satp_journal.proofs.AppendLemmas.{Keeps, trail_is}
use Rattle.satp_journal.proofs.OpenLemmas.{cut_self}
use Rattle.satp_keeper.specs.Founding.{FoundStops, IsInFounding, UnfoundedBy, found_calls, stored_events}
use Rattle.satp_keeper.specs.declared.fault.KeeperFault.{KeeperFault}
use Rattle.satp_keeper.specs.declared.fault.KeeperFault.TheVariants.{OutOfOrder, Empty, Damaged, Record, Disk, Broken, Memory}
use Rattle.satp_keeper.proofs.ClearLemmas.{cut, seen_cut}

-- ---- the events that were made are a cut of the founding's

-- the events of the calls, part by part
abbrev made_events : List (List ℕ) → List Event
made_events whole = Cut Ledger 0 ∷ (open_events Ledger [] 0 ++ stored_events [] whole)

-- some of the founding's events were made
abbrev Begins : List (List ℕ) → Option Told → Option Told → Type 0
Begins whole old new = (events : List Event) × IsCut (made_events whole) events × GrowsBy events old new

events_are : (whole : List (List ℕ)) → events_in (found_calls whole) ≡ made_events whole
events_are whole = ap (λ (l : List Event). Cut Ledger 0 ∷ (open_events Ledger [] 0 ++ l)) (events_of_calls (stored_events [] whole))

module _ (whole : List (List ℕ)) (old new : Option Told) where
  front_begins : (n : ℕ) → Makes (take n (found_calls whole)) old new → Begins whole old new
  front_begins n makes =
      let calls = take n (found_calls whole) in
      let r = events_prefix n (found_calls whole) in
      (events_in calls, (r.0, inl (r.1 ∙ ap (take r.0) (events_are whole))), made_grows (length calls) (events_in calls) old new makes)

  fails_begin : FailsAmong (found_calls whole) old new → Begins whole old new
  fails_begin fails = let r = among_cut (found_calls whole) old new fails in (r.0, subst (λ (l : List Event). IsCut l r.0) (events_are whole) r.1, r.2)

  none_begins : new ≡ old → Begins whole old new
  none_begins is = ([], (0, inl refl), made_grows 0 [] old new (is ∙ sym (made_none old)))

-- ---- what stands at each of them

empty_stands : (t : Trail) → Stands (seen (extended t cut) Ledger) []
empty_stands t = subst (λ (l : List ℕ). Stands l []) (sym (seen_cut t)) (inl (omega arith, refl))

-- behind a cut that isn't synced an image is one that the cut leaves
cut_begins : (t : Trail) (events : List Event) → IsCut cut events → KeepsModel (extended t events) → (image : List ℕ) → IsImage (extended t events) Ledger image → IsImage (extended t cut) Ledger image
cut_begins t events is keeps image here =
    let split = keeps_split Ledger (settled (t.start Ledger)) t.events events (keeps Ledger) in
    let at = cut_leaves Ledger cut (standing t Ledger) events is split.1 image (subst (λ (s : Standing). Leaves s image) (fold-append (next Ledger) (settled (t.start Ledger)) t.events events) here) in
    subst (λ (s : Standing). Leaves s image) (sym (fold-append (next Ledger) (settled (t.start Ledger)) t.events cut)) (states is.0 at)
  where
    behind : Standing
    behind = fold (next Ledger) (standing t Ledger) cut

    states : (n : ℕ) → Leaves (fold (next Ledger) (standing t Ledger) (take n cut)) image → Leaves (fold (next Ledger) (standing t Ledger) cut) image
    states zero leaves = record { no_shorter = omega arith; no_longer = omega (arith, leaves.no_longer); kept = λ k lt outside. absurd (omega (arith, lt)) }
    states (suc n) leaves = subst (λ (l : List Event). Leaves (fold (next Ledger) (standing t Ledger) (Cut Ledger 0 ∷ l)) image) (take_nil n) leaves

-- while the journal is opened after the cut it has no payload
opening_stands : (t : Trail) (events more : List Event) → events ≡ Cut Ledger 0 ∷ Synced Ledger ∷ more → IsCut (open_events Ledger [] 0) (Synced Ledger ∷ more) → KeepsModel (extended t events) → (image : List ℕ) → IsImage (extended t events) Ledger image → Stands image []
opening_stands t events more is opens keeps image here = inl (open_stays_short t' Ledger [] more opening (omega (arith, none)) image (subst (λ (x : Trail). IsImage x Ledger image) there here), refl)
  where
    t' : Trail
    t' = extended t cut

    there : extended t events ≡ extended t' (Synced Ledger ∷ more)
    there = ap (extended t) is ∙ sym (extended_twice t cut (Synced Ledger ∷ more))

    none : length (seen t' Ledger) ≡ 0
    none = ap length (seen_cut t)

    opening : IsOpening t' Ledger [] more
    opening = record {
      reads = empty_stands t;
      cut = subst (λ (l : List ℕ). IsCut (open_events Ledger l 0) (Synced Ledger ∷ more)) (sym (seen_cut t)) opens;
      keeps = subst KeepsModel there keeps;
    }

-- after whole appends the payloads so far are at rest
stored_rests : (t : Trail) (before qs : List (List ℕ)) → RestsAt t Ledger before → AllByRecursion IsPayload qs → KeepsModel (extended t (stored_events before qs)) → RestsAt (extended t (stored_events before qs)) Ledger (before ++ qs)
stored_rests t before [] rests all keeps = subst (λ (x : Trail). RestsAt x Ledger (before ++ [])) (sym (extended_none t)) (subst (RestsAt t Ledger) (sym (append-nil before)) rests)
stored_rests t before (q ∷ qs) rests all keeps =
    let es = append_events Ledger (length (records before)) q in
    let fs = stored_events (before ++ q ∷ []) qs in
    let there : extended (extended t es) fs ≡ extended t (es ++ fs) = extended_twice t es fs in
    let one = append_ends t Ledger before q all.0 rests (keeps_before t (es ++ fs) keeps) in
    subst (λ (x : Trail). RestsAt x Ledger (before ++ q ∷ qs)) there
    (subst (RestsAt (extended (extended t es) fs) Ledger) (append_assoc before (q ∷ []) qs) (stored_rests (extended t es) (before ++ q ∷ []) qs one all.1 (subst KeepsModel (sym there) keeps)))

found_rests : (t : Trail) (done : List (List ℕ)) → AllByRecursion IsPayload done → KeepsModel (extended t (made_events done)) → RestsAt (extended t (made_events done)) Ledger done
found_rests t done all keeps =
    let es = open_events Ledger [] 0 in
    let fs = stored_events [] done in
    let t' = extended t cut in
    let there : extended (extended t' es) fs ≡ extended t (made_events done) = ap (λ (x : Trail). extended x fs) (extended_twice t cut es) ∙ extended_twice t (cut ++ es) fs in
    let opened = subst (λ (l : List ℕ). RestsAt (extended t' (open_events Ledger l 0)) Ledger []) (seen_cut t) (open_ends t' Ledger [] (empty_stands t)) in
    subst (λ (x : Trail). RestsAt x Ledger done) there (stored_rests (extended t' es) [] done opened all (subst KeepsModel (sym there) keeps))

module _ {X : Type 0} (P : X → Type 0) where
  all_front : (xs ys : List X) → AllByRecursion P (xs ++ ys) → AllByRecursion P xs
  all_front [] ys all = tt
  all_front (x ∷ xs) ys all = (all.0, all_front xs ys all.1)

  all_behind : (xs ys : List X) → AllByRecursion P (xs ++ ys) → AllByRecursion P ys
  all_behind [] ys all = all
  all_behind (x ∷ xs) ys all = all_behind xs ys all.1

-- from the sync behind the cut on, each image stands for a front of the list
abbrev IsFront : List (List ℕ) → List ℕ → Type 0
IsFront whole image = (n : ℕ) × Stands image (take n whole)

front_of : (whole before qs : List (List ℕ)) (image : List ℕ) → whole ≡ before ++ qs → Stands image before → IsFront whole image
front_of whole before qs image list stands = (length before, subst (Stands image) (sym (ap (take (length before)) list ∙ take-append_seam before qs)) stands)

stored_front : (whole : List (List ℕ)) (t : Trail) (before qs : List (List ℕ)) (fs : List Event) → whole ≡ before ++ qs → RestsAt t Ledger before → AllByRecursion IsPayload qs → IsCut (stored_events before qs) fs → KeepsModel (extended t fs)
    → (image : List ℕ) → IsImage (extended t fs) Ledger image → IsFront whole image
stored_front whole t before [] fs list rests all part keeps image here = front_of whole before [] image list (rest_stands before image (rests image (subst (λ (x : Trail). IsImage x Ledger image) (ap (extended t) (none part) ∙ extended_none t) here)))
  where
    none : IsCut [] fs → fs ≡ []
    none (n, inl is) = is ∙ take_nil n
    none (n, inr (area, bytes, change, is)) = absurd (let h = ap last_area (sym (take_nil n)) ∙ change in cc)
stored_front whole t before (q ∷ qs) fs list rests all part keeps image here =
    ⊎_elim within (beyond (λ gs part' keeps' here'. stored_front whole (extended t es) (before ++ q ∷ []) qs gs longer (append_ends t Ledger before q all.0 rests (keeps_before t fs keeps)) all.1 part' keeps' image here')) (cut_append es (stored_events (before ++ q ∷ []) qs) fs part)
  where
    es : List Event
    es = append_events Ledger (length (records before)) q

    longer : whole ≡ (before ++ q ∷ []) ++ qs
    longer = list ∙ sym (append_assoc before (q ∷ []) qs)

    within : IsCut es fs → IsFront whole image
    within one = ⊎_elim (front_of whole before (q ∷ qs) image list) (front_of whole (before ++ q ∷ []) qs image longer) (either_stands before q image all.0 (append_leaves t Ledger before q fs all.0 rests one keeps image here))

    beyond : ((gs : List Event) → IsCut (stored_events (before ++ q ∷ []) qs) gs → KeepsModel (extended (extended t es) gs) → IsImage (extended (extended t es) gs) Ledger image → IsFront whole image)
        → (gs : List Event) × IsCut (stored_events (before ++ q ∷ []) qs) gs × (fs ≡ es ++ gs) → IsFront whole image
    beyond more (gs, later, is) =
        let there : extended t fs ≡ extended (extended t es) gs = ap (extended t) is ∙ sym (extended_twice t es gs) in
        more gs later (subst KeepsModel there keeps) (subst (λ (x : Trail). IsImage x Ledger image) there here)

-- a cut that has the sync behind the area's cut is no cut of that alone
cut_alone : (events more : List Event) → events ≡ Cut Ledger 0 ∷ Synced Ledger ∷ more → IsCut cut events → ⊥
cut_alone events more shape (zero, inl is) = let h = sym shape ∙ is in cc
cut_alone events more shape (suc n, inl is) = let h = sym shape ∙ is ∙ ap (λ (l : List Event). Cut Ledger 0 ∷ l) (take_nil n) in cc
cut_alone events more shape (zero, inr (area, bytes, change, is)) = absurd cc
cut_alone events more shape (suc n, inr (area, bytes, change, is)) = let h = sym shape ∙ is ∙ ap (λ (l : List Event). Cut Ledger 0 ∷ l ++ Left area bytes ∷ []) (take_nil n) in cc

behind_cut : (xs ys : List Event) → Cut Ledger 0 ∷ xs ≡ cut ++ ys → ys ≡ xs
behind_cut xs ys is = let h = is in cc

found_front : (whole : List (List ℕ)) (t : Trail) (events more : List Event) → AllByRecursion IsPayload whole → events ≡ Cut Ledger 0 ∷ Synced Ledger ∷ more → IsCut (made_events whole) events → KeepsModel (extended t events)
    → (image : List ℕ) → IsImage (extended t events) Ledger image → IsFront whole image
found_front whole t events more all shape part keeps image here = ⊎_elim within beyond (cut_append (made_events []) (stored_events [] whole) events part)
  where
    opening : List Event
    opening = open_events Ledger [] 0

    opened : (fs : List Event) × IsCut opening fs × (events ≡ cut ++ fs) → IsFront whole image
    opened (fs, is, e) = front_of whole [] whole image refl (opening_stands t events more shape (subst (IsCut opening) (behind_cut (Synced Ledger ∷ more) fs (sym shape ∙ e)) is) keeps image here)

    within : IsCut (made_events []) events → IsFront whole image
    within is = ⊎_elim (λ alone. absurd (cut_alone events more shape alone)) opened (cut_append cut opening events is)

    beyond : (fs : List Event) × IsCut (stored_events [] whole) fs × (events ≡ made_events [] ++ fs) → IsFront whole image
    beyond (fs, is, e) =
        let t' = extended t (made_events []) in
        let there : extended t events ≡ extended t' fs = ap (extended t) e ∙ sym (extended_twice t (made_events []) fs) in
        let keeps' = subst KeepsModel there keeps in
        stored_front whole t' [] whole fs refl (found_rests t [] tt (keeps_before t' fs keeps')) all is keeps' image (subst (λ (x : Trail). IsImage x Ledger image) there here)

in_founding : (whole : List (List ℕ)) (t : Trail) (events : List Event) (image : List ℕ) → AllByRecursion IsPayload whole → IsCut (made_events whole) events → KeepsModel (extended t events) → IsImage (extended t events) Ledger image
    → IsInFounding whole t events image
in_founding whole t events image all is keeps here = record {
  among = subst (λ (l : List Event). IsCut l events) (sym (events_are whole)) is;
  before = λ none. subst (λ (x : Trail). IsImage x Ledger image) (ap (extended t) none ∙ extended_none t) here;
  cut = λ part. cut_begins t events part keeps image here;
  prefix = λ more shape. found_front whole t events more all shape is keeps image here;
  opening = λ more shape opens. opening_stands t events more shape opens keeps image here;
  storing = λ done q rest more list at part.
      let shape : events ≡ made_events done ++ more = at ∙ ap (λ (l : List Event). l ++ more) (events_are done) in
      let payloads = subst (AllByRecursion IsPayload) list all in
      let there : extended t events ≡ extended (extended t (made_events done)) more = ap (extended t) shape ∙ sym (extended_twice t (made_events done) more) in
      let keeps' = subst KeepsModel there keeps in
      append_leaves (extended t (made_events done)) Ledger done q more (all_behind IsPayload done (q ∷ rest) payloads).0 (found_rests t done (all_front IsPayload done (q ∷ rest) payloads) (keeps_before (extended t (made_events done)) more keeps')) part
      keeps' image (subst (λ (x : Trail). IsImage x Ledger image) there here);
  between = λ done rest list at.
      let shape : events ≡ made_events done = at ∙ events_are done in
      found_rests t done (all_front IsPayload done rest (subst (AllByRecursion IsPayload) list all)) (subst (λ (l : List Event). KeepsModel (extended t l)) shape keeps) image (subst (λ (l : List Event). IsImage (extended t l) Ledger image) shape here);
}

-- ---- what a founding answers says what a stop leaves of it

module _ (whole : List (List ℕ)) (all : AllByRecursion IsPayload whole) where
  stops_at : (old new : Option Told) → Keeps new → Begins whole old new → FoundStops whole old new
  stops_at None new keeps begins = tt
  stops_at (Some t) None keeps begins = tt
  stops_at (Some t) (Some u) keeps (events, part, is) =
      let e = trail_is t u events is in (
        events,
        e,
        λ n image here. in_founding whole t.trail (take n events) image all (cut_front (made_events whole) events part n) (keeps_front t.trail events n (subst KeepsModel e (keeps u refl))) here,
      )

  pub founded_stops : (old new : Option Told) → Keeps new → Makes (found_calls whole) old new → FoundStops whole old new
  founded_stops old new keeps makes =
      let calls = found_calls whole in
      stops_at old new keeps (events_in calls, subst (λ (l : List Event). IsCut l (events_in calls)) (events_are whole) (cut_self (events_in calls)), made_grows (length calls) (events_in calls) old new makes)

  pub unfounded_stops : (old new : Option Told) (fault : KeeperFault) → Keeps new → UnfoundedBy whole old new fault → FoundStops whole old new
  unfounded_stops old new Disk keeps is = stops_at old new keeps (fails_begin whole old new is)
  unfounded_stops old new Memory keeps is = stops_at old new keeps (⊎_elim (none_begins whole old new) (⊎_elim (front_begins whole old new 3) (front_begins whole old new 4)) is)
  unfounded_stops old new (Damaged at) keeps is = subst (λ (o : Option Told). FoundStops whole o new) (sym is.0) tt
  unfounded_stops old new (OutOfOrder entry) keeps is = absurd is
  unfounded_stops old new Empty keeps is = absurd is
  unfounded_stops old new (Record index) keeps is = absurd is
  unfounded_stops old new Broken keeps is = absurd is
