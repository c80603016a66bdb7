-- An opening that begins at a point of the steps.
use Rattle.std.proofs.Common.{◌≡◌, ℕ, zero, suc, Bool, true, false, if◌then◌else◌, List, [], ◌∷◌, ◌++◌, length, take, inl, inr, refl, sym, ap, ◌∙◌, subst, ⊎_elim}
use Rattle.std.specs.List.{fold}
use Rattle.satp_base.specs.declared.area.Area.{Area}
use Rattle.satp_base.specs.declared.area.Event.{Event}
use Rattle.satp_base.specs.declared.area.Event.TheVariants.{Synced}
use Rattle.satp_base.specs.Format.{IsAtRest, IsPayload, Stands, records}
use Rattle.satp_base.specs.Laws.{AllInAppend, RestsAt}
use Rattle.satp_base.specs.LedgerAt.{entries_after, ledger_at}
use Rattle.satp_base.specs.Ledgers.{Entries}
use Rattle.satp_base.specs.Money.{Book}
use Rattle.satp_base.specs.Segments.{IsCut, open_events, shut_events, wants_gate}
use Rattle.satp_base.specs.Trail.{Trail, IsImage, KeepsModel, extended, seen}
use Rattle.satp_base.proofs.Opens.{open_ends}
use Rattle.satp_base.proofs.Reopens as reopens
use Rattle.satp_base.proofs.Standings.{take_nil}
use Rattle.satp_stops.specs.Stops.{Kept, Step, ReopenEnds, ReopenRests, RestsIn, after_steps}
use Rattle.satp_stops.specs.Stops.Step.{Stores, Operates, Says}
use Rattle.satp_stops.proofs.Changes.{ledger_more, left_nothing}

-- ---- an opening leaves the ledger as it is

mend_ledger : (area : Area) (place : ℕ) (writes : Bool) (n : ℕ) (entries : Entries) → fold entries_after entries (take n (Synced area ∷ (if writes then shut_events area place else []))) ≡ entries
mend_ledger area place true zero entries = refl
mend_ledger area place true (suc zero) entries = refl
mend_ledger area place true (suc (suc zero)) entries = refl
mend_ledger area place true (suc (suc (suc n))) entries = ap (fold entries_after entries) (take_nil n)
mend_ledger area place false zero entries = refl
mend_ledger area place false (suc n) entries = ap (fold entries_after entries) (take_nil n)

whole_ledger : (area : Area) (place : ℕ) (writes : Bool) (entries : Entries) → fold entries_after entries (Synced area ∷ (if writes then shut_events area place else [])) ≡ entries
whole_ledger area place true entries = refl
whole_ledger area place false entries = refl

opening_ledger : (area : Area) (image : List ℕ) (place : ℕ) (entries : Entries) (es : List Event) → IsCut (open_events area image place) es → fold entries_after entries es ≡ entries
opening_ledger area image place entries es (n, inl is) = ap (fold entries_after entries) is ∙ mend_ledger area place (wants_gate image place) n entries
opening_ledger area image place entries es (n, inr (a, bytes, of, is)) =
    ap (fold entries_after entries) is ∙ left_nothing a bytes entries (take n (open_events area image place)) ∙ mend_ledger area place (wants_gate image place) n entries

-- ---- points

module _ (t : Trail) (k : Kept) (list : List (List ℕ)) (stands : Stands (seen t k.area) list) (same : ledger_at t.entries t.events ≡ k.ledger.entries) where
  abbrev events_of : List Event
  events_of = open_events k.area (seen t k.area) (length (records list))

  ledger_still : (es : List Event) → IsCut events_of es → ledger_at t.entries (t.events ++ es) ≡ k.ledger.entries
  ledger_still es cut = ledger_more t es ∙ opening_ledger k.area (seen t k.area) (length (records list)) (ledger_at t.entries t.events) es cut ∙ same

  ledger_after : ledger_at t.entries (t.events ++ events_of) ≡ k.ledger.entries
  ledger_after = ledger_more t events_of ∙ whole_ledger k.area (length (records list)) (wants_gate (seen t k.area) (length (records list))) (ledger_at t.entries t.events) ∙ same

  rest_point : (rest : List Step) (es : List Event) → RestsAt t k.area k.payloads → IsCut events_of es → KeepsModel (extended t es) → RestsIn (extended t es) k rest
  rest_point rest es rests cut keeps = record { ledger = ledger_still es cut; images = λ image is. inl ((reopens.reopen_rests t k.area k.payloads list es rests stands cut keeps).1 image is) }

  -- at the point that was read
  read_point : (to : Kept) → to.area ≡ k.area → to.ledger ≡ k.ledger → to.payloads ≡ list → RestsIn (extended t events_of) to []
  read_point to area ledger payloads = record {
    ledger = ledger_after ∙ ap (λ (b : Book). b.entries) (sym ledger);
    images = λ image is. inl (subst (λ (l : List (List ℕ)). IsAtRest l image) (sym payloads) (open_ends t k.area list stands image (subst (λ (a : Area). IsImage (extended t events_of) a image) area is)));
  }

pub points_stay : ReopenRests
points_stay t k [] list events ok r stands cut keeps = rest_point t k list stands r.ledger [] events (λ image is. ⊎_elim (λ rest. rest) (λ none. absurd none) (r.images image is)) cut keeps
points_stay t k (Stores q ∷ ms) list events ok r stands cut keeps = record { ledger = ledger_still t k list stands r.ledger events cut; images = λ image is. inr (reopens.reopen_leaves t k.area k.payloads list q events ok.0 all stands cut keeps image is) }
  where
    all : AllInAppend t k.area k.payloads q
    all image is = ⊎_elim inl (λ next. next) (r.images image is)
points_stay t k (Operates op session terms ∷ ms) list events ok r stands cut keeps = rest_point t k list stands r.ledger _ events (λ image is. ⊎_elim (λ rest. rest) (λ none. absurd none) (r.images image is)) cut keeps
points_stay t k (Says ∷ ms) list events ok r stands cut keeps = rest_point t k list stands r.ledger _ events (λ image is. ⊎_elim (λ rest. rest) (λ none. absurd none) (r.images image is)) cut keeps

-- the opening ends at one of these steps
abbrev EndsAmong : Trail → Kept → List Step → List (List ℕ) → Type 0
EndsAmong t k rest list =
    (done more : List Step) × (done ++ more ≡ rest) × ((after_steps k done).payloads ≡ list)
    × RestsIn (extended t (open_events k.area (seen t k.area) (length (records list)))) (after_steps k done) []

module _ (t : Trail) (k : Kept) (list : List (List ℕ)) (stands : Stands (seen t k.area) list) (same : ledger_at t.entries t.events ≡ k.ledger.entries) (keeps : KeepsModel t) where
  rest_ends : (rest : List Step) → RestsAt t k.area k.payloads → EndsAmong t k rest list
  rest_ends rest rests = let is = reopens.rest_read t k.area k.payloads list rests stands keeps in ([], rest, refl, sym is, read_point t k list stands same k refl refl (sym is))

  next_ends : (q : List ℕ) (ms : List Step) → IsPayload q → AllInAppend t k.area k.payloads q → EndsAmong t k (Stores q ∷ ms) list
  next_ends q ms ok all = ⊎_elim here next (reopens.reopen_ends t k.area k.payloads list q ok all keeps stands).0
    where
      here : list ≡ k.payloads → EndsAmong t k (Stores q ∷ ms) list
      here is = ([], Stores q ∷ ms, refl, sym is, read_point t k list stands same k refl refl (sym is))

      next : list ≡ k.payloads ++ q ∷ [] → EndsAmong t k (Stores q ∷ ms) list
      next is = (Stores q ∷ [], ms, refl, sym is, read_point t k list stands same (after_steps k (Stores q ∷ [])) refl refl (sym is))

pub points_end : ReopenEnds
points_end t k [] list ok r keeps stands = rest_ends t k list stands r.ledger keeps [] (λ image is. ⊎_elim (λ rest. rest) (λ none. absurd none) (r.images image is))
points_end t k (Stores q ∷ ms) list ok r keeps stands = next_ends t k list stands r.ledger keeps q ms ok.0 (λ image is. ⊎_elim inl (λ next. next) (r.images image is))
points_end t k (Operates op session terms ∷ ms) list ok r keeps stands = rest_ends t k list stands r.ledger keeps _ (λ image is. ⊎_elim (λ rest. rest) (λ none. absurd none) (r.images image is))
points_end t k (Says ∷ ms) list ok r keeps stands = rest_ends t k list stands r.ledger keeps _ (λ image is. ⊎_elim (λ rest. rest) (λ none. absurd none) (r.images image is))
