-- A list of steps, one after the other, from images that end at gates of some kind.
use Rattle.std.proofs.Common.{◌≡◌, ◌⊎◌, ℕ, List, [], ◌∷◌, ◌++◌, length, take, refl, sym, ap, ◌∙◌, subst, inl, inr, ⊎_elim}
use Rattle.std.proofs.lemmas.List.{append-nil}
use Rattle.std.specs.List.{fold}
use Rattle.satp_base.specs.declared.area.Event.{Event}
use Rattle.satp_base.specs.Acts.{operation_events}
use Rattle.satp_base.specs.Format.{records}
use Rattle.satp_base.specs.LedgerAt.{entries_after, ledger_at}
use Rattle.satp_base.specs.LedgerRule.{operation}
use Rattle.satp_base.specs.Ledgers.{Entries}
use Rattle.satp_base.specs.Segments.{IsCut}
use Rattle.satp_base.specs.Trail.{Trail, extended, IsImage, KeepsModel}
use Rattle.satp_base.proofs.Appends as appends
use Rattle.satp_base.proofs.Appends.{AllEnd, stores_leave, stores_end}
use Rattle.satp_base.proofs.Cuts.{cut_append, cut_front, cut_whole}
use Rattle.satp_base.proofs.Trails.{extended_none, extended_twice, keeps_before, keeps_front}
use Rattle.satp_stops.specs.Stops.{Kept, Step, AllPayloads, after_step, after_steps, segments, step_events}
use Rattle.satp_stops.specs.Stops.Step.{Stores, Operates, Says}
use Rattle.satp_stops.proofs.Changes.{acted_ledger, append_ledger, ledger_more, none_ledger, operation_leaves, quiet_cut, quiet_front, quiet_none}

all_first : (m : Step) (ms : List Step) → AllPayloads (m ∷ ms) → AllPayloads (m ∷ []) × AllPayloads ms
all_first (Stores q) ms ok = ((ok.0, tt), ok.1)
all_first (Operates op session terms) ms ok = (tt, ok)
all_first Says ms ok = (tt, ok)

cut_self : (es : List Event) → IsCut es es
cut_self es = subst (λ (l : List Event). IsCut l es) (append-nil es) (cut_whole es [] es refl)

module _ (IsShut : ℕ → Type 0) (zero_shuts : IsShut 0) where
  abbrev pub Ends : List (List ℕ) → List ℕ → Type 0
  Ends payloads image = appends.Ends IsShut zero_shuts payloads image

  -- the trail's images end at such a gate after the point's payloads, and its ledger is the point's
  pub record Holding (t : Trail) (k : Kept) : Type 0 where
    pub closed : AllEnd IsShut zero_shuts t k.area k.payloads
    pub ledger : ledger_at t.entries t.events ≡ k.ledger.entries

  -- the next step is an append, and the image is one of it
  abbrev pub IsStoring : List Step → List (List ℕ) → List ℕ → Type 0
  IsStoring [] payloads image = ⊥
  IsStoring (Stores q ∷ ms) payloads image = appends.Stores IsShut zero_shuts payloads q image
  IsStoring (Operates op session terms ∷ ms) payloads image = ⊥
  IsStoring (Says ∷ ms) payloads image = ⊥

  pub record At (t : Trail) (k : Kept) (rest : List Step) : Type 0 where
    pub ledger : ledger_at t.entries t.events ≡ k.ledger.entries
    pub images : (image : List ℕ) → IsImage t k.area image → Ends k.payloads image ⊎ IsStoring rest k.payloads image

  abbrev pub Among : Kept → List Step → Trail → Type 0
  Among k steps t = (done rest : List Step) × (done ++ rest ≡ steps) × At t (after_steps k done) rest

  holding_at : (t : Trail) (k : Kept) (rest : List Step) → Holding t k → At t k rest
  holding_at t k rest h = record { ledger = h.ledger; images = λ image is. inl (h.closed image is) }

  -- a cut of no events
  still : (t : Trail) (k : Kept) (es : List Event) → Holding t k → IsCut [] es → KeepsModel (extended t es) → Holding (extended t es) k
  still t k es h cut keeps = record {
    closed = λ c image. h.closed c (quiet_cut t k.area [] es (λ n s. quiet_none n k.area s) cut keeps c image);
    ledger = ledger_more t es ∙ none_ledger (ledger_at t.entries t.events) es cut ∙ h.ledger;
  }

  -- what holds after the whole of one step
  step_ends : (t : Trail) (k : Kept) (m : Step) → AllPayloads (m ∷ []) → Holding t k → KeepsModel (extended t (step_events k m)) → Holding (extended t (step_events k m)) (after_step k m)
  step_ends t k (Stores q) ok h keeps = record {
    closed = λ image is. let r = stores_end IsShut zero_shuts t k.area k.payloads q ok.0 h.closed (keeps_before t _ keeps) image is in (0, r.0, zero_shuts, r.1);
    ledger = ledger_more t _ ∙ append_ledger k.area (length (records k.payloads)) q (ledger_at t.entries t.events) _ (4, inl refl) ∙ h.ledger;
  }
  step_ends t k (Operates op session terms) ok h keeps = record {
    closed = λ c image. h.closed c (quiet_cut t k.area _ _ (λ n s. quiet_front (operation k.ledger op session terms) op session terms n k.area s) (cut_self _) keeps c image);
    ledger = ledger_more t _ ∙ ap (λ (e : Entries). fold entries_after e (operation_events (operation k.ledger op session terms) op session terms)) h.ledger ∙ operation_leaves k.ledger op session terms;
  }
  step_ends t k Says ok h keeps = subst (λ (u : Trail). Holding u k) (sym (extended_none t)) h

  -- within one step, the trail is at the point before it or at the one after it
  step_stops : (t : Trail) (k : Kept) (m : Step) (ms : List Step) (es : List Event) → AllPayloads (m ∷ []) → Holding t k → IsCut (step_events k m) es → KeepsModel (extended t es) → Among k (m ∷ ms) (extended t es)
  step_stops t k (Stores q) ms es ok h cut keeps = (
    [],
    Stores q ∷ ms,
    refl,
    record {
      ledger = ledger_more t es ∙ append_ledger k.area (length (records k.payloads)) q (ledger_at t.entries t.events) es cut ∙ h.ledger;
      images = λ image is. inr (stores_leave IsShut zero_shuts t k.area k.payloads q ok.0 h.closed es cut keeps image is);
    },
  )
  step_stops t k (Operates op session terms) ms es ok h cut keeps = ⊎_elim at_before at_after (acted_ledger (operation k.ledger op session terms) op session terms (ledger_at t.entries t.events) es cut)
    where
      closed : AllEnd IsShut zero_shuts (extended t es) k.area k.payloads
      closed c image = h.closed c (quiet_cut t k.area _ es (λ n s. quiet_front (operation k.ledger op session terms) op session terms n k.area s) cut keeps c image)

      at_before : fold entries_after (ledger_at t.entries t.events) es ≡ ledger_at t.entries t.events → Among k (Operates op session terms ∷ ms) (extended t es)
      at_before same = ([], Operates op session terms ∷ ms, refl, holding_at _ k _ (record { closed = closed; ledger = ledger_more t es ∙ same ∙ h.ledger }))

      at_after : fold entries_after (ledger_at t.entries t.events) es ≡ fold entries_after (ledger_at t.entries t.events) (operation_events (operation k.ledger op session terms) op session terms) → Among k (Operates op session terms ∷ ms) (extended t es)
      at_after done = (
        Operates op session terms ∷ [],
        ms,
        refl,
        holding_at _ _ _ (record {
          closed = closed;
          ledger = ledger_more t es ∙ done ∙ ap (λ (e : Entries). fold entries_after e (operation_events (operation k.ledger op session terms) op session terms)) h.ledger ∙ operation_leaves k.ledger op session terms;
        }),
      )
  step_stops t k Says ms es ok h cut keeps = ([], Says ∷ ms, refl, holding_at _ k _ (still t k es h cut keeps))

  among : (steps : List Step) (t : Trail) (k : Kept) (es : List Event) → AllPayloads steps → Holding t k → IsCut (segments k steps) es → KeepsModel (extended t es) → Among k steps (extended t es)
  among [] t k es ok h cut keeps = ([], [], refl, holding_at _ k _ (still t k es h cut keeps))
  among (m ∷ ms) t k es ok h cut keeps =
      ⊎_elim (λ first. step_stops t k m ms es (all_first m ms ok).0 h first keeps)
      (beyond (λ fs rest_cut is. among ms (extended t (step_events k m)) (after_step k m) fs (all_first m ms ok).1 (step_ends t k m (all_first m ms ok).0 h (keeps_before (extended t (step_events k m)) fs (keeps_all fs is))) rest_cut (keeps_all fs is)))
      (cut_append (step_events k m) (segments (after_step k m) ms) es cut)
    where
      joined : (fs : List Event) → es ≡ step_events k m ++ fs → extended (extended t (step_events k m)) fs ≡ extended t es
      joined fs is = extended_twice t (step_events k m) fs ∙ ap (extended t) (sym is)

      keeps_all : (fs : List Event) → es ≡ step_events k m ++ fs → KeepsModel (extended (extended t (step_events k m)) fs)
      keeps_all fs is = subst KeepsModel (sym (joined fs is)) keeps

      beyond : ((fs : List Event) → IsCut (segments (after_step k m) ms) fs → es ≡ step_events k m ++ fs → Among (after_step k m) ms (extended (extended t (step_events k m)) fs))
          → ((fs : List Event) × IsCut (segments (after_step k m) ms) fs × (es ≡ step_events k m ++ fs)) → Among k (m ∷ ms) (extended t es)
      beyond later (fs, rest_cut, is) =
          let rest = later fs rest_cut is in
          subst (Among k (m ∷ ms)) (joined fs is) (m ∷ rest.0, rest.1, ap (λ (l : List Step). m ∷ l) rest.2, rest.3)

  -- at each event of a cut of the steps
  pub stops : (t : Trail) (k : Kept) (steps : List Step) (events : List Event) → AllPayloads steps → Holding t k → IsCut (segments k steps) events → KeepsModel (extended t events) → (n : ℕ) → Among k steps (extended t (take n events))
  stops t k steps events ok h cut keeps n = among steps t k (take n events) ok h (cut_front (segments k steps) events cut n) (keeps_front t events n keeps)

  pub ends : (steps : List Step) (t : Trail) (k : Kept) → AllPayloads steps → Holding t k → KeepsModel (extended t (segments k steps)) → Holding (extended t (segments k steps)) (after_steps k steps)
  ends [] t k ok h keeps = subst (λ (u : Trail). Holding u k) (sym (extended_none t)) h
  ends (m ∷ ms) t k ok h keeps =
      let joined = extended_twice t (step_events k m) (segments (after_step k m) ms) in
      let keeps_all : KeepsModel (extended (extended t (step_events k m)) (segments (after_step k m) ms)) = subst KeepsModel (sym joined) keeps in
      subst (λ (u : Trail). Holding u (after_steps (after_step k m) ms)) joined
      (ends ms (extended t (step_events k m)) (after_step k m) (all_first m ms ok).1 (step_ends t k m (all_first m ms ok).0 h (keeps_before (extended t (step_events k m)) (segments (after_step k m) ms) keeps_all)) keeps_all)
