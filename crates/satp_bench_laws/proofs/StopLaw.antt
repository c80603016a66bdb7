-- A call that a stop comes into.
use Rattle.std.proofs.Common.{◌≡◌, ◌≢◌, ◌≤◌, ◌<◌, inl, inr, ⊎_elim, ℕ, zero, suc, Bool, true, false, List, [], ◌∷◌, ◌++◌, length, take, refl, sym, ap, subst, ◌∙◌, arith}
use Rattle.std.specs.Prelude.{◌%◌, ◌==◌}
use Rattle.std.specs.List.{fold}
use Rattle.std.proofs.lemmas.Bool.Decides.{nat_tests}
use Rattle.std.proofs.lemmas.List.{map-append}
use Rattle.satp_base.specs.Format.{EndsAt, IsAtRest, IsPayload, Stands, counted, records}
use Rattle.satp_base.specs.Laws.{RestsAt, gate_byte}
use Rattle.satp_base.specs.LedgerAt.{ledger_at}
use Rattle.satp_base.specs.Segments.{append_events}
use Rattle.satp_base.specs.Trail.{IsImage, KeepsModel, Leaves, Trail, extended, next, settled}
use Rattle.satp_base.specs.declared.area.Area.TheVariants.{JournalA}
use Rattle.satp_base.specs.declared.area.Event.{Event as DiskEvent}
use Rattle.satp_base.proofs.Appends.{longer_ends}
use Rattle.satp_base.proofs.Closing.{gate_is, rest_stands}
use Rattle.satp_base.proofs.Reopens.{restart_leaves}
use Rattle.satp_base.proofs.Standings.{only_settled}
use Rattle.satp_log.specs.Journals.{payload_in, payloads_of}
use Rattle.satp_point_laws.proofs.Kept.{moved-append}
use Rattle.satp_points.specs.States.{kept_of, steps_of}
use Rattle.satp_records.specs.declared.stored.Setup.{Setup}
use Rattle.satp_records.specs.Formats.{payload_of}
use Rattle.satp_records.specs.declared.stored.Stored.TheVariants as journaled
use Rattle.satp_sides.specs.Points.{Move, Appends, Side, Stored, moved, moved_by}
use Rattle.satp_stops.specs.Stops.{RestsIn}
use Rattle.satp_stops.proofs.Changes.{append_ledger, ledger_more}
use Rattle.satp_bench_laws.specs.Seats.{BeginsPicked}
use Rattle.satp_bench_laws.proofs.Breaking.{stands}
use Rattle.satp_bench_laws.proofs.Gates.{decides, early, leaves, picked-gate}

-- ---- what is left of the move that a stop came into

-- From a trail at rest at the moves that were made, so many events of the next one follow, and the site begins again.
module _ (setup : Setup) (side : Side) (done : List Move) (pick : ℕ) (t u : Trail) (rests : RestsIn t (kept_of JournalA setup (moved_by side done)) []) (keeps : KeepsModel t) where
  abbrev pub here : Side
  here = moved_by side done

  abbrev pub payloads : List (List ℕ)
  payloads = payloads_of setup here.records

  -- it rests there, with these moves made and those to come
  abbrev pub Here : List Move → List Move → Type 0
  Here made rest = RestsIn u (kept_of JournalA setup (moved_by side made)) (steps_of rest) × Stands (u.start JournalA) (payloads_of setup (moved_by side made).records)

  only-start : (image : List ℕ) → IsImage u JournalA image → u.events ≡ [] → image ≡ u.start JournalA
  only-start image at none = only_settled (u.start JournalA) image (subst (λ (es : List DiskEvent). Leaves (fold (next JournalA) (settled (u.start JournalA)) es) image) none at)

  at-rest : RestsAt t JournalA payloads
  at-rest image is = ⊎_elim (λ r. r) (λ none. absurd none) (rests.images image is)

  again-ledger : (v : Trail) → BeginsPicked v pick u → ledger_at v.entries v.events ≡ here.book.entries → ledger_at u.entries u.events ≡ here.book.entries
  again-ledger v begins e = ap (ledger_at u.entries) begins.none ∙ begins.entries ∙ e

  -- none of its events was made
  pub still : (ms : List Move) → BeginsPicked t pick u → Here done ms
  still ms begins = (
    record { ledger = again-ledger t begins rests.ledger; images = λ image is. inl (at-rest image (restart_leaves t u JournalA (begins.areas JournalA) begins.none image is)) },
    rest_stands payloads (u.start JournalA) (at-rest (u.start JournalA) (begins.areas JournalA)),
  )

  module _ (x : Stored) (rest : List Move) (ok : IsPayload (payload_in x)) (left : ℕ) where
    abbrev pub events : List DiskEvent
    events = append_events JournalA (length (records payloads)) (payload_in x)

    abbrev pub there : Trail
    there = extended t (take left events)

    module _ (kept : KeepsModel there) (begins : BeginsPicked there pick u) where
      there-ledger : ledger_at there.entries there.events ≡ here.book.entries
      there-ledger = ledger_more t (take left events) ∙ append_ledger JournalA (length (records payloads)) (payload_in x) (ledger_at t.entries t.events) (take left events) (left, inl refl) ∙ rests.ledger

      -- its record doesn't stand
      before : gate_byte payloads (u.start JournalA) ≢ 1 → Here done (Appends x ∷ rest)
      before shut = (
        record {
          ledger = again-ledger there begins there-ledger;
          images = λ image is. inr (leaves t payloads (payload_in x) ok at-rest keeps left kept image (restart_leaves there u JournalA (begins.areas JournalA) begins.none image is));
        },
        (decides t payloads (payload_in x) ok at-rest keeps left kept (u.start JournalA) (begins.areas JournalA)).before.1 shut,
      )

      abbrev longer : List (List ℕ)
      longer = payloads ++ payload_in x ∷ []

      long-rest : gate_byte payloads (u.start JournalA) ≡ 1 → IsAtRest longer (u.start JournalA)
      long-rest is = ⊎_elim
          (λ r. absurd ((decides t payloads (payload_in x) ok at-rest keeps left kept (u.start JournalA) (begins.areas JournalA)).before.0 (rest_stands payloads (u.start JournalA) r) is))
          (λ (byte, behind, ends). (
            behind,
            longer_ends payloads (payload_in x) behind (u.start JournalA) ok
                (subst (λ (n : ℕ). EndsAt payloads n (counted (payload_in x) ++ 0 ∷ behind) (u.start JournalA)) (sym (gate_is payloads byte (counted (payload_in x) ++ 0 ∷ behind) (u.start JournalA) ends) ∙ is) ends),
          ))
          (leaves t payloads (payload_in x) ok at-rest keeps left kept (u.start JournalA) (begins.areas JournalA))

      more-made : moved_by side (done ++ Appends x ∷ []) ≡ moved here (Appends x)
      more-made = moved-append side done (Appends x ∷ [])

      more-payloads : longer ≡ payloads_of setup (moved here (Appends x)).records
      more-payloads = ap (λ (l : List (List ℕ)). payload_of (journaled.Setup setup) ∷ l) (sym (map-append payload_in here.records (x ∷ [])))

      -- its record stands
      after : gate_byte payloads (u.start JournalA) ≡ 1 → Here (done ++ Appends x ∷ []) rest
      after is =
          let begun : (image : List ℕ) → IsImage u JournalA image → IsAtRest longer image = λ image at. subst (IsAtRest longer) (sym (only-start image at begins.none)) (long-rest is) in
          subst (λ (s : Side). RestsIn u (kept_of JournalA setup s) (steps_of rest) × Stands (u.start JournalA) (payloads_of setup s.records)) (sym more-made) (
            record { ledger = again-ledger there begins there-ledger; images = λ image at. inl (subst (λ (l : List (List ℕ)). IsAtRest l image) more-payloads (begun image at)) },
            subst (Stands (u.start JournalA)) more-payloads (rest_stands longer (u.start JournalA) (long-rest is)),
          )

      abbrev pub Goes_on : Bool → Type 0
      Goes_on true = Here (done ++ Appends x ∷ []) rest
      Goes_on false = Here done (Appends x ∷ rest)

      early-left : left ≤ 2 → Here done (Appends x ∷ rest)
      early-left le = before (λ one. cc (sym one ∙ early t payloads (payload_in x) ok at-rest keeps left le kept (u.start JournalA) (begins.areas JournalA)))

  not-three : (left : ℕ) → left ≤ 2 → (left == 3) ≡ false
  not-three left le = grind (arith, nat_tests)

  is-byte : (n : ℕ) → n ≡ 1 → (n == 1) ≡ true
  is-byte n e = grind (arith, nat_tests)

  no-byte : (n : ℕ) → n ≢ 1 → (n == 1) ≡ false
  no-byte n other = by-test (n == 1) refl
    where
      by-test : (b : Bool) → (n == 1) ≡ b → (n == 1) ≡ false
      by-test false e = e
      by-test true e = absurd (other (grind (arith, nat_tests)))

  pub append-left : (x : Stored) (rest : List Move) (ok : IsPayload (payload_in x)) (left : ℕ) → left < 4 → (kept : KeepsModel (there x rest ok left)) (begins : BeginsPicked (there x rest ok left) pick u)
      → Goes_on x rest ok left kept begins (stands (Appends x) left pick)
  append-left x rest ok zero lt kept begins = early-left x rest ok 0 kept begins (omega arith)
  append-left x rest ok (suc zero) lt kept begins = early-left x rest ok 1 kept begins (omega arith)
  append-left x rest ok (suc (suc zero)) lt kept begins = early-left x rest ok 2 kept begins (omega arith)
  append-left x rest ok (suc (suc (suc zero))) lt kept begins =
      ⊎_elim
      (λ (byte, one). subst (Goes_on x rest ok 3 kept begins) (sym (is-byte (pick % 256) byte)) (after x rest ok 3 kept begins one))
      (λ (other, shut). subst (Goes_on x rest ok 3 kept begins) (sym (no-byte (pick % 256) other)) (before x rest ok 3 kept begins shut))
      (picked-gate t payloads (payload_in x) ok at-rest keeps kept pick (u.start JournalA) (begins.picked JournalA) (begins.areas JournalA))
  append-left x rest ok (suc (suc (suc (suc n)))) lt kept begins = absurd (omega (arith, lt))

  module _ (x : Stored) (rest : List Move) (ok : IsPayload (payload_in x)) (left : ℕ) (kept : KeepsModel (there x rest ok left)) (begins : BeginsPicked (there x rest ok left) pick u)
      (P : Bool → Type 0) (yes : Here (done ++ Appends x ∷ []) rest → P true) (no : Here done (Appends x ∷ rest) → P false) where
    either-way : (b : Bool) → Goes_on x rest ok left kept begins b → P b
    either-way true h = yes h
    either-way false h = no h

    pub append-by : left < 4 → P (stands (Appends x) left pick)
    append-by lt = either-way (stands (Appends x) left pick) (append-left x rest ok left lt kept begins)
