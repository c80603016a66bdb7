-- What a pick leaves of an append that a stop came into.
use Rattle.std.proofs.Common.{◌≡◌, ◌≢◌, ◌∙◌, ◌⊎◌, inl, inr, ⊎_elim, ◌≤◌, ◌<◌, ℕ, zero, suc, List, [], ◌∷◌, ◌++◌, length, take, refl, sym, ap, subst, arith, length-append}
use Rattle.std.specs.Prelude.{◌%◌}
use Rattle.std.specs.List.{fold}
use Rattle.std.proofs.lemmas.Bool.{cases_eq}
use Rattle.std.proofs.lemmas.List.Sums.{fold-append}
use Rattle.satp_base.specs.Format.{IsPayload, counted, records}
use Rattle.satp_base.specs.Laws.{IsInAppend, GateDecides, RestsAt, gate_byte}
use Rattle.satp_base.specs.Segments.{IsCut, append_events}
use Rattle.satp_base.specs.Trail.{IsImage, IsOutside, KeepsFrom, KeepsModel, Leaves, Standing, Trail, extended, next, settled, standing, wrote}
use Rattle.satp_base.specs.declared.area.Area.{Area}
use Rattle.satp_base.specs.declared.area.Area.TheVariants.{JournalA}
use Rattle.satp_base.specs.declared.area.Event.{Event}
use Rattle.satp_base.proofs.Closing.{append_decides, append_leaves}
use Rattle.satp_base.proofs.Standings.{here_settled}
use Rattle.satp_base.proofs.Trails.{keeps_front}
use Rattle.satp_memory.specs.Steps.{IsPicked}

keeps-join : (area : Area) (s : Standing) (es fs : List Event) → KeepsFrom area s es → KeepsFrom area (fold (next area) s es) fs → KeepsFrom area s (es ++ fs)
keeps-join area s [] fs k h = h
keeps-join area s (e ∷ es) fs k h = (k.0, keeps-join area (next area s e) es fs k.1 h)

module _ (t : Trail) (payloads : List (List ℕ)) (q : List ℕ) (ok : IsPayload q) (rests : RestsAt t JournalA payloads) (keeps : KeepsModel t) where
  abbrev pub gate : ℕ
  gate = length (records payloads)

  abbrev pub events : List Event
  events = append_events JournalA gate q

  abbrev at : ℕ → Standing
  at n = standing (extended t (take n events)) JournalA

  along : (n : ℕ) → at n ≡ fold (next JournalA) (standing t JournalA) (take n events)
  along n = fold-append (next JournalA) (settled (t.start JournalA)) t.events (take n events)

  module _ (n : ℕ) (kept : KeepsModel (extended t (take n events))) where
    pub decides : (image : List ℕ) → IsImage (extended t (take n events)) JournalA image → GateDecides payloads q image
    decides image is = (append_decides t JournalA payloads q (take n events) ok rests (n, inl refl) kept image is).0

    pub leaves : (image : List ℕ) → IsImage (extended t (take n events)) JournalA image → IsInAppend payloads q image
    leaves image is = append_leaves t JournalA payloads q (take n events) ok rests (n, inl refl) kept image is

  cut-early : (n : ℕ) → n ≤ 2 → IsCut (take 2 events) (take n events)
  cut-early zero le = (0, inl refl)
  cut-early (suc zero) le = (1, inl refl)
  cut-early (suc (suc zero)) le = (2, inl refl)
  cut-early (suc (suc (suc n))) le = absurd (omega (arith, le))

  -- before the gate is written
  pub early : (n : ℕ) → n ≤ 2 → KeepsModel (extended t (take n events)) → (image : List ℕ) → IsImage (extended t (take n events)) JournalA image → gate_byte payloads image ≡ 0
  early n le kept image is = (append_decides t JournalA payloads q (take n events) ok rests (n, inl refl) kept image is).1.before (cut-early n le)

  -- after its write
  module _ (kept : KeepsModel (extended t (take 3 events))) where
    -- the bytes with the new record after the closed gate
    abbrev staged : List ℕ
    staged = (at 1).now

    abbrev written : Standing
    written = wrote (settled staged) gate (1 ∷ [])

    at-two : at 2 ≡ settled staged
    at-two = along 2 ∙ ap (λ (s : Standing). settled s.now) (sym (along 1))

    at-three : at 3 ≡ written
    at-three = along 3 ∙ ap (λ (s : Standing). wrote (settled s.now) gate (1 ∷ [])) (sym (along 1))

    at-four : at 4 ≡ settled written.now
    at-four = along 4 ∙ ap (λ (s : Standing). settled (wrote (settled s.now) gate (1 ∷ [])).now) (sym (along 1))

    kept-two : KeepsModel (extended t (take 2 events))
    kept-two = keeps_front t (take 3 events) 2 kept

    kept-four : KeepsModel (extended t (take 4 events))
    kept-four area = keeps-join area (settled (t.start area)) t.events events (keeps area) (tt, (tt, (tt, (tt, tt))))

    staged-zero : gate_byte payloads staged ≡ 0
    staged-zero = early 2 (omega arith) kept-two staged (subst (λ (s : Standing). Leaves s staged) (sym at-two) (here_settled staged))

    written-one : gate_byte payloads written.now ≡ 1
    written-one = (append_decides t JournalA payloads q (take 4 events) ok rests (4, inl refl) kept-four written.now (subst (λ (s : Standing). Leaves s written.now) (sym at-four) (here_settled written.now))).1.after [] refl

    within : (image : List ℕ) → IsInAppend payloads q image → gate < length image
    within image (inl (behind, ends)) = omega (arith, ap (λ (l : List ℕ). length l) ends.bytes, length-append (records payloads) (0 ∷ behind))
    within image (inr (byte, behind, ends)) = omega (arith, ap (λ (l : List ℕ). length l) ends.bytes, length-append (records payloads) (byte ∷ (counted q ++ 0 ∷ behind)))

    inside : IsOutside gate ((gate, 1) ∷ []) → ⊥
    inside out = ⊎_elim (λ lt. omega (arith, lt)) (λ le. omega (arith, le)) out.0

    abbrev IsThere : ℕ → List ℕ → Type 0
    IsThere pick image = ((pick % 256 ≡ 1) × (gate_byte payloads image ≡ 1)) ⊎ ((pick % 256 ≢ 1) × (gate_byte payloads image ≢ 1))

    -- the pick is the byte of the gate, as far as that is 1
    pub picked-gate : (pick : ℕ) (image : List ℕ) → IsPicked (at 3) pick image → IsImage (extended t (take 3 events)) JournalA image → IsThere pick image
    picked-gate pick image picked is = by-pick pick (subst (λ (s : Standing). IsPicked s pick image) at-three picked)
      where
        by-pick : (n : ℕ) → IsPicked written n image → IsThere n image
        by-pick zero p = inr ((λ e. cc e), (λ e. cc (sym e ∙ ap (gate_byte payloads) (p.old refl) ∙ staged-zero)))
        by-pick (suc zero) p = inl (refl, ap (gate_byte payloads) (p.new refl) ∙ written-one)
        by-pick (suc (suc n)) p =
            let byte : gate_byte payloads image ≡ suc (suc n) % 256 = (p.filled (omega arith)).filled gate (within image (leaves 3 kept image is)) inside in
            ⊎_elim (λ e. inl (e, byte ∙ e)) (λ other. inr (other, λ e. other (sym byte ∙ e))) (cases_eq (suc (suc n) % 256) 1)
