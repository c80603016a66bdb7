-- What the ends of images mean for the lists that they stand for.
use Rattle.std.proofs.Common.{◌≡◌, ◌≢◌, ◌⊎◌, ℕ, List, [], ◌∷◌, ◌++◌, length, refl, sym, ap, ◌∙◌, subst, inl, inr, ⊎_elim, arith, length-append}
use Rattle.std.proofs.Math.Seq.{get_or-append_seam}
use Rattle.std.proofs.lemmas.Bool.{cases_eq, cases_lt}
use Rattle.satp_base.specs.Format.{IsPayload, counted, records, EndsAt, Stands, StandsOpened, IsMendable, IsClosed, IsAtRest}
use Rattle.satp_base.specs.declared.area.Area.{Area}
use Rattle.satp_base.specs.Trail.{Trail}
use Rattle.satp_base.specs.Laws.{IsInAppend, RestsAt, GateDecides, gate_byte, InAppendReads, AppendLeaves, AppendDecides, AppendEnds}
use Rattle.satp_base.proofs.Appends.{longer_ends, Stores, AllEnd, stores_leave, stores_before, stores_after, stores_end}
use Rattle.satp_base.proofs.Readings.{one_list}

-- a closed gate ends the list
pub stands_closed : (payloads : List (List ℕ)) (gate : ℕ) (behind image : List ℕ) → gate ≢ 1 → EndsAt payloads gate behind image → Stands image payloads
stands_closed [] gate behind image shut ends = ⊎_elim (λ long. inr (long, (gate, behind, shut, ends))) (λ short. inl (short, refl)) (cases_lt 1 (length image))
stands_closed (p ∷ payloads) gate behind image shut ends = inr (omega (arith, ap length ends.bytes, length-append (1 ∷ counted p) (records payloads), length-append (records (p ∷ payloads)) (gate ∷ behind)), (gate, behind, shut, ends))

pub closed_stands : (payloads : List (List ℕ)) (image : List ℕ) → IsClosed payloads image → Stands image payloads
closed_stands payloads image (gate, behind, shut, ends) = stands_closed payloads gate behind image shut ends

-- a list that isn't empty ends at a closed gate in each image that stands for it
pub stands_closed_at : (payloads : List (List ℕ)) (image : List ℕ) → payloads ≢ [] → Stands image payloads → IsClosed payloads image
stands_closed_at payloads image some (inl (short, none)) = absurd (some none)
stands_closed_at payloads image some (inr (long, closed)) = closed

pub rest_closes : (payloads : List (List ℕ)) (image : List ℕ) → IsAtRest payloads image → IsClosed payloads image
rest_closes payloads image (behind, ends) = (0, behind, (λ e. cc), ends)

pub rest_stands : (payloads : List (List ℕ)) (image : List ℕ) → IsAtRest payloads image → Stands image payloads
rest_stands payloads image rest = closed_stands payloads image (rest_closes payloads image rest)

-- what is being stored stands for the list before or for the longer one
pub stores_stand : (IsShut : ℕ → Type 0) (zero_shuts : IsShut 0) (payloads : List (List ℕ)) (q image : List ℕ) → ((gate : ℕ) → IsShut gate → gate ≢ 1) → IsPayload q → Stores IsShut zero_shuts payloads q image → Stands image payloads ⊎ Stands image (payloads ++ q ∷ [])
stores_stand IsShut zero_shuts payloads q image closes ok (inl (gate, behind, shut, ends)) = inl (stands_closed payloads gate behind image (closes gate shut) ends)
stores_stand IsShut zero_shuts payloads q image closes ok (inr (gate, behind, ends)) = ⊎_elim open_gate (λ shut. inl (stands_closed payloads gate (counted q ++ 0 ∷ behind) image shut ends)) (cases_eq gate 1)
  where
    open_gate : gate ≡ 1 → Stands image payloads ⊎ Stands image (payloads ++ q ∷ [])
    open_gate is = inr (rest_stands (payloads ++ q ∷ []) image (behind, longer_ends payloads q behind image ok (subst (λ (n : ℕ). EndsAt payloads n (counted q ++ 0 ∷ behind) image) is ends)))

abbrev pub Zero : ℕ → Type 0
Zero gate = gate ≡ 0

-- ---- an image of an append at a gate that is 0

pub in_append : (payloads : List (List ℕ)) (q image : List ℕ) → Stores Zero refl payloads q image → IsInAppend payloads q image
in_append payloads q image (inl (gate, behind, is, ends)) = inl (behind, subst (λ (n : ℕ). EndsAt payloads n behind image) is ends)
in_append payloads q image (inr stored) = inr stored

pub gate_is : (payloads : List (List ℕ)) (gate : ℕ) (behind image : List ℕ) → EndsAt payloads gate behind image → gate_byte payloads image ≡ gate
gate_is payloads gate behind image ends = rw ends.bytes (get_or-append_seam (records payloads) gate behind 0)

module _ (payloads : List (List ℕ)) (q image : List ℕ) (ok : IsPayload q) where
  abbrev longer : List (List ℕ)
  longer = payloads ++ q ∷ []

  not_both : Stands image payloads → Stands image longer → ⊥
  not_both a b = omega (arith, ap length (one_list image payloads longer a b), length-append payloads (q ∷ []))

  with_one : (behind : List ℕ) → EndsAt payloads 1 (counted q ++ 0 ∷ behind) image → IsAtRest longer image
  with_one behind ends = (behind, longer_ends payloads q behind image ok ends)

  opened : (gate : ℕ) (behind : List ℕ) → gate ≢ 1 → EndsAt payloads gate (counted q ++ 0 ∷ behind) image → StandsOpened image longer
  opened gate behind shut ends =
      let e : EndsAt payloads 1 (counted q ++ 0 ∷ behind) (records payloads ++ 1 ∷ (counted q ++ 0 ∷ behind)) = record { valid = ends.valid; bytes = refl } in
      (payloads, gate, counted q ++ 0 ∷ behind, shut, ends, rest_stands longer _ (behind, longer_ends payloads q behind _ ok e))

  decides_before : (gate : ℕ) → gate ≢ 1 → gate_byte payloads image ≡ gate → Stands image payloads → IsMendable image → GateDecides payloads q image
  decides_before gate shut is stands mends = record {
    longer = (λ s. absurd (not_both stands s), λ e. absurd (shut (sym is ∙ e)));
    before = (λ s e. shut (sym is ∙ e), λ other. stands);
    mends = mends;
  }

  decides_longer : gate_byte payloads image ≡ 1 → Stands image longer → IsMendable image → GateDecides payloads q image
  decides_longer is stands mends = record {
    longer = (λ s. is, λ e. stands);
    before = (λ s. absurd (not_both s stands), λ other. absurd (other is));
    mends = mends;
  }

  pub gate_decides : IsInAppend payloads q image → GateDecides payloads q image
  gate_decides (inl (behind, ends)) = decides_before 0 (λ e. cc) (gate_is payloads 0 behind image ends) (rest_stands payloads image (behind, ends)) (inr (inl (payloads, (behind, ends))))
  gate_decides (inr (gate, behind, ends)) = ⊎_elim open_gate shut_gate (cases_eq gate 1)
    where
      open_gate : gate ≡ 1 → GateDecides payloads q image
      open_gate is =
          let rest = with_one behind (subst (λ (n : ℕ). EndsAt payloads n (counted q ++ 0 ∷ behind) image) is ends) in
          decides_longer (gate_is payloads gate (counted q ++ 0 ∷ behind) image ends ∙ is) (rest_stands longer image rest) (inr (inl (longer, rest)))

      shut_gate : gate ≢ 1 → GateDecides payloads q image
      shut_gate shut = decides_before gate shut (gate_is payloads gate (counted q ++ 0 ∷ behind) image ends) (stands_closed payloads gate (counted q ++ 0 ∷ behind) image shut ends) (inr (inr (longer, opened gate behind shut ends)))

  -- one of the two lists is there
  pub either_stands : IsInAppend payloads q image → Stands image payloads ⊎ Stands image longer
  either_stands is = let d = gate_decides is in ⊎_elim (λ one. inr (d.longer.1 one)) (λ other. inl (d.before.1 other)) (cases_eq (gate_byte payloads image) 1)

pub in_append_reads : InAppendReads
in_append_reads payloads q image ok is = gate_decides payloads q image ok is

rest_ends : (t : Trail) (area : Area) (payloads : List (List ℕ)) → RestsAt t area payloads → AllEnd Zero refl t area payloads
rest_ends t area payloads rests image is = let r = rests image is in (0, r.0, refl, r.1)

pub append_leaves : AppendLeaves
append_leaves t area payloads q events ok rests cut keeps image is = in_append payloads q image (stores_leave Zero refl t area payloads q ok (rest_ends t area payloads rests) events cut keeps image is)

pub append_decides : AppendDecides
append_decides t area payloads q events ok rests cut keeps image is = (
  gate_decides payloads q image ok (append_leaves t area payloads q events ok rests cut keeps image is),
  record {
    before = λ early. let r = stores_before Zero refl t area payloads q ok (rest_ends t area payloads rests) events early keeps image is in gate_is payloads r.0 r.1 image r.3 ∙ r.2;
    after = λ more begins. let r = stores_after Zero refl t area payloads q ok (rest_ends t area payloads rests) events more cut begins keeps image is in gate_is payloads 1 (counted q ++ 0 ∷ r.0) image r.1;
  },
)

pub append_ends : AppendEnds
append_ends t area payloads q ok rests keeps image is = stores_end Zero refl t area payloads q ok (rest_ends t area payloads rests) keeps image is
