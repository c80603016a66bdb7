-- The points of a list of steps, from images at rest and from images that stand for a list.
use Rattle.std.proofs.Common.{◌≡◌, ◌≢◌, ◌⊎◌, ℕ, List, [], ◌∷◌, ◌++◌, inl, inr, refl, ⊎_elim, subst, sym}
use Rattle.satp_base.specs.Format.{EndsAt, IsAtRest, Stands}
use Rattle.satp_base.specs.Trail.{Trail}
use Rattle.satp_base.specs.LedgerAt.{ledger_at}
use Rattle.satp_base.proofs.Closing.{Zero, in_append, stands_closed, stands_closed_at, stores_stand}
use Rattle.satp_stops.specs.Stops.{Kept, Step, AllPayloads, AllStand, IsInNext, NextStands, RestsIn, StandsAt, StopsRest, StepsRest, StopsLeave, StepsEnd, after_steps}
use Rattle.satp_stops.specs.Stops.Step.{Stores, Operates, Says}
use Rattle.satp_stops.proofs.Stopping.{At, Ends, Holding, IsStoring, ends, stops}

-- ---- at rest

end_rests : (payloads : List (List ℕ)) (image : List ℕ) → Ends Zero refl payloads image → IsAtRest payloads image
end_rests payloads image (gate, behind, is, e) = (behind, subst (λ (n : ℕ). EndsAt payloads n behind image) is e)

storing_next : (rest : List Step) (payloads : List (List ℕ)) (image : List ℕ) → IsStoring Zero refl rest payloads image → IsInNext rest payloads image
storing_next [] payloads image is = is
storing_next (Stores q ∷ ms) payloads image is = in_append payloads q image is
storing_next (Operates op session terms ∷ ms) payloads image is = is
storing_next (Says ∷ ms) payloads image is = is

at_rests : (t : Trail) (k : Kept) (rest : List Step) → At Zero refl t k rest → RestsIn t k rest
at_rests t k rest a = record { ledger = a.ledger; images = λ image is. ⊎_elim (λ e. inl (end_rests k.payloads image e)) (λ s. inr (storing_next rest k.payloads image s)) (a.images image is) }

rests_hold : (t : Trail) (k : Kept) → RestsIn t k [] → Holding Zero refl t k
rests_hold t k r = record { ledger = r.ledger; closed = λ image is. ⊎_elim (λ (behind, e). (0, behind, refl, e)) (λ none. absurd none) (r.images image is) }

pub stops_rest : StopsRest
stops_rest t k steps events ok r cut keeps n =
    let a = stops Zero refl t k steps events ok (rests_hold t k r) cut keeps n in (a.0, a.1, a.2, at_rests _ (after_steps k a.0) a.1 a.3)

pub steps_rest : StepsRest
steps_rest t k steps ok r keeps =
    let h = ends Zero refl steps t k ok (rests_hold t k r) keeps in record { ledger = h.ledger; images = λ image is. inl (end_rests (after_steps k steps).payloads image (h.closed image is)) }

-- ---- images that stand for a list

abbrev Shut : ℕ → Type 0
Shut gate = gate ≢ 1

zero_shuts : Shut 0
zero_shuts e = cc

end_stands : (payloads : List (List ℕ)) (image : List ℕ) → Ends Shut zero_shuts payloads image → Stands image payloads
end_stands payloads image (gate, behind, shut, e) = stands_closed payloads gate behind image shut e

storing_stands : (rest : List Step) (payloads : List (List ℕ)) (image : List ℕ) → AllPayloads rest → IsStoring Shut zero_shuts rest payloads image → Stands image payloads ⊎ NextStands rest payloads image
storing_stands [] payloads image ok is = absurd is
storing_stands (Stores q ∷ ms) payloads image ok is = stores_stand Shut zero_shuts payloads q image (λ gate shut. shut) ok.0 is
storing_stands (Operates op session terms ∷ ms) payloads image ok is = absurd is
storing_stands (Says ∷ ms) payloads image ok is = absurd is

-- the steps that are still to come
all_rest : (done rest : List Step) → AllPayloads (done ++ rest) → AllPayloads rest
all_rest [] rest ok = ok
all_rest (Stores q ∷ ms) rest ok = all_rest ms rest ok.1
all_rest (Operates op session terms ∷ ms) rest ok = all_rest ms rest ok
all_rest (Says ∷ ms) rest ok = all_rest ms rest ok

at_stands : (t : Trail) (k : Kept) (rest : List Step) → AllPayloads rest → At Shut zero_shuts t k rest → StandsAt t k rest
at_stands t k rest ok a = record { ledger = a.ledger; images = λ image is. ⊎_elim (λ e. inl (end_stands k.payloads image e)) (λ s. storing_stands rest k.payloads image ok s) (a.images image is) }

stand_hold : (t : Trail) (k : Kept) → k.payloads ≢ [] → AllStand t k.area k.payloads → ledger_at t.entries t.events ≡ k.ledger.entries → Holding Shut zero_shuts t k
stand_hold t k some stand ledger = record { closed = λ c image. stands_closed_at k.payloads c some (stand c image); ledger = ledger }

pub stops_leave : StopsLeave
stops_leave t k steps events ok some stand ledger cut keeps n =
    let a = stops Shut zero_shuts t k steps events ok (stand_hold t k some stand ledger) cut keeps n in
    (a.0, a.1, a.2, at_stands _ (after_steps k a.0) a.1 (all_rest a.0 a.1 (subst AllPayloads (sym a.2) ok)) a.3)

pub steps_end : StepsEnd
steps_end t k steps ok some stand ledger keeps =
    let h = ends Shut zero_shuts steps t k ok (stand_hold t k some stand ledger) keeps in record { ledger = h.ledger; images = λ image is. inl (end_stands (after_steps k steps).payloads image (h.closed image is)) }
