-- The moves of a call that end before a stop.
use Rattle.std.proofs.Common.{◌≡◌, ◌≤◌, ℕ, ◌+◌, ◌-◌, true, nat_le, List, [], ◌∷◌, length, Option, Some, None, refl, ap, ◌∙◌, arith, length-append}
use Rattle.std.proofs.lemmas.Bool.Decides.{nat_tests}
use Rattle.satp_base.specs.Acts.{operation_events}
use Rattle.satp_base.specs.LedgerRule.{operation}
use Rattle.satp_base.specs.declared.area.Area.{Area}
use Rattle.satp_point_laws.proofs.Kept.{kept-moves}
use Rattle.satp_points.specs.States.{kept_of, step_of, steps_of}
use Rattle.satp_records.specs.declared.stored.Setup.{Setup}
use Rattle.satp_sides.specs.Points.{Move, Appends, Acts, Says, Side, moved}
use Rattle.satp_stops.specs.Stops.{Kept, after_step, segments, step_events}
use Rattle.satp_drill_runs.specs.Benches.{Works, Limit, Stops, course}
use Rattle.satp_bench_laws.proofs.Followed.{BeginsAppend, Followed}

-- ---- without a limit

pub no-limit : (side : Side) (ms : List Move) → (course side ms None).bench ≡ Works None
no-limit side [] = refl
no-limit side (m ∷ ms) = no-limit (moved side m) ms

-- ---- how many events

abbrev pub cost : Side → Move → ℕ
cost side (Appends x) = 4
cost side (Acts s op terms) = length (operation_events (operation side.book op s terms) op s terms)
cost side (Says t) = 0

abbrev pub costs : Side → List Move → ℕ
costs side [] = 0
costs side (m ∷ ms) = cost side m + costs (moved side m) ms

module _ (area : Area) (setup : Setup) where
  own-cost : (side : Side) (m : Move) → length (step_events (kept_of area setup side) (step_of m)) ≡ cost side m
  own-cost side (Appends x) = refl
  own-cost side (Acts s op terms) = refl
  own-cost side (Says t) = refl

  pub all-costs : (side : Side) (ms : List Move) → length (segments (kept_of area setup side) (steps_of ms)) ≡ costs side ms
  all-costs side [] = refl
  all-costs side (m ∷ ms) =
      let k = kept_of area setup side in
      let rest : length (segments (after_step k (step_of m)) (steps_of ms)) ≡ costs (moved side m) ms =
      ap (λ (j : Kept). length (segments j (steps_of ms))) (kept-moves area setup side (m ∷ [])) ∙ all-costs (moved side m) ms in
      omega (arith, length-append (step_events k (step_of m)) (segments (after_step k (step_of m)) (steps_of ms)), own-cost side m, rest)

-- ---- before a stop

first-cost : (side : Side) (ms : List Move) → BeginsAppend ms → 4 ≤ costs side ms
first-cost side [] h = absurd h
first-cost side (Appends x ∷ ms) h = omega arith
first-cost side (Acts s op terms ∷ ms) h = absurd h
first-cost side (Says t ∷ ms) h = absurd h

is-at-most : (m n : ℕ) → m ≤ n → nat_le m n ≡ true
is-at-most m n h = grind (arith, nat_tests)

abbrev passing : ℕ → ℕ → Option Limit
passing events pick = Some (Stops events pick)

pub all-fit : (side : Side) (ms : List Move) (events pick : ℕ) → Followed ms → costs side ms ≤ events → (course side ms (Some (Stops events pick))).bench ≡ Works (Some (Stops (events - costs side ms) pick))
all-fit side [] events pick f h = ap (λ (n : ℕ). Works (passing n pick)) (omega arith)
all-fit side (Says t ∷ ms) events pick f h = all-fit side ms events pick f (omega (arith, h)) ∙ ap (λ (n : ℕ). Works (passing n pick)) (omega arith)
all-fit side (Appends x ∷ ms) events pick f h =
    let fits : nat_le 4 events ≡ true = is-at-most 4 events (omega (arith, h)) in
    let rest = all-fit (moved side (Appends x)) ms (events - 4) pick f (omega (arith, h)) in
    rw fits (rest ∙ ap (λ (n : ℕ). Works (passing n pick)) (omega arith))
all-fit side (Acts s op terms ∷ ms) events pick f h =
    let c = cost side (Acts s op terms) in
    let after = moved side (Acts s op terms) in
    let later : 4 ≤ costs after ms = first-cost after ms f.0 in
    let fits : nat_le 1 events ≡ true = is-at-most 1 events (omega (arith, h, later)) in
    let rest = all-fit after ms (events - c) pick f.1 (omega (arith, h)) in
    rw fits (rest ∙ ap (λ (n : ℕ). Works (passing n pick)) (omega arith))
