-- The stage after a call.
use Rattle.std.proofs.Common.{◌≡◌, Option, Some, None, Result, Ok, Err, refl, ap, ◌∙◌}
use Rattle.satp_base.specs.Founding.{Founding}
use Rattle.satp_points.specs.declared.fault.Refused.{Refused}
use Rattle.satp_records.specs.declared.stored.Setup.{Setup}
use Rattle.satp_sides.specs.Calls.{Call, Refusal, run_of}
use Rattle.satp_sides.specs.Points.{Text}
use Rattle.satp_world.specs.Histories.{after_event, call_moves}
use Rattle.satp_world.specs.Histories.Event.{Called}
use Rattle.satp_world.specs.Worlds.{Gateway, Setting, World, party_at, side_at}
use Rattle.satp_world.specs.Worlds.Gateway.{A, B}
use Rattle.satp_runs.specs.Living.{AnswersAs}
use Rattle.satp_drill_runs.specs.Benches.{Bench, Works, Broken, Limit, Stage, after_course, answer_at, answered, bench_at, called, called_at, course, with_bench}
use Rattle.satp_bench_laws.specs.Seats.{Seat, ShowsAt, Sits, SitsBy}

pub bench-with : (w : World) (x : Stage) (g : Gateway) (bench : Bench) → bench_at (with_bench w x g bench) g ≡ bench
bench-with w x A bench = refl
bench-with w x B bench = refl

-- a seat at a changed stage
pub sits-with : (st : Setting) (a b : Founding) (g : Gateway) (setup : Setup) (w : World) (x : Stage) (bench : Bench) (seat : Seat) → SitsBy st a b g setup w bench seat → Sits st a b g setup (with_bench w x g bench) seat
sits-with st a b A setup w x bench seat sits = sits
sits-with st a b B setup w x bench seat sits = sits

-- ---- a call that is whole

module _ (st : Setting) (x : Stage) (g : Gateway) (call : Call) (limit more : Option Limit) (e : bench_at x g ≡ Works limit) (passes : (course (side_at x.world g) (call_moves st x.world g call) limit).bench ≡ Works more) where
  pub whole-stage : called st x g call ≡ with_bench (after_event st x.world (Called g call)) x g (Works more)
  whole-stage =
      ap (called_at st x g call) e ∙ ap (after_course st x g call (course (side_at x.world g) (call_moves st x.world g call) limit).made) passes

  pub whole-answer : answered st x g call ≡ (run_of (party_at st g) (side_at x.world g) call).answer
  whole-answer =
      ap (answer_at (run_of (party_at st g) (side_at x.world g) call)) (ap (λ (y : Stage). bench_at y g) whole-stage ∙ bench-with (after_event st x.world (Called g call)) x g (Works more))

-- ---- a broken gateway

module _ (st : Setting) (x : Stage) (g : Gateway) (call : Call) (e : bench_at x g ≡ Broken) where
  pub broken-stage : called st x g call ≡ x
  broken-stage = ap (called_at st x g call) e

  pub broken-answer : answered st x g call ≡ None
  broken-answer = ap (answer_at (run_of (party_at st g) (side_at x.world g) call)) (ap (λ (y : Stage). bench_at y g) broken-stage ∙ e)

-- ---- answers

pub some-answer : (answer : Option (Result (Option Text) Refusal)) (result : Result (Option Text) Refused) → AnswersAs answer result → (r : Result (Option Text) Refusal) × (answer ≡ Some r)
some-answer answer (Ok reply) is = (Ok reply, is)
some-answer answer (Err r) (refusal, is, same) = (Err refusal, is)

pub shows-answer : (limit : Option Limit) (answer : Option (Result (Option Text) Refusal)) (result : Result (Option Text) Refused) → AnswersAs answer result → ShowsAt (Works limit) answer result
shows-answer limit None result is = let no = some-answer None result is in absurd (cc no.1)
shows-answer limit (Some r) result is = is
