-- A gateway within a command of a drill, at a site that stops, or that fails a call: which of its moves are made, and what it answers.
use Rattle.std.specs.Prelude.{ℕ, ◌+◌, ◌-◌, ◌%◌, ◌==◌, ◌&&◌, nat_le, Bool, false, List, [], ◌∷◌, length, Option, Some, None, Result, if◌then◌else◌}
use Rattle.satp_base.specs.Acts.{operation_events}
use Rattle.satp_base.specs.LedgerRule.{operation}
use Rattle.satp_sides.specs.Calls.{Call, Refusal, Run, run_of}
use Rattle.satp_sides.specs.Points.{Move, Appends, Acts, Says, Side, Text, moved}
use Rattle.satp_world.specs.Histories.{Event, Called, Stopped, after_event, call_moves}
use Rattle.satp_world.specs.Worlds.{Gateway, Setting, World, party_at, side_at}
use Rattle.satp_world.specs.Worlds.Gateway.{A, B}

-- ---- a site

pub data Limit : Type 0 where
  -- it stops after so many further events; of the bytes that weren't synced then, this pick is left
  Stops : (events pick : ℕ) → Limit
  -- its call of this number fails, the next one being 1
  Fails : (call : ℕ) → Limit

-- A call on it has failed, so that the gateway is broken; or none has, and this is what it may still do.
pub data Bench : Type 0 where
  Works : Option Limit → Bench
  Broken : Bench

-- ---- one move

pub data Fate : Type 0 where
  -- all its calls succeed, and this is left of the limit
  Passes : Option Limit → Fate
  -- one of its calls fails; what it was to store stands all the same, or it doesn't
  Breaks : (stands : Bool) → Fate

-- A stop leaves a record from its append's fourth event on, and after the third one where the gate's byte is picked as 1. A stopped site fails every call.
abbrev stops : Side → (events pick : ℕ) → Move → Fate
stops side events pick (Appends x) = if nat_le 4 events then Passes (Some (Stops (events - 4) pick)) else Breaks ((events == 3) && (pick % 256 == 1))
stops side events pick (Acts s op terms) = if nat_le 1 events then Passes (Some (Stops (events - length (operation_events (operation side.book op s terms) op s terms)) pick)) else Breaks false
stops side events pick (Says t) = Passes (Some (Stops events pick))

-- An append is four calls. Its record stands where the third or the fourth one fails: the gate is written, or counts as written. A failed operation has no effect.
abbrev fails : (call : ℕ) → Move → Fate
fails call (Appends x) = if nat_le call 4 then Breaks (nat_le 3 call) else Passes (Some (Fails (call - 4)))
fails call (Acts s op terms) = if nat_le call 1 then Breaks false else Passes (Some (Fails (call - 1)))
fails call (Says t) = Passes (Some (Fails call))

-- what becomes of a move of a side
abbrev pub fate : Side → Option Limit → Move → Fate
fate side None m = Passes None
fate side (Some (Stops events pick)) m = stops side events pick m
fate side (Some (Fails call)) m = fails call m

-- ---- moves in their order

-- so many of them are made, and how it stands with the site then
pub record Course : Type 0 where
  pub made : ℕ
  pub bench : Bench

abbrev one_more : Course → Course
one_more c = record { made = 1 + c.made; bench = c.bench }

-- a record that stands is one that was stored
abbrev course_by : (Option Limit → Course) → Fate → Course
course_by rest (Passes limit) = one_more (rest limit)
course_by rest (Breaks stands) = record { made = if stands then 1 else 0; bench = Broken }

abbrev pub course : Side → List Move → Option Limit → Course
course side [] limit = record { made = 0; bench = Works limit }
course side (m ∷ ms) limit = course_by (course (moved side m) ms) (fate side limit m)

-- ---- both gateways

-- the world within a command, and how it stands with the site of each
pub record Stage : Type 0 where
  pub world : World
  pub a : Bench
  pub b : Bench

abbrev pub bench_at : Stage → Gateway → Bench
bench_at x A = x.a
bench_at x B = x.b

abbrev pub a_by : Gateway → Bench → Bench → Bench
a_by A bench old = bench
a_by B bench old = old

abbrev pub b_by : Gateway → Bench → Bench → Bench
b_by A bench old = old
b_by B bench old = bench

abbrev pub with_bench : World → Stage → Gateway → Bench → Stage
with_bench w x g bench = record { world = w; a = a_by g bench x.a; b = b_by g bench x.b }

-- what happens in the world: the call is whole, or it's stopped after the moves that were made
abbrev pub event_by : Gateway → Call → ℕ → Bench → Event
event_by g call made (Works limit) = Called g call
event_by g call made Broken = Stopped g call made

abbrev pub after_course : Setting → Stage → Gateway → Call → ℕ → Bench → Stage
after_course st x g call made bench = with_bench (after_event st x.world (event_by g call made bench)) x g bench

abbrev pub runs_course : Setting → Stage → Gateway → Call → Course → Stage
runs_course st x g call c = after_course st x g call c.made c.bench

-- a gateway that is broken does nothing
abbrev pub called_at : Setting → Stage → Gateway → Call → Bench → Stage
called_at st x g call (Works limit) = runs_course st x g call (course (side_at x.world g) (call_moves st x.world g call) limit)
called_at st x g call Broken = x

-- the gateway is called
abbrev pub called : Setting → Stage → Gateway → Call → Stage
called st x g call = called_at st x g call (bench_at x g)

-- its run's answer, unless a call on its site fails or has failed
abbrev pub answer_at : Run → Bench → Option (Result (Option Text) Refusal)
answer_at run (Works limit) = run.answer
answer_at run Broken = None

abbrev pub answered : Setting → Stage → Gateway → Call → Option (Result (Option Text) Refusal)
answered st x g call = answer_at (run_of (party_at st g) (side_at x.world g) call) (bench_at (called st x g call) g)
