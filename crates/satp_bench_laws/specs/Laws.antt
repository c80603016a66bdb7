-- A call of a gateway at a site in memory goes as its bench says.
use Rattle.std.specs.Prelude.{◌≡◌, ◌≢◌, ◌<◌, ℕ, zero, true, length, is_some, Option, Some, None, Result, Ok, Err}
use Rattle.satp_base.specs.Founding.{Founding}
use Rattle.satp_base.specs.declared.area.Area.TheVariants.{JournalA}
use Rattle.satp_base.specs.declared.ledger.LedgerKind.{LedgerKind}
use Rattle.satp_memory.specs.Following.{FollowsSite}
use Rattle.satp_memory.specs.Steps.{Restarts, is_stopped}
use Rattle.satp_memory.specs.declared.disk.MemDisk.{MemDisk}
use Rattle.satp_gateway.specs.Opening.{GatewayOpens}
use Rattle.satp_points.specs.Answers.{Answers}
use Rattle.satp_points.specs.States.{kept_of, steps_of}
use Rattle.satp_points.specs.declared.fault.Refused.{Refused}
use Rattle.satp_points.specs.declared.fault.Refused.TheVariants.{Memory, Site}
use Rattle.satp_records.specs.declared.stored.Setup.{Setup}
use Rattle.satp_sides.specs.Calls.{Call}
use Rattle.satp_sides.specs.Points.{Text}
use Rattle.satp_stops.specs.Stops.{segments}
use Rattle.satp_world.specs.Histories.{MayCall, call_moves}
use Rattle.satp_world.specs.Worlds.{Gateway, Setting, side_at}
use Rattle.satp_drill_runs.specs.Benches.{Bench, Works, Broken, Stops, Fails, Stage, answered, bench_at, called, with_bench}
use Rattle.satp_bench_laws.specs.Seats.{HasOneLedger, Seat, ShowsAt, Sits, tells_at}

-- the gateway was called, memory was found, and the site went on by its calls
pub record WasCalled (kind : LedgerKind) (call : Call) (old new : Seat) (result : Result (Option Text) Refused) : Type 0 where
  pub answers : Answers call old.gateway new.gateway (tells_at old) (tells_at new) result
  pub beside : FollowsSite kind old.book new.book old.disk new.disk
  pub ledger : HasOneLedger new
  pub found : result ≢ Err Memory

-- no call on the site fails, or none does before a stop
abbrev pub NamesNoCall : Bench → Type 0
NamesNoCall (Works None) = Unit {0}
NamesNoCall (Works (Some (Stops events pick))) = Unit {0}
NamesNoCall (Works (Some (Fails call))) = ⊥
NamesNoCall Broken = Unit {0}

-- Where no call of the site is named and the call isn't answered by a fault of the site, the seat is at the stage after the call, and what was answered is what the bench answers.
abbrev pub CallsGoByBench : Type 0
CallsGoByBench =
    (st : Setting) (a b : Founding) (g : Gateway) (setup : Setup) (x : Stage) (kind : LedgerKind) (call : Call) (old new : Seat) (result : Result (Option Text) Refused)
    → Sits st a b g setup x old → NamesNoCall (bench_at x g) → MayCall st x.world g call → WasCalled kind call old new result → result ≢ Err Site
    → Sits st a b g setup (called st x g call) new × ShowsAt (bench_at x g) (answered st x g call) result

-- A call that the stop came into: it answers a fault of the site, which has stopped and still has its ledger. Its moves have more events than were left.
pub record WasStopped (st : Setting) (g : Gateway) (setup : Setup) (x : Stage) (kind : LedgerKind) (call : Call) (events : ℕ) (old new : Seat) : Type 0 where
  pub was : WasCalled kind call old new (Err Site)
  pub stopped : is_stopped new.disk ≡ true
  pub ledger : is_some new.book ≡ true
  pub short : events < length (segments (kept_of JournalA setup (side_at x.world g)) (steps_of (call_moves st x.world g call)))

-- Then the seat is at the stage in which the bench is broken: what the stop's pick leaves is what the bench says that stands.
abbrev pub StopsGoByBench : Type 0
StopsGoByBench =
    (st : Setting) (a b : Founding) (g : Gateway) (setup : Setup) (x : Stage) (kind : LedgerKind) (call : Call) (events pick : ℕ) (old new : Seat)
    → Sits st a b g setup x old → bench_at x g ≡ Works (Some (Stops events pick)) → MayCall st x.world g call → WasStopped st g setup x kind call events old new
    → Sits st a b g setup (called st x g call) new × (bench_at (called st x g call) g ≡ Broken) × ShowsAt (bench_at x g) (answered st x g call) (Err Site)

-- a call on the site has failed, or a stop was reached
abbrev pub IsDown : Bench → Type 0
IsDown Broken = Unit {0}
IsDown (Works (Some (Stops zero pick))) = Unit {0}
IsDown bench = ⊥

-- The site began again, and the gateway was opened there.
pub record WasOpened (kind : LedgerKind) (old : Seat) (again : MemDisk) (new : Seat) : Type 0 where
  pub restarts : Restarts old.disk again
  pub opens : GatewayOpens (tells_at (record old { disk = again })) (tells_at new) (Ok new.gateway)
  pub beside : FollowsSite kind old.book new.book again new.disk
  pub same : new.book ≡ old.book
  pub ledger : HasOneLedger new

-- The seat is in the same world then, and its site has no limit.
abbrev pub OpeningsWork : Type 0
OpeningsWork =
    (st : Setting) (a b : Founding) (g : Gateway) (setup : Setup) (x : Stage) (kind : LedgerKind) (old : Seat) (again : MemDisk) (new : Seat)
    → Sits st a b g setup x old → IsDown (bench_at x g) → WasOpened kind old again new → Sits st a b g setup (with_bench x.world x g (Works None)) new
