-- A text that a gateway at a site in memory is handed is a call of its bench.
use Rattle.std.specs.Prelude.{◌≡◌, ◌≢◌, Option, Result, Err}
use Rattle.satp_base.specs.Founding.{Founding}
use Rattle.satp_base.specs.declared.ledger.LedgerKind.{LedgerKind}
use Rattle.satp_base.specs.declared.message.Message.{Message}
use Rattle.satp_memory.specs.Following.{FollowsSite}
use Rattle.satp_gateway.specs.Handling.{reply_of}
use Rattle.satp_gateway.specs.declared.handle.Reply.{Reply}
use Rattle.satp_points.specs.declared.fault.Refused.{Refused}
use Rattle.satp_points.specs.declared.fault.Refused.TheVariants.{Memory}
use Rattle.satp_records.specs.declared.stored.Setup.{Setup}
use Rattle.satp_sides.specs.Calls.{Call, Hears}
use Rattle.satp_sides.specs.Points.{Text}
use Rattle.satp_world.specs.Histories.{MayCall}
use Rattle.satp_world.specs.Worlds.{Gateway, Setting}
use Rattle.satp_runs.specs.Asking.{Handled}
use Rattle.satp_drill_runs.specs.Benches as benches
use Rattle.satp_drill_runs.specs.Benches.{Limit, Stage, Works, answered, bench_at, called}
use Rattle.satp_bench_laws.specs.Laws.{WasCalled}
use Rattle.satp_bench_laws.specs.Seats.{HasOneLedger, Seat, ShowsAt, Sits, tells_at}

-- the gateway was handed this text, memory was found, and the site went on by its calls
pub record WasHanded (kind : LedgerKind) (text : Text) (old new : Seat) (given : Result Reply Refused) : Type 0 where
  pub handled : Handled text old.gateway new.gateway (tells_at old) (tells_at new) given
  pub beside : FollowsSite kind old.book new.book old.disk new.disk
  pub ledger : HasOneLedger new
  pub found : reply_of given ≢ Err Memory

-- A text that may come as this message was heard as this message, unless the gateway was broken.
abbrev pub TextsAreCalls : Type 0
TextsAreCalls =
    (st : Setting) (a b : Founding) (g : Gateway) (setup : Setup) (x : Stage) (kind : LedgerKind) (m : Message) (text : Text) (e : Option Message) (limit : Option Limit) (old new : Seat) (given : Result Reply Refused)
    → Sits st a b g setup x old → bench_at x g ≡ Works limit → MayCall st x.world g (Hears m text e) → WasHanded kind text old new given → WasCalled kind (Hears m text e) old new (reply_of given)

-- A broken gateway answers any text that it is broken, and nothing changes.
abbrev pub BrokenStays : Type 0
BrokenStays =
    (st : Setting) (a b : Founding) (g : Gateway) (setup : Setup) (x : Stage) (kind : LedgerKind) (text : Text) (call : Call) (old new : Seat) (given : Result Reply Refused)
    → Sits st a b g setup x old → bench_at x g ≡ benches.Broken → WasHanded kind text old new given
    → Sits st a b g setup (called st x g call) new × ShowsAt (bench_at x g) (answered st x g call) (reply_of given)
