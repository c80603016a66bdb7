-- A gateway and the site in memory that it works at, as the bench of a drill's stage.
use Rattle.std.specs.Prelude.{◌≡◌, ◌≤◌, ◌<◌, ℕ, ◌+◌, ◌-◌, ◌^◌, ◌==◌, true, false, [], length, Option, Some, None, Result, Err}
use Rattle.std.specs.List.{list_any}
use Rattle.satp_base.specs.Format.{Stands}
use Rattle.satp_base.specs.Founding.{Founding}
use Rattle.satp_base.specs.LedgerAt.{ledger_at}
use Rattle.satp_base.specs.Money.{Book}
use Rattle.satp_base.specs.Trail.{Trail, IsImage, seen, standing}
use Rattle.satp_base.specs.declared.area.Area.{Area}
use Rattle.satp_base.specs.declared.area.Area.TheVariants.{JournalA}
use Rattle.satp_memory.specs.Sites.{entries_or}
use Rattle.satp_memory.specs.Steps.{IsPicked, entries_of, told_of, trail_of}
use Rattle.satp_memory.specs.Stopping.{pick_of}
use Rattle.satp_memory.specs.declared.disk.MemDisk.{MemDisk}
use Rattle.satp_log.specs.Journals.{payloads_of}
use Rattle.satp_points.specs.States.{GatewayState, Tells, is_broken, tells}
use Rattle.satp_points.specs.declared.fault.Refused.{Refused}
use Rattle.satp_points.specs.declared.fault.Refused.TheVariants as refused
use Rattle.satp_records.specs.declared.stored.Setup.{Setup}
use Rattle.satp_sides.specs.Calls.{Refusal}
use Rattle.satp_sides.specs.Points.{Text}
use Rattle.satp_world.specs.Worlds.{Gateway, Setting, World, side_at}
use Rattle.satp_runs.specs.Living.{AnswersAs}
use Rattle.satp_life_laws.specs.Closed.{IsClosed, IsOpen, TellsLedger, founding_at}
use Rattle.satp_drill_runs.specs.Benches.{Bench, Works, Broken, Limit, Stops, Fails, Stage, bench_at}

-- a gateway, and the disk and the ledger of its site
pub record Seat : Type 0 where
  pub gateway : GatewayState
  pub disk : MemDisk
  pub book : Option Book

-- what the site tells
abbrev pub tells_at : Seat → Tells
tells_at seat = tells (Some (told_of seat.disk)) seat.book

-- A site in memory has one ledger: a book that it tells has the entries that its trail leaves.
abbrev pub HasOneLedger : Seat → Type 0
HasOneLedger seat = entries_or seat.book (entries_of seat.disk) ≡ entries_of seat.disk

-- ---- what a site may still do

-- none of its further calls is named
abbrev pub NamesNone : MemDisk → Type 0
NamesNone disk = (n : ℕ) → disk.calls.count < n → list_any (λ m. m == n) disk.calls.named ≡ false

-- of its further calls this one is named, the next one being 1, and no other
abbrev pub NamesOne : ℕ → MemDisk → Type 0
NamesOne call disk = (n : ℕ) → disk.calls.count < n → list_any (λ m. m == n) disk.calls.named ≡ (n == disk.calls.count + call)

-- It has this limit and no other: a stop so many events after those that are there, or a call that is to fail. A call is named by a number that the count can reach.
abbrev pub HasLimit : Option Limit → MemDisk → Type 0
HasLimit None disk = (disk.stop ≡ None) × NamesNone disk
HasLimit (Some (Stops events pick)) disk = (disk.stop ≡ Some (record { at = length disk.events.items + events; pick = pick })) × NamesNone disk
HasLimit (Some (Fails call)) disk = (disk.stop ≡ None) × (1 ≤ call) × (disk.calls.count + call ≤ 2 ^ 64 - 1) × NamesOne call disk

-- ---- a seat at a stage

-- A site begins again so after this trail: each area holds what the pick leaves there, and the ledger has the entries that stood.
pub record BeginsPicked (t : Trail) (pick : ℕ) (u : Trail) : Type 0 where
  pub none : u.events ≡ []
  pub picked : (area : Area) → IsPicked (standing t area) pick (u.start area)
  pub areas : (area : Area) → IsImage t area (u.start area)
  pub entries : u.entries ≡ ledger_at t.entries t.events

-- The gateway is closed in the world, and what its journal reads as is that of its side: an opening goes on from there.
pub record IsLeft (st : Setting) (a b : Founding) (g : Gateway) (setup : Setup) (w : World) (t : Trail) : Type 0 where
  pub closed : IsClosed st a b g setup w t
  pub stands : Stands (seen t JournalA) (payloads_of setup (side_at w g).records)

-- the gateway is open in the world, and its site has this limit
pub record SitsOpen (st : Setting) (a b : Founding) (g : Gateway) (setup : Setup) (w : World) (limit : Option Limit) (seat : Seat) : Type 0 where
  pub opened : IsOpen st a b g setup w seat.gateway (tells_at seat) (told_of seat.disk)
  pub ledger : TellsLedger (founding_at a b g) (tells_at seat) (told_of seat.disk)
  pub bound : HasLimit limit seat.disk

-- the gateway is broken, and a restart of its site, with the stop's pick where a stop was reached, leaves what the world has
pub record SitsBroken (st : Setting) (a b : Founding) (g : Gateway) (setup : Setup) (w : World) (seat : Seat) : Type 0 where
  pub broken : is_broken seat.gateway ≡ true
  pub ledger : TellsLedger (founding_at a b g) (tells_at seat) (told_of seat.disk)
  pub names : NamesNone seat.disk
  pub left : (again : Trail) → BeginsPicked (trail_of seat.disk) (pick_of seat.disk.stop) again → IsLeft st a b g setup w again

abbrev pub SitsBy : Setting → Founding → Founding → Gateway → Setup → World → Bench → Seat → Type 0
SitsBy st a b g setup w (Works limit) seat = SitsOpen st a b g setup w limit seat
SitsBy st a b g setup w Broken seat = SitsBroken st a b g setup w seat

-- the seat is this gateway's in the stage
abbrev pub Sits : Setting → Founding → Founding → Gateway → Setup → Stage → Seat → Type 0
Sits st a b g setup x seat = SitsBy st a b g setup x.world (bench_at x g) seat

-- ---- what is answered

-- The answer that the bench gives, as a gateway gives it: none is a fault of the site, or of a gateway that was broken before.
abbrev pub ShowsAt : Bench → Option (Result (Option Text) Refusal) → Result (Option Text) Refused → Type 0
ShowsAt Broken answer result = (answer ≡ None) × (result ≡ Err refused.Broken)
ShowsAt (Works limit) None result = result ≡ Err refused.Site
ShowsAt (Works limit) (Some answer) result = AnswersAs (Some answer) result
