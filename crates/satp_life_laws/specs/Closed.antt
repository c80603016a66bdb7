-- A gateway of a world at its site, open and closed.
use Rattle.std.specs.Prelude.{◌≡◌, List, [], ◌∷◌, Option, Some, None}
use Rattle.satp_base.specs.Calls.{Told}
use Rattle.satp_base.specs.Founding.{Founding}
use Rattle.satp_base.specs.LedgerAt.{ledger_at}
use Rattle.satp_base.specs.Trail.{Trail, IsImage}
use Rattle.satp_base.specs.declared.area.Area.{Area}
use Rattle.satp_base.specs.declared.area.Area.TheVariants.{JournalA}
use Rattle.satp_log.specs.Journals.{party_of}
use Rattle.satp_point_laws.specs.Happening.{StandsIn}
use Rattle.satp_points.specs.States.{GatewayState, Tells, area_of, kept_of, steps_of}
use Rattle.satp_records.specs.Formats.{IsFormed}
use Rattle.satp_records.specs.declared.stored.Setup.{Setup}
use Rattle.satp_records.specs.declared.stored.Stored.TheVariants as journaled
use Rattle.satp_sides.specs.Moves.{AreMoves}
use Rattle.satp_sides.specs.Points.{Move, Appends, Stored}
use Rattle.satp_stops.specs.Stops.{RestsIn}
use Rattle.satp_world.specs.Worlds.{Gateway, Reached, Setting, World, party_at, side_at}
use Rattle.satp_world.specs.Worlds.Gateway.{A, B}

-- ---- what is supposed of devices

-- with what the ledger of this gateway was founded
abbrev pub founding_at : Founding → Founding → Gateway → Founding
founding_at a b A = a
founding_at a b B = b

-- the ledger that the site tells is the one that was founded so, with the entries that the trail leaves
abbrev pub TellsLedger : Founding → Tells → Told → Type 0
TellsLedger founding site t = site.book ≡ Some (record { genesis = founding; entries = ledger_at t.trail.entries t.trail.events })

-- After a stop the site begins again: each area holds what the stop may have left there, and the ledger has the entries that stood.
pub record BeginsAgain (t u : Trail) : Type 0 where
  pub areas : (area : Area) → IsImage t area (u.start area)
  pub entries : u.entries ≡ ledger_at t.entries t.events
  pub none : u.events ≡ []

-- ---- open and closed

-- the gateway is open, and stands in the world
pub record IsOpen (st : Setting) (a b : Founding) (g : Gateway) (setup : Setup) (w : World) (state : GatewayState) (site : Tells) (t : Told) : Type 0 where
  pub reached : Reached st a b w
  pub area : area_of state ≡ JournalA
  pub stands : StandsIn st w g state site setup t

-- the append of a record, if there is one
abbrev pub append_of : Option Stored → List Move
append_of None = []
append_of (Some x) = Appends x ∷ []

-- No gateway is open at the site, which was set up so. Its ledger is that of the world's side, and each image of its journal is what this side keeps: at rest, or in the append of a record
-- that the side may store next.
pub record IsClosed (st : Setting) (a b : Founding) (g : Gateway) (setup : Setup) (w : World) (t : Trail) : Type 0 where
  pub reached : Reached st a b w
  pub party : party_of setup ≡ party_at st g
  pub formed : IsFormed (journaled.Setup setup)
  pub next : Option Stored
  pub may : AreMoves (party_at st g) (side_at w g) w.bag (append_of next)
  pub rests : RestsIn t (kept_of JournalA setup (side_at w g)) (steps_of (append_of next))
