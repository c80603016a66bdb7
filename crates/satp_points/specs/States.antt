-- A gateway as its callers see it, and the site that it is at.
use Rattle.std.specs.Prelude.{◌≡◌, false, Bool, List, map, Option, Some}
use Rattle.satp_base.specs.declared.area.Area.{Area}
use Rattle.satp_base.specs.Calls.{Told}
use Rattle.satp_base.specs.Laws.{RestsAt}
use Rattle.satp_base.specs.Money.{Book}
use Rattle.satp_journal.specs.State.{Fits, Held}
use Rattle.satp_log.specs.Journals.{IsJournal, payload_in, payloads_of}
use Rattle.satp_records.specs.declared.stored.Setup.{Setup}
use Rattle.satp_sides.specs.Points.{Move, Appends, Acts, Says, Side, Stored}
use Rattle.satp_stops.specs.Stops as stops
use Rattle.satp_stops.specs.Stops.{Kept, Step, Stores, Operates}

-- ---- what a gateway keeps

-- The words of this part alone know how a gateway keeps its records: here, as the payloads of its journal.
abbrev pub GatewayState : Type 0
GatewayState = Held

-- it was set up so, and keeps these records
unfoldable pub Holds : GatewayState → Setup → List Stored → Type 0
Holds g setup xs = IsJournal g.payloads setup xs

-- where the site tells, the closed gate after its records lies within the area
unfoldable pub GateWithin : GatewayState → Option Told → Type 0
GateWithin g told = Fits g told

-- a call on its site has failed
abbrev pub is_broken : GatewayState → Bool
is_broken g = g.broken

-- where its journal is
abbrev pub area_of : GatewayState → Area
area_of g = g.area

-- ---- at a site

-- what a site tells of its calls and of its ledger
pub record Tells : Type 0 where
  pub told : Option Told
  pub book : Option Book

abbrev pub tells : Option Told → Option Book → Tells
tells told book = record { told = told; book = book }

-- The gateway fits the site, whose calls so far are `t`: it keeps these records, each image of the area is these at rest, and this is the ledger.
pub record IsAt (g : GatewayState) (site : Tells) (setup : Setup) (side : Side) (t : Told) : Type 0 where
  pub whole : is_broken g ≡ false
  pub told : site.told ≡ Some t
  pub holds : Holds g setup side.records
  pub rests : RestsAt t.trail (area_of g) (payloads_of setup side.records)
  pub ledger : site.book ≡ Some side.book

-- ---- moves, as a site sees them

abbrev pub step_of : Move → Step
step_of (Appends x) = Stores (payload_in x)
step_of (Acts s op terms) = Operates op s terms
step_of (Says t) = stops.Says

abbrev pub steps_of : List Move → List Step
steps_of moves = map step_of moves

-- what the site of a gateway at this point keeps
abbrev pub kept_of : Area → Setup → Side → Kept
kept_of area setup side = record { area = area; payloads = payloads_of setup side.records; ledger = side.book }
