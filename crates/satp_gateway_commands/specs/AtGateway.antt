-- A command at a gateway's directory: the gateway is opened there, and then the command's work is done.
use Rattle.std.specs.Prelude.{◌≡◌, ◌≢◌, ◌≤◌, false, List, ℕ, [], Option, option_map, Ok, Err}
use Rattle.satp_base.specs.Calls.{MayMiss, enter_failed, entered}
use Rattle.satp_base.specs.Streams.{Rose}
use Rattle.satp_base.specs.declared.session.SessionId.{SessionId}
use Rattle.satp_base.specs.declared.view.View.{View}
use Rattle.satp_gateway.specs.Opening.{GatewayOpens, IsAtSome, OpenDecided}
use Rattle.satp_gateway.specs.declared.fault.OpenFault.{OpenFault}
use Rattle.satp_gateway.specs.declared.fault.OpenFault.TheVariants.{Damaged, Empty, Record, Site, Memory as OpenMemory}
use Rattle.satp_outcome.specs.Outside.{OutsideState, SiteState}
use Rattle.satp_outcome.specs.declared.outcome.Outcome.{Outcome}
use Rattle.satp_outcome.specs.declared.outcome.Outcome.TheVariants.{Memory, Place}
use Rattle.satp_outcome.specs.declared.outcome.PlaceEnd.TheVariants as place
use Rattle.satp_points.specs.States.{GateWithin, GatewayState, Holds, Tells, is_broken, tells}
use Rattle.satp_records.specs.declared.stored.Setup.{Setup}
use Rattle.satp_sides.specs.Points.{Stored, view_in}

abbrev pub tells_of : SiteState → Tells
tells_of s = tells s.told s.book

-- ---- the directory

-- the directory was entered
pub record Enters (dir : List ℕ) (b a : Tells) : Type 0 where
  pub told : a.told ≡ option_map (entered dir) b.told
  pub book : a.book ≡ b.book

-- it was not: the failed call is told by name, or only counted where no memory was found to note it
pub record FailsToEnter (dir : List ℕ) (b a : Tells) : Type 0 where
  pub told : MayMiss (enter_failed dir) [] b.told a.told
  pub book : a.book ≡ b.book

-- ---- the gateway there

-- The directory was entered, and then its journal and its ledger were opened: this is the gateway.
pub record Opened (dir : List ℕ) (b inside : SiteState) (g : GatewayState) : Type 0 where
  pub entered : Tells
  pub enters : Enters dir (tells_of b) entered
  pub opens : GatewayOpens entered (tells_of inside) (Ok g)
  -- by the bytes of the journal
  pub decided : OpenDecided entered.told (Ok g)
  pub at : IsAtSome g (tells_of inside)
  pub whole : is_broken g ≡ false
  pub within : GateWithin g inside.told
  pub ledger : inside.book ≡ b.book
  pub faults : inside.faults ≡ b.faults

abbrev pub open_outcome : OpenFault → Outcome
open_outcome (Damaged at) = Place (place.JournalDamaged at)
open_outcome Empty = Place place.NoGateway
open_outcome (Record index) = Place (place.JournalRecord index)
open_outcome Site = Place place.Site
open_outcome OpenMemory = Memory

-- The directory was entered, and its gateway wasn't opened, for this reason.
pub record OpensNone (dir : List ℕ) (b a : SiteState) (fault : OpenFault) : Type 0 where
  pub entered : Tells
  pub enters : Enters dir (tells_of b) entered
  pub fails : GatewayOpens entered (tells_of a) (Err fault)
  -- by the bytes of the journal
  pub decided : OpenDecided entered.told (Err fault)

pub data NotOpenedBy (dir : List ℕ) (b a : SiteState) (outcome : Outcome) : Type 0 where
  not_entered : FailsToEnter dir (tells_of b) (tells_of a) → outcome ≡ Place place.Site → NotOpenedBy dir b a outcome
  opens_none : (fault : OpenFault) → OpensNone dir b a fault → outcome ≡ open_outcome fault → NotOpenedBy dir b a outcome

-- The directory wasn't entered, or its gateway wasn't opened. The ledger is left as it was.
pub record NotOpened (dir : List ℕ) (b a : SiteState) (outcome : Outcome) : Type 0 where
  pub ends : NotOpenedBy dir b a outcome
  pub ledger : a.book ≡ b.book
  pub later : b.faults ≤ a.faults
  pub cause : outcome ≡ Place place.Site → Rose b.faults a.faults
  -- no other end hides a fault of the site
  pub kept : outcome ≢ Place place.Site → a.faults ≡ b.faults

-- ---- the command

-- Nothing of the streams and of the wire is touched before the gateway is opened; then the command works over the site as the opening left it.
pub data AtGateway (dir : List ℕ) (Works : GatewayState → OutsideState → OutsideState → Outcome → Type 0) (b a : OutsideState) (outcome : Outcome) : Type 0 where
  not_opened : a.streams ≡ b.streams → a.wire ≡ b.wire → NotOpened dir b.site a.site outcome → AtGateway dir Works b a outcome
  works : (g : GatewayState) (inside : SiteState) → Opened dir b.site inside g → Works g (record b { site = inside }) a outcome → AtGateway dir Works b a outcome

-- what the gateway's records say of a session; none exactly where no record names it
abbrev pub IsView : GatewayState → SessionId → Option View → Type 0
IsView g session view = (setup : Setup) (xs : List Stored) → Holds g setup xs → view_in session xs ≡ view
