-- How the opening of a gateway in a directory ends, from what its steps answer.
use Rattle.std.proofs.Common.{◌≡◌, ◌≢◌, ◌≤◌, ◌∙◌, ℕ, List, [], Ok, Err, option_map, ap, refl, subst, false}
use Rattle.satp_base.specs.Calls.{MayMiss, enter_failed, entered}
use Rattle.satp_base.specs.Streams.{Rose}
use Rattle.satp_gateway.specs.Opening.{GatewayOpens, IsAtSome, IsOf, OpenDecided}
use Rattle.satp_gateway.specs.declared.fault.OpenFault.{OpenFault}
use Rattle.satp_gateway.specs.declared.fault.OpenFault.TheVariants.{Damaged, Empty, Record, Site, Memory as OpenMemory}
use Rattle.satp_points.specs.States.{GateWithin, GatewayState, Holds, Tells, is_broken}
use Rattle.satp_records.specs.declared.stored.Setup.{Setup}
use Rattle.satp_sides.specs.Points.{Stored}
use Rattle.satp_outcome.specs.Outside.{SiteState}
use Rattle.satp_outcome.specs.declared.outcome.Outcome.TheVariants.{Place}
use Rattle.satp_outcome.specs.declared.outcome.PlaceEnd.TheVariants as place
use Rattle.satp_gateway_commands.specs.AtGateway.{Enters, NotOpened, Opened, open_outcome, tells_of}
use Rattle.satp_gateway_commands.specs.AtGateway.NotOpenedBy.{not_entered, opens_none}

pub enters : (dir named : List ℕ) (b m : Tells) → named ≡ dir → m.told ≡ option_map (entered named) b.told → m.book ≡ b.book → Enters dir b m
enters dir named b m same told book = record { told = subst (λ (d : List ℕ). m.told ≡ option_map (entered d) b.told) same told; book = book }

-- the directory wasn't entered
pub not_there : (dir named : List ℕ) (b a : SiteState) → named ≡ dir → MayMiss (enter_failed named) [] b.told a.told → a.book ≡ b.book → b.faults ≤ a.faults → Rose b.faults a.faults
    → NotOpened dir b a (Place place.Site)
not_there dir named b a same told book later rose = record {
  ends = not_entered (record { told = subst (λ (d : List ℕ). MayMiss (enter_failed d) [] b.told a.told) same told; book = book }) refl;
  ledger = book;
  later = later;
  cause = λ e. rose;
  kept = λ other. absurd (other refl);
}

module _ (dir : List ℕ) (b : SiteState) (m : Tells) (a : SiteState) (enters : Enters dir (tells_of b) m) where
  pub is_opened : (g : GatewayState) → GatewayOpens m (tells_of a) (Ok g) → OpenDecided m.told (Ok g) → IsAtSome g (tells_of a) → is_broken g ≡ false → GateWithin g a.told
      → a.book ≡ m.book → a.faults ≡ b.faults → Opened dir b a g
  is_opened g opens decided at whole within ledger faults =
      record { entered = m; enters = enters; opens = opens; decided = decided; at = at; whole = whole; within = within; ledger = ledger ∙ enters.book; faults = faults }

  -- the gateway there wasn't opened
  pub is_not_opened : (fault : OpenFault) → GatewayOpens m (tells_of a) (Err fault) → OpenDecided m.told (Err fault) → a.book ≡ m.book → b.faults ≤ a.faults
      → (fault ≡ Site → Rose b.faults a.faults) → (fault ≢ Site → a.faults ≡ b.faults) → NotOpened dir b a (open_outcome fault)
  is_not_opened fault fails decided ledger later rose still =
      record { ends = opens_none fault (record { entered = m; enters = enters; fails = fails; decided = decided }) refl; ledger = ledger ∙ enters.book; later = later; cause = λ e. rose (is_site fault e); kept = λ other. still (λ e. other (ap open_outcome e)) }
    where
      is_site : (f : OpenFault) → open_outcome f ≡ Place place.Site → f ≡ Site
      is_site (Damaged at) e = absurd cc
      is_site Empty e = absurd cc
      is_site (Record index) e = absurd cc
      is_site Site e = refl
      is_site OpenMemory e = absurd cc

-- a gateway that was opened holds some records
pub held : (dir : List ℕ) (b a : SiteState) (g : GatewayState) → Opened dir b a g → (setup : Setup) × (xs : List Stored) × Holds g setup xs
held dir b a g o = of o.opens.3
  where
    of : {payloads : List (List ℕ)} → IsOf payloads g → (setup : Setup) × (xs : List Stored) × Holds g setup xs
    of (setup, xs, journal, holds, whole, area) = (setup, xs, holds)
