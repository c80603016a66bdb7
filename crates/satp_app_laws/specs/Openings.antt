-- The opening of a directory's gateway by a command, where it is closed.
use Rattle.std.specs.Prelude.{◌≡◌, ◌⊎◌, ℕ, List, take, Some}
use Rattle.satp_base.specs.Calls.{Told}
use Rattle.satp_base.specs.Founding.{Founding}
use Rattle.satp_base.specs.Trail.{KeepsModel}
use Rattle.satp_gateway_commands.specs.AtGateway.{NotOpened, Opened, tells_of}
use Rattle.satp_life_laws.specs.Closed.{IsClosed, IsOpen, TellsLedger, append_of, founding_at}
use Rattle.satp_outcome.specs.Outside.{SiteState}
use Rattle.satp_outcome.specs.declared.outcome.Outcome.{Outcome}
use Rattle.satp_outcome.specs.declared.outcome.Outcome.TheVariants.{Memory, Place}
use Rattle.satp_outcome.specs.declared.outcome.PlaceEnd.TheVariants.{Site}
use Rattle.satp_points.specs.States.{GatewayState}
use Rattle.satp_records.specs.declared.stored.Setup.{Setup}
use Rattle.satp_world.specs.Histories.{after_moves}
use Rattle.satp_world.specs.Worlds.{Gateway, Setting, World}

-- The gateway that a command opens is the one that was closed there: it stands in the same world, or in the one with the record whose append was stopped.
abbrev pub CommandsOpen : Type 0
CommandsOpen =
    (st : Setting) (a b : Founding) (g : Gateway) (setup : Setup) (w : World) (dir : List ℕ) (before inside : SiteState) (state : GatewayState) (t : Told)
    → (is : IsClosed st a b g setup w t.trail) → before.told ≡ Some t → TellsLedger (founding_at a b g) (tells_of before) t → KeepsModel t.trail → Opened dir before inside state
    → (n : ℕ) × (told : Told) × IsOpen st a b g setup (after_moves w g (take n (append_of is.next))) state (tells_of inside) told

-- a command that doesn't open it ends so for a failed call, or for want of memory
abbrev pub CommandsOpenUnlessFailed : Type 0
CommandsOpenUnlessFailed =
    (st : Setting) (a b : Founding) (g : Gateway) (setup : Setup) (w : World) (dir : List ℕ) (before after : SiteState) (outcome : Outcome) (t : Told)
    → IsClosed st a b g setup w t.trail → before.told ≡ Some t → KeepsModel t.trail → NotOpened dir before after outcome → (outcome ≡ Place Site) ⊎ (outcome ≡ Memory)
