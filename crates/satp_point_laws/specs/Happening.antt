-- The calls of a gateway at a site, as what happens in a world of two gateways.
use Rattle.std.specs.Prelude.{◌≡◌, ◌≢◌, ℕ, List, Option, Some, Result, Err, drop, take}
use Rattle.satp_base.specs.Calls.{Told}
use Rattle.satp_base.specs.LedgerAt.{ledger_at}
use Rattle.satp_base.specs.Trail.{KeepsModel, extended}
use Rattle.satp_base.specs.declared.area.Event.{Event as DiskEvent}
use Rattle.satp_log.specs.Journals.{party_of}
use Rattle.satp_records.specs.declared.stored.Setup.{Setup}
use Rattle.satp_sides.specs.Calls.{Call}
use Rattle.satp_sides.specs.Points.{Text}
use Rattle.satp_stops.specs.Stops.{RestsIn}
use Rattle.satp_world.specs.Histories.{Event, Stopped, MayCall, MayHappen, after_event, call_moves}
use Rattle.satp_world.specs.Worlds.{Gateway, Setting, World, party_at, side_at}
use Rattle.satp_points.specs.Answers.{Answers}
use Rattle.satp_points.specs.States.{GatewayState, IsAt, Tells, area_of, kept_of, steps_of}
use Rattle.satp_points.specs.declared.fault.Refused.{Refused}
use Rattle.satp_points.specs.declared.fault.Refused.TheVariants.{Site}

-- this is the world's gateway g, at a site that it fits
pub record StandsIn (st : Setting) (w : World) (g : Gateway) (state : GatewayState) (site : Tells) (setup : Setup) (t : Told) : Type 0 where
  pub party : party_of setup ≡ party_at st g
  pub at : IsAt state site setup (side_at w g) t

-- What a call did, unless a call on the site failed, is what may happen in the world: the call, or its first moves. The gateway is as the world after it has it.
abbrev pub CallsHappen : Type 0
CallsHappen =
    (st : Setting) (w : World) (g : Gateway) (call : Call) (old new : GatewayState) (before site : Tells) (result : Result (Option Text) Refused) (setup : Setup) (t : Told)
    → StandsIn st w g old before setup t → MayCall st w g call → Answers call old new before site result → result ≢ Err Site
    → (e : Event) × MayHappen st w e × ((told : Told) × StandsIn st (after_event st w e) g new site setup told)

-- Whatever it answers, a stop at any event of it leaves the site as the world has it in which the call stopped after some of its moves.
abbrev pub StopsHappen : Type 0
StopsHappen =
    (st : Setting) (w : World) (g : Gateway) (call : Call) (old new : GatewayState) (before site : Tells) (result : Result (Option Text) Refused) (setup : Setup) (t told : Told)
    → StandsIn st w g old before setup t → (side_at w g).book.entries ≡ ledger_at t.trail.entries t.trail.events → MayCall st w g call → Answers call old new before site result
    → site.told ≡ Some told → KeepsModel told.trail
    → (events : List DiskEvent) × (told.trail ≡ extended t.trail events)
    × ((k : ℕ) → (n : ℕ) × MayHappen st w (Stopped g call n)
    × RestsIn (extended t.trail (take k events)) (kept_of (area_of old) setup (side_at (after_event st w (Stopped g call n)) g)) (steps_of (drop n (call_moves st w g call))))
