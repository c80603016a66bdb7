-- A gateway at a site is one side of a run of two gateways.
use Rattle.std.specs.Prelude.{◌≡◌, List, ◌++◌, map, Err}
use Rattle.satp_base.specs.Calls.{Told}
use Rattle.satp_base.specs.Founding.{Founding}
use Rattle.satp_points.specs.Answers.{Breaks, Goes}
use Rattle.satp_points.specs.States.{GatewayState, Tells, area_of, kept_of, steps_of}
use Rattle.satp_points.specs.declared.fault.Refused.TheVariants.{Memory, Site}
use Rattle.satp_records.specs.declared.stored.Setup.{Setup}
use Rattle.satp_sides.specs.Calls.{Call}
use Rattle.satp_sides.specs.Points.{Move}
use Rattle.satp_stops.specs.Stops.{told_steps}
use Rattle.satp_world.specs.Histories.{Event, MayAllHappen, MayHappen, after_event, after_events, call_moves}
use Rattle.satp_world.specs.Histories.Event.{Called}
use Rattle.satp_world.specs.Worlds.{Gateway, Reached, Setting, World, party_at, side_at}
use Rattle.satp_point_laws.specs.Happening.{StandsIn}
use Rattle.satp_runs.specs.Asking.{AnswersAll, AnswersTo, Asked, Made}
use Rattle.satp_runs.specs.Living.{Is, Lives, Meanwhile, Ran, calls_in}

-- The gateway of a world stood at a site, was asked all this, and each was answered.
pub record Stood (st : Setting) (a b : Founding) (g : Gateway) (w : World) (old new : GatewayState) (before site : Tells) (setup : Setup) (t : Told) (made : List Made) (es : List Event) (v : World) : Type 0 where
  pub reached : Reached st a b w
  pub stands : StandsIn st w g old before setup t
  pub answers : AnswersAll made old new before site
  pub meanwhile : Meanwhile st g w (map (λ (m : Made). m.asked) made) es v

-- What it did is its calls among these events, which may all happen: the site tells their moves and no others, and the gateway fits it after them.
pub record IsOneSide (st : Setting) (a b : Founding) (g : Gateway) (w : World) (old new : GatewayState) (before site : Tells) (setup : Setup) (t : Told) (made : List Made) (es : List Event) (v : World) : Type 0 where
  pub happened : MayAllHappen st w es
  pub after : after_events st w es ≡ v
  pub reached : Reached st a b v
  pub lives : Lives st g w made es v
  pub moves : List Move
  pub ran : Ran (party_at st g) (side_at w g) (calls_in g es) moves (side_at v g)
  pub goes : Goes old setup (side_at w g) moves t new site
  pub stands : StandsIn st v g new site setup (told_steps (kept_of (area_of old) setup (side_at w g)) (steps_of moves) t)
  -- a further call at which the site failed: it was a call, and the site tells a part of its moves
  pub breaks : (asked : Asked) (e : Event) (broken : GatewayState) (left : Tells) → Is g asked e → MayHappen st v e → AnswersTo asked new broken site left (Err Site)
      → (call : Call) × (e ≡ Called g call) × Breaks old setup (side_at w g) (moves ++ call_moves st v g call) t broken left
  -- a further one for which no memory was found: it happened, or it was stopped after some of its moves
  pub lacks : (asked : Asked) (e : Event) (after_it : GatewayState) (left : Tells) → Is g asked e → MayHappen st v e → AnswersTo asked new after_it site left (Err Memory)
      → (f : Event) × MayHappen st v f × ((told : Told) × StandsIn st (after_event st v f) g after_it left setup told)

abbrev pub GatewaysAreSides : Type 0
GatewaysAreSides =
    (st : Setting) (a b : Founding) (g : Gateway) (w : World) (old new : GatewayState) (before site : Tells) (setup : Setup) (t : Told) (made : List Made) (es : List Event) (v : World)
    → Stood st a b g w old new before site setup t made es v → IsOneSide st a b g w old new before site setup t made es v
