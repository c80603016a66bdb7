-- A gateway from its set-up on, through calls, stops and openings.
use Rattle.std.specs.Prelude.{◌≡◌, ℕ, List, map, take, Option, Some, Result, Ok}
use Rattle.satp_base.specs.Calls.{Told}
use Rattle.satp_base.specs.Founding.{Founding}
use Rattle.satp_base.specs.Trail.{Trail, KeepsModel, extended}
use Rattle.satp_base.specs.declared.area.Event.{Event as DiskEvent}
use Rattle.satp_base.specs.declared.ledger.LedgerKind.{LedgerKind}
use Rattle.satp_gateway.specs.Opening.{GatewayOpens, OpenDecided, OpensOr}
use Rattle.satp_gateway.specs.SettingUp.{RestsSetUp, SetUpAnswers, plan}
use Rattle.satp_gateway.specs.declared.fault.OpenFault.{OpenFault}
use Rattle.satp_log.specs.Journals.{party_of}
use Rattle.satp_points.specs.Answers.{Answers}
use Rattle.satp_points.specs.States.{GatewayState, Tells}
use Rattle.satp_points.specs.declared.fault.Refused.{Refused}
use Rattle.satp_records.specs.Formats.{IsFormed}
use Rattle.satp_records.specs.declared.stored.Setup.{Setup}
use Rattle.satp_records.specs.declared.stored.Stored.TheVariants as journaled
use Rattle.satp_runs.specs.Asking.{AnswersAll, Made}
use Rattle.satp_runs.specs.Living.{Meanwhile, whose}
use Rattle.satp_sides.specs.Calls.{Call}
use Rattle.satp_sides.specs.Points.{Text}
use Rattle.satp_world.specs.Histories.{Event, MayCall, MayHappen, Stopped, after_event, after_moves}
use Rattle.satp_world.specs.Worlds.{Gateway, Setting, World, opposite, party_at, start}
use Rattle.satp_life_laws.specs.Closed.{BeginsAgain, IsClosed, IsOpen, TellsLedger, append_of, founding_at}

-- ---- it is open

-- It stays open while it is asked and answers, one thing after the other, whatever happens to the other gateway meanwhile.
abbrev pub AnswersStayOpen : Type 0
AnswersStayOpen =
    (st : Setting) (a b : Founding) (g : Gateway) (setup : Setup) (w : World) (old new : GatewayState) (before site : Tells) (t : Told) (made : List Made) (es : List Event) (v : World)
    → IsOpen st a b g setup w old before t → AnswersAll made old new before site → Meanwhile st g w (map (λ (m : Made). m.asked) made) es v → (told : Told) × IsOpen st a b g setup v new site told

-- ---- it is closed

-- A set-up leaves the gateway closed, in the world in which nothing has happened.
abbrev pub SetUpsClose : Type 0
SetUpsClose =
    (st : Setting) (a b : Founding) (g : Gateway) (setup : Setup) (kind : LedgerKind) (before site : Tells) (t : Told)
    → party_of setup ≡ party_at st g → IsFormed (journaled.Setup setup)
    → let p = plan setup kind (founding_at a b g) in
    SetUpAnswers p before site (Ok tt) → RestsSetUp p site.told → site.told ≡ Some t → IsClosed st a b g setup (start a b) t.trail

-- An open gateway that is let go is closed in the same world.
abbrev pub LeavingsClose : Type 0
LeavingsClose =
    (st : Setting) (a b : Founding) (g : Gateway) (setup : Setup) (w : World) (state : GatewayState) (site : Tells) (t : Told)
    → IsOpen st a b g setup w state site t → TellsLedger (founding_at a b g) site t → IsClosed st a b g setup w t.trail

-- A stop at any event of a call, also of one that failed, leaves the gateway closed, in the world in which the call stopped after some of its moves.
abbrev pub StopsClose : Type 0
StopsClose =
    (st : Setting) (a b : Founding) (g : Gateway) (setup : Setup) (w : World) (call : Call) (old new : GatewayState) (before site : Tells) (result : Result (Option Text) Refused) (t told : Told)
    → IsOpen st a b g setup w old before t → TellsLedger (founding_at a b g) before t → MayCall st w g call → Answers call old new before site result → site.told ≡ Some told → KeepsModel told.trail
    → (events : List DiskEvent) × (told.trail ≡ extended t.trail events)
    × ((k : ℕ) → (n : ℕ) × IsClosed st a b g setup (after_event st w (Stopped g call n)) (extended t.trail (take k events)))

-- It stays closed where the site begins again,
abbrev pub AgainStaysClosed : Type 0
AgainStaysClosed =
    (st : Setting) (a b : Founding) (g : Gateway) (setup : Setup) (w : World) (t u : Trail) → IsClosed st a b g setup w t → BeginsAgain t u → IsClosed st a b g setup w u

-- whatever happens to the other gateway,
abbrev pub OthersLeaveClosed : Type 0
OthersLeaveClosed =
    (st : Setting) (a b : Founding) (g : Gateway) (setup : Setup) (w : World) (t : Trail) (e : Event)
    → IsClosed st a b g setup w t → whose e ≡ opposite g → MayHappen st w e → IsClosed st a b g setup (after_event st w e) t

-- and at each event of an opening, also of one that fails.
abbrev pub OpeningsStayClosed : Type 0
OpeningsStayClosed =
    (st : Setting) (a b : Founding) (g : Gateway) (setup : Setup) (w : World) (before site : Tells) (result : Result GatewayState OpenFault) (t told : Told)
    → IsClosed st a b g setup w t.trail → before.told ≡ Some t → GatewayOpens before site result → site.told ≡ Some told → KeepsModel told.trail
    → (events : List DiskEvent) × (told.trail ≡ extended t.trail events) × ((k : ℕ) → IsClosed st a b g setup w (extended t.trail (take k events)))

-- ---- it is opened

-- What is opened at the site of a closed gateway is this gateway: it stands in the same world, or in the one with the record whose append was stopped.
abbrev pub OpeningsStand : Type 0
OpeningsStand =
    (st : Setting) (a b : Founding) (g : Gateway) (setup : Setup) (w : World) (state : GatewayState) (before site : Tells) (t : Told)
    → (is : IsClosed st a b g setup w t.trail) → before.told ≡ Some t → TellsLedger (founding_at a b g) before t → KeepsModel t.trail → GatewayOpens before site (Ok state) → site.book ≡ before.book
    → (n : ℕ) × (told : Told) × IsOpen st a b g setup (after_moves w g (take n (append_of is.next))) state site told

-- Unless a call failed or no memory was found, it is opened.
abbrev pub ClosedOpen : Type 0
ClosedOpen =
    (st : Setting) (a b : Founding) (g : Gateway) (setup : Setup) (w : World) (t : Told) (result : Result GatewayState OpenFault)
    → IsClosed st a b g setup w t.trail → KeepsModel t.trail → OpenDecided (Some t) result → OpensOr (λ state. Unit {0}) result
