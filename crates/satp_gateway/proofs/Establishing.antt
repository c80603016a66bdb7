-- A founding and an append, as one.
use Rattle.std.proofs.Common.{◌≡◌, ℕ, List, Option, Some, None, option_map, Result, Ok, Err, sym, subst, inr}
use Rattle.std.specs.Prelude.{IfSome, OnSome, OnErr}
use Rattle.satp_base.specs.Acts.{FoundsBook}
use Rattle.satp_base.specs.Calls.{Told, FailsAmong, calls_of}
use Rattle.satp_base.specs.Money.{Book}
use Rattle.satp_base.specs.declared.area.Event.{Event}
use Rattle.satp_base.specs.declared.site.SiteFault.{SiteFault}
use Rattle.satp_points.specs.States.{tells}
use Rattle.satp_gateway.specs.SettingUp.{FailsToEstablish, Plan, TellsGenesis, founds, setup_events}

-- a failed list of calls tells nothing where nothing was told
tells_on : (calls : List (Option Event)) (old new : Option Told) (P : Type 0) → FailsAmong calls old new → OnSome old P → OnSome new P
tells_on calls (Some t) (Some u) P fails told = told
tells_on calls (Some t) None P fails told = tt
tells_on calls None new P (n, None, at, is) told = subst (λ (o : Option Told). OnSome o P) (sym is) tt
tells_on calls None new P (n, Some e, at, (es, failure, is)) told = subst (λ (o : Option Told). OnSome o P) (sym is) tt

tells_founded : (p : Plan) (old : Option Told) (P : Type 0) → OnSome old P → OnSome (option_map (founds p) old) P
tells_founded p None P told = tt
tells_founded p (Some t) P told = told

pub store_fails : (p : Plan) (old mid new : Option Told) (before after : Option Book) (result : Result (Unit {0}) SiteFault) → mid ≡ option_map (founds p) old → TellsGenesis p (tells old before) → after ≡ before
    → OnErr result (FailsAmong (calls_of (setup_events p)) mid new) → OnErr result (FailsToEstablish p old (tells new after))
store_fails p old mid new before after (Ok done) is genesis same fails = tt
store_fails p old mid new before after (Err fault) is genesis same fails =
    let here = subst (λ (o : Option Told). FailsAmong (calls_of (setup_events p)) o new) is fails in
    subst (λ (b : Option Book). FailsToEstablish p old (tells new b)) (sym same) (inr (here, (tells_on (calls_of (setup_events p)) (option_map (founds p) old) new _ here (tells_founded p old _ genesis.0), genesis.1)))
