use Rattle.std.proofs.Common.{◌∙◌, ℕ, List, Ok, Err, refl, subst}
use Rattle.satp_records.specs.declared.stored.Stored.TheVariants as stored
use Rattle.satp_records.proofs.Payloads.{payloads_fit}
use Rattle.satp_points.specs.States.{tells}
use Rattle.satp_gateway.specs.SettingUp.{Establishes, FailsToEstablish, plan, plan_of}
use Rattle.satp_gateway.specs.declared.fault.SetUpFault.TheVariants.{Site, Memory}
use Rattle.satp_gateway.proofs.Stopping.{vacant_rests, vacant_stops}
use Rattle.satp_gateway.proofs.vacancy.Vacancy.set_up.Goals as goal

pub returns-in_err-payload-clause-stops : goal.returns-in_err-payload-clause-stops
returns-in_err-payload-clause-stops g c =
    let here = tells (g.S.Device.told c.args.site.now) (g.S.Device.book c.args.site.now) in
    vacant_stops (plan c.args.setup.now c.args.kind c.args.genesis.now) (payloads_fit (stored.Setup c.args.setup.now) (c.requires.key_least, c.requires.key_most, c.requires.peer)) here here (Err Memory) (g.S.Device.keeps_model c.args.site.now) (refl, refl)

pub returns-in_err-reserve-clause-stops : goal.returns-in_err-reserve-clause-stops
returns-in_err-reserve-clause-stops g c =
    let here = tells (g.S.Device.told c.args.site.now) (g.S.Device.book c.args.site.now) in
    vacant_stops (plan c.args.setup.now c.args.kind c.args.genesis.now) (payloads_fit (stored.Setup c.args.setup.now) (c.requires.key_least, c.requires.key_most, c.requires.peer)) here here (Err Memory) (g.S.Device.keeps_model c.args.site.now) (refl, refl)

pub returns-in_err-establish-clause-stops : goal.returns-in_err-establish-clause-stops
returns-in_err-establish-clause-stops g c =
    let old = tells (g.S.Device.told c.args.site.now) (g.S.Device.book c.args.site.now) in
    let new = tells (g.S.Device.told c.establish.new.site) (g.S.Device.book c.establish.new.site) in
    vacant_stops (plan c.args.setup.now c.args.kind c.args.genesis.now) (payloads_fit (stored.Setup c.args.setup.now) (c.requires.key_least, c.requires.key_most, c.requires.peer)) old new (Err Site) (g.S.Device.keeps_model c.establish.new.site)
    (subst (λ (q : List ℕ). FailsToEstablish (plan_of q c.args.kind c.args.genesis.now) old.told new) (c.bytes-2.ensures ∙ c.in_ok-payload.ensures.is) c.in_err-establish.ensures.err)

pub returns-clause-stops : goal.returns-clause-stops
returns-clause-stops g c =
    let old = tells (g.S.Device.told c.args.site.now) (g.S.Device.book c.args.site.now) in
    let new = tells (g.S.Device.told c.establish.new.site) (g.S.Device.book c.establish.new.site) in
    vacant_stops (plan c.args.setup.now c.args.kind c.args.genesis.now) (payloads_fit (stored.Setup c.args.setup.now) (c.requires.key_least, c.requires.key_most, c.requires.peer)) old new (Ok tt) (g.S.Device.keeps_model c.establish.new.site)
    (subst (λ (q : List ℕ). Establishes (plan_of q c.args.kind c.args.genesis.now) old.told new) (c.bytes-2.ensures ∙ c.in_ok-payload.ensures.is) c.in_ok-establish.ensures.ok)

pub returns-clause-rests : goal.returns-clause-rests
returns-clause-rests g c =
    let new = tells (g.S.Device.told c.establish.new.site) (g.S.Device.book c.establish.new.site) in
    vacant_rests (plan c.args.setup.now c.args.kind c.args.genesis.now) (payloads_fit (stored.Setup c.args.setup.now) (c.requires.key_least, c.requires.key_most, c.requires.peer)) (g.S.Device.told c.args.site.now) new (g.S.Device.keeps_model c.establish.new.site)
    (subst (λ (q : List ℕ). Establishes (plan_of q c.args.kind c.args.genesis.now) (g.S.Device.told c.args.site.now) new) (c.bytes-2.ensures ∙ c.in_ok-payload.ensures.is) c.in_ok-establish.ensures.ok)
