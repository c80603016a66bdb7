use Rattle.std.proofs.Common.{◌≡◌, ◌∙◌, Ok, Err, Result, inl, inr, refl, subst, sym}
use Rattle.std.specs.Result.{IsErrAnd}
use Rattle.satp_records.specs.declared.stored.Stored.TheVariants as stored
use Rattle.satp_records.proofs.Payloads.{payloads_fit}
use Rattle.satp_points.specs.States.{Tells, tells}
use Rattle.satp_gateway.specs.SettingUp.{IsVacant, Plan, SetUpAnswers, SetUpDecided, VacantAnswers, plan}
use Rattle.satp_gateway.specs.declared.fault.SetUpFault.{SetUpFault}
use Rattle.satp_gateway.proofs.Deciding.{decided, once}
use Rattle.satp_gateway.proofs.Stopping.{opened_stops, unopened_stops}
use Rattle.satp_gateway.proofs.gateway.Gateway.set_up.Goals as goal

-- where the journal has no record
over_vacant : (p : Plan) (old opened new : Tells) (r : Result (Unit {0}) SetUpFault) → IsVacant old opened → VacantAnswers p opened new r → SetUpAnswers p old new r
over_vacant p old opened new (Ok done) vacant answers = (opened, vacant, answers)
over_vacant p old opened new (Err fault) vacant answers = inr (opened, vacant, answers)

-- the answer of the opening is given on
unopened : (r : Result (Unit {0}) SetUpFault) (fault : SetUpFault) (P : Result (Unit {0}) SetUpFault → Type 0) → IsErrAnd r (λ given. given ≡ fault) → P (Err fault) → P r
unopened (Ok done) fault P is p = absurd is
unopened (Err given) fault P is p = subst (λ f. P (Err f)) (sym is) p

pub returns-in_err-vacancy-clause-decided : goal.returns-in_err-vacancy-clause-decided
returns-in_err-vacancy-clause-decided g c =
    let p = plan c.args.setup.now c.args.kind c.args.genesis.now in
    let old = tells (g.S.Device.told c.args.site.now) (g.S.Device.book c.args.site.now) in
    let new = tells (g.S.Device.told c.open.new.site) (g.S.Device.book c.open.new.site) in
    let fault = c.in_err-vacancy.field-0.0 in
    unopened c.from_residual.result fault (SetUpDecided old.told) c.from_residual.ensures.1 (decided p old new (Err fault) (inl c.in_err-vacancy.ensures.answers))

pub returns-in_err-vacancy-clause-stops : goal.returns-in_err-vacancy-clause-stops
returns-in_err-vacancy-clause-stops g c =
    let p = plan c.args.setup.now c.args.kind c.args.genesis.now in
    let old = tells (g.S.Device.told c.args.site.now) (g.S.Device.book c.args.site.now) in
    let new = tells (g.S.Device.told c.open.new.site) (g.S.Device.book c.open.new.site) in
    unopened_stops p c.in_err-vacancy.field-0.0 old new c.in_err-vacancy.ensures.answers c.open.ensures.stops

pub returns-clause-answers : goal.returns-clause-answers
returns-clause-answers g c =
    let p = plan c.args.setup.now c.args.kind c.args.genesis.now in
    let old = tells (g.S.Device.told c.args.site.now) (g.S.Device.book c.args.site.now) in
    let new = tells (g.S.Device.told c.set_up.new.site) (g.S.Device.book c.set_up.new.site) in
    let opened = tells (g.S.Device.told c.open.new.site) (g.S.Device.book c.open.new.site) in over_vacant p old opened new c.set_up.result c.in_ok-vacancy.ensures.answers c.set_up.ensures.answers

pub returns-clause-decided : goal.returns-clause-decided
returns-clause-decided g c =
    let p = plan c.args.setup.now c.args.kind c.args.genesis.now in
    let old = tells (g.S.Device.told c.args.site.now) (g.S.Device.book c.args.site.now) in
    let opened = tells (g.S.Device.told c.open.new.site) (g.S.Device.book c.open.new.site) in
    let new = tells (g.S.Device.told c.set_up.new.site) (g.S.Device.book c.set_up.new.site) in
    decided p old new c.set_up.result (over_vacant p old opened new c.set_up.result c.in_ok-vacancy.ensures.answers c.set_up.ensures.answers)

pub returns-clause-once : goal.returns-clause-once
returns-clause-once g c =
    let p = plan c.args.setup.now c.args.kind c.args.genesis.now in
    let old = tells (g.S.Device.told c.args.site.now) (g.S.Device.book c.args.site.now) in
    let opened = tells (g.S.Device.told c.open.new.site) (g.S.Device.book c.open.new.site) in
    let new = tells (g.S.Device.told c.set_up.new.site) (g.S.Device.book c.set_up.new.site) in
    once p old new c.set_up.result (over_vacant p old opened new c.set_up.result c.in_ok-vacancy.ensures.answers c.set_up.ensures.answers)

pub returns-clause-stops : goal.returns-clause-stops
returns-clause-stops g c =
    let p = plan c.args.setup.now c.args.kind c.args.genesis.now in
    let old = tells (g.S.Device.told c.args.site.now) (g.S.Device.book c.args.site.now) in
    let opened = tells (g.S.Device.told c.open.new.site) (g.S.Device.book c.open.new.site) in
    let new = tells (g.S.Device.told c.set_up.new.site) (g.S.Device.book c.set_up.new.site) in
    opened_stops p (payloads_fit (stored.Setup c.args.setup.now) (c.requires.key_least, c.requires.key_most, c.requires.peer)) old opened new c.set_up.result (g.S.Device.keeps_model c.set_up.new.site) c.in_ok-vacancy.ensures.answers
    c.open.ensures.stops c.in_ok-vacancy.ensures.rests c.set_up.ensures.answers
