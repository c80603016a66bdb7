use Rattle.std.proofs.Common.{List, ap, option_map, ◌∙◌}
use Rattle.satp_base.specs.Calls.{asked}
use Rattle.satp_base.specs.declared.area.Event.{Event}
use Rattle.satp_base.specs.declared.ledger.LedgerCall.TheVariants.{Found}
use Rattle.satp_gateway.specs.SettingUp.{plan_of}
use Rattle.satp_gateway.proofs.Founding.{failed_store}
use Rattle.satp_gateway.proofs.set_up.establish.Goals as goal

pub returns-clause-err : goal.returns-clause-err
returns-clause-err g c =
    let old = g.S.Device.told c.args.site.now in
    let told = c.in_ok-found.ensures.told in
    failed_store c.store.result (plan_of c.args.payload.now c.args.kind c.args.genesis.now) old (g.S.Device.told c.found.new.self) (g.S.Device.told c.store.new.site) (g.S.Device.book c.found.new.self) (g.S.Device.book c.store.new.site)
    (told.2 ∙ ap (λ (es : List Event). option_map (asked (Found c.args.kind c.args.genesis.now) es) old) told.1) c.in_ok-found.ensures.ledger c.store.ensures.ledger c.store.ensures.err
