use Rattle.std.proofs.Common.{[], subst}
use Rattle.satp_base.specs.declared.ledger.LedgerKind.{LedgerKind}
use Rattle.satp_keeper.specs.Books.{ledger_payloads}
use Rattle.satp_keeper.specs.Founding.{FoundStops}
use Rattle.satp_keeper.proofs.FoundLemmas.{all_fit}
use Rattle.satp_keeper.proofs.Foundings.{founded_stops, unfounded_stops}
use Rattle.satp_keeper.proofs.kept.Kept.found.Goals as goal

pub returns-in-Ok-clause-stops : goal.returns-in-Ok-clause-stops
returns-in-Ok-clause-stops g c =
    let old = g.D.Device.told c.args.disk in
    let new = g.D.Device.told c.set_up.new.disk in
    let genesis = c.args.genesis.now in
    subst (λ (kind : LedgerKind). FoundStops (ledger_payloads kind genesis []) old new) c.KIND.ensures
    (founded_stops (ledger_payloads c.KIND.result genesis []) (all_fit c.KIND.result genesis) old new (g.D.Device.keeps_model c.set_up.new.disk) c.in-Ok.ensures.answers)

pub returns-in-Err-clause-stops : goal.returns-in-Err-clause-stops
returns-in-Err-clause-stops g c =
    let old = g.D.Device.told c.args.disk in
    let new = g.D.Device.told c.set_up.new.disk in
    let genesis = c.args.genesis.now in
    subst (λ (kind : LedgerKind). FoundStops (ledger_payloads kind genesis []) old new) c.KIND.ensures
    (unfounded_stops (ledger_payloads c.KIND.result genesis []) (all_fit c.KIND.result genesis) old new c.in-Err.fault (g.D.Device.keeps_model c.set_up.new.disk) c.in-Err.ensures.answers)
