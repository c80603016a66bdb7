use Rattle.std.proofs.Common.{[], inr, ap, subst, sym, ◌∙◌, ◌≤◌, ◌≡◌}
use Rattle.satp_keeper.specs.Books.{ledger_payloads}
use Rattle.satp_keeper.specs.Founding.{UnfoundedBy}
use Rattle.satp_site.specs.Directories.{DiskState, disk_state}
use Rattle.satp_site.specs.Keeping.{HasFailed}
use Rattle.satp_site.specs.Sites.{called}
use Rattle.satp_site.proofs.Second.{between}
use Rattle.satp_site.proofs.kept_ledger.KeptLedger.found_on_second.Goals as goal

pub returns-in-Err-found : goal.returns-in-Err-found
returns-in-Err-found g c =
    let shown = disk_state g.D.Device.told g.D.Device.faults in
    let u = c.in-Err-found.unfounded in
    let is = c.in-Ok.ensures.second in
    let back = c.give_back.ensures.second in
    inr (
      u.fault,
      record {
        told = c.give_back.ensures.told ∙ ap called c.in-Ok.ensures.ok;
        faults = c.give_back.ensures.faults ∙ c.in-Ok.ensures.cause.kept;
        cause = between (λ (a b : DiskState). HasFailed u.fault a.faults b.faults) (shown c.in-Ok.second) (shown u.disk) _ _ is back c.in-Err-found.ensures.cause;
      },
      between (λ (a b : DiskState). UnfoundedBy (ledger_payloads c.args.kind c.args.genesis.now []) a.told b.told u.fault) (shown c.in-Ok.second) (shown u.disk) _ _ is back c.in-Err-found.ensures.fault,
    )
