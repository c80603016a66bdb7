use Rattle.std.proofs.Common.{inr, ap, subst, sym, ◌∙◌, ◌≤◌, ◌≡◌}
use Rattle.satp_site.specs.Directories.{DiskState, disk_state}
use Rattle.satp_site.specs.Keeping.{HasFailed, IsRaised, IsUnraised}
use Rattle.satp_site.specs.Ledgers.{state_of}
use Rattle.satp_site.specs.Sites.{called}
use Rattle.satp_site.proofs.Second.{between}
use Rattle.satp_site.proofs.kept_ledger.KeptLedger.open_on_second.Goals as goal

pub returns-in-Ok-open : goal.returns-in-Ok-open
returns-in-Ok-open g c =
    let s = state_of c.in-Ok-open.ledger in
    let is = c.in-Ok.ensures.second in (
      record { told = c.in-Ok.ensures.ok; faults = c.in-Ok.ensures.cause.kept },
      subst (λ (d : DiskState). IsRaised d.told s) is c.in-Ok-open.ensures.opened,
      subst (λ (d : DiskState). s.disk_faults ≡ d.faults) is c.in-Ok-open.ensures.cause,
    )

pub returns-in-Err-open : goal.returns-in-Err-open
returns-in-Err-open g c =
    let shown = disk_state g.D.Device.told g.D.Device.faults in
    let u = c.in-Err-open.unopened in
    let is = c.in-Ok.ensures.second in
    let back = c.give_back.ensures.second in
    inr (
      u.fault,
      record {
        told = c.give_back.ensures.told ∙ ap called c.in-Ok.ensures.ok;
        faults = c.give_back.ensures.faults ∙ c.in-Ok.ensures.cause.kept;
        cause = between (λ (a b : DiskState). HasFailed u.fault a.faults b.faults) (shown c.in-Ok.second) (shown u.disk) _ _ is back c.in-Err-open.ensures.cause;
      },
      between (λ (a b : DiskState). IsUnraised a.told b.told u.fault) (shown c.in-Ok.second) (shown u.disk) _ _ is back c.in-Err-open.ensures.opened,
    )
