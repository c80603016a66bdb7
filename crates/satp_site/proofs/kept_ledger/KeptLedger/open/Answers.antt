use Rattle.std.proofs.Common.{refl, subst, inr, sym, ◌∙◌}
use Rattle.satp_base.specs.declared.ledger.LedgerKind.TheVariants.{Accounts}
use Rattle.satp_keeper.specs.Opening.{UnopenedBy}
use Rattle.satp_keeper.specs.declared.fault.KeeperFault.{KeeperFault}
use Rattle.satp_site.specs.Keeping.{AreNoAccounts}
use Rattle.satp_site.proofs.kept_ledger.KeptLedger.open.Goals as goal

pub returns-in-Ok-open-clause-opened : goal.returns-in-Ok-open-clause-opened
returns-in-Ok-open-clause-opened g c =
    let told = g.D.Device.told c.args.disk in
    let between = g.D.Device.told c.in-Err.unopened.disk in
    let kept = c.in-Ok-open.kept in
    let opened = c.in-Ok-open.ensures.opened in
    let refused : AreNoAccounts told between = subst (λ (f : KeeperFault). UnopenedBy Accounts told between f) (c.is_first_record.ensures.0 c.if-is_first_record.true) c.in-Err.ensures.opened in
    inr (
      between,
      refused,
      record {
        kind = refl;
        opened = opened.0;
        leaves = opened.1;
        whole = sym kept.whole ∙ opened.3;
        rests = opened.2;
        own_faults = c.in-Ok-open.ensures.counts.0;
        wants = c.in-Ok-open.ensures.counts.1;
      },
    )

pub returns-in-Err-open-clause-opened : goal.returns-in-Err-open-clause-opened
returns-in-Err-open-clause-opened g c =
    let told = g.D.Device.told c.args.disk in
    let between = g.D.Device.told c.in-Err.unopened.disk in
    let refused : AreNoAccounts told between = subst (λ (f : KeeperFault). UnopenedBy Accounts told between f) (c.is_first_record.ensures.0 c.if-is_first_record.true) c.in-Err.ensures.opened in
    inr (between, refused, c.in-Err-open.ensures.opened)
