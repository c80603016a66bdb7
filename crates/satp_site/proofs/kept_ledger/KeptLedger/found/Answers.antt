use Rattle.std.proofs.Common.{[], Some, refl, subst, sym, ap, ◌∙◌}
use Rattle.satp_base.specs.declared.ledger.LedgerKind.{LedgerKind}
use Rattle.satp_base.specs.declared.ledger.LedgerKind.TheVariants as kind
use Rattle.satp_keeper.specs.Books.{ledger_payloads}
use Rattle.satp_keeper.specs.Founding.{UnfoundedBy}
use Rattle.satp_outputs.specs.States.{book_of}
use Rattle.satp_site.specs.Keeping.{IsFounded, KeptState}
use Rattle.satp_site.proofs.kept_ledger.KeptLedger.found.Goals as goal

pub returns-in-Err-clause-fault : goal.returns-in-Err-clause-fault
returns-in-Err-clause-fault g c =
    subst (λ (k : LedgerKind). UnfoundedBy (ledger_payloads k c.args.genesis.now []) (g.D.Device.told c.args.disk) (g.D.Device.told c.in-Err.unopened.disk) c.in-Err.unopened.fault) (sym c.in-Accounts.is) c.in-Err.ensures.answers

pub returns-in-Ok-found-clause-founded : goal.returns-in-Ok-found-clause-founded
returns-in-Ok-found-clause-founded g c =
    let kept = c.in-Ok-found.kept in
    let found = c.in-Ok-found.ensures.found in
    let state : KeptState = record {
      kind = kind.Outputs;
      book = book_of kept.core;
      journal = kept.journal;
      told = g.D.Device.told kept.disk;
      disk_faults = g.D.Device.faults kept.disk;
      own_faults = kept.tally.faults;
      wants = kept.tally.wants;
    } in
    subst (λ (k : LedgerKind). IsFounded k c.args.genesis.now (g.D.Device.told c.args.disk) state) (sym c.in-Outputs.is) (record {
      kind = refl;
      calls = c.in-Ok-found.ensures.answers;
      book = found.0;
      whole = sym kept.whole ∙ found.1;
      payloads = found.3;
      leaves = c.in-Ok-found.ensures.leaves;
      rests = found.2;
      own_faults = c.in-Ok-found.ensures.counts.0;
      wants = c.in-Ok-found.ensures.counts.1;
    })

pub returns-in-Err-found-clause-fault : goal.returns-in-Err-found-clause-fault
returns-in-Err-found-clause-fault g c =
    subst (λ (k : LedgerKind). UnfoundedBy (ledger_payloads k c.args.genesis.now []) (g.D.Device.told c.args.disk) (g.D.Device.told c.in-Err-found.unopened.disk) c.in-Err-found.unopened.fault) (sym c.in-Outputs.is) c.in-Err-found.ensures.answers
