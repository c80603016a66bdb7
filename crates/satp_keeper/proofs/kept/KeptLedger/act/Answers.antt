use Rattle.std.proofs.Common.{Err, subst, sym}
use Rattle.satp_base.specs.Acts.{MayRefuse}
use Rattle.satp_base.specs.declared.ledger.ActFault.{ActFault}
use Rattle.satp_base.proofs.RuleLemmas.{rule-may}
use Rattle.satp_keeper.proofs.Keeping.{TellsAct, fault_may, tells_fault, tells_ok}
use Rattle.satp_keeper.proofs.kept.KeptLedger.act.Goals as goal

pub returns-in-Ok-clause-told : goal.returns-in-Ok-clause-told
returns-in-Ok-clause-told g c =
    let old = c.args.self.now in
    let new = c.act.new.self in
    tells_ok c.args.op c.args.session c.args.terms.now (g.C.LedgerCore.book old.core) (g.C.LedgerCore.book new.core) old.journal.held new.journal.held (g.D.Device.told old.disk) (g.D.Device.told new.disk) c.in-Ok.answer c.in-Ok.ensures.answers

pub returns-in-Ok-clause-answer : goal.returns-in-Ok-clause-answer
returns-in-Ok-clause-answer g c =
    let old = c.args.self.now in
    rule-may (g.C.LedgerCore.book old.core) c.args.op c.args.session c.args.terms.now c.in-Ok.answer (g.C.LedgerCore.book c.act.new.self.core) c.in-Ok.ensures.answers.1

pub returns-in-Err-clause-refused : goal.returns-in-Err-clause-refused
returns-in-Err-clause-refused g c =
    let old = c.args.self.now in
    let new = c.act.new.self in
    subst (MayRefuse c.args.op) (sym c.act_fault.ensures)
    (fault_may c.args.op c.args.session c.args.terms.now (g.C.LedgerCore.book old.core) (g.C.LedgerCore.book new.core) old.journal.held new.journal.held (g.D.Device.told old.disk) (g.D.Device.told new.disk) c.in-Err.fault c.in-Err.ensures.answers)

pub returns-in-Err-clause-told : goal.returns-in-Err-clause-told
returns-in-Err-clause-told g c =
    let old = c.args.self.now in
    let new = c.act.new.self in
    let b = g.C.LedgerCore.book old.core in
    let d = g.C.LedgerCore.book new.core in
    subst (λ (f : ActFault). TellsAct c.args.op c.args.session c.args.terms.now b d old.journal.held new.journal.held (g.D.Device.told old.disk) (g.D.Device.told new.disk) (Err f)) (sym c.act_fault.ensures)
    (tells_fault c.args.op c.args.session c.args.terms.now b d old.journal.held new.journal.held (g.D.Device.told old.disk) (g.D.Device.told new.disk) c.in-Err.fault c.in-Err.ensures.answers)
