use Rattle.std.proofs.Common.{◌∙◌, Some, Err, ap, refl, subst, sym}
use Rattle.satp_base.specs.declared.ledger.Entry.{Entry}
use Rattle.satp_base.proofs.RuleLemmas.{rule-may}
use Rattle.satp_memory.specs.declared.operate.Halt.{Halt}
use Rattle.satp_memory.specs.Sites.{OperatesOn, is_change}
use Rattle.satp_memory.proofs.Siting.{refused-core}
use Rattle.satp_memory.proofs.Operating.{change-done, rule-after, rule-changes, rule-says}
use Rattle.satp_memory.proofs.operate.apply.Goals as goal

pub returns-in-Ok : goal.returns-in-Ok
returns-in-Ok g c =
    let b = g.C.LedgerCore.book c.args.core.now in
    let new = g.C.LedgerCore.book c.apply.new.self in
    let op = c.args.op in
    let s = c.args.session in
    let t = c.args.terms.now in
    let a = c.in-Ok.answer in
    let rule = c.in-Ok.ensures in
    (b, refl, rule-says b op s t a new rule, ap Some (rule-after b op s t a new rule), c.is_change.ensures ∙ ap (λ (e : Entry). is_change op e a) c.entry-before.ensures ∙ rule-changes b op s t a new rule, rule-may b op s t a new rule, λ e. change-done op c.entry-before.result a (sym c.is_change.ensures ∙ e))

pub returns-in-Err : goal.returns-in-Err
returns-in-Err g c =
    subst (λ (h : Halt). OperatesOn c.args.op c.args.session c.args.terms.now (Some (g.C.LedgerCore.book c.args.core.now)) (Err h) (Some (g.C.LedgerCore.book c.apply.new.self))) (sym c.halt_of.ensures)
    (refused-core c.args.op c.args.session c.args.terms.now (g.C.LedgerCore.book c.args.core.now) (g.C.LedgerCore.book c.apply.new.self) c.in-Err.fault c.in-Err.ensures)
