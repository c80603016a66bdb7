use Rattle.std.proofs.Common.{◌∙◌, Bool, [], ◌∷◌, Err, is_some, inl, if◌then◌else◌, option_map, refl, subst, sym}
use Rattle.satp_base.specs.Acts.{MayRefuse}
use Rattle.satp_base.specs.declared.area.Event.TheVariants.{Acted}
use Rattle.satp_base.specs.declared.ledger.ActFault.{ActFault}
use Rattle.satp_base.specs.declared.ledger.Answer.{Answer}
use Rattle.satp_base.specs.declared.ledger.LedgerCall.TheVariants.{Act}
use Rattle.satp_memory.specs.Calling.{Calling, is_refused}
use Rattle.satp_memory.proofs.Keeping.{follows_then}
use Rattle.satp_memory.specs.Sites.{ActEnds, ActTells, LedgerFails}
use Rattle.satp_memory.specs.Steps.{entries_of, is_stopped, told_of}
use Rattle.satp_memory.proofs.Following.{act_ended, acted_events, acted_or, ask_then, halted_noted, is_some_map, no_ledger, operated_moves, site_done, site_failed, site_halted}
use Rattle.satp_memory.proofs.Siting.{asked-adding, asked-failing, done-act, done-entries, entries-same, failed-act, halted-act, halted-may, still}
use Rattle.satp_memory.proofs.site.MemSiteLedger.act.Goals as goal

pub returns-in-Err-clause-told : goal.returns-in-Err-clause-told
returns-in-Err-clause-told g c =
    let book = option_map g.C.LedgerCore.book c.args.self.now.core in
    failed-act c.args.op c.args.session c.args.terms.now (told_of c.args.self.now.disk) (told_of c.ask.new.self) book book refl c.in-Err.ensures.err

pub returns-in-Err-clause-ended : goal.returns-in-Err-clause-ended
returns-in-Err-clause-ended g c =
    let old = c.args.self.now in
    subst (λ (b : Bool). LedgerFails (is_refused (is_stopped old.disk) old.disk.calls) b old.disk.calls c.ask.new.self.calls) (c.is_some.ensures ∙ sym (is_some_map g.C.LedgerCore.book old.core)) c.in-Err.ensures.ended

pub returns-in-Err-clause-beside : goal.returns-in-Err-clause-beside
returns-in-Err-clause-beside g c =
    site_failed _ (Act c.args.op c.args.session c.args.terms.now) _ _ _ _ c.ask.ensures.beside c.ask.ensures.events refl c.is_some.result
    (λ lacks. inl (no_ledger g.C.LedgerCore.book c.args.self.now.core c.is_some.result c.is_some.ensures lacks)) c.in-Err.ensures.failed

pub invariant_of-self-in-Ok-operate : goal.invariant_of-self-in-Ok-operate
invariant_of-self-in-Ok-operate g c =
    let old = c.args.self.now in
    let before = option_map g.C.LedgerCore.book old.core in
    record {
      one = done-entries c.args.op c.args.session c.args.terms.now (told_of old.disk) (told_of old.disk) before (option_map g.C.LedgerCore.book c.operate.new.core) c.in-Ok-operate.done
          (entries_of c.ask.new.self) (entries_of c.answer.new.self) c.in-Ok-operate.ensures (still before (entries_of old.disk) (entries_of c.ask.new.self) (entries-same old.disk c.ask.new.self c.ask.ensures.past c.ask.ensures.events) old.one) c.answer.ensures.entries;
    }

pub returns-in-Ok-operate-clause-told : goal.returns-in-Ok-operate-clause-told
returns-in-Ok-operate-clause-told g c =
    let old = c.args.self.now in
    done-act c.args.op c.args.session c.args.terms.now (told_of old.disk) (told_of c.answer.new.self) (option_map g.C.LedgerCore.book old.core) (option_map g.C.LedgerCore.book c.operate.new.core)
    c.in-Ok-operate.done c.in-Ok-operate.ensures (asked-adding (Act c.args.op c.args.session c.args.terms.now) _ _ _ c.in-Ok.ask c.in-Ok.ensures.ok.0 c.in-Ok.ensures.ok.1 _ c.answer.ensures.told)

pub returns-in-Ok-operate-clause-beside : goal.returns-in-Ok-operate-clause-beside
returns-in-Ok-operate-clause-beside g c =
    let old = c.args.self.now in
    let op = c.args.op in
    let s = c.args.session in
    let t = c.args.terms.now in
    let on = c.in-Ok-operate.ensures in
    site_done _ (Act op s t) (option_map g.C.LedgerCore.book old.core) (option_map g.C.LedgerCore.book c.operate.new.core) _ _ (follows_then _ _ _ c.ask.ensures.beside c.answer.ensures.beside)
    (if c.in-Ok-operate.done.changed then Acted op s t ∷ [] else [])
    (acted_events old.disk c.ask.new.self c.answer.new.self c.in-Ok.ask (if c.in-Ok-operate.done.changed then Acted op s t ∷ [] else []) c.answer.ensures.told c.ask.ensures.events) c.in-Ok.ensures.ended.0 (c.answer.ensures.calls ∙ c.in-Ok.ensures.ended.2) (acted_or op s t c.in-Ok-operate.done.changed)
    (ask_then _ _ _ _ _ c.answer.ensures.asks c.in-Ok.ensures.asks c.in-Ok.ensures.ok.0) (operated_moves op s t _ _ c.in-Ok-operate.done on)

pub returns-in-Err-operate-clause-told : goal.returns-in-Err-operate-clause-told
returns-in-Err-operate-clause-told g c =
    let old = c.args.self.now in
    let op = c.args.op in
    let s = c.args.session in
    let t = c.args.terms.now in
    let b0 = option_map g.C.LedgerCore.book old.core in
    let b1 = option_map g.C.LedgerCore.book c.operate.new.core in
    subst (λ (f : ActFault). ActTells op s t b0 (Err f) b1 (told_of old.disk) (told_of c.halt.new.self)) (sym c.halt.ensures.fault)
    (halted-act op s t (told_of old.disk) (told_of c.halt.new.self) b0 b1 c.in-Err-operate.halt c.in-Err-operate.ensures (asked-failing (Act op s t) _ _ _ c.in-Ok.ask c.in-Ok.ensures.ok.0 c.in-Ok.ensures.ok.1 c.halt.ensures.told))

pub returns-in-Err-operate-clause-refused : goal.returns-in-Err-operate-clause-refused
returns-in-Err-operate-clause-refused g c =
    let old = c.args.self.now in
    subst (MayRefuse c.args.op) (sym c.halt.ensures.fault)
    (halted-may c.args.op c.args.session c.args.terms.now (told_of old.disk) (told_of old.disk) (option_map g.C.LedgerCore.book old.core) (option_map g.C.LedgerCore.book c.operate.new.core) c.in-Err-operate.halt c.in-Err-operate.ensures)

pub returns-in-Err-operate-clause-ended : goal.returns-in-Err-operate-clause-ended
returns-in-Err-operate-clause-ended g c =
    let core = c.args.self.now.core in
    let before = option_map g.C.LedgerCore.book core in
    subst (λ (f : ActFault). ActEnds {T = Answer} (is_refused (is_stopped c.args.self.now.disk) c.args.self.now.disk.calls) (is_some before) c.args.self.now.disk.calls c.halt.new.self.calls (Err f)) (sym c.halt.ensures.fault)
    (act_ended c.args.op c.args.session c.args.terms.now before (option_map g.C.LedgerCore.book c.operate.new.core) c.in-Err-operate.halt _ _ c.ask.new.self.calls _ c.in-Err-operate.ensures
    c.in-Ok.ensures.ended.0 (is_some_map g.C.LedgerCore.book core ∙ (sym c.is_some.ensures ∙ c.in-Ok.ensures.ended.1)) c.in-Ok.ensures.ended.2 c.halt.ensures.calls)

pub returns-in-Err-operate-clause-beside : goal.returns-in-Err-operate-clause-beside
returns-in-Err-operate-clause-beside g c =
    let old = c.args.self.now in
    site_halted _ c.args.op c.args.session c.args.terms.now (option_map g.C.LedgerCore.book old.core) (option_map g.C.LedgerCore.book c.operate.new.core) c.in-Err-operate.halt _ _ c.ask.new.self.calls (follows_then _ _ _ c.ask.ensures.beside c.halt.ensures.beside)
    (c.halt.ensures.events ∙ c.ask.ensures.events) c.in-Err-operate.ensures c.in-Ok.ensures.ended.0 c.in-Ok.ensures.ended.2 c.halt.ensures.calls (halted_noted _ _ _ _ _ c.halt.ensures.asks c.in-Ok.ensures.asks c.in-Ok.ensures.ok.0)
