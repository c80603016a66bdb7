use Rattle.std.proofs.Common.{length, ap, sym, ◌∙◌, arith}
use Rattle.satp_keeper.proofs.Storing.{keep_failed, still_stops}
use Rattle.satp_keeper.proofs.keep.keep.Goals as goal

pub returns-in-Err-clause-stops : goal.returns-in-Err-clause-stops
returns-in-Err-clause-stops g c = still_stops c.args.op c.args.session c.args.terms.now c.args.journal.now.held (g.D.Device.told c.args.disk.now) (g.D.Device.keeps_model c.args.disk.now)

pub returns-in-Err-reserve-clause-stops : goal.returns-in-Err-reserve-clause-stops
returns-in-Err-reserve-clause-stops g c = still_stops c.args.op c.args.session c.args.terms.now c.args.journal.now.held (g.D.Device.told c.args.disk.now) (g.D.Device.keeps_model c.args.disk.now)

pub returns-in-Err-apply-clause-stops : goal.returns-in-Err-apply-clause-stops
returns-in-Err-apply-clause-stops g c = still_stops c.args.op c.args.session c.args.terms.now c.args.journal.now.held (g.D.Device.told c.args.disk.now) (g.D.Device.keeps_model c.args.disk.now)

pub returns-then-not-changed-clause-stops : goal.returns-then-not-changed-clause-stops
returns-then-not-changed-clause-stops g c = still_stops c.args.op c.args.session c.args.terms.now c.args.journal.now.held (g.D.Device.told c.args.disk.now) (g.D.Device.keeps_model c.args.disk.now)

pub returns-clause-answers : goal.returns-clause-answers
returns-clause-answers g c =
    keep_failed c.args.op c.args.session c.args.terms.now (g.C.LedgerCore.book c.args.core.now) _ _ c.args.journal.now.held c.reserve.new.self.held c.append.new.self.held (g.D.Device.told c.args.disk.now) (g.D.Device.told c.append.new.disk) c.bytes-2.result.now
    c.in-Err-append.field-0 c.reserve.new.self.spare_records c.reserve.new.self.spare_bytes c.reserve.ensures.same (c.bytes-2.ensures ∙ c.in-Ok.ensures) c.requires.whole (sym c.in-Ok-apply.ensures.1 ∙ c.if-not-changed.false) c.in-Ok-reserve.ensures.records
    (omega (arith, ap length (c.bytes-2.ensures ∙ sym c.bytes.ensures), c.in-Ok-reserve.ensures.bytes)) c.in-Err-append.ensures.memory c.in-Err-append.ensures.answers c.in-Ok-apply.ensures.0
