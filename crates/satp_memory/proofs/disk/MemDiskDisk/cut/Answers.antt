use Rattle.std.proofs.Common.{◌∙◌, ap, refl, sym, length, arith}
use Rattle.satp_base.specs.declared.area.Event.TheVariants.{Cut}
use Rattle.satp_memory.specs.Calling.{wanting}
use Rattle.satp_memory.specs.Following.{Changes}
use Rattle.satp_memory.proofs.Following.{disk_done, disk_named, disk_stopped, disk_wants, err_of, ok_of}
use Rattle.satp_memory.proofs.disk.MemDiskDisk.cut.Goals as goal

pub stage_cut-requires : goal.stage_cut-requires
stage_cut-requires c = omega (arith, c.requires _ refl, ap length ((c.args.self.now.tracks c.args.area).now_is))

pub returns-then-stopped-clause-beside : goal.returns-then-stopped-clause-beside
returns-then-stopped-clause-beside c =
    disk_stopped _ _ _ c.is_stopped-stopped.ensures refl refl refl refl refl (Changes (Cut c.args.area c.args.size)) tt c.if-stopped.true c.begin-refused.ensures.counted

pub returns-then-is_err-clause-beside : goal.returns-then-is_err-clause-beside
returns-then-is_err-clause-beside c =
    let same = err_of c.stage_cut.result (sym c.is_err.ensures.value ∙ c.if-is_err.true) c.stage_cut.ensures.err in
    disk_wants _ _ _ c.is_stopped-stopped.ensures same.start same.past same.events same.asks same.stop (Changes (Cut c.args.area c.args.size)) tt (c.want.ensures.counted ∙ ap wanting (c.stage_cut.ensures.calls ∙ c.begin-refused.ensures.counted))

pub returns-then-refused-clause-beside : goal.returns-then-refused-clause-beside
returns-then-refused-clause-beside c =
    let does = ok_of c.stage_cut.result (sym c.is_err.ensures.value ∙ c.if-is_err.false) c.stage_cut.ensures.ok in
    disk_named _ _ _ (Cut c.args.area c.args.size) c.is_stopped-stopped.ensures c.if-stopped.false refl refl does.start does.past does.events does.asks does.stop (does.calls ∙ c.begin-refused.ensures.counted)
    refl (sym c.begin-refused.ensures.refused ∙ c.if-refused.true)

pub returns-clause-beside : goal.returns-clause-beside
returns-clause-beside c =
    let does = ok_of c.stage_cut.result (sym c.is_err.ensures.value ∙ c.if-is_err.false) c.stage_cut.ensures.ok in
    disk_done _ _ _ (Cut c.args.area c.args.size) c.is_stopped-stopped.ensures c.if-stopped.false refl refl does.start does.past does.events does.asks does.stop (does.calls ∙ c.begin-refused.ensures.counted)
    (sym c.begin-refused.ensures.refused ∙ c.if-refused.false)
