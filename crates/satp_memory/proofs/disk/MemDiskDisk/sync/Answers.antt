use Rattle.std.proofs.Common.{◌∙◌, [], Some, ap, refl, sym, inl, inr}
use Rattle.satp_base.specs.declared.area.Event.TheVariants.{Synced}
use Rattle.satp_memory.specs.Calling.{Calling, wanting}
use Rattle.satp_memory.specs.Following.{Changes}
use Rattle.satp_memory.proofs.Following.{disk_done, disk_refused, disk_wants, err_of, not_stopped, ok_of, told_is, trail_same}
use Rattle.satp_memory.proofs.disk.MemDiskDisk.sync.Goals as goal

pub returns-then-begin-clause-beside : goal.returns-then-begin-clause-beside
returns-then-begin-clause-beside c = disk_refused _ _ _ c.is_stopped-stopped.ensures refl refl refl refl refl (Changes (Synced c.args.area)) tt refl (sym c.begin.ensures.refused ∙ c.if-begin.true) c.begin.ensures.counted

pub returns-then-is_err-clause-err : goal.returns-then-is_err-clause-err
returns-then-is_err-clause-err c =
    let same = err_of c.stage_sync.result (sym c.is_err.ensures.value ∙ c.if-is_err.true) c.stage_sync.ensures.err in
    let count = ap (λ (k : Calling). k.count) c.stage_sync.ensures.calls ∙ c.begin.ensures.told in (
      [],
      inl refl,
      ap Some (told_is (trail_same same.start same.past same.events) same.dirs (ap (λ (k : Calling). k.count) c.want.ensures.counted ∙ count)
          (ap (λ (k : Calling). k.last_failed) c.want.ensures.counted ∙ ap Some count) same.asks),
    )

pub returns-then-is_err-clause-beside : goal.returns-then-is_err-clause-beside
returns-then-is_err-clause-beside c =
    let same = err_of c.stage_sync.result (sym c.is_err.ensures.value ∙ c.if-is_err.true) c.stage_sync.ensures.err in
    disk_wants _ _ _ c.is_stopped-stopped.ensures same.start same.past same.events same.asks same.stop (Changes (Synced c.args.area)) tt (c.want.ensures.counted ∙ ap wanting (c.stage_sync.ensures.calls ∙ c.begin.ensures.counted))

pub returns-clause-beside : goal.returns-clause-beside
returns-clause-beside c =
    let does = ok_of c.stage_sync.result (sym c.is_err.ensures.value ∙ c.if-is_err.false) c.stage_sync.ensures.ok in
    let free = sym c.begin.ensures.refused ∙ c.if-begin.false in
    disk_done _ _ _ (Synced c.args.area) c.is_stopped-stopped.ensures (not_stopped _ _ free) refl refl does.start does.past does.events does.asks does.stop (does.calls ∙ c.begin.ensures.counted) free
