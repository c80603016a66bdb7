use Rattle.std.proofs.Common.{◌∙◌, not, Some, ap, inl, inr, refl, sym}
use Rattle.satp_memory.specs.Calling.{Calling, wanting}
use Rattle.satp_memory.specs.Following.{Looks}
use Rattle.satp_memory.proofs.Following.{dir_noted, disk_looked, disk_refused, disk_wants, told_is, trail_same}
use Rattle.satp_memory.proofs.disk.MemDiskDisk.enter.Goals as goal

pub returns-then-refused-clause-err : goal.returns-then-refused-clause-err
returns-then-refused-clause-err c =
    let past = c.stage_enter.ensures in
    inl (ap Some (told_is (trail_same past.start past.past past.events)
    (dir_noted c.args.dir.now _ _ c.in-Ok.ensures.dirs c.count-before.ensures (ap not c.if-refused.true))
    (ap (λ (k : Calling). k.count) past.calls ∙ c.begin-refused.ensures.told) (ap (λ (k : Calling). k.last_failed) past.calls ∙ c.begin-refused.ensures.failed c.if-refused.true) past.asks))

pub returns-in-Err-clause-err : goal.returns-in-Err-clause-err
returns-in-Err-clause-err c =
    let past = c.stage_enter.ensures in
    let count = ap (λ (k : Calling). k.count) past.calls ∙ c.begin-refused.ensures.told in
    inr (ap Some (told_is (trail_same past.start past.past past.events) c.in-Err.ensures.dirs (ap (λ (k : Calling). k.count) c.want.ensures.counted ∙ count)
    (ap (λ (k : Calling). k.last_failed) c.want.ensures.counted ∙ ap Some count) past.asks))

pub returns-then-refused-clause-beside : goal.returns-then-refused-clause-beside
returns-then-refused-clause-beside c =
    let past = c.stage_enter.ensures in
    disk_refused _ _ _ c.is_stopped-stopped.ensures past.start past.past past.events past.asks past.stop Looks tt refl (sym c.begin-refused.ensures.refused ∙ c.if-refused.true) (past.calls ∙ c.begin-refused.ensures.counted)

pub returns-else-refused-clause-beside : goal.returns-else-refused-clause-beside
returns-else-refused-clause-beside c =
    let past = c.stage_enter.ensures in
    disk_looked _ _ _ c.is_stopped-stopped.ensures past.start past.past past.events past.asks past.stop (sym c.begin-refused.ensures.refused ∙ c.if-refused.false) (past.calls ∙ c.begin-refused.ensures.counted)

pub returns-in-Err-clause-beside : goal.returns-in-Err-clause-beside
returns-in-Err-clause-beside c =
    let past = c.stage_enter.ensures in
    disk_wants _ _ _ c.is_stopped-stopped.ensures past.start past.past past.events past.asks past.stop Looks tt (c.want.ensures.counted ∙ ap wanting (past.calls ∙ c.begin-refused.ensures.counted))
