use Rattle.std.proofs.Common.{[], subst, sym}
use Rattle.satp_keeper.specs.Founding.{UnfoundedBy}
use Rattle.satp_keeper.proofs.ClearLemmas.{cut_fault, cut_list, cut_makes, failed_cut}
use Rattle.satp_keeper.proofs.founding.open_empty.Goals as goal

pub returns-in-Err-clause-answers : goal.returns-in-Err-clause-answers
returns-in-Err-clause-answers g c = failed_cut (g.D.Device.told c.args.disk.now) (g.D.Device.told c.cut.new.self) c.in-Err.ensures.err

pub returns-in-Ok-open_with_room-clause-opened : goal.returns-in-Ok-open_with_room-clause-opened
returns-in-Ok-open_with_room-clause-opened g c =
    let a = c.in-Ok-open_with_room.ensures.answers in
    (a.1.2, a.1.3, c.in-Ok-open_with_room.ensures.fits, c.in-Ok-open_with_room.ensures.rests, cut_list (g.D.Device.told c.args.disk.now) (g.D.Device.told c.cut.new.self) c.in-Ok.ensures.ok (g.D.Device.told c.open_with_room.new.disk) c.in-Ok-open_with_room.journal a)

pub returns-in-Ok-open_with_room-clause-answers : goal.returns-in-Ok-open_with_room-clause-answers
returns-in-Ok-open_with_room-clause-answers g c = cut_makes (g.D.Device.told c.args.disk.now) (g.D.Device.told c.cut.new.self) c.in-Ok.ensures.ok (g.D.Device.told c.open_with_room.new.disk) c.in-Ok-open_with_room.journal c.in-Ok-open_with_room.ensures.answers

pub returns-in-Err-open_with_room-clause-answers : goal.returns-in-Err-open_with_room-clause-answers
returns-in-Err-open_with_room-clause-answers g c =
    let old = g.D.Device.told c.args.disk.now in
    let new = g.D.Device.told c.open_with_room.new.disk in
    subst (UnfoundedBy [] old new) (sym c.fault_of.ensures) (cut_fault old (g.D.Device.told c.cut.new.self) c.in-Ok.ensures.ok new c.in-Err-open_with_room.fault c.in-Err-open_with_room.ensures.answers)
