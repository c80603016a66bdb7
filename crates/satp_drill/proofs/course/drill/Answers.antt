use Rattle.satp_drill.proofs.course.drill.Goals as goal

pub returns : goal.returns
returns c = c.conclude.ensures c.args.schedule.now c.in_ok-named.ensures
