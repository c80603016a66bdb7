use Rattle.std.proofs.Common.{sym}
use Rattle.satp_drill.proofs.NamingLemmas.{line-form}
use Rattle.satp_drill.proofs.course.carry_out.Goals as goal

pub go_on-requires : goal.go_on-requires
go_on-requires c = line-form c.args.schedule.now c.loop-index.index c.in-Some.line.now c.line.ensures.formed (sym c.in-Some.ensures.line)
