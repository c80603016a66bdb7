use Rattle.std.proofs.Common.{List, [], subst}
use Rattle.satp_base.specs.Lines.{Fails, IsLines}
use Rattle.satp_base.proofs.OneReading.{not_refused, one_reading, want_of_memory}
use Rattle.satp_schedule.specs.Lines.{AddsLine, most_bytes}
use Rattle.satp_schedule.specs.declared.line.Line.{Line}
use Rattle.satp_schedule.proofs.OneSchedule.{one_added}
use Rattle.satp_schedule.proofs.schedule.Schedule.read.Goals as goal

pub returns-in_err-read_lines-clause-complete : goal.returns-in_err-read_lines-clause-complete
returns-in_err-read_lines-clause-complete c = λ schedule is.
    let fault = c.in_err-read_lines.field-0.0 in
    want_of_memory c.from_residual.result fault schedule c.from_residual.ensures.1
    (not_refused AddsLine one_added most_bytes c.args.text.now [] schedule fault is (subst (λ (s : List Line). Fails AddsLine most_bytes c.args.text.now s fault) c.new-schedule.ensures c.in_err-read_lines.ensures.read))

pub returns-clause-complete : goal.returns-clause-complete
returns-clause-complete c = λ schedule is.
    one_reading AddsLine one_added most_bytes c.args.text.now [] c.read_lines.new.reader schedule (subst (λ (s : List Line). IsLines AddsLine most_bytes c.args.text.now s c.read_lines.new.reader) c.new-schedule.ensures c.in_ok-read_lines.ensures.read) is
