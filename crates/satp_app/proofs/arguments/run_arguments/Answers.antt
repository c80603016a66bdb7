use Rattle.satp_app.proofs.GivenWords.{no_memory, run_over}
use Rattle.satp_app.proofs.arguments.run_arguments.Goals as goal

pub returns-in-Ok-clause-rule : goal.returns-in-Ok-clause-rule
returns-in-Ok-clause-rule g c = run_over c.args.arguments c.in-Ok.words _ _ _ _ _ c.in-Ok.ensures c.run.ensures.rule

pub returns-in-Err-clause-rule : goal.returns-in-Err-clause-rule
returns-in-Err-clause-rule g c = rw c.status.ensures (no_memory c.args.arguments _ _ _ c.report.result c.report.ensures)
