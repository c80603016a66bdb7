use Rattle.satp_plan.specs.declared.planning.Note.{Note}
use Rattle.satp_plan.proofs.Indexes.{none-at}
use Rattle.satp_plan.proofs.finding.note_index.Goals as goal

pub returns : goal.returns
returns c = none-at (λ (note : Note). note.rec) c.args.notes.now c.loop-index.index c.args.rec.now c.loop-index-test.false c.loop-index.invariant
