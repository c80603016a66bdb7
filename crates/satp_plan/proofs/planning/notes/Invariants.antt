use Rattle.std.proofs.Common.{◌≡◌, map, take}
use Rattle.std.specs.List.{All}
use Rattle.satp_plan.specs.Plans.{IsNoteOf}
use Rattle.satp_plan.specs.declared.planning.Note.{Note}
use Rattle.satp_plan.proofs.planning.notes.Given as goal

abbrev pub invariant-loop-rec : goal.invariant-loop-rec
invariant-loop-rec l = record { recs : map (λ (note : Note). note.rec) l.notes.items ≡ take l.rec-index l.recs; made : All (IsNoteOf l.session) l.notes.items }
