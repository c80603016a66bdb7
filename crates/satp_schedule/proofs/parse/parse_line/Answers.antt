use Rattle.satp_schedule.proofs.VerbLemmas.{is_line, no_verb, nothing_behind, too_many}
use Rattle.satp_schedule.proofs.parse.parse_line.Goals as goal

pub returns-in_err-verb : goal.returns-in_err-verb
returns-in_err-verb c = rw c.from_residual.ensures (no_verb _ _ c.new-fields.ensures c.in_err-verb.ensures)

pub returns-in_err-line : goal.returns-in_err-line
returns-in_err-line c = rw c.from_residual-in_err-line.ensures (nothing_behind _ _ _ _ c.new-fields.ensures c.in_ok-verb.ensures c.in_err-line.ensures)

pub returns-then-is_empty : goal.returns-then-is_empty
returns-then-is_empty c = (c.in_ok-line.ensures.formed, is_line _ _ _ _ _ _ c.new-fields.ensures c.in_ok-verb.ensures c.in_ok-line.ensures c.if-is_empty.ensures)

pub returns-else-is_empty : goal.returns-else-is_empty
returns-else-is_empty c = too_many _ _ _ _ _ _ c.new-fields.ensures c.in_ok-verb.ensures c.in_ok-line.ensures c.if-is_empty.ensures
