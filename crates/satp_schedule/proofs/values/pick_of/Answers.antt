use Rattle.std.proofs.Common.{Some, refl, ap, sym, ◌∙◌}
use Rattle.satp_schedule.proofs.Picks.{zero_text, is_zero, not_zero}
use Rattle.satp_schedule.proofs.values.pick_of.Goals as goal

pub returns-then-eq-clause-sound : goal.returns-then-eq-clause-sound
returns-then-eq-clause-sound c = (refl, zero_text _ _ c.as_slice.ensures c.if-eq.ensures)

pub returns-then-eq-clause-complete : goal.returns-then-eq-clause-complete
returns-then-eq-clause-complete c n small e = ap Some (sym (is_zero n small (sym (zero_text _ _ c.as_slice.ensures c.if-eq.ensures) ∙ e)))

pub returns-else-eq-clause-complete : goal.returns-else-eq-clause-complete
returns-else-eq-clause-complete c n small e = c.count_of.ensures.complete n (not_zero n _ _ small c.as_slice.ensures c.if-eq.ensures e) e
