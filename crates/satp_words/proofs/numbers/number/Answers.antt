use Rattle.std.proofs.Common.{Some, ap, sym, ◌∙◌}
use Rattle.satp_words.proofs.Zeros.{is_zero, not_zero, zero_text}
use Rattle.satp_words.proofs.numbers.number.Goals as goal

pub returns-then-eq-clause-read : goal.returns-then-eq-clause-read
returns-then-eq-clause-read c = zero_text _ _ c.as_slice.ensures c.if-eq.ensures

pub returns-then-eq-clause-complete : goal.returns-then-eq-clause-complete
returns-then-eq-clause-complete c n within e = ap Some (is_zero n within (sym (zero_text _ _ c.as_slice.ensures c.if-eq.ensures) ∙ e))

pub returns-else-eq-clause-complete : goal.returns-else-eq-clause-complete
returns-else-eq-clause-complete c n within e = c.read_number.ensures.complete n (not_zero n _ _ c.as_slice.ensures c.if-eq.ensures e) within e
