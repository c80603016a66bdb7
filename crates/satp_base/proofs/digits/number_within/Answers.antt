use Rattle.std.proofs.Common.{◌≡◌, ◌∙◌, sym, false, arith}
use Rattle.satp_base.specs.Numbers.{leads}
use Rattle.satp_base.proofs.ReadLemmas.{AllDigits-from}
use Rattle.satp_base.proofs.Decimals.{leads_not_short, leads_not_other, number_found}
use Rattle.satp_base.proofs.digits.number_within.Goals as goal
use Rattle.satp_base.proofs.digits.number_within.Goals.{else-text-gt1-via-then-text-gt1+else-text-eq48, else-text-gt1-via-else-text-gt1}

pub value_within-requires-clause-digits : goal.value_within-requires-clause-digits
value_within-requires-clause-digits c = AllDigits-from c.args.text.now (sym c.first_other.ensures ∙ c.in_default.is)

pub returns-in-Some-value_within : goal.returns-in-Some-value_within
returns-in-Some-value_within c =
    let text = c.args.text.now in
    let leads_not : leads text ≡ false = elim c.else-text-gt1.branch [
      | else-text-gt1-via-then-text-gt1+else-text-eq48 w ↦ leads_not_other text w.if-text-eq48.false
      | else-text-gt1-via-else-text-gt1 w ↦ leads_not_short text w.if-text-gt1.false
    ] in
    let f = number_found c.args.most text c.value_within.result c.in-Some-value_within.number (omega arith) (sym c.is_empty.ensures ∙ c.if-is_empty.false) (sym c.first_other.ensures ∙ c.in_default.is) leads_not c.value_within.ensures c.in-Some-value_within.is c.if-number-gt0.true in
    (f.faultless, f.text_is, c.if-number-gt0.true, f.high)
