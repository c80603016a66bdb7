use Rattle.std.proofs.Common.{◌≡◌, ◌∙◌, ◌≤◌, Some, ap, sym, refl, arith, lit<}
use Rattle.std.proofs.lemmas.Fmt.{decimal_injective}
use Rattle.satp_base.specs.Numbers.{greatest_number, is_number}
use Rattle.satp_base.specs.Faults.{number_fault}
use Rattle.satp_base.proofs.Decimals.{number_of, not_number, is_number-decimal}
use Rattle.satp_base.proofs.digits.read_number.Goals as goal
use Rattle.satp_base.proofs.digits.read_number.Goals.{In-Err}

pub returns-in-Ok-clause-form : goal.returns-in-Ok-clause-form
returns-in-Ok-clause-form c =
    (λ some. number_of greatest_number c.args.text.now (ap (λ m. number_fault m c.args.text.now) (sym c.from.ensures) ∙ c.in-Ok.ensures.0), λ form. refl)

pub returns-in-Ok-clause-complete : goal.returns-in-Ok-clause-complete
returns-in-Ok-clause-complete c =
    λ number low high e.
    let small : c.in-Ok.number ≤ greatest_number = omega (arith, c.in-Ok.ensures.3, c.from.ensures) in
    ap Some (decimal_injective c.in-Ok.number number (omega arith) (omega arith) (c.in-Ok.ensures.1 ∙ e))

faulty : (c : In-Err) → number_fault greatest_number c.args.text.now ≡ Some c.in-Err.field-0
faulty c = ap (λ m. number_fault m c.args.text.now) (sym c.from.ensures) ∙ c.in-Err.ensures

pub returns-in-Err-clause-form : goal.returns-in-Err-clause-form
returns-in-Err-clause-form c = (λ some. absurd cc, not_number greatest_number c.args.text.now _ (faulty c))

pub returns-in-Err-clause-complete : goal.returns-in-Err-clause-complete
returns-in-Err-clause-complete c = λ number low high e.
    let not = not_number greatest_number c.args.text.now _ (faulty c) (ap (is_number greatest_number) e ∙ is_number-decimal greatest_number number low high (lit< tt)) in
    absurd cc
