use Rattle.std.proofs.Common.{◌∙◌, ap, ap₂, Some, Bor, List, ℕ}
use Rattle.satp_base.specs.Values.{amount_text}
use Rattle.satp_base.specs.declared.amount.Amount.{Amount}
use Rattle.satp_base.specs.declared.name.Name.{Name}
use Rattle.satp_base.proofs.GenesisReading.{cut_name, not_both, on_some, same_ok}
use Rattle.satp_base.proofs.genesis.read_part.Goals as goal

pub returns-in_default-2-clause-complete : goal.returns-in_default-2-clause-complete
returns-in_default-2-clause-complete c = λ part e.
    let parts = cut_name _ _ _ (amount_text part.1) part.0 c.cut_field.ensures.field (on_some _ _ c.cut_field.result.1 c.in_default-Some.amount c.in_default-Some.is-1 c.cut_field.ensures.whole) e in
    let behind = ap (λ (r : Bor (List ℕ)). r.now) c.in_default-Some.amount-is ∙ parts.1 in
    absurd (not_both c.read-2.result part.1 _ (c.read-2.ensures.complete part.1 behind) c.in_default-2.is-1)

pub returns-in_default-2-2-clause-complete : goal.returns-in_default-2-2-clause-complete
returns-in_default-2-2-clause-complete c = λ part e.
    let parts = cut_name _ _ _ (amount_text part.1) part.0 c.cut_field.ensures.field (on_some _ _ c.cut_field.result.1 c.in_default-Some.amount c.in_default-Some.is-1 c.cut_field.ensures.whole) e in
    absurd (not_both c.read.result part.0 _ (c.read.ensures.complete part.0 parts.0) c.in_default-2.is-0)

pub returns-clause-complete : goal.returns-clause-complete
returns-clause-complete c = λ part e.
    let parts = cut_name _ _ _ (amount_text part.1) part.0 c.cut_field.ensures.field (on_some _ _ c.cut_field.result.1 c.in_default-Some.amount c.in_default-Some.is-1 c.cut_field.ensures.whole) e in
    let behind = ap (λ (r : Bor (List ℕ)). r.now) c.in_default-Some.amount-is ∙ parts.1 in
    ap₂ (λ (name : Name) (amount : Amount). Some (name, amount))
    (same_ok c.read.result _ part.0 c.in-Ok-Ok.is-0 (c.read.ensures.complete part.0 parts.0))
    (same_ok c.read-2.result _ part.1 c.in-Ok-Ok.is-1 (c.read-2.ensures.complete part.1 behind))
