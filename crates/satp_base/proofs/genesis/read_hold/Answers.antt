use Rattle.std.proofs.Common.{◌∙◌, ap, Some, Bor, List, ℕ}
use Rattle.satp_base.specs.GenesisText.{part_text}
use Rattle.satp_base.proofs.GenesisReading.{cut_name, not_both, not_some, on_some, same_ok, same_some}
use Rattle.satp_base.proofs.genesis.read_hold.Goals as goal

pub returns-in_default-2-clause-complete : goal.returns-in_default-2-clause-complete
returns-in_default-2-clause-complete c = λ hold e.
    let parts = cut_name _ _ _ (part_text (hold.owner, hold.amount)) hold.asset c.cut_field.ensures.field (on_some _ _ c.cut_field.result.1 c.in_default-Some.rest c.in_default-Some.is-1 c.cut_field.ensures.whole) e in
    let behind = ap (λ (r : Bor (List ℕ)). r.now) c.in_default-Some.rest-is ∙ parts.1 in
    absurd (not_some c.read_part.result (hold.owner, hold.amount) (c.read_part.ensures.complete (hold.owner, hold.amount) behind) c.in_default-2.is-1)

pub returns-in_default-2-2-clause-complete : goal.returns-in_default-2-2-clause-complete
returns-in_default-2-2-clause-complete c = λ hold e.
    let parts = cut_name _ _ _ (part_text (hold.owner, hold.amount)) hold.asset c.cut_field.ensures.field (on_some _ _ c.cut_field.result.1 c.in_default-Some.rest c.in_default-Some.is-1 c.cut_field.ensures.whole) e in
    absurd (not_both c.read.result hold.asset _ (c.read.ensures.complete hold.asset parts.0) c.in_default-2.is-0)

pub returns-clause-complete : goal.returns-clause-complete
returns-clause-complete c = λ hold e.
    let parts = cut_name _ _ _ (part_text (hold.owner, hold.amount)) hold.asset c.cut_field.ensures.field (on_some _ _ c.cut_field.result.1 c.in_default-Some.rest c.in_default-Some.is-1 c.cut_field.ensures.whole) e in
    let behind = ap (λ (r : Bor (List ℕ)). r.now) c.in_default-Some.rest-is ∙ parts.1 in
    let asset = same_ok c.read.result _ hold.asset c.in-Ok-Some.is-0 (c.read.ensures.complete hold.asset parts.0) in
    let part = same_some c.read_part.result _ (hold.owner, hold.amount) c.in-Ok-Some.is-1 (c.read_part.ensures.complete (hold.owner, hold.amount) behind) in
    λ i. Some (record { asset = asset i; owner = (part i).0; amount = (part i).1 })
