use Rattle.std.proofs.Common.{◌∙◌, ap, sym, Bor, List, ℕ}
use Rattle.std.specs.Prelude.{codes, option_map}
use Rattle.satp_base.proofs.GenesisReading.{asset_of, is_asset, is_neither, on_some, other_kind, parts_of, same_kind}
use Rattle.satp_base.proofs.genesis.read_line.Goals as goal

pub returns-in_err-name-clause-complete : goal.returns-in_err-name-clause-complete
returns-in_err-name-clause-complete c = λ parsed e.
    let parts = parts_of _ _ _ parsed c.cut_field.ensures.field (on_some _ _ c.cut_field.result.1 c.in_default-Some.text c.in_default-Some.is-1 c.cut_field.ensures.whole) e in
    c.from_residual.ensures ∙ sym (ap (option_map asset_of) c.in_err-name.was)
    ∙ is_asset c.cut_field.result.0.now c.in_default-Some.text.now c.read_part.result parsed (same_kind _ (codes "asset") _ _ c.eq.ensures c.as_slice.ensures c.if-eq.true) (λ part q. c.read_part.ensures.complete part (ap (λ (r : Bor (List ℕ)). r.now) c.in_default-Some.text-is ∙ q)) parts

pub returns-then-eq-clause-complete : goal.returns-then-eq-clause-complete
returns-then-eq-clause-complete c = λ parsed e.
    let parts = parts_of _ _ _ parsed c.cut_field.ensures.field (on_some _ _ c.cut_field.result.1 c.in_default-Some.text c.in_default-Some.is-1 c.cut_field.ensures.whole) e in
    sym (ap (option_map asset_of) c.in_ok-name.was)
    ∙ is_asset c.cut_field.result.0.now c.in_default-Some.text.now c.read_part.result parsed (same_kind _ (codes "asset") _ _ c.eq.ensures c.as_slice.ensures c.if-eq.true) (λ part q. c.read_part.ensures.complete part (ap (λ (r : Bor (List ℕ)). r.now) c.in_default-Some.text-is ∙ q)) parts

pub returns-clause-complete : goal.returns-clause-complete
returns-clause-complete c = λ parsed e.
    let parts = parts_of _ _ _ parsed c.cut_field.ensures.field (on_some _ _ c.cut_field.result.1 c.in_default-Some.text c.in_default-Some.is-1 c.cut_field.ensures.whole) e in
    absurd (is_neither c.cut_field.result.0.now c.in_default-Some.text.now parsed (other_kind _ (codes "asset") _ _ c.eq.ensures c.as_slice.ensures c.if-eq.false) (other_kind _ (codes "hold") _ _ c.eq-2.ensures c.as_slice-2.ensures c.if-eq-2.false) parts)
