use Rattle.std.proofs.Common.{◌≡◌, ◌≢◌, ap, sym, ◌∙◌, arith}
use Rattle.satp_base.specs.declared.name.Name.{Name}
use Rattle.satp_drill.proofs.sides.found_both.Goals as goal
use Rattle.satp_drill_runs.specs.Reports.{alpha, beta}

differ : alpha ≡ beta → ⊥
differ e = let bad : 5 ≡ 4 = ap (λ (n : Name). n.count) e in absurd (omega (arith, bad))

apart : (a b : Name) → a ≡ alpha → b ≡ beta → a ≢ b
apart a b p q e = differ (sym p ∙ e ∙ q)

apart_too : (a b : Name) → a ≡ beta → b ≡ alpha → a ≢ b
apart_too a b p q e = differ (sym q ∙ sym e ∙ p)

pub found-requires-clause-peer : goal.found-requires-clause-peer
found-requires-clause-peer c = apart _ _ c.in_ok-setup_a.ensures.0 c.in_ok-setup_a.ensures.1

pub found-requires-2-clause-peer : goal.found-requires-2-clause-peer
found-requires-2-clause-peer c = apart_too _ _ c.in_ok-setup_b.ensures.0 c.in_ok-setup_b.ensures.1
