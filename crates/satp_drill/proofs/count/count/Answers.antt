use Rattle.std.proofs.Common.{ℕ, ◌≤◌, ◌+◌, Bool, List, length, ap, ap₂, sym, subst, ◌∙◌, arith}
use Rattle.std.specs.Prelude.{filter}
use Rattle.satp_base.specs.Founding.{counted}
use Rattle.satp_base.specs.declared.session.SessionId.{SessionId}
use Rattle.satp_drill.specs.Counting.{has_ended}
use Rattle.satp_drill.proofs.CountLemmas.{at-most-one, next-counted}
use Rattle.satp_drill.proofs.NamingLemmas.{take-all}
use Rattle.satp_drill.proofs.count.count.Goals as goal

pub loop-index-preserved : goal.loop-index-preserved
loop-index-preserved c = (
  (let one = subst (λ (n : ℕ). n ≤ 1) (sym c.one_if-count.ensures) (at-most-one c.has_ended.result) in let before = c.loop-index.invariant.0 in omega (arith, one, before)),
  λ setup_a setup_b xs ys a b.
      ap₂ (λ (m n : ℕ). m + n) (c.loop-index.invariant.1 setup_a setup_b xs ys a b) (c.one_if-count.ensures ∙ ap (λ (t : Bool). counted t 1) (c.has_ended.ensures setup_a setup_b xs ys a b))
      ∙ sym (next-counted (has_ended c.args.how xs ys) c.args.named.now c.loop-index.index c.in-Some.session (sym c.in-Some.ensures)),
)

pub returns : goal.returns
returns c setup_a setup_b xs ys a b =
    let all = subst (λ (n : ℕ). n ≤ c.loop-index.index) c.count-index-end.ensures c.loop-index-test.false in
    c.loop-index.invariant.1 setup_a setup_b xs ys a b ∙ ap (λ (l : List SessionId). length (filter (has_ended c.args.how xs ys) l)) (take-all c.args.named.now c.loop-index.index all)
