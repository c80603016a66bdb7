use Rattle.std.proofs.Common.{ℕ, ◌≤◌, ap, sym, subst, ◌∙◌}
use Rattle.satp_base.specs.Money.{free_sum_of}
use Rattle.satp_base.specs.Numbers.{greatest_amount}
use Rattle.satp_drill.proofs.CountLemmas.{free-most}
use Rattle.satp_drill.proofs.report.free_in.Goals as goal

pub returns-clause-sum : goal.returns-clause-sum
returns-clause-sum g c = c.free_sum.ensures ∙ ap (free_sum_of (g.C.LedgerCore.book c.args.core.now)) c.gold-asset.ensures

pub returns-clause-most : goal.returns-clause-most
returns-clause-most g c = subst (λ (n : ℕ). n ≤ greatest_amount) (sym c.free_sum.ensures) (free-most (g.C.LedgerCore.book c.args.core.now) c.gold-asset.result (g.met.C.LedgerCore.sound c.args.core.now))
