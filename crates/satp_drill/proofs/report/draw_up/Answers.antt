use Rattle.std.proofs.Common.{ℕ, ◌≡◌, ◌+◌, Option, ap₂, subst}
use Rattle.std.specs.Prelude.{IfSome}
use Rattle.satp_base.specs.Money.{Book, free_sum_of}
use Rattle.satp_drill.proofs.CountLemmas.{report-by}
use Rattle.satp_drill.proofs.report.draw_up.Goals as goal
use Rattle.satp_drill_runs.specs.Reports.{gold}

pub returns : goal.returns
returns c lines setup_a setup_b xs ys book_a book_b is a b of_a of_b =
    report-by lines c.args.named.now xs ys book_a book_b _ is c.count-sessions.ensures
    (c.count-committed.ensures setup_a setup_b xs ys a b) (c.count-rolled_back.ensures setup_a setup_b xs ys a b) (c.count-not_begun.ensures setup_a setup_b xs ys a b)
    (ap₂ (λ (m n : ℕ). m + n)
    (subst (λ (o : Option Book). IfSome o (λ book. c.free_gold-free_a.result ≡ free_sum_of book gold)) of_a c.free_gold-free_a.ensures.sum)
    (subst (λ (o : Option Book). IfSome o (λ book. c.free_gold-free_b.result ≡ free_sum_of book gold)) of_b c.free_gold-free_b.ensures.sum))
