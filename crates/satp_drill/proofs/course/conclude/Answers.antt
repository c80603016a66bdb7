use Rattle.satp_drill.proofs.course.conclude.Goals as goal

pub returns : goal.returns
returns c lines is =
    let (setup_a, side_a, holds_a, keeps_a) = c.requires.a in
    let (setup_b, side_b, holds_b, keeps_b) = c.requires.b in (
      setup_a,
      setup_b,
      side_a,
      side_b,
      keeps_a,
      keeps_b,
      c.draw_up-report.ensures lines setup_a setup_b side_a.records side_b.records side_a.book side_b.book is holds_a holds_b keeps_a.ledger keeps_b.ledger,
    )
