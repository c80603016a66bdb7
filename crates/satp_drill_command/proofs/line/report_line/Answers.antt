use Rattle.std.proofs.Common.{◌∷◌, []}
use Rattle.std.specs.Prelude.{codes}
use Rattle.satp_drill_command.specs.Drilling.{numbered}
use Rattle.satp_drill_command.proofs.Pieces.{joined}
use Rattle.satp_drill_command.proofs.line.report_line.Goals as goal

pub returns : goal.returns
returns c =
    let report = c.args.report in
    joined (numbered (codes "drill ") c.args.seed) (numbered (codes ": sessions ") report.sessions) (numbered (codes ", committed ") report.committed)
    (numbered (codes ", rolled back ") report.rolled_back) (numbered (codes ", not begun ") report.not_begun) (numbered (codes ", free gold ") report.free_gold) (10 ∷ [])
    c.in_ok-line.line c.add.new.line c.add-2.new.line c.add-3.new.line c.add-4.new.line c.add-5.new.line c.add-6.new.line c.append.new.self
    c.in_ok-line.ensures c.in_ok-add.ensures c.in_ok-add-2.ensures c.in_ok-add-3.ensures c.in_ok-add-4.ensures c.in_ok-add-5.ensures c.in_ok-add-6.ensures c.in_ok-append.ensures.ok
