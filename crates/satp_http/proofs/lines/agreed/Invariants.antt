use Rattle.std.proofs.Common.{◌≡◌, drop}
use Rattle.std.specs.Prelude.{codes}
use Rattle.satp_http.specs.Lines.{values_of, agreed}
use Rattle.satp_http.specs.LineLists.{lines_of}
use Rattle.satp_http.specs.Agreeing.{agrees_on}
use Rattle.satp_http.proofs.lines.agreed.Given as goal

abbrev pub invariant-loop-header : goal.invariant-loop-header
invariant-loop-header l =
    agrees_on l.found (values_of (codes "content-length") (lines_of (drop l.header-index l.headers))) ≡ agreed (values_of (codes "content-length") (lines_of l.headers))
