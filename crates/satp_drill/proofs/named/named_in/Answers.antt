use Rattle.std.proofs.Common.{List, ap, sym, ◌∙◌}
use Rattle.satp_base.specs.declared.session.SessionId.{SessionId}
use Rattle.satp_drill.specs.Naming.{adding}
use Rattle.satp_drill.proofs.NamingLemmas.{line-form, next-line}
use Rattle.satp_drill.proofs.named.named_in.Goals as goal
use Rattle.satp_drill_runs.specs.Reports.{session_of}

pub add-requires : goal.add-requires
add-requires c = line-form c.args.schedule.now c.loop-index.index c.in-Some.line.now c.line.ensures.formed (sym c.in-Some.ensures.line)

pub loop-index-preserved : goal.loop-index-preserved
loop-index-preserved c =
    c.in_ok-add.ensures
    ∙ ap (λ (l : List SessionId). adding l (session_of c.in-Some.line.now)) c.loop-index.invariant
    ∙ sym (next-line c.args.schedule.now c.loop-index.index c.in-Some.line.now (sym c.in-Some.ensures.line))
