use Rattle.std.proofs.Common.{◌≡◌, take}
use Rattle.satp_drill.proofs.named.named_in.Given as goal
use Rattle.satp_drill_runs.specs.Reports.{sessions_of}

-- the sessions of the lines so far
abbrev pub invariant-loop-index : goal.invariant-loop-index
invariant-loop-index l = l.named ≡ sessions_of (take l.index l.schedule)
