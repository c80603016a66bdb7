use Rattle.std.proofs.Common.{◌≡◌, take}
use Rattle.std.specs.List.{list_any}
use Rattle.satp_sides.specs.Points.{is_session}
use Rattle.satp_drill.proofs.named.has.Given as goal

-- what was found among those so far
abbrev pub invariant-loop-other : goal.invariant-loop-other
invariant-loop-other l = l.found ≡ list_any (λ t. is_session l.fn.session t) (take l.other-index l.sessions)
