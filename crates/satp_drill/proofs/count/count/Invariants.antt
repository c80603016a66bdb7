use Rattle.std.proofs.Common.{◌≡◌, ◌≤◌, List, length, take}
use Rattle.std.specs.Prelude.{filter}
use Rattle.satp_drill.proofs.count.count.Given as goal
use Rattle.satp_drill.specs.Counting.{has_ended}
use Rattle.satp_points.specs.States.{Holds}
use Rattle.satp_records.specs.declared.stored.Setup.{Setup}
use Rattle.satp_sides.specs.Points.{Stored}

-- how many of those so far
abbrev pub invariant-loop-index : goal.invariant-loop-index
invariant-loop-index l =
    (l.count ≤ l.index)
    × ((setup_a setup_b : Setup) (xs ys : List Stored) → Holds l.a setup_a xs → Holds l.b setup_b ys → l.count ≡ length (filter (has_ended l.fn.how xs ys) (take l.index l.named)))
