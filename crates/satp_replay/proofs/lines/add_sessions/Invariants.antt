use Rattle.std.proofs.Common.{◌≡◌, ◌++◌, List, take}
use Rattle.satp_log.specs.Logged.{LogHolds, sessions_in}
use Rattle.satp_records.specs.declared.stored.Setup.{Setup}
use Rattle.satp_sides.specs.Points.{Stored}
use Rattle.satp_replay.specs.Replaying.{session_lines}
use Rattle.satp_replay.proofs.lines.add_sessions.Given as goal

abbrev pub invariant-loop-index : goal.invariant-loop-index
invariant-loop-index l = (setup : Setup) (xs : List Stored) → LogHolds l.log setup xs → l.text ≡ l.initial.text ++ session_lines xs (take l.index (sessions_in xs))
