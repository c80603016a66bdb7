use Rattle.std.proofs.Common.{◌≤◌, ◌-◌, length, drop}
use Rattle.satp_http.specs.Feeds.{Passes}
use Rattle.satp_http.proofs.responses.front_of.Given as goal

abbrev pub invariant-interim : goal.invariant-interim
invariant-interim l = record { fits : l.at ≤ length l.held; passes : Passes l.fn.passed l.held l.passed (drop l.at l.held) }

abbrev pub decreases-interim : goal.decreases-interim
decreases-interim l = length l.held - l.at
