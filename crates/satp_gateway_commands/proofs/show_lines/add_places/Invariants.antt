use Rattle.std.proofs.Common.{◌≡◌, ◌++◌, ◌-◌, ◌≤◌, length, take}
use Rattle.satp_gateway_commands.specs.ShowLines.{place_lines}
use Rattle.satp_gateway_commands.proofs.show_lines.add_places.Given as goal

abbrev pub invariant-loop-done : goal.invariant-loop-done
invariant-loop-done l = record { so_far : l.lines ≡ l.fn.lines ++ place_lines 1 (take l.done l.tale); within : l.done ≤ length l.tale }

abbrev pub decreases-loop-done : goal.decreases-loop-done
decreases-loop-done l = length l.tale - l.done
