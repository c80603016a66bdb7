use Rattle.std.proofs.Common.{◌≡◌, ◌-◌, ◌≤◌, true, take, length}
use Rattle.std.specs.Prelude.{option_map}
use Rattle.satp_base.specs.Wires.{says}
use Rattle.satp_wires.proofs.say.say_all.Given as goal

-- the first bytes were said
abbrev pub invariant-loop-done : goal.invariant-loop-done
invariant-loop-done g l = record {
  told : g.W.Wire.told l.wire ≡ option_map (says (take l.done l.bytes)) (g.W.Wire.told l.fn.wire);
  within : l.done ≤ length l.bytes;
  is_open : g.W.Wire.is_open l.wire ≡ true;
  listens : g.W.Wire.listens l.wire ≡ g.W.Wire.listens l.fn.wire;
  beside : g.W.Wire.beside l.fn.wire l.wire;
  faults : g.W.Wire.faults l.wire ≡ g.W.Wire.faults l.fn.wire;
}

abbrev pub decreases-loop-done : goal.decreases-loop-done
decreases-loop-done g l = length l.bytes - l.done
