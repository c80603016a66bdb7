use Rattle.std.proofs.Common.{◌≡◌, false, ◌+◌, ◌-◌, ◌≤◌, length}
use Rattle.satp_outcome.proofs.Reading.{HeldOf}
use Rattle.satp_outcome.proofs.streams.read_to.Given as goal

abbrev pub invariant-loop-chunk : goal.invariant-loop-chunk
invariant-loop-chunk g l = record {
  within : length l.text ≤ l.most + 1;
  goes_on : g.I.Source.is_over l.input ≡ false;
  faults : g.I.Source.faults l.input ≡ g.I.Source.faults l.fn.input;
  told : HeldOf (g.I.Source.left l.fn.input) l.text (g.I.Source.left l.input);
}

abbrev pub decreases-loop-chunk : goal.decreases-loop-chunk
decreases-loop-chunk g l = (l.most + 1) - length l.text
