use Rattle.std.proofs.Common.{◌≡◌, false, ◌-◌, ◌≤◌, length}
use Rattle.satp_outcome.proofs.Writing.{Wrote}
use Rattle.satp_outcome.proofs.saying.say.Given as goal

abbrev pub invariant-loop-done : goal.invariant-loop-done
invariant-loop-done g l = record {
  faults : g.K.Sink.faults l.out ≡ g.K.Sink.faults l.fn.out;
  whole : g.K.Sink.has_failed l.out ≡ false;
  within : l.done ≤ length l.bytes;
  told : Wrote (g.K.Sink.taken l.fn.out) l.bytes l.done (g.K.Sink.taken l.out);
}

abbrev pub decreases-loop-done : goal.decreases-loop-done
decreases-loop-done g l = length l.bytes - l.done
