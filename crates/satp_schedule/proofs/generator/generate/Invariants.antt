use Rattle.std.proofs.Common.{◌≡◌, ◌-◌, ◌++◌, map}
use Rattle.satp_schedule.specs.Lines.{fields_of}
use Rattle.satp_schedule.specs.Generator as made
use Rattle.satp_schedule.proofs.generator.generate.Given as goal

-- the lines so far and those of the rounds that are left are all of them
abbrev pub invariant-loop-i : goal.invariant-loop-i
invariant-loop-i l = map fields_of l.schedule ++ made.rounds (201 - l.i) l.i l.draws.state ≡ made.generated l.fn.seed
