use Rattle.std.proofs.Common.{ap}
use Rattle.satp_base.specs.Calls.{Told}
use Rattle.satp_gateway_tests.proofs.Keeping.{told_fits}
use Rattle.satp_memory.specs.Steps.{told_of}
use Rattle.satp_gateway_tests.proofs.side.Side.stop.Goals as goal

pub invariant_of-self : goal.invariant_of-self
invariant_of-self g c = record {
  within = λ x is whole. told_fits x (told_of c.args.self.now.site.disk) (told_of c.stop_at.new.self.disk) (ap (λ (t : Told). t.trail) c.stop_at.ensures.told) (c.args.self.now.within x is whole);
}
