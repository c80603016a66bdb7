use Rattle.satp_gateway_tests.proofs.Keeping.{same_trail, told_fits}
use Rattle.satp_memory.specs.Steps.{told_of}
use Rattle.satp_gateway_tests.proofs.side.Side.fail.Goals as goal

pub invariant_of-self : goal.invariant_of-self
invariant_of-self g c = record {
  within = λ x is whole. told_fits x (told_of c.args.self.now.site.disk) (told_of c.fail.new.self.disk) (same_trail _ _ c.fail.ensures.same) (c.args.self.now.within x is whole);
}
