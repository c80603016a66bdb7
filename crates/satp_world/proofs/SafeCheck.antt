-- The checker computes the test of what is safe over all pairs; definitions alone are imported here.
use Rattle.std.proofs.Common.{refl}
use Rattle.satp_world.proofs.SafeTest.{HoldsInTables, safe_test}

pub safe_ok : HoldsInTables safe_test
unfolding safe_test
safe_ok p q = refl
