-- The checker computes the test of all pairs: this file imports definitions alone, so that lemmas don't rerun it.
use Rattle.std.proofs.Common.{◌≡◌, true, refl}
use Rattle.satp_world.proofs.HalfTable.{Head}
use Rattle.satp_world.proofs.HalfTest.{tales_ok}

pub all_ok : (p q : Head) → tales_ok p q ≡ true
all_ok p q = refl
