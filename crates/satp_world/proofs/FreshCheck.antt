-- The checker computes the test over all halves; definitions alone are imported here.
use Rattle.std.proofs.Common.{◌≡◌, true, refl}
use Rattle.satp_world.proofs.HalfTable.{Head}
use Rattle.satp_world.proofs.FreshTest.{fresh_ok, fresh_too}

pub origins_fresh : (p : Head) → fresh_ok p ≡ true
unfolding fresh_ok
origins_fresh p = refl

pub recipients_fresh : (p : Head) → fresh_too p ≡ true
unfolding fresh_too
recipients_fresh p = refl
