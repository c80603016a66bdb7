-- The checker computes the tests of all looks: this file imports definitions alone, so that lemmas don't rerun it.
use Rattle.std.proofs.Common.{◌≡◌, Bool, true, refl}
use Rattle.satp_sides.proofs.DueTable.{origins_ok, recipients_ok}

pub origins_all : (mint assign prepared : Bool) → origins_ok mint assign prepared ≡ true
origins_all mint assign prepared = refl

pub recipients_all : (lock burn rescue : Bool) → recipients_ok lock burn rescue ≡ true
recipients_all lock burn rescue = refl
