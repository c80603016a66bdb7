use Rattle.std.proofs.Common.{refl, arith}
use Rattle.satp_base.proofs.Finite.In.{here}
use Rattle.satp_base.proofs.TaleTable.{tale-is}
use Rattle.satp_base.proofs.tale.Tale.new.Goals as goal

pub invariant_of-result : goal.invariant_of-result
invariant_of-result c = record { places = refl; count = omega arith; rest = refl; tale = tale-is _ here }
