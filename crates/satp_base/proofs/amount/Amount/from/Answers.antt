use Rattle.std.proofs.Common.{Some, ap}
use Rattle.satp_base.specs.Keys.{same_amount}
use Rattle.satp_base.proofs.amount.Amount.from.Goals as goal

pub returns-then-number-le-MAX-clause-complete : goal.returns-then-number-le-MAX-clause-complete
returns-then-number-le-MAX-clause-complete c = λ amount e. ap Some (same_amount _ amount e)
