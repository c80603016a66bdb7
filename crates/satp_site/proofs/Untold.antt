-- A ledger that tells nothing has no events to show.
use Rattle.std.proofs.Common.{inl, inr, refl}
use Rattle.std.specs.Prelude.{List, [], Result, Ok, Err, None}
use Rattle.satp_base.specs.Acts.{Asks, MayAdd}
use Rattle.satp_base.specs.declared.area.Event.{Event}
use Rattle.satp_base.specs.declared.ledger.ActFault.{ActFault}
use Rattle.satp_base.specs.declared.ledger.ActFault.TheVariants as act
use Rattle.satp_base.specs.declared.ledger.Answer.{Answer}
use Rattle.satp_base.specs.declared.ledger.Answer.TheVariants.{Done, NoFunds, UnknownAsset, Capped, Taken}
use Rattle.satp_base.specs.declared.ledger.LedgerCall.{LedgerCall}

pub untold_act : (event : Event) (call : LedgerCall) (result : Result Answer ActFault) → (events : List Event) × MayAdd event result events × Unit {0} × Asks call events result None None
untold_act event call (Ok Done) = ([], inr refl, tt, refl)
untold_act event call (Ok (NoFunds free)) = ([], refl, tt, refl)
untold_act event call (Ok UnknownAsset) = ([], refl, tt, refl)
untold_act event call (Ok (Capped total)) = ([], refl, tt, refl)
untold_act event call (Ok (Taken entry)) = ([], refl, tt, refl)
untold_act event call (Err act.Failed) = ([], inr refl, tt, inl refl)
untold_act event call (Err (act.OutOfOrder entry)) = ([], refl, tt, inl refl)
