-- An open gateway has what its site keeps.
use Rattle.std.proofs.Common.{◌≡◌, true, List, Option, Some, None, Ok, refl, subst}
use Rattle.std.specs.Prelude.{is_some}
use Rattle.satp_base.specs.Calls.{Told}
use Rattle.satp_base.specs.Laws.{RestsAt}
use Rattle.satp_base.specs.Money.{Book}
use Rattle.satp_base.specs.declared.area.Area.{Area}
use Rattle.satp_drill.specs.Ends.{IsOpen}
use Rattle.satp_gateway.specs.Opening.{GatewayOpens, IsAtSome}
use Rattle.satp_log.specs.Journals.{IsJournal, payloads_of}
use Rattle.satp_points.specs.States.{GatewayState, Holds, Tells, tells}
use Rattle.satp_records.specs.declared.stored.Setup.{Setup}
use Rattle.satp_sides.specs.Points.{Stored}

journal-of : (g : GatewayState) (setup : Setup) (xs : List Stored) → Holds g setup xs → IsJournal (payloads_of setup xs) setup xs
unfolding Holds
journal-of g setup xs h = record { list = refl; formed = h.formed; log = h.log }

pub opened-is : (g : GatewayState) (old : Tells) (told : Told) (book : Option Book) → is_some book ≡ true → GatewayOpens old (tells (Some told) book) (Ok g) → IsAtSome g (tells (Some told) book) → IsOpen g told book
opened-is g old told None some opens at = absurd cc
opened-is g old told (Some b) some (payloads, mid, opens, of, asked) (setup, side, same, at) = (
  setup,
  side,
  at.holds,
  record {
    journal = journal-of g setup side.records at.holds;
    rests = subst (λ (a : Area). RestsAt told.trail a (payloads_of setup side.records)) of.5 at.rests;
    ledger = at.ledger;
  },
)
