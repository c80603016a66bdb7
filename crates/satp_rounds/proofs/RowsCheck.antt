-- The worked rounds, computed.
use Rattle.std.proofs.Common.{refl}
use Rattle.satp_base.specs.declared.message.Role.TheVariants.{Origin, Recipient}
use Rattle.satp_rounds.specs.RoundRows.{RowsPass}

pub rows-pass : RowsPass
rows-pass f terms = record {
  burnt_and_not_noted = (refl, refl);
  ready_stored = (refl, refl);
  ready_not_stored = (refl, refl);
  ready_lost_and_aborted = (refl, refl);
  proposal_lost = (refl, refl);
  prepare_lost = λ l. (refl, refl);
  prepare_lost_over_the_cap = λ l. (refl, refl);
  whole = elim [ Origin ↦ (refl, refl) | Recipient ↦ (refl, refl) ];
}
