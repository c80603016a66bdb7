use Rattle.std.proofs.Common.{refl, ap, arith, rules}
use Rattle.satp_base.specs.Acts.{operation_events}
use Rattle.satp_base.specs.LedgerRule.{Operation}
use Rattle.satp_base.specs.declared.ledger.LedgerOp.TheVariants.{Lock, Burn}
use Rattle.satp_examples.specs.Samples.{alpha_1, quarter}
use Rattle.satp_examples.proofs.Books.{burn_is, lock_is}
use Rattle.satp_examples.proofs.stops.law_site_steps.Goals as goal

pub returns-clause-steps : goal.returns-clause-steps
returns-clause-steps c = record {
  stored = refl;
  in_their_order = refl;
  locked = ap (λ (o : Operation). operation_events o Lock alpha_1 quarter) lock_is;
  out_of_order = ap (λ (o : Operation). operation_events o Burn alpha_1 quarter) burn_is;
  eight_calls = refl;
  says = λ h. h;
  payloads = search rules;
  no_empty_payload = λ h. let long = h.0.0 in absurd (omega (arith, long));
}
