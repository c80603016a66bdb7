use Rattle.std.proofs.Common.{Err, arith, ap, inr}
use Rattle.satp_records.specs.Views.{view}
use Rattle.satp_records.proofs.Lists.{read_fault}
use Rattle.satp_records.proofs.Decoding.{stored_found, stored_only, nothing_refused, nothing_found, first_fault}
use Rattle.satp_records.proofs.reading.decode.Goals as goal

pub returns-in-Ok-clause-found : goal.returns-in-Ok-clause-found
returns-in-Ok-clause-found c = stored_found c.args.payload.now (view c.in-Ok.found) c.owned.result (λ i. omega (arith, c.type_inv.payload i)) c.in-Ok.ensures.read c.in-Ok.ensures.formed c.owned.ensures

pub returns-in-Ok-clause-only : goal.returns-in-Ok-clause-only
returns-in-Ok-clause-only c = λ s formed is. stored_only c.args.payload.now (view c.in-Ok.found) s c.owned.result (λ i. omega (arith, c.type_inv.payload i)) c.in-Ok.ensures.read c.in-Ok.ensures.formed c.owned.ensures formed is

pub returns-in-Ok-clause-refused : goal.returns-in-Ok-clause-refused
returns-in-Ok-clause-refused c = λ f refused. absurd (nothing_refused c.args.payload.now (view c.in-Ok.found) f (λ i. omega (arith, c.type_inv.payload i)) c.in-Ok.ensures.read refused)

pub returns-in-Err-clause-only : goal.returns-in-Err-clause-only
returns-in-Err-clause-only c = λ s formed is. absurd (nothing_found c.args.payload.now c.in-Err.fault s (λ i. omega (arith, c.type_inv.payload i)) c.in-Err.ensures.read formed is)

pub returns-in-Err-clause-fault : goal.returns-in-Err-clause-fault
returns-in-Err-clause-fault c = inr (read_fault c.args.payload.now c.in-Err.fault (λ i. omega (arith, c.type_inv.payload i)) c.in-Err.ensures.read)

pub returns-in-Err-clause-refused : goal.returns-in-Err-clause-refused
returns-in-Err-clause-refused c = λ f refused. ap Err (first_fault c.args.payload.now c.in-Err.fault f (λ i. omega (arith, c.type_inv.payload i)) c.in-Err.ensures.read refused)
