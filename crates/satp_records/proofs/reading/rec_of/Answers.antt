use Rattle.std.proofs.Common.{◌∙◌, arith, ap}
use Rattle.satp_records.specs.Views.{view, session_rec}
use Rattle.satp_records.specs.declared.stored.Stored.TheVariants as stored
use Rattle.satp_records.proofs.Decoding.{payload_found, one_found, nothing_found, rec_found}
use Rattle.satp_records.proofs.reading.rec_of.Goals as goal

pub returns-in-Ok-clause-found : goal.returns-in-Ok-clause-found
returns-in-Ok-clause-found c =
    let payload = c.args.payload.now in
    let found = view c.in-Ok.found in
    rw c.session_in.ensures (rec_found payload found c.in-Ok.ensures.formed (payload_found payload found (λ i. omega (arith, c.type_inv.payload i)) c.in-Ok.ensures.read))

pub returns-in-Ok-clause-only : goal.returns-in-Ok-clause-only
returns-in-Ok-clause-only c = λ s r text formed is.
    c.session_in.ensures ∙ ap session_rec (one_found c.args.payload.now (view c.in-Ok.found) (stored.Session s r text) (λ i. omega (arith, c.type_inv.payload i)) c.in-Ok.ensures.read c.in-Ok.ensures.formed formed is)

pub returns-in-Err-clause-only : goal.returns-in-Err-clause-only
returns-in-Err-clause-only c = λ s r text formed is.
    absurd (nothing_found c.args.payload.now c.in-Err.field-0 (stored.Session s r text) (λ i. omega (arith, c.type_inv.payload i)) c.in-Err.ensures.read formed is)
