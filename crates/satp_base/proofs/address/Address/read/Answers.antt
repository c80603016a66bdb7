use Rattle.std.proofs.Common.{◌∙◌, sym, Ok, Err}
use Rattle.std.proofs.Math.Seq.{take-append_seam}
use Rattle.satp_base.specs.Names.{is_address_byte}
use Rattle.satp_base.proofs.Forms.{holds_read, fault_found, not_form}
use Rattle.satp_base.proofs.Exact.{address_exact}
use Rattle.satp_base.proofs.address.Address.read.Goals as goal

pub invariant_of-result : goal.invariant_of-result
invariant_of-result c =
    let text = c.args.text.now in
    let none = sym (fault_found 64 is_address_byte text c.first_other.result c.fault_of.result c.first_other.ensures c.fault_of.ensures) ∙ c.in_default.is in
    record { valid = rw c.copy_from_slice.ensures.after (holds_read 64 is_address_byte text none) }

pub returns-in-Some-clause-form : goal.returns-in-Some-clause-form
returns-in-Some-clause-form c =
    let text = c.args.text.now in
    let found = sym (fault_found 64 is_address_byte text c.first_other.result c.fault_of.result c.first_other.ensures c.fault_of.ensures) ∙ c.in-Some.is in
    (λ e. absurd cc, not_form 64 is_address_byte text c.in-Some.fault found)

pub returns-in-Some-clause-complete : goal.returns-in-Some-clause-complete
returns-in-Some-clause-complete c =
    let text = c.args.text.now in
    address_exact text (Err c.in-Some.fault) (sym (fault_found 64 is_address_byte text c.first_other.result c.fault_of.result c.first_other.ensures c.fault_of.ensures) ∙ c.in-Some.is)

pub returns-clause-complete : goal.returns-clause-complete
returns-clause-complete c =
    let text = c.args.text.now in
    let none = sym (fault_found 64 is_address_byte text c.first_other.result c.fault_of.result c.first_other.ensures c.fault_of.ensures) ∙ c.in_default.is in
    address_exact text (Ok _) (none, rw c.copy_from_slice.ensures.after (take-append_seam text _))
