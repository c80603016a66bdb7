use Rattle.std.proofs.Common.{inr, arith}
use Rattle.std.proofs.lemmas.Bool.{both_ways}
use Rattle.serde_json.specs.View.{view}
use Rattle.satp_canon.proofs.ReadFaults.{compared_fault, long_fault, made, not_json, only_memory, only_one, values_first}
use Rattle.satp_canon.proofs.TextFaults.{differs, not_of_values}
use Rattle.satp_canon.proofs.reader.read.Goals as goal

pub returns-then-text-gt-LONGEST-clause-fault : goal.returns-then-text-gt-LONGEST-clause-fault
returns-then-text-gt-LONGEST-clause-fault c = inr (long_fault c.args.text.now (omega arith))

pub returns-in-Err-2-clause-fault : goal.returns-in-Err-2-clause-fault
returns-in-Err-2-clause-fault c = inr (not_json c.args.text.now (omega arith) (λ utf8. c.in-Err.ensures.err (λ memory. both_ways _ c.if-is_memory.false (c.is_memory.ensures.1 memory)) utf8))

pub returns-in-Err-2-clause-complete : goal.returns-in-Err-2-clause-complete
returns-in-Err-2-clause-complete c m = only_memory m c.args.text.now _ (inr (not_json c.args.text.now (omega arith) (λ utf8. c.in-Err.ensures.err (λ memory. both_ways _ c.if-is_memory.false (c.is_memory.ensures.1 memory)) utf8)))

pub returns-in-Ok-message_of-clause-fault : goal.returns-in-Ok-message_of-clause-fault
returns-in-Ok-message_of-clause-fault c =
    let e = c.in-Ok-message_of.ensures in
    compared_fault c.compared.result c.args.text.now (view c.in-Ok.value) c.in-Ok-message_of.message (omega arith) c.in-Ok.ensures.ok.0 c.in-Ok.ensures.ok.1 e.fine e.message e.reads c.compared.ensures.same c.compared.ensures.other

pub returns-in-Ok-message_of-clause-complete : goal.returns-in-Ok-message_of-clause-complete
returns-in-Ok-message_of-clause-complete c =
    let e = c.in-Ok-message_of.ensures in
    only_one c.compared.result c.args.text.now (made c.compared.result c.in-Ok-message_of.message c.args.text.now e.message c.compared.ensures.same)
    (compared_fault c.compared.result c.args.text.now (view c.in-Ok.value) c.in-Ok-message_of.message (omega arith) c.in-Ok.ensures.ok.0 c.in-Ok.ensures.ok.1 e.fine e.message e.reads c.compared.ensures.same c.compared.ensures.other)

pub returns-clause-fault : goal.returns-clause-fault
returns-clause-fault c = values_first c.args.text.now (view c.in-Ok.value) _ (omega arith) c.in-Ok.ensures.ok.0 c.in-Ok.ensures.ok.1 c.in-Err-message_of.ensures.fault

pub returns-clause-complete : goal.returns-clause-complete
returns-clause-complete c m = only_memory m c.args.text.now _ (values_first c.args.text.now (view c.in-Ok.value) _ (omega arith) c.in-Ok.ensures.ok.0 c.in-Ok.ensures.ok.1 c.in-Err-message_of.ensures.fault)

pub returns-in-Ok-message_of-clause-canonical : goal.returns-in-Ok-message_of-clause-canonical
returns-in-Ok-message_of-clause-canonical c at =
    let e = c.in-Ok-message_of.ensures in
    differs c.compared.result c.args.text.now (view c.in-Ok.value) c.in-Ok-message_of.message at c.in-Ok.ensures.ok.0 c.in-Ok.ensures.ok.1 e.message e.reads c.compared.ensures.other

pub returns-clause-canonical : goal.returns-clause-canonical
returns-clause-canonical c at e = absurd (not_of_values (view c.in-Ok.value) _ at c.in-Err-message_of.ensures.fault cc)
