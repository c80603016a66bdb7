use Rattle.std.proofs.Common.{Err, ◌∙◌, sym}
use Rattle.satp_jws.specs.declared.fault.JwsFault.TheVariants.{Parts}
use Rattle.satp_jws.proofs.PartLemmas.{signed_front, signed_length, three_from}
use Rattle.satp_jws.proofs.VerifyLemmas.{verify_complete, verify_first, verify_signed, wrong_count}
use Rattle.satp_jws.proofs.verifying.verify.Goals as goal

pub returns-then-count-ne3-clause-first : goal.returns-then-count-ne3-clause-first
returns-then-count-ne3-clause-first c = λ _. wrong_count c.args.key.now c.args.text.now c.part_count-count.result c.part_count-count.ensures c.if-count-ne3.true

pub returns-then-count-ne3-clause-complete : goal.returns-then-count-ne3-clause-complete
returns-then-count-ne3-clause-complete c =
    verify_complete c.args.key.now c.args.text.now (Err (Parts c.part_count-count.result)) (λ _. wrong_count c.args.key.now c.args.text.now c.part_count-count.result c.part_count-count.ensures c.if-count-ne3.true)

pub slice_bounds-signed-end : goal.slice_bounds-signed-end
slice_bounds-signed-end c = signed_length c.args.text.now c.before_stop.result.now c.before_stop-2.result.now c.behind_stop.result.now
    (three_from c.args.text.now c.before_stop.result.now c.behind_stop-rest.result.now c.before_stop-2.result.now c.behind_stop.result.now c.before_stop.ensures c.behind_stop-rest.ensures c.before_stop-2.ensures c.behind_stop.ensures (sym c.part_count-count.ensures ∙ c.if-count-ne3.false))

pub verify_parts-requires : goal.verify_parts-requires
verify_parts-requires c = signed_front c.args.text.now c.before_stop.result.now c.before_stop-2.result.now c.behind_stop.result.now
    (three_from c.args.text.now c.before_stop.result.now c.behind_stop-rest.result.now c.before_stop-2.result.now c.behind_stop.result.now c.before_stop.ensures c.behind_stop-rest.ensures c.before_stop-2.ensures c.behind_stop.ensures (sym c.part_count-count.ensures ∙ c.if-count-ne3.false))

pub returns-clause-first : goal.returns-clause-first
returns-clause-first c = verify_first c.args.key.now c.args.text.now c.before_stop.result.now c.before_stop-2.result.now c.behind_stop.result.now c.verify_parts.result
    (three_from c.args.text.now c.before_stop.result.now c.behind_stop-rest.result.now c.before_stop-2.result.now c.behind_stop.result.now c.before_stop.ensures c.behind_stop-rest.ensures c.before_stop-2.ensures c.behind_stop.ensures (sym c.part_count-count.ensures ∙ c.if-count-ne3.false))
    c.verify_parts.ensures

pub returns-clause-signed : goal.returns-clause-signed
returns-clause-signed c = verify_signed c.args.key.now c.args.text.now c.before_stop.result.now c.before_stop-2.result.now c.behind_stop.result.now c.verify_parts.result
    (three_from c.args.text.now c.before_stop.result.now c.behind_stop-rest.result.now c.before_stop-2.result.now c.behind_stop.result.now c.before_stop.ensures c.behind_stop-rest.ensures c.before_stop-2.ensures c.behind_stop.ensures (sym c.part_count-count.ensures ∙ c.if-count-ne3.false))
    c.verify_parts.ensures

pub returns-clause-complete : goal.returns-clause-complete
returns-clause-complete c =
    verify_complete c.args.key.now c.args.text.now c.verify_parts.result (returns-clause-first c)
