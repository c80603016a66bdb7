use Rattle.std.proofs.Common.{◌∙◌, Ok, Result, Some, refl, subst, sym}
use Rattle.satp_http.specs.declared.responses.Answered.{Answered}
use Rattle.satp_post.specs.declared.fault.PostFault.{PostFault}
use Rattle.satp_post.specs.Posting.{HearsAnswer}
use Rattle.satp_post.proofs.Ends.{handed_on, last, more_fails, so_far_more, so_far_none, take_fails}
use Rattle.satp_post.proofs.Measure.{smaller}
use Rattle.satp_post.proofs.posting.hear.Goals as goal

pub heard-init : goal.heard-init
heard-init g c = record { heard = so_far_none c.args.responses.now (g.W.Wire.told c.args.wire.now); is_open = c.requires.open; listens = refl; beside = g.met.W.Wire.beside_same c.args.wire.now; faults = refl }

pub returns-in-Ok-Some-clause-hears : goal.returns-in-Ok-Some-clause-hears
returns-in-Ok-Some-clause-hears g c =
    (c.heard.invariant.faults, last c.args.responses.now c.heard.responses c.take.new.self (g.W.Wire.told c.args.wire.now) (g.W.Wire.told c.heard.wire) (g.W.Wire.told c.heard.wire) (Ok (Some c.in-Ok-Some.answered)) c.heard.invariant.heard (rw c.in-Ok-Some.field-0-is at c.in-Ok-Some.ensures.takes) refl)

pub heard-smaller : goal.heard-smaller
heard-smaller g c =
    let more = c.in_ok-hear_more-in-Ok-None.ensures.hears in
    smaller c.heard.responses c.take.new.self c.hear_more.new.responses more.1 (g.W.Wire.told c.heard.wire) (g.W.Wire.told c.hear_more.new.wire) (rw c.in-Ok-None.field-0-is at c.in-Ok-None.ensures.takes) more.2

pub heard-preserved : goal.heard-preserved
heard-preserved g c =
    let more = c.in_ok-hear_more-in-Ok-None.ensures.hears in
    record {
      heard = so_far_more c.args.responses.now c.heard.responses c.take.new.self c.hear_more.new.responses (g.W.Wire.told c.args.wire.now) (g.W.Wire.told c.heard.wire) (g.W.Wire.told c.hear_more.new.wire) more.1 c.heard.invariant.heard (rw c.in-Ok-None.field-0-is at c.in-Ok-None.ensures.takes) more.2;
      is_open = c.hear_more.ensures.open;
      listens = c.hear_more.ensures.listens ∙ c.heard.invariant.listens;
      beside = g.met.W.Wire.beside_then c.args.wire.now c.heard.wire c.hear_more.new.wire c.heard.invariant.beside c.hear_more.ensures.beside;
      faults = more.0 ∙ c.heard.invariant.faults;
    }

pub returns-in_err-hear_more-in-Ok-None-clause-hears : goal.returns-in_err-hear_more-in-Ok-None-clause-hears
returns-in_err-hear_more-in-Ok-None-clause-hears g c =
    let fault = c.in_err-hear_more-in-Ok-None.field-0.0 in
    subst (λ (r : Result Answered PostFault). HearsAnswer c.args.responses.now c.hear_more.new.responses (g.W.Wire.told c.args.wire.now) (g.W.Wire.told c.hear_more.new.wire) (g.W.Wire.faults c.args.wire.now) (g.W.Wire.faults c.hear_more.new.wire) r)
    (sym (handed_on c.from_residual.result fault c.from_residual.ensures))
    (more_fails c.args.responses.now c.heard.responses c.take.new.self c.hear_more.new.responses (g.W.Wire.told c.args.wire.now) (g.W.Wire.told c.heard.wire) (g.W.Wire.told c.hear_more.new.wire)
    (g.W.Wire.faults c.args.wire.now) (g.W.Wire.faults c.heard.wire) (g.W.Wire.faults c.hear_more.new.wire) fault c.heard.invariant.heard (rw c.in-Ok-None.field-0-is at c.in-Ok-None.ensures.takes) c.heard.invariant.faults c.in_err-hear_more-in-Ok-None.ensures.hears)

pub returns-in-Err-clause-hears : goal.returns-in-Err-clause-hears
returns-in-Err-clause-hears g c =
    take_fails c.args.responses.now c.heard.responses c.take.new.self (g.W.Wire.told c.args.wire.now) (g.W.Wire.told c.heard.wire) (g.W.Wire.faults c.args.wire.now) (g.W.Wire.faults c.heard.wire) c.in-Err.fault c.fault_of.result c.heard.invariant.heard c.in-Err.ensures.takes c.heard.invariant.faults c.fault_of.ensures
