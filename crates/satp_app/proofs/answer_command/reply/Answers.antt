use Rattle.std.proofs.Common.{◌∙◌, sym}
use Rattle.satp_outcome.proofs.Inputs.{ne_false, ne_true, only_of}
use Rattle.satp_app.proofs.answer_command.reply.Goals as goal

pub returns-in_default : goal.returns-in_default
returns-in_default c =
    let found = c.in-Ok.ensures.found in
    (c.in-Ok.message, only_of c.args.text.now c.in-Ok.message found.0 found.1 found.2 c.in-Ok.ensures.complete, sym c.terms_proposed.ensures ∙ c.in_default.is)

pub returns-then-ne : goal.returns-then-ne
returns-then-ne c =
    let found = c.in-Ok.ensures.found in
    (c.in-Ok.message, c.in-Some.terms, (only_of c.args.text.now c.in-Ok.message found.0 found.1 found.2 c.in-Ok.ensures.complete, sym c.in-Some.ensures), ne_true _ _ c.ne.result c.ne.ensures c.if-ne.true)

pub returns-in-Ok-receipt_line : goal.returns-in-Ok-receipt_line
returns-in-Ok-receipt_line c =
    let found = c.in-Ok.ensures.found in
    (c.in-Ok.message, c.in-Some.terms, (only_of c.args.text.now c.in-Ok.message found.0 found.1 found.2 c.in-Ok.ensures.complete, sym c.in-Some.ensures), ne_false _ _ c.ne.result c.ne.ensures c.if-ne.false, c.in-Ok-receipt_line.ensures)
