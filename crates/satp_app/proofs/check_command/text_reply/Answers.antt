use Rattle.std.proofs.Common.{◌∙◌, ap, codes, length}
use Rattle.satp_base.specs.declared.message.Kind.{Kind}
use Rattle.satp_app.specs.Check.{line}
use Rattle.satp_outcome.proofs.Inputs.{only_of}
use Rattle.satp_app.proofs.check_command.text_reply.Goals as goal

pub returns-in-Ok-text_line : goal.returns-in-Ok-text_line
returns-in-Ok-text_line c =
    let found = c.in-Ok.ensures.found in
    (c.in-Ok.message, only_of c.args.text.now c.in-Ok.message found.0 found.1 found.2 c.in-Ok.ensures.complete, c.in-Ok-text_line.ensures ∙ ap (λ (k : Kind). line (codes "text ") k (length c.args.text.now)) c.kind.ensures)
