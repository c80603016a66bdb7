use Rattle.std.proofs.Common.{◌∙◌, ap, sym, codes, length}
use Rattle.satp_base.specs.Signatures.{jws}
use Rattle.satp_base.specs.declared.message.Kind.{Kind}
use Rattle.satp_app.specs.Check.{line}
use Rattle.satp_outcome.proofs.Inputs.{only_of}
use Rattle.satp_app.proofs.check_command.signed_reply.Goals as goal

pub returns-in-Ok-text_line : goal.returns-in-Ok-text_line
returns-in-Ok-text_line c =
    let found = c.in-Ok-read.ensures.found in
    let signed = c.in-Ok.ensures.signed in (
      c.bytes.result.now,
      c.in-Ok-read.message,
      record { own = c.bytes.ensures ∙ c.in-Ok.ensures.first.2; header = c.in-Ok.verified.header; accepted = signed.0; signed = signed.1 ∙ ap (jws c.args.key.now c.in-Ok.verified.header) (sym c.bytes.ensures) },
      only_of c.bytes.result.now c.in-Ok-read.message found.0 found.1 found.2 c.in-Ok-read.ensures.complete,
      c.in-Ok-text_line.ensures ∙ ap (λ (k : Kind). line (codes "jws ") k (length c.args.text.now)) c.kind.ensures,
    )
