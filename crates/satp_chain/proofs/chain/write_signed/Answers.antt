use Rattle.std.proofs.Common.{List, ℕ, ap, ◌∙◌}
use Rattle.satp_base.specs.Signatures.{jws, own, own_header}
use Rattle.satp_chain.specs.declared.signed.Signed.{Signed}
use Rattle.satp_chain.proofs.chain.write_signed.Goals as goal

pub returns : goal.returns
unfolding own
returns c = ap (λ (t : List ℕ). let s : Signed = record { message = c.args.message; text = t } in s)
    (c.in_ok-text.ensures ∙ ap (jws c.args.key.now own_header) (c.bytes.ensures ∙ c.in_ok-payload.ensures))
