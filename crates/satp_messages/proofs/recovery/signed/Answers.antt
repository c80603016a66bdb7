use Rattle.satp_messages.proofs.MessageLemmas.{ok-more, signed-is}
use Rattle.satp_messages.proofs.recovery.signed.Goals as goal

pub returns : goal.returns
returns c =
    ok-more c.sign.result _ _ c.sign.ensures (λ text is.
    signed-is c.args.log.now.setup c.setup-setup.result.now c.args.session c.args.body c.key.result.now c.in_ok-payload.payload c.bytes.result.now text c.setup-setup.ensures c.key.ensures c.in_ok-payload.ensures c.bytes.ensures is)
