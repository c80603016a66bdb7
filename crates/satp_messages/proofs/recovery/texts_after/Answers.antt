use Rattle.std.proofs.Common.{◌∙◌, ◌+◌, ◌++◌, ap, drop}
use Rattle.satp_chain.specs.Chained.{texts_in}
use Rattle.satp_messages.proofs.MessageLemmas.{one-after}
use Rattle.satp_messages.proofs.recovery.texts_after.Goals as goal

pub loop-index-preserved : goal.loop-index-preserved
loop-index-preserved c =
    ap (λ ts. ts ++ drop (c.loop-index.index + 1) (texts_in c.args.chain.now)) c.in-Ok.ensures.ok
    ∙ one-after c.loop-index.texts (texts_in c.args.chain.now) (drop c.args.given (texts_in c.args.chain.now)) c.loop-index.index c.in_ok-text.text c.in_ok-text.ensures c.loop-index.invariant
