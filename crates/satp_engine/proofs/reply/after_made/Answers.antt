use Rattle.std.proofs.Common.{◌∙◌, Some, ap, sym}
use Rattle.satp_points.specs.declared.decision.Replying.{Replying}
use Rattle.satp_engine.specs.Replies.{after_made}
use Rattle.satp_engine.proofs.ReplyLemmas.{reply-made}
use Rattle.satp_engine.proofs.reply.after_made.Goals as goal

pub returns-in-LastOwn-clause-reply : goal.returns-in-LastOwn-clause-reply
returns-in-LastOwn-clause-reply c =
    reply-made c.args.replying c.args.standing c.args.text c.args.tale.now (Some c.args.text) (sym (ap (λ (r : Replying). after_made r c.args.standing c.args.text c.args.tale.now) c.in-LastOwn.is))

pub returns-in-Again-clause-reply : goal.returns-in-Again-clause-reply
returns-in-Again-clause-reply c =
    reply-made c.args.replying c.args.standing c.args.text c.args.tale.now c.again_after_made.result (c.again_after_made.ensures ∙ sym (ap (λ (r : Replying). after_made r c.args.standing c.args.text c.args.tale.now) c.in-Again.is))
