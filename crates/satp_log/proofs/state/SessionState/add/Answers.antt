use Rattle.std.proofs.Common.{subst}
use Rattle.satp_log.specs.Folding.{MessageAnswers}
use Rattle.satp_log.proofs.Folds.{added, fits-chain, next-of, not-both, unheard, unruled}
use Rattle.satp_log.proofs.state.SessionState.add.Goals as goal

pub message-requires : goal.message-requires
message-requires c = fits-chain c.self.inside.view c.self.inside.chain c.args.rec.now c.self.invariant (c.allows.ensures.0 c.if-not-allows.false)

pub returns-then-not-allows : goal.returns-then-not-allows
returns-then-not-allows c = λ p s xs e h.
    unruled p s xs c.args.self.now (record { view = c.self.inside.view; chain = c.self.inside.chain }) c.args.key.now e c.self.view_is h c.args.rec.now c.args.text.now
    (λ rule. not-both c.allows.result c.if-not-allows.true (c.allows.ensures.1 rule))

pub push-requires : goal.push-requires
push-requires c = (
  c.args.key.now,
  next-of c.args.self.now (record { view = c.self.inside.view; chain = c.self.inside.chain }) c.args.key.now c.args.rec.now c.args.text.now c.in-Ok.message c.self.view_is (c.allows.ensures.0 c.if-not-allows.false)
      (subst (MessageAnswers c.self.inside.chain c.args.key.now c.args.rec.now c.args.text.now) c.in-Ok.is c.message.ensures),
)

pub returns-in-Ok : goal.returns-in-Ok
returns-in-Ok c = λ p s xs e h.
    added p s xs c.args.self.now (record { view = c.self.inside.view; chain = c.self.inside.chain }) c.args.key.now c.args.rec.now c.args.text.now c.in-Ok.message c.push.new.self e c.self.view_is (c.allows.ensures.0 c.if-not-allows.false)
    (subst (MessageAnswers c.self.inside.chain c.args.key.now c.args.rec.now c.args.text.now) c.in-Ok.is c.message.ensures) (c.push.ensures.more p s xs h)

pub returns-in-Err : goal.returns-in-Err
returns-in-Err c = λ p s xs e h.
    unheard p s xs c.args.self.now (record { view = c.self.inside.view; chain = c.self.inside.chain }) c.args.key.now e c.self.view_is h c.args.rec.now c.args.text.now c.in-Err.misfit
    (subst (MessageAnswers c.self.inside.chain c.args.key.now c.args.rec.now c.args.text.now) c.in-Err.is c.message.ensures)
