use Rattle.satp_serve.proofs.gateway.GatewayResponder.reply.Goals as goal

pub returns-clause-goes : goal.returns-clause-goes
returns-clause-goes g c = (
  record {
    handled = c.handle.result;
    answered = c.answer.ensures.answers;
    read = c.handle.ensures.read;
    answers = c.handle.ensures.answers;
    unchanged = c.handle.ensures.unchanged;
    breaking = c.handle.ensures.breaking;
    within = c.handle.ensures.within;
    later = c.handle.ensures.later;
    cause = c.handle.ensures.cause;
    kept = c.handle.ensures.kept;
    still = c.handle.ensures.still;
  },
  c.handle.ensures.beside,
)
