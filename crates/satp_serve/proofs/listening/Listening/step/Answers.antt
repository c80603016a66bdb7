use Rattle.std.proofs.Common.{List, ℕ, false, refl, ap}
use Rattle.std.specs.Prelude.{Ok}
use Rattle.satp_http.specs.declared.requests.Taken.TheVariants.{Continue}
use Rattle.satp_serve.specs.Feeding.{standing}
use Rattle.satp_serve.proofs.Stepping.{request_steps}
use Rattle.satp_serve.proofs.listening.Listening.step.Goals as goal

pub returns-in-Ok-Request-clause-steps : goal.returns-in-Ok-Request-clause-steps
returns-in-Ok-Request-clause-steps g c =
    request_steps _ _ _ _ _ c.in-Ok-Request.asked c.answer.result (rw c.in-Ok-Request.field-0-is at c.in-Ok-Request.ensures.takes) c.answer.ensures.answers

pub returns-in-Err-append-clause-steps : goal.returns-in-Err-append-clause-steps
returns-in-Err-append-clause-steps g c = record {
  given = Ok Continue;
  left = c.take.new.self;
  takes = rw c.in-Ok-Continue.field-0-is at c.in-Ok-Continue.ensures.takes;
  fails = (refl, ap (λ (l : List ℕ). standing c.args.responder.now c.args.site.now c.args.self.now.count l false) c.in-Err-append.ensures.err);
}
