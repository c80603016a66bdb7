use Rattle.std.proofs.Common.{refl, false}
use Rattle.satp_serve.specs.Feeding.{standing}
use Rattle.satp_serve.proofs.Exchanging.{serves_more}
use Rattle.satp_serve.proofs.listening.Listening.answer_all.Goals as goal

pub returns-in-Err-clause-answers : goal.returns-in-Err-clause-answers
returns-in-Err-clause-answers g c =
    (c.answered.self.requests, standing c.answered.responder c.answered.site c.answered.self.count c.answered.said false, c.answered.invariant.serves, refl, c.in-Err.ensures.steps)

pub returns-in-Ok-Waits-clause-answers : goal.returns-in-Ok-Waits-clause-answers
returns-in-Ok-Waits-clause-answers g c =
    let one = rw c.in-Ok-Waits.field-0-is at c.in-Ok-Waits.ensures.steps in
    (serves_more g.G.Responder.replies _ _ _ _ _ _ c.answered.invariant.serves refl one.0, one.1)

pub returns-in-Ok-Closes-clause-answers : goal.returns-in-Ok-Closes-clause-answers
returns-in-Ok-Closes-clause-answers g c =
    let one = rw c.in-Ok-Closes.field-0-is at c.in-Ok-Closes.ensures.steps in
    serves_more g.G.Responder.replies _ _ _ _ _ _ c.answered.invariant.serves refl one

pub answered-preserved : goal.answered-preserved
answered-preserved g c =
    let one = rw c.in-Ok-Answered.field-0-is at c.in-Ok-Answered.ensures.steps in
    record { serves = serves_more g.G.Responder.replies _ _ _ _ _ _ c.answered.invariant.serves refl one.0; most = rw c.in-Ok-Answered.field-0-is at c.in-Ok-Answered.ensures.most; fits = rw c.in-Ok-Answered.field-0-is at c.in-Ok-Answered.ensures.fits }
