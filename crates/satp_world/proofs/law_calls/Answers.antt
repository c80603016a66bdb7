use Rattle.satp_world.proofs.EffectLaw.{answers-stand, others-stay, runs-say-their-answers}
use Rattle.satp_world.proofs.LogAnswers.{answers-were-said}
use Rattle.satp_world.proofs.law_calls.Goals as goal

pub returns-clause-others : goal.returns-clause-others
returns-clause-others c = others-stay

pub returns-clause-says : goal.returns-clause-says
returns-clause-says c = runs-say-their-answers

pub returns-clause-said : goal.returns-clause-said
returns-clause-said c = answers-were-said

pub returns-clause-stands : goal.returns-clause-stands
returns-clause-stands c = answers-stand
