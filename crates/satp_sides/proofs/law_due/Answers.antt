use Rattle.satp_sides.proofs.AnswerLaw.{due-answered}
use Rattle.satp_sides.proofs.DueLaw.{due-rests, due-short, made-rests, turns-enough}
use Rattle.satp_sides.proofs.law_due.Goals as goal

pub returns-clause-rests : goal.returns-clause-rests
returns-clause-rests c = due-rests

pub returns-clause-enough : goal.returns-clause-enough
returns-clause-enough c = turns-enough

pub returns-clause-short : goal.returns-clause-short
returns-clause-short c = due-short

pub returns-clause-made : goal.returns-clause-made
returns-clause-made c = made-rests

pub returns-clause-answered : goal.returns-clause-answered
returns-clause-answered c = due-answered
