use Rattle.satp_outputs.proofs.NumberLemmas.{stand_once, stay_given}
use Rattle.satp_outputs.proofs.laws.law_numbers.Goals as goal

pub returns-clause-once : goal.returns-clause-once
returns-clause-once c = stand_once

pub returns-clause-given : goal.returns-clause-given
returns-clause-given c = stay_given
