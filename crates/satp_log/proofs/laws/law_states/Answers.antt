use Rattle.satp_log.proofs.StateLaw.{allowed-fit, made-next, notes-next, one-state, states-go-on, taken-next, texts-are}
use Rattle.satp_log.proofs.laws.law_states.Goals as goal

pub returns-clause-one : goal.returns-clause-one
returns-clause-one c = one-state

pub returns-clause-texts : goal.returns-clause-texts
returns-clause-texts c = texts-are

pub returns-clause-notes : goal.returns-clause-notes
returns-clause-notes c = notes-next

pub returns-clause-made : goal.returns-clause-made
returns-clause-made c = made-next

pub returns-clause-taken : goal.returns-clause-taken
returns-clause-taken c = taken-next

pub returns-clause-allowed : goal.returns-clause-allowed
returns-clause-allowed c = allowed-fit

pub returns-clause-goes : goal.returns-clause-goes
returns-clause-goes c = states-go-on
