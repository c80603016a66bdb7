use Rattle.satp_life_laws.proofs.ClosedLaw.{again-stays-closed, leavings-close, others-leave-closed, set-ups-close, stops-close}
use Rattle.satp_life_laws.proofs.OpenedLaw.{openings-stay-closed}
use Rattle.satp_life_laws.proofs.law_closed.Goals as goal

pub returns-clause-set_up : goal.returns-clause-set_up
returns-clause-set_up c = set-ups-close

pub returns-clause-leaves : goal.returns-clause-leaves
returns-clause-leaves c = leavings-close

pub returns-clause-stops : goal.returns-clause-stops
returns-clause-stops c = stops-close

pub returns-clause-again : goal.returns-clause-again
returns-clause-again c = again-stays-closed

pub returns-clause-others : goal.returns-clause-others
returns-clause-others c = others-leave-closed

pub returns-clause-opening : goal.returns-clause-opening
returns-clause-opening c = openings-stay-closed
