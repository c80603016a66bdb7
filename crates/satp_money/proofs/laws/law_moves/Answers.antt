use Rattle.satp_money.proofs.FreeLaw.{free_moves}
use Rattle.satp_money.proofs.TotalsLaw.{else_stays, totals_move}
use Rattle.satp_money.proofs.laws.law_moves.Goals as goal

pub returns-clause-moves : goal.returns-clause-moves
returns-clause-moves c = totals_move

pub returns-clause-free : goal.returns-clause-free
returns-clause-free c = free_moves

pub returns-clause-stays : goal.returns-clause-stays
returns-clause-stays c = else_stays
