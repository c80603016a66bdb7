use Rattle.satp_rounds.proofs.law_rounds.Goals as goal
use Rattle.satp_rounds.proofs.RowsCheck.{rows-pass}
use Rattle.satp_rounds.proofs.Settle.{rounds-settle}
use Rattle.satp_rounds.proofs.Transferring.{proposals-settle}
use Rattle.satp_rounds.proofs.Working.{ledgers-answer}

pub returns-clause-rounds : goal.returns-clause-rounds
returns-clause-rounds c = rounds-settle

pub returns-clause-proposals : goal.returns-clause-proposals
returns-clause-proposals c = proposals-settle

pub returns-clause-rows : goal.returns-clause-rows
returns-clause-rows c = rows-pass

pub returns-clause-ledgers : goal.returns-clause-ledgers
returns-clause-ledgers c = ledgers-answer
