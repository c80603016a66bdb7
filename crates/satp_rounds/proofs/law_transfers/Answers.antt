use Rattle.satp_rounds.proofs.Starting.{transfers-settle-worlds}
use Rattle.satp_rounds.proofs.Transferring.{transfers-settle}
use Rattle.satp_rounds.proofs.law_transfers.Goals as goal

pub returns-clause-kinds : goal.returns-clause-kinds
returns-clause-kinds c = transfers-settle

pub returns-clause-worlds : goal.returns-clause-worlds
returns-clause-worlds c = transfers-settle-worlds
