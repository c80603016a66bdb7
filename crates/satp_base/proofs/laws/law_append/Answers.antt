use Rattle.satp_base.proofs.Standings.{reads_along, here_settled}
use Rattle.satp_base.proofs.Cuts.{cut_front}
use Rattle.satp_base.proofs.Closing.{append_leaves, append_decides, append_ends, in_append_reads}
use Rattle.satp_base.proofs.laws.law_append.Goals as goal

pub returns-clause-each : goal.returns-clause-each
returns-clause-each c = append_leaves

pub returns-clause-image : goal.returns-clause-image
returns-clause-image c = in_append_reads

pub returns-clause-gate : goal.returns-clause-gate
returns-clause-gate c = append_decides

pub returns-clause-end : goal.returns-clause-end
returns-clause-end c = append_ends

pub returns-clause-read : goal.returns-clause-read
returns-clause-read c = λ t area keeps. reads_along area t.events _ (here_settled (t.start area)) (keeps area)

pub returns-clause-prefixes : goal.returns-clause-prefixes
returns-clause-prefixes c = cut_front
