use Rattle.satp_memory.proofs.Keeping.{calls_keep}
use Rattle.satp_examples.proofs.site_calls.write_and_act_in_memory.Goals as goal

pub returns-clause-stop : goal.returns-clause-stop
returns-clause-stop g c = (calls_keep _ _ _ _ _ c.write_and_act.ensures.beside).disk.stop

pub returns-clause-named : goal.returns-clause-named
returns-clause-named g c = (calls_keep _ _ _ _ _ c.write_and_act.ensures.beside).disk.named

pub returns-clause-count : goal.returns-clause-count
returns-clause-count g c = (calls_keep _ _ _ _ _ c.write_and_act.ensures.beside).disk.count
