use Rattle.satp_base.proofs.Readings.{reads, one_list, one_damage, never_both}
use Rattle.satp_base.proofs.laws.law_readings.Goals as goal

pub returns : goal.returns
returns c = (reads, one_list, one_damage, never_both)
