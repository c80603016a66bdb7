use Rattle.std.proofs.Common.{ap}
use Rattle.satp_base.specs.declared.record.Rec.TheVariants.{Chose}
use Rattle.satp_origin.proofs.Rule.{chose, commits}
use Rattle.satp_origin.proofs.choice.may_choose.Goals as goal

pub returns-in-Commit : goal.returns-in-Commit
returns-in-Commit c = commits _ _ _ c.in-Commit.is c.decides.ensures

pub returns-in-Back : goal.returns-in-Back
returns-in-Back c = chose _ _ _ _ (ap Chose c.in-Back.is) c.may_turn_back.ensures
