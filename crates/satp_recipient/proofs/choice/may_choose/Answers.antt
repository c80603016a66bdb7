use Rattle.std.proofs.Common.{subst, sym, ap, false}
use Rattle.satp_base.specs.declared.record.Rec.TheVariants.{Chose}
use Rattle.satp_recipient.proofs.Rule.{Decides, chose, commits_not}
use Rattle.satp_recipient.proofs.choice.may_choose.Goals as goal

pub returns-in-Commit : goal.returns-in-Commit
returns-in-Commit c = chose _ _ _ _ (ap Chose c.in-Commit.is) (commits_not _)

pub returns-in-Back : goal.returns-in-Back
returns-in-Back c = chose _ _ _ _ (ap Chose c.in-Back.is) c.may_turn_back.ensures
