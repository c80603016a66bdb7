use Rattle.std.proofs.Common.{sym, ◌∙◌}
use Rattle.satp_origin.proofs.Rule.{took, took_not, did, chose, begins_not, rescues}
use Rattle.satp_origin.proofs.choice.allows.Goals as goal

pub returns-then-is_by : goal.returns-then-is_by
returns-then-is_by c = took _ _ _ c.in-Took.kind c.in-Took.is (sym c.is_by.ensures ∙ c.if-is_by.true) c.extends.ensures

pub returns-else-is_by : goal.returns-else-is_by
returns-else-is_by c = took_not _ _ _ c.in-Took.kind c.in-Took.is c.is_by.ensures c.if-is_by.false

pub returns-in-Did : goal.returns-in-Did
returns-in-Did c = did _ _ _ c.in-Did.op c.in-Did.is c.acts.ensures

pub returns-in-Chose : goal.returns-in-Chose
returns-in-Chose c = chose _ _ _ c.in-Chose.way c.in-Chose.is c.may_choose.ensures

pub returns-in-Rescue : goal.returns-in-Rescue
returns-in-Rescue c = rescues _ _ _ c.in-Rescue.is c.may_rescue.ensures

pub returns-in-Began : goal.returns-in-Began
returns-in-Began c = begins_not _ _ _ _ c.in-Began.is
