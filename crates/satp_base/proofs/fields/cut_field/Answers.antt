use Rattle.std.proofs.Common.{◌∙◌, sym}
use Rattle.satp_base.proofs.LineLemmas.{cut_at, lacks_it}
use Rattle.satp_base.proofs.fields.cut_field.Goals as goal

pub returns-in-Some-clause-field : goal.returns-in-Some-clause-field
returns-in-Some-clause-field c = (cut_at 32 c.args.line.now c.in-Some.at (sym c.space.ensures.first ∙ c.in-Some.is)).0

pub returns-in-Some-clause-whole : goal.returns-in-Some-clause-whole
returns-in-Some-clause-whole c = (cut_at 32 c.args.line.now c.in-Some.at (sym c.space.ensures.first ∙ c.in-Some.is)).1

pub returns-in-None-clause-field : goal.returns-in-None-clause-field
returns-in-None-clause-field c = lacks_it 32 c.args.line.now (sym c.space.ensures.first ∙ c.in-None.is)
