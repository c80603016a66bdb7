use Rattle.satp_schedule.proofs.FieldLemmas.{tells_empty}
use Rattle.satp_schedule.proofs.fields.Fields.is_empty.Goals as goal

pub returns : goal.returns
returns c = tells_empty c.self.inside.rest _ _ c.is_none.ensures c.self.view_is
