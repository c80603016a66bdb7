use Rattle.satp_schedule.proofs.FieldLemmas.{next_field}
use Rattle.satp_schedule.proofs.fields.Fields.next.Goals as goal

pub returns : goal.returns
returns c = next_field _ c.self.inside.rest c.cut_field.result.1 c.in_ok-self.field-0 c.cut_field.result.0 c.self.view_is c.in_ok-self.was c.cut_field.ensures.field c.cut_field.ensures.whole
