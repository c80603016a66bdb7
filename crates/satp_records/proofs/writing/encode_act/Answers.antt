use Rattle.satp_records.proofs.Joins.{act_written}
use Rattle.satp_records.proofs.writing.encode_act.Goals as goal

pub returns : goal.returns
returns c = act_written c.args.op c.args.session.now c.args.terms.now _ _ _ _ c.operation_byte.ensures c.in_ok-out.ensures c.in_ok-put_session.ensures c.in_ok-put_terms.ensures
