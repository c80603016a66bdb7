use Rattle.satp_records.proofs.Joins.{began_written}
use Rattle.satp_records.proofs.writing.encode_began.Goals as goal

pub returns : goal.returns
returns c =
    began_written c.args.session.now c.args.role c.args.terms.now _ c.args.message.now _ _ _ _ _ c.role_byte.ensures c.in_ok-out.ensures c.in_ok-put_session.ensures c.in_ok-append.ensures.ok c.in_ok-put_terms.ensures
    c.in_ok-put_message.ensures
