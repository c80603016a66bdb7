use Rattle.satp_jws.proofs.BlockLemmas.{filled}
use Rattle.satp_jws.proofs.hmac.block_of.Goals as goal

pub returns : goal.returns
returns c = filled c.args.bytes.now c.copy_from_slice.new.self c.copy_from_slice.ensures.after
