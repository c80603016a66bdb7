use Rattle.std.proofs.Common.{refl}
use Rattle.satp_jws.proofs.HeaderLemmas.{data_none, data_read}
use Rattle.satp_jws.proofs.header.header_value.Goals as goal

pub returns-in-Ok : goal.returns-in-Ok
returns-in-Ok c = data_read c.args.header.now _ c.in-Ok.ensures.ok.0 c.in-Ok.ensures.ok.1

pub returns-else-is_memory : goal.returns-else-is_memory
returns-else-is_memory c = λ _. (refl, data_none c.args.header.now (c.in-Err.ensures.err (λ memory. let set = c.is_memory.ensures.1 memory in cc)))
