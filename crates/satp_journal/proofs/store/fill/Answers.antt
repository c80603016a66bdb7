use Rattle.std.proofs.Common.{◌+◌, ◌-◌, ◌/◌, ◌%◌, length, arith}
use Rattle.satp_journal.proofs.Failing.{filled}
use Rattle.satp_journal.proofs.store.fill.Goals as goal

pub returns : goal.returns
returns c = filled c.args.frame.now c.args.payload.now c.copy_from_slice.new.self (length c.args.payload.now / 256) (length c.args.payload.now % 256) (length c.args.payload.now + 2 - 2) c.copy_from_slice.ensures.after (omega arith) c.requires.room
