use Rattle.std.proofs.Common.{subst, arith}
use Rattle.satp_log.proofs.ReadLemmas.{Adds, all-read, next-fault, next-ok}
use Rattle.satp_gateway.proofs.opening.read.Goals as goal

pub returns-in-Err : goal.returns-in-Err
returns-in-Err c =
    let holds = c.loop-index.invariant in
    next-fault c.args.journal.now.held.payloads c.loop-index.index c.payload_at.result.now c.loop-index.log c.payload_at.ensures holds c.add.new.self c.add.result c.in-Err.misfit c.fault_at.result c.in-Err.is c.fault_at.ensures
    (c.add.ensures _ holds.0 holds.1 holds.2 holds.3)

pub loop-index-preserved : goal.loop-index-preserved
loop-index-preserved c =
    let holds = c.loop-index.invariant in
    next-ok c.args.journal.now.held.payloads c.loop-index.index c.payload_at.result.now c.loop-index.log c.payload_at.ensures holds c.add.new.self
    (subst (Adds c.args.journal.now.held.payloads c.loop-index.index c.payload_at.result.now c.loop-index.log c.payload_at.ensures holds c.add.new.self) c.in_default.is (c.add.ensures _ holds.0 holds.1 holds.2 holds.3))

pub returns : goal.returns
returns c = all-read c.args.journal.now.held.payloads c.loop-index.index c.loop-index.log (omega (arith, c.loop-index-test.false, c.count-index-end.ensures)) c.loop-index.invariant
