use Rattle.std.proofs.Common.{subst, arith}
use Rattle.satp_log.proofs.ReadLemmas.{Adds, all-read, journal-err, journal-read, next-fault, next-ok}
use Rattle.satp_log.proofs.journal.Log.read.Goals as goal

pub returns-in_err-log-clause-journal : goal.returns-in_err-log-clause-journal
returns-in_err-log-clause-journal c = journal-read c.args.payloads.now c.from_residual.result c.in_err-log.field-0.0 c.in_err-log.ensures c.from_residual.ensures

pub returns-in-Err-clause-reads : goal.returns-in-Err-clause-reads
returns-in-Err-clause-reads c =
    let holds = c.loop-index.invariant in
    next-fault c.args.payloads.now c.loop-index.index c.payload_at.result.now c.loop-index.log c.payload_at.ensures holds c.add.new.self c.add.result c.in-Err.misfit c.fault_at.result c.in-Err.is c.fault_at.ensures
    (c.add.ensures _ holds.0 holds.1 holds.2 holds.3)

pub returns-in-Err-clause-journal : goal.returns-in-Err-clause-journal
returns-in-Err-clause-journal c =
    let holds = c.loop-index.invariant in
    journal-err c.args.payloads.now c.fault_at.result
    (next-fault c.args.payloads.now c.loop-index.index c.payload_at.result.now c.loop-index.log c.payload_at.ensures holds c.add.new.self c.add.result c.in-Err.misfit c.fault_at.result c.in-Err.is c.fault_at.ensures
    (c.add.ensures _ holds.0 holds.1 holds.2 holds.3))

pub loop-index-preserved : goal.loop-index-preserved
loop-index-preserved c =
    let holds = c.loop-index.invariant in
    next-ok c.args.payloads.now c.loop-index.index c.payload_at.result.now c.loop-index.log c.payload_at.ensures holds c.add.new.self
    (subst (Adds c.args.payloads.now c.loop-index.index c.payload_at.result.now c.loop-index.log c.payload_at.ensures holds c.add.new.self) c.in_default.is (c.add.ensures _ holds.0 holds.1 holds.2 holds.3))

pub returns-clause-reads : goal.returns-clause-reads
returns-clause-reads c = all-read c.args.payloads.now c.loop-index.index c.loop-index.log (omega (arith, c.loop-index-test.false, c.length-index-end.ensures)) c.loop-index.invariant
