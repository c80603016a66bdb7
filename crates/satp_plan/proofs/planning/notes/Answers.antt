use Rattle.satp_plan.proofs.Makings.{note-pushed}
use Rattle.satp_plan.proofs.planning.notes.Goals as goal

pub loop-rec-preserved : goal.loop-rec-preserved
loop-rec-preserved c =
    let h = note-pushed c.args.session c.args.recs.now c.loop-rec.rec-index c.loop-rec.notes.items c.push.new.self.items (record { rec = c.rec-item.result; payload = c.in_ok-payload.payload })
    c.loop-rec-test.true c.rec-item.is c.loop-rec.invariant.recs c.loop-rec.invariant.made c.in_ok-push.ensures.items c.in_ok-payload.ensures in
    record { recs = h.0; made = h.1 }
