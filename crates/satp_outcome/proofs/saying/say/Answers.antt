use Rattle.std.proofs.Common.{◌∙◌, ℕ, List, length-drop, subst, arith}
use Rattle.satp_base.specs.Streams.{Gains}
use Rattle.satp_outcome.proofs.Writing.{rest_of, wrote_more}
use Rattle.satp_outcome.proofs.saying.say.Goals as goal

pub loop-done-preserved : goal.loop-done-preserved
loop-done-preserved g c =
    let bytes = c.args.bytes.now in
    let gains = subst (λ (p : List ℕ). Gains (g.K.Sink.taken c.loop-done.out) p c.in-Ok.more (g.K.Sink.taken c.write.new.self)) (rest_of c.loop-done.done bytes) c.in-Ok.ensures.ok in
    record {
      faults = c.in-Ok.ensures.kept ∙ c.loop-done.invariant.faults;
      whole = c.in-Ok.ensures.failed;
      within = omega (arith, gains.within, length-drop {A = ℕ} c.loop-done.done bytes, c.loop-done-test.true);
      told = wrote_more _ _ _ bytes c.loop-done.done _ c.loop-done.invariant.told gains;
    }
