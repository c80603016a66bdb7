use Rattle.std.proofs.Common.{◌∙◌, ◌+◌, arith, refl, sym}
use Rattle.satp_gateway_commands.specs.ShowLines.{place_line}
use Rattle.satp_gateway_commands.proofs.Places.{added}
use Rattle.satp_gateway_commands.proofs.show_lines.add_places.Goals as goal

pub loop-done-preserved : goal.loop-done-preserved
loop-done-preserved c =
    let done = c.loop-done.done in
    record {
      so_far = c.in_ok-add_place.ensures ∙ added c.args.lines.now c.loop-done.lines (place_line (done + 1) c.in-Some.kind) done c.args.tale.now c.in-Some.kind c.loop-done.invariant.so_far (sym c.in-Some.ensures.kind) refl;
      within = omega (arith, c.loop-done-test.true, c.length.ensures.length);
    }
