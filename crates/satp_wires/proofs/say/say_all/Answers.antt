use Rattle.std.proofs.Common.{◌∙◌, ◌++◌, [], false, List, ℕ, take, drop, length, ap, sym, refl, arith}
use Rattle.std.specs.Prelude.{option_map}
use Rattle.std.proofs.lemmas.List.{take-append-drop, length-drop}
use Rattle.satp_base.specs.Wires.{says, exchanged}
use Rattle.satp_wires.proofs.Traffic.{exchanged_nothing, exchanged_twice}
use Rattle.satp_wires.proofs.Pieces.{piece, take_sum}
use Rattle.satp_wires.proofs.say.say_all.Goals as goal

pub loop-done-init : goal.loop-done-init
loop-done-init g c = record { told = exchanged_nothing (g.W.Wire.told c.args.wire.now); within = omega arith; is_open = c.requires; listens = refl; beside = g.met.W.Wire.beside_same c.args.wire.now; faults = refl }

pub returns-in-Err-clause-err : goal.returns-in-Err-clause-err
returns-in-Err-clause-err g c = record {
  said = take c.loop-done.done c.args.bytes.now;
  rest = drop c.loop-done.done c.args.bytes.now;
  cut = sym (take-append-drop c.loop-done.done c.args.bytes.now);
  less = λ none. omega (arith, length-drop c.loop-done.done c.args.bytes.now, ap length none, c.loop-done-test.true);
  told = c.in-Err.ensures.err ∙ c.loop-done.invariant.told;
}

pub loop-done-preserved : goal.loop-done-preserved
loop-done-preserved g c =
    let bytes = c.args.bytes.now in
    let done = c.loop-done.done in
    let n = c.in-Ok.count in
    let rest = piece done bytes in
    record {
      told = c.in-Ok.ensures.ok ∙ ap (option_map (says _)) c.loop-done.invariant.told ∙ exchanged_twice [] [] (take done bytes) _ false false (g.W.Wire.told c.args.wire.now)
          ∙ ap (λ (l : List ℕ). option_map (exchanged [] l false) (g.W.Wire.told c.args.wire.now)) (ap (λ (l : List ℕ). take done bytes ++ take n l) rest ∙ take_sum done n bytes);
      within = omega (arith, c.in-Ok.ensures.within, ap length rest, length-drop done bytes, c.loop-done-test.true);
      is_open = c.in-Ok.ensures.kept.1;
      listens = c.in-Ok.ensures.kept.0 ∙ c.loop-done.invariant.listens;
      beside = g.met.W.Wire.beside_then c.args.wire.now c.loop-done.wire c.write.new.self c.loop-done.invariant.beside c.write.ensures.beside;
      faults = c.in-Ok.ensures.cause.kept ∙ c.loop-done.invariant.faults;
    }
