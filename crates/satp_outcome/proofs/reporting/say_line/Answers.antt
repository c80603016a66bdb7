use Rattle.std.proofs.Common.{◌++◌, ◌∷◌, []}
use Rattle.std.specs.Prelude.{codes}
use Rattle.satp_outcome.specs.Lines.{words_in}
use Rattle.satp_outcome.specs.Outside.{sink}
use Rattle.satp_outcome.proofs.Lines.{part_of_both, said_both}
use Rattle.satp_outcome.proofs.reporting.say_line.Goals as goal

pub returns-in-Ok : goal.returns-in-Ok
returns-in-Ok g c =
    let before = sink g.E.Sink.faults g.E.Sink.taken g.E.Sink.has_failed c.args.err.now in
    let middle = sink g.E.Sink.faults g.E.Sink.taken g.E.Sink.has_failed c.say.new.out in
    let after = sink g.E.Sink.faults g.E.Sink.taken g.E.Sink.has_failed c.say_words.new.err in
    said_both (codes "satp: ") (words_in c.args.words ++ 10 ∷ []) before middle after c.say_words.result c.in-Ok.ensures c.say_words.ensures

pub returns-in-Err : goal.returns-in-Err
returns-in-Err g c =
    let before = sink g.E.Sink.faults g.E.Sink.taken g.E.Sink.has_failed c.args.err.now in
    let after = sink g.E.Sink.faults g.E.Sink.taken g.E.Sink.has_failed c.say.new.out in
    part_of_both (codes "satp: ") (words_in c.args.words ++ 10 ∷ []) before after c.in-Err.ensures
