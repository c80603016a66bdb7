use Rattle.std.proofs.Common.{◌∷◌, []}
use Rattle.satp_outcome.specs.Lines.{words_in}
use Rattle.satp_outcome.specs.Outside.{sink}
use Rattle.satp_outcome.proofs.Lines.{said_both}
use Rattle.satp_outcome.proofs.reporting.say_words.Goals as goal

pub returns-in-Ok : goal.returns-in-Ok
returns-in-Ok g c =
    let before = sink g.E.Sink.faults g.E.Sink.taken g.E.Sink.has_failed c.args.err.now in
    let middle = sink g.E.Sink.faults g.E.Sink.taken g.E.Sink.has_failed c.say_phrase.new.out in
    let after = sink g.E.Sink.faults g.E.Sink.taken g.E.Sink.has_failed c.say.new.out in
    said_both (words_in c.args.words) (10 ∷ []) before middle after c.say.result c.in-Ok.ensures c.say.ensures
