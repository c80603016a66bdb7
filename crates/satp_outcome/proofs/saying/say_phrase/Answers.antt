use Rattle.satp_outcome.specs.Outside.{sink}
use Rattle.satp_phrases.specs.Phrases.{detail_text}
use Rattle.satp_outcome.proofs.Lines.{said_between}
use Rattle.satp_outcome.proofs.saying.say_phrase.Goals as goal

pub returns-in-Ok : goal.returns-in-Ok
returns-in-Ok g c =
    let before = sink g.K.Sink.faults g.K.Sink.taken g.K.Sink.has_failed c.args.out.now in
    let middle = sink g.K.Sink.faults g.K.Sink.taken g.K.Sink.has_failed c.say_both.new.out in
    let after = sink g.K.Sink.faults g.K.Sink.taken g.K.Sink.has_failed c.say_detail.new.out in
    said_between c.args.before.now c.args.phrase.text.now (detail_text c.args.phrase.detail) c.args.after.now before middle after c.say_detail.result c.in-Ok.ensures c.say_detail.ensures
