use Rattle.std.proofs.Common.{◌++◌, ◌∷◌, ℕ, List, decimal, subst}
use Rattle.satp_base.specs.Values.{name_text}
use Rattle.satp_outcome.specs.Outside.{Printed, sink}
use Rattle.satp_outcome.proofs.Lines.{said_between}
use Rattle.satp_outcome.proofs.saying.say_session.Goals as goal

pub returns-in-Ok : goal.returns-in-Ok
returns-in-Ok g c =
    let before = sink g.K.Sink.faults g.K.Sink.taken g.K.Sink.has_failed c.args.out.now in
    let middle = sink g.K.Sink.faults g.K.Sink.taken g.K.Sink.has_failed c.say_both.new.out in
    let after = sink g.K.Sink.faults g.K.Sink.taken g.K.Sink.has_failed c.say_numbered.new.out in
    said_between c.args.before.now (name_text c.args.session.gateway) (46 ∷ decimal c.args.session.number) c.args.after.now before middle after c.say_numbered.result
    (subst (λ (name : List ℕ). Printed (c.args.before.now ++ name) before middle) c.bytes.ensures c.in-Ok.ensures) c.say_numbered.ensures
