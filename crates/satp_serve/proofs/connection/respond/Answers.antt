use Rattle.std.proofs.Common.{List, ℕ, subst}
use Rattle.satp_serve.specs.Connections.{SaysLast}
use Rattle.satp_serve.proofs.connection.respond.Goals as goal

pub returns-in-Err-Site-clause-responds : goal.returns-in-Err-Site-clause-responds
returns-in-Err-Site-clause-responds g c =
    (rw c.in-Err-Site.field-0-is at c.in-Err-Site.ensures.answers c.requires.unclosed, subst (λ (l : List ℕ). SaysLast l (g.W.Wire.told c.args.wire.now) (g.W.Wire.told c.say_last.new.wire) (g.W.Wire.faults c.args.wire.now) (g.W.Wire.faults c.say_last.new.wire)) c.bytes-in-Err-Site.ensures c.say_last.ensures.says)

pub returns-in-Err-Memory-clause-responds : goal.returns-in-Err-Memory-clause-responds
returns-in-Err-Memory-clause-responds g c =
    (rw c.in-Err-Memory.field-0-is at c.in-Err-Memory.ensures.answers c.requires.unclosed, subst (λ (l : List ℕ). SaysLast l (g.W.Wire.told c.args.wire.now) (g.W.Wire.told c.say_last-in-Err-Memory.new.wire) (g.W.Wire.faults c.args.wire.now) (g.W.Wire.faults c.say_last-in-Err-Memory.new.wire)) c.bytes-in-Err-Memory.ensures c.say_last-in-Err-Memory.ensures.says)
