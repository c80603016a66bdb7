use Rattle.satp_engine.proofs.Keeping.{held-keeps, held-some}
use Rattle.satp_engine.proofs.register.Register.log.Goals as goal

pub returns-clause-holds : goal.returns-clause-holds
returns-clause-holds c = λ setup xs h. let k = held-keeps c.self.inside.records c.self.inside.broken c.args.self.now setup xs c.self.view_is c.self.invariant.0 h in (k.log, k.journal.log)

pub returns-clause-some : goal.returns-clause-some
returns-clause-some c = held-some c.self.inside.records c.self.inside.broken c.args.self.now c.self.view_is c.self.invariant.0
