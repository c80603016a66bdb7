use Rattle.std.proofs.Common.{refl}
use Rattle.satp_log.specs.Journals.{party_of}
use Rattle.satp_engine.proofs.RegisterLemmas.{closing-text, whole-named}
use Rattle.satp_engine.proofs.register.Register.closing.Goals as goal

pub state-state-requires : goal.state-state-requires
state-state-requires c = whole-named c.self.inside.records c.self.inside.broken c.args.self.now c.self.view_is c.self.invariant.0 c.args.session c.requires.whole

pub returns : goal.returns
returns c =
    closing-text c.self.inside.records c.self.inside.broken c.args.self.now c.self.view_is c.self.invariant.0 c.args.session c.state-state.result.now c.chain.result.now c.success.result c.state-state.ensures c.chain.ensures
    (c.success.ensures (party_of c.self.inside.records.log.setup) refl)
