use Rattle.std.proofs.Common.{[], Some, None}
use Rattle.satp_log.specs.Folding.{State}
use Rattle.satp_log.proofs.Folds.{has-of, keeps, message-pushed, note-pushed, sound-after, sound-noted, there-next}
use Rattle.satp_log.proofs.state.SessionState.push.Goals as goal

pub push-requires-in-Some-clause-tale : goal.push-requires-in-Some-clause-tale
push-requires-in-Some-clause-tale c = keeps c.self.inside.view c.self.inside.chain c.args.rec c.self.invariant (there-next c.args.self.now (record { view = c.self.inside.view; chain = c.self.inside.chain }) c.args.rec c.args.message c.self.view_is c.requires).1.rule

pub invariant_of-self : goal.invariant_of-self
invariant_of-self c =
    let inside : State = record { view = c.self.inside.view; chain = c.self.inside.chain } in
    let (key, n) = there-next c.args.self.now (record { view = c.self.inside.view; chain = c.self.inside.chain }) c.args.rec c.args.message c.self.view_is c.requires in
    sound-after inside key c.args.rec c.in-Some.signed.text c.in-Some.signed c.push-in-Some.new.self c.push.new.self n.rule (has-of inside key c.args.rec c.args.message (Some c.in-Some.signed) c.in-Some.is n) c.self.invariant c.push-in-Some.ensures
    c.push.ensures.pushed

pub push-requires-in-None-clause-allowed : goal.push-requires-in-None-clause-allowed
push-requires-in-None-clause-allowed c = (there-next c.args.self.now (record { view = c.self.inside.view; chain = c.self.inside.chain }) c.args.rec c.args.message c.self.view_is c.requires).1.rule

pub invariant_of-self-in-None : goal.invariant_of-self-in-None
invariant_of-self-in-None c =
    let inside : State = record { view = c.self.inside.view; chain = c.self.inside.chain } in
    let (key, n) = there-next c.args.self.now (record { view = c.self.inside.view; chain = c.self.inside.chain }) c.args.rec c.args.message c.self.view_is c.requires in
    sound-noted inside key c.args.rec [] c.push-in-None.new.self n.rule (has-of inside key c.args.rec c.args.message None c.in-None.is n) c.self.invariant c.push-in-None.ensures

pub returns-in-Some-clause-more : goal.returns-in-Some-clause-more
returns-in-Some-clause-more c = λ p s xs h n.
    message-pushed p s xs c.args.self.now (record { view = c.self.inside.view; chain = c.self.inside.chain }) c.args.rec c.args.message c.in-Some.signed c.push-in-Some.new.self c.push.new.self c.self.view_is h c.in-Some.is n c.self.invariant c.push-in-Some.ensures c.push.ensures.pushed
    c.push.ensures.chain

pub returns-in-None-clause-more : goal.returns-in-None-clause-more
returns-in-None-clause-more c = λ p s xs h n.
    note-pushed p s xs c.args.self.now (record { view = c.self.inside.view; chain = c.self.inside.chain }) c.args.rec c.args.message c.push-in-None.new.self c.self.view_is h c.in-None.is n c.self.invariant c.push-in-None.ensures
