use Rattle.std.proofs.Common.{Bool, Ok, subst, refl}
use Rattle.satp_keeper.specs.Replaying.{FollowAnswers, replay_state}
use Rattle.satp_keeper.proofs.Steps.{step_fault, step_on, step_refused}
use Rattle.satp_keeper.proofs.replay.Replay.step.Goals as goal

pub returns-in-Err : goal.returns-in-Err
returns-in-Err g c =
    let f = replay_state g.C.LedgerCore.book c.args.self.now.genesis c.args.self.now.core in
    step_fault c.args.journal.now.held.payloads c.args.index f f c.in-Err.fault c.requires c.in-Err.ensures

pub returns-in-Ok-true : goal.returns-in-Ok-true
returns-in-Ok-true g c =
    let f = replay_state g.C.LedgerCore.book c.args.self.now.genesis c.args.self.now.core in
    let h = replay_state g.C.LedgerCore.book c.follows.new.self.genesis c.follows.new.self.core in
    step_on c.args.journal.now.held.payloads c.args.index f c.in-Ok.stored h c.in-Ok.ensures
    (subst (λ (b : Bool). FollowAnswers f c.in-Ok.stored h (Ok b)) c.in-Ok-true.field-0-test c.in-Ok-true.ensures)

pub returns-in-Ok-false : goal.returns-in-Ok-false
returns-in-Ok-false g c =
    let f = replay_state g.C.LedgerCore.book c.args.self.now.genesis c.args.self.now.core in
    let h = replay_state g.C.LedgerCore.book c.follows.new.self.genesis c.follows.new.self.core in (
      refl,
      step_refused c.args.journal.now.held.payloads c.args.index f c.in-Ok.stored c.in-Ok.ensures
          (subst (λ (b : Bool). FollowAnswers f c.in-Ok.stored h (Ok b)) c.in-Ok-false.field-0-test c.in-Ok-false.ensures),
    )
