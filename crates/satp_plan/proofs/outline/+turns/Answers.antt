use Rattle.std.proofs.Common.{refl, sym, ◌∙◌, ◌≡◌, ◌-◌, ap, arith, subst}
use Rattle.std.proofs.lemmas.Result.{on_ok_weaker}
use Rattle.satp_base.specs.Roles.{next_of}
use Rattle.satp_base.specs.Roles.RoleRule.{Due, Answered}
use Rattle.satp_base.specs.declared.ledger.Answer.TheVariants as answer
use Rattle.satp_base.specs.declared.ledger.Entry.TheVariants.{Absent}
use Rattle.satp_base.specs.declared.ledger.LedgerOp.TheVariants.{Mint}
use Rattle.satp_base.specs.declared.record.Next.TheVariants.{Append}
use Rattle.satp_base.specs.declared.record.Rec.TheVariants.{Made}
use Rattle.satp_sides.specs.DueLaws.{Rests}
use Rattle.satp_plan.proofs.Collecting.{act-turn, done-added, due-note, lock-added, made-turn, mint-added, note-turn, reached-after, rec-added, refused-added, refused-rule, rest-turn}
use Rattle.satp_plan.proofs.outline.+turns.Goals as goal

pub add_answers-add_rec-requires : goal.add_answers-add_rec-requires
add_answers-add_rec-requires t c = (omega (arith, c.decreases), (c.requires.reached, (Answered c.args.op answer.Done c.requires.due refl, tt)))

pub add_answers-add_rec-requires-in-Lock : goal.add_answers-add_rec-requires-in-Lock
add_answers-add_rec-requires-in-Lock t c = (omega (arith, c.decreases), (c.requires.reached, (refused-rule c.args.view.now c.args.op c.requires.due c.in-Lock.is, tt)))

pub add_answers-returns-in-Lock : goal.add_answers-returns-in-Lock
add_answers-returns-in-Lock t c = on_ok_weaker c.add_rec-in-Lock.result
    (lock-added c.args.turns c.args.view.now c.args.outline.now c.add_rec.new.outline c.add_rec-in-Lock.new.outline c.args.op c.in-Lock.is c.in_ok-add_rec.ensures) c.add_rec-in-Lock.ensures

pub add_answers-returns-in-Mint : goal.add_answers-returns-in-Mint
add_answers-returns-in-Mint t c = on_ok_weaker c.add_mint_refused.result
    (mint-added c.args.turns c.args.view.now c.args.outline.now c.add_rec.new.outline c.add_mint_refused.new.outline c.args.op c.in-Mint.is c.in_ok-add_rec.ensures) c.add_mint_refused.ensures

pub add_answers-returns-in_default : goal.add_answers-returns-in_default
add_answers-returns-in_default t c =
    done-added c.args.turns c.args.view.now c.args.outline.now c.add_rec.new.outline c.add_rec.new.outline c.args.op c.in_default.not-Lock c.in_default.not-Mint c.in_ok-add_rec.ensures

pub add_mint_refused-add_rec-requires : goal.add_mint_refused-add_rec-requires
add_mint_refused-add_rec-requires t c = (omega (arith, c.decreases), (c.requires.reached, (Answered Mint answer.UnknownAsset c.requires.due refl, tt)))

pub add_mint_refused-add_rec-requires-2 : goal.add_mint_refused-add_rec-requires-2
add_mint_refused-add_rec-requires-2 t c = (omega (arith, c.decreases), (c.requires.reached, (Answered Mint (answer.Capped 0) c.requires.due refl, tt)))

pub add_mint_refused-add_rec-requires-3 : goal.add_mint_refused-add_rec-requires-3
add_mint_refused-add_rec-requires-3 t c = (omega (arith, c.decreases), (c.requires.reached, (Answered Mint (answer.Taken Absent) c.requires.due refl, tt)))

pub add_mint_refused-returns : goal.add_mint_refused-returns
add_mint_refused-returns t c = on_ok_weaker c.add_rec-3.result
    (refused-added c.args.turns c.args.view.now c.args.outline.now c.add_rec.new.outline c.add_rec-2.new.outline c.add_rec-3.new.outline c.in_ok-add_rec.ensures c.in_ok-add_rec-2.ensures) c.add_rec-3.ensures

pub add_rec-add_turns-requires : goal.add_rec-add_turns-requires
add_rec-add_turns-requires t c = (omega (arith, c.decreases), reached-after c.args.view.now c.push-2.new.self c.args.rec c.push-2.ensures c.requires.reached c.requires.rule)

pub add_rec-returns : goal.add_rec-returns
add_rec-returns t c = on_ok_weaker c.add_turns.result
    (rec-added c.args.turns c.args.view.now c.push-2.new.self c.args.rec c.args.outline.now (record { recs = c.push.new.self; parts = c.args.outline.now.parts }) c.add_turns.new.outline c.in_ok-push.ensures.items refl c.requires.note c.push-2.ensures) c.add_turns.ensures

pub add_turns-add_rec-requires : goal.add_turns-add_rec-requires
add_turns-add_rec-requires t c =
    let due : next_of c.args.view.now.role c.args.view.now ≡ Append c.in-Append.rec = sym c.next.ensures ∙ c.in-Append.is in
    (omega (arith, c.decreases, c.if-turns-eq0.false), (c.requires, (Due due, due-note c.args.view.now c.in-Append.rec due c.in_default.not-Made)))

pub add_turns-returns-in-Made : goal.add_turns-returns-in-Made
add_turns-returns-in-Made t c =
    let due : next_of c.args.view.now.role c.args.view.now ≡ Append (Made c.in-Made.kind) = sym c.next.ensures ∙ c.in-Append.is ∙ ap Append c.in-Made.is in
    on_ok_weaker c.add_part.result
    (made-turn c.args.turns (c.args.turns - 1) (omega (arith, c.if-turns-eq0.false)) c.args.view.now c.args.outline.now c.add_part.new.outline c.in-Made.kind due) c.add_part.ensures

pub add_turns-returns-in_default : goal.add_turns-returns-in_default
add_turns-returns-in_default t c =
    let due : next_of c.args.view.now.role c.args.view.now ≡ Append c.in-Append.rec = sym c.next.ensures ∙ c.in-Append.is in
    on_ok_weaker c.add_rec.result
    (note-turn c.args.turns (c.args.turns - 1) (omega (arith, c.if-turns-eq0.false)) c.args.view.now c.args.outline.now c.add_rec.new.outline c.in-Append.rec due (due-note c.args.view.now c.in-Append.rec due c.in_default.not-Made)) c.add_rec.ensures

pub add_turns-returns-in-Act : goal.add_turns-returns-in-Act
add_turns-returns-in-Act t c = on_ok_weaker c.add_answers.result
    (act-turn c.args.turns (c.args.turns - 1) (omega (arith, c.if-turns-eq0.false)) c.args.view.now c.args.outline.now c.add_answers.new.outline c.in-Act.op (sym c.next.ensures ∙ c.in-Act.is)) c.add_answers.ensures

pub add_turns-returns-in-Wait : goal.add_turns-returns-in-Wait
add_turns-returns-in-Wait t c = rest-turn c.args.turns c.args.view.now c.args.outline.now (subst Rests c.next.ensures c.in-Wait.is)
