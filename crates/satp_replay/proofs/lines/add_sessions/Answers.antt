use Rattle.std.proofs.Common.{◌∙◌, sym, arith}
use Rattle.satp_replay.proofs.Sessions.{all-lines, few-sessions, missing, next-line, sessions-begun}
use Rattle.satp_replay.proofs.lines.add_sessions.Goals as goal

pub overflow_add-index-end : goal.overflow_add-index-end
overflow_add-index-end c =
    let (p, setup, xs, log, holds) = c.requires in
    let h = few-sessions p xs c.started.result c.accepted.result log (c.started.ensures.begun setup xs holds) (c.accepted.ensures.begun setup xs holds) in
    omega (arith, h)

pub unreachable-requires : goal.unreachable-requires
unreachable-requires c =
    let (p, setup, xs, log, holds) = c.requires in
    let all = sessions-begun xs in
    let a = c.started.ensures.begun setup xs holds in
    let b = c.accepted.ensures.begun setup xs holds in
    let less = c.loop-index-test.true in
    missing _ c.loop-index.index (omega (arith, all, a, b, less)) (sym c.in_default.is ∙ c.session.ensures setup xs holds)

pub loop-index-preserved : goal.loop-index-preserved
loop-index-preserved c setup xs holds =
    next-line xs c.loop-index.index c.in-Some.session c.args.text.now c.loop-index.text c.add_line.new.text c.view.result (sym c.in-Some.is ∙ c.session.ensures setup xs holds) (c.view.ensures setup xs holds)
    (c.loop-index.invariant setup xs holds) c.in_ok-add_line.ensures

pub returns : goal.returns
returns c setup xs holds =
    let a = c.started.ensures.begun setup xs holds in
    let b = c.accepted.ensures.begun setup xs holds in
    let most = c.loop-index-test.false in
    let within = c.loop-index.auto.index-end in
    all-lines xs c.loop-index.index c.args.text.now c.loop-index.text (omega (arith, a, b, most, within)) (c.loop-index.invariant setup xs holds)
