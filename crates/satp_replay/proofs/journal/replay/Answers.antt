use Rattle.std.proofs.Common.{◌∙◌, ap}
use Rattle.satp_replay.specs.Replaying.{first_line}
use Rattle.satp_replay.proofs.Replayed.{refused-told, replayed, unread-told}
use Rattle.satp_replay.proofs.journal.replay.Goals as goal

pub returns-in_err-payloads : goal.returns-in_err-payloads
returns-in_err-payloads c = unread-told c.args.journal.now c.from_residual.result c.in_err-payloads.field-0.0 c.in_err-payloads.ensures c.from_residual.ensures

pub returns-in_err-log : goal.returns-in_err-log
returns-in_err-log c = refused-told c.args.journal.now c.from_residual-in_err-log.result c.in_ok-payloads.payloads c.in_err-log.field-0.0 c.in_ok-payloads.ensures c.in_err-log.ensures.reads c.from_residual-in_err-log.ensures

pub returns : goal.returns
returns c =
    let (setup, xs, journal, holds) = c.in_ok-log.ensures.reads in (
      c.in_ok-payloads.payloads,
      c.in_ok-payloads.ensures,
      (
        setup,
        xs,
        journal,
        replayed c.in_ok-payloads.payloads setup c.in_ok-log.log.setup xs c.in_ok-text.text c.add_sessions.new.text c.add_count.new.text c.length.result journal holds.setup_is (c.in_ok-text.ensures ∙ ap first_line c.setup.ensures) (c.in_ok-add_sessions.ensures setup xs holds) c.in_ok-add_count.ensures c.length.ensures,
      ),
    )
