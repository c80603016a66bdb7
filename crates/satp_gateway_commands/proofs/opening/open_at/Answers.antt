use Rattle.std.proofs.Common.{◌∙◌, arith, subst, sym}
use Rattle.satp_base.specs.Streams.{Rose}
use Rattle.satp_points.specs.States.{tells}
use Rattle.satp_outcome.specs.Outside.{site_state}
use Rattle.satp_gateway_commands.specs.AtGateway.{NotOpened, tells_of}
use Rattle.satp_gateway_commands.proofs.Openings.{enters, is_not_opened, is_opened}
use Rattle.satp_gateway_commands.proofs.opening.open_at.Goals as goal

pub returns-in-Ok-open-clause-opened : goal.returns-in-Ok-open-clause-opened
returns-in-Ok-open-clause-opened g c =
    let before = site_state g.S.Device.faults g.S.Device.told g.S.Device.book c.args.site.now in
    let inside = tells (g.S.Device.told c.enter.new.self) (g.S.Device.book c.enter.new.self) in
    let after = site_state g.S.Device.faults g.S.Device.told g.S.Device.book c.open.new.site in
    let there = enters c.args.dir.now c.bytes.result.now (tells_of before) inside c.bytes.ensures c.in-Ok.ensures.ok c.in-Ok.ensures.ledger in
    let opened = c.in-Ok-open.ensures in
    is_opened c.args.dir.now before inside after there c.in-Ok-open.gateway opened.answers opened.decided opened.at opened.whole opened.within opened.ledger (opened.kept ∙ c.in-Ok.ensures.cause.kept)

pub returns-in-Ok-open-clause-beside : goal.returns-in-Ok-open-clause-beside
returns-in-Ok-open-clause-beside g c = g.S.Device.beside_then c.args.site.now c.enter.new.self c.open.new.site c.in-Ok.ensures.beside c.in-Ok-open.ensures.beside

pub returns-in-Err-clause-not_opened : goal.returns-in-Err-clause-not_opened
returns-in-Err-clause-not_opened g c =
    let before = site_state g.S.Device.faults g.S.Device.told g.S.Device.book c.args.site.now in
    let inside = tells (g.S.Device.told c.enter.new.self) (g.S.Device.book c.enter.new.self) in
    let after = site_state g.S.Device.faults g.S.Device.told g.S.Device.book c.open.new.site in
    let there = enters c.args.dir.now c.bytes.result.now (tells_of before) inside c.bytes.ensures c.in-Ok.ensures.ok c.in-Ok.ensures.ledger in
    let failed = c.in-Err.ensures in
    let so_far = c.in-Ok.ensures.cause.kept in
    subst (NotOpened c.args.dir.now before after) (sym c.open_outcome.ensures)
    (is_not_opened c.args.dir.now before inside after there c.in-Err.fault failed.answers failed.decided failed.ledger (omega (arith, so_far, failed.later)) (λ e. subst (λ n. Rose n (g.S.Device.faults c.open.new.site)) so_far (failed.cause e)) (λ other. failed.still other ∙ so_far))
