use Rattle.std.proofs.Common.{Err, Ok, subst, sym}
use Rattle.satp_journal.specs.State.{Fits}
use Rattle.satp_points.specs.States.{tells}
use Rattle.satp_gateway.specs.Opening.{OpenDecided}
use Rattle.satp_gateway.proofs.Openings.{before, decided, given-on}
use Rattle.satp_gateway.proofs.Raising.{asked_stays, at_some, not_raised, raised, within_stays}
use Rattle.satp_gateway.proofs.gateway.Gateway.open.Goals as goal

pub returns-in_err-journal-clause-decided : goal.returns-in_err-journal-clause-decided
returns-in_err-journal-clause-decided g c =
    let old = tells (g.S.Device.told c.args.site.now) (g.S.Device.book c.args.site.now) in
    let new = tells (g.S.Device.told c.open_journal.new.site) (g.S.Device.book c.open_journal.new.site) in
    let e = c.in_err-journal.field-0.0 in
    subst (OpenDecided old.told) (sym (given-on c.from_residual.result e c.from_residual.ensures)) (decided old new (Err e) (before old new e c.in_err-journal.ensures.opens))

pub returns-in-Ok-clause-answers : goal.returns-in-Ok-clause-answers
returns-in-Ok-clause-answers g c =
    let old = tells (g.S.Device.told c.args.site.now) (g.S.Device.book c.args.site.now) in
    let opened = g.S.Device.told c.open_journal.new.site in
    let new = tells (g.S.Device.told c.raise.new.self) (g.S.Device.book c.raise.new.self) in
    raised old new opened c.in_ok-journal.journal c.in_ok-journal.log c.of.result c.in_ok-journal.ensures.opens c.of.ensures c.in-Ok.ensures.told

pub returns-in-Ok-clause-decided : goal.returns-in-Ok-clause-decided
returns-in-Ok-clause-decided g c =
    let old = tells (g.S.Device.told c.args.site.now) (g.S.Device.book c.args.site.now) in
    let opened = g.S.Device.told c.open_journal.new.site in
    let new = tells (g.S.Device.told c.raise.new.self) (g.S.Device.book c.raise.new.self) in
    decided old new (Ok c.of.result) (raised old new opened c.in_ok-journal.journal c.in_ok-journal.log c.of.result c.in_ok-journal.ensures.opens c.of.ensures c.in-Ok.ensures.told)

pub returns-in-Ok-clause-at : goal.returns-in-Ok-clause-at
returns-in-Ok-clause-at g c =
    let old = g.S.Device.told c.args.site.now in
    let opened = g.S.Device.told c.open_journal.new.site in
    let new = g.S.Device.told c.raise.new.self in
    at_some opened new (g.S.Device.book c.raise.new.self) c.in_ok-journal.journal c.in_ok-journal.log old c.of.result c.in_ok-journal.ensures.opens c.of.ensures (asked_stays opened new c.in-Ok.ensures.told) c.in_ok-journal.ensures.rests

pub returns-in-Ok-clause-within : goal.returns-in-Ok-clause-within
returns-in-Ok-clause-within g c =
    let opened = g.S.Device.told c.open_journal.new.site in
    let new = g.S.Device.told c.raise.new.self in
    within_stays c.of.result opened new (asked_stays opened new c.in-Ok.ensures.told) (subst (λ h. Fits h opened) (sym c.of.ensures) c.in_ok-journal.ensures.fits)

pub returns-in-Ok-clause-beside : goal.returns-in-Ok-clause-beside
returns-in-Ok-clause-beside g c = g.S.Device.beside_then c.args.site.now c.open_journal.new.site c.raise.new.self c.in_ok-journal.ensures.beside c.raise.ensures.beside

pub returns-in-Err-clause-answers : goal.returns-in-Err-clause-answers
returns-in-Err-clause-answers g c =
    let old = tells (g.S.Device.told c.args.site.now) (g.S.Device.book c.args.site.now) in
    let opened = g.S.Device.told c.open_journal.new.site in
    let new = tells (g.S.Device.told c.raise.new.self) (g.S.Device.book c.raise.new.self) in not_raised old new opened c.in_ok-journal.journal c.in_ok-journal.log c.in_ok-journal.ensures.opens c.in-Err.ensures.told
