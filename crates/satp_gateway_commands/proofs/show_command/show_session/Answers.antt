use Rattle.std.proofs.Common.{◌∙◌, ℕ, List, refl, subst, sym}
use Rattle.satp_outcome.specs.Outside.{Printed, PrintedPart, sink}
use Rattle.satp_gateway_commands.proofs.show_command.show_session.Goals as goal

pub returns-in_default-look-clause-works : goal.returns-in_default-look-clause-works
returns-in_default-look-clause-works g c = λ input wire.
    let failed = c.in_default-look.ensures in
    ((c.in-Some.view, λ setup xs holds. sym (c.show.ensures setup xs holds) ∙ c.in-Some.is), record { told = failed.told; book = failed.ledger; rose = failed.cause.failed }, (refl, refl))

pub returns-in-Err-clause-works : goal.returns-in-Err-clause-works
returns-in-Err-clause-works g c = λ input wire.
    let looked = c.in-Ok.ensures in
    ((c.in-Some.view, c.in-Ok.entry, (λ setup xs holds. sym (c.show.ensures setup xs holds) ∙ c.in-Some.is), record { found = looked.entry; told = looked.told; book = looked.ledger; faults = looked.cause.kept }, tt), (refl, refl))

pub returns-in-Ok-say-clause-works : goal.returns-in-Ok-say-clause-works
returns-in-Ok-say-clause-works g c = λ input wire.
    let looked = c.in-Ok.ensures in
    let before = sink g.K.Sink.faults g.K.Sink.taken g.K.Sink.has_failed c.args.out.now in
    let after = sink g.K.Sink.faults g.K.Sink.taken g.K.Sink.has_failed c.say.new.out in
    let printed = subst (λ (lines : List ℕ). Printed lines before after) (c.bytes.ensures ∙ c.in-Ok-show_lines.ensures) c.in-Ok-say.ensures in
    ((c.in-Some.view, c.in-Ok.entry, (λ setup xs holds. sym (c.show.ensures setup xs holds) ∙ c.in-Some.is), record { found = looked.entry; told = looked.told; book = looked.ledger; faults = looked.cause.kept }, printed), (refl, refl))

pub returns-clause-works : goal.returns-clause-works
returns-clause-works g c = λ input wire.
    let looked = c.in-Ok.ensures in
    let before = sink g.K.Sink.faults g.K.Sink.taken g.K.Sink.has_failed c.args.out.now in
    let after = sink g.K.Sink.faults g.K.Sink.taken g.K.Sink.has_failed c.say.new.out in
    let part = subst (λ (lines : List ℕ). PrintedPart lines before after) (c.bytes.ensures ∙ c.in-Ok-show_lines.ensures) c.in-Err-say.ensures in
    ((c.in-Some.view, c.in-Ok.entry, (λ setup xs holds. sym (c.show.ensures setup xs holds) ∙ c.in-Some.is), record { found = looked.entry; told = looked.told; book = looked.ledger; faults = looked.cause.kept }, part), (refl, refl))
