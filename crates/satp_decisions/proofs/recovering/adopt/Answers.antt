use Rattle.std.proofs.Common.{◌∙◌, Some, ap, sym, subst}
use Rattle.std.specs.Option.{option_copied}
use Rattle.satp_base.specs.declared.message.Body.TheVariants as body
use Rattle.satp_log.specs.Journals.{party_of}
use Rattle.satp_decisions.specs.Steps.{FoundEntry}
use Rattle.satp_decisions.specs.Tests.{HasEntry}
use Rattle.satp_decisions.proofs.RecoverLemmas.{adopts-refused, adopts-taken, anyhow, entry-next, key-back, one-is, read-entry}
use Rattle.satp_decisions.proofs.recovering.adopt.Goals as goal

pub take-requires-clause-own : goal.take-requires-clause-own
take-requires-clause-own c =
    let (setup, xs, h) = c.requires.holds in
    let found = subst (FoundEntry (party_of setup) xs c.args.session c.bytes.result.now) c.in-Ok-Some.field-0-is (c.in-Ok-Some.ensures setup xs h) in
    key-back c.args.log.now setup xs c.in-Ok-Some.signed.text c.in-Ok-Some.signed.message h found.0

pub take-requires-clause-next : goal.take-requires-clause-next
take-requires-clause-next c = λ setup xs h.
    entry-next (party_of setup) xs c.args.session c.bytes.result.now c.in-Ok-Some.signed (subst (FoundEntry (party_of setup) xs c.args.session c.bytes.result.now) c.in-Ok-Some.field-0-is (c.in-Ok-Some.ensures setup xs h))

pub returns-in-Ok-Some-clause-adopts : goal.returns-in-Ok-Some-clause-adopts
returns-in-Ok-Some-clause-adopts c = λ setup xs h formed log n e of known.
    let at = sym c.get.ensures ∙ ap option_copied c.in-Some.is ∙ ap Some (sym c.bytes.ensures) in
    adopts-taken (party_of setup) xs c.args.session c.args.entries.now c.bytes.result.now (one-is c.args.entries.now c.bytes.result.now c.requires.one at) n c.args.place e of c.in-Ok-Some.signed c.take.result
    (subst (FoundEntry (party_of setup) xs c.args.session c.bytes.result.now) c.in-Ok-Some.field-0-is (c.in-Ok-Some.ensures setup xs h)) known (λ peer. c.take.ensures.takes setup xs h formed log peer)

pub returns-in-Ok-None-clause-adopts : goal.returns-in-Ok-None-clause-adopts
returns-in-Ok-None-clause-adopts c = λ setup xs h formed log n e of known.
    let at = sym c.get.ensures ∙ ap option_copied c.in-Some.is ∙ ap Some (sym c.bytes.ensures) in
    adopts-refused (party_of setup) xs c.args.session c.args.entries.now c.bytes.result.now (one-is c.args.entries.now c.bytes.result.now c.requires.one at) n c.args.place e of
    (subst (FoundEntry (party_of setup) xs c.args.session c.bytes.result.now) c.in-Ok-None.field-0-is (c.in-Ok-None.ensures setup xs h))

pub returns-in-Ok-Some-clause-entry : goal.returns-in-Ok-Some-clause-entry
returns-in-Ok-Some-clause-entry c = λ n.
    let (setup, xs, h) = c.requires.holds in
    let at = sym c.get.ensures ∙ ap option_copied c.in-Some.is ∙ ap Some (sym c.bytes.ensures) in
    let found = subst (FoundEntry (party_of setup) xs c.args.session c.bytes.result.now) c.in-Ok-Some.field-0-is (c.in-Ok-Some.ensures setup xs h) in
    anyhow c.take.result (HasEntry c.args.log.now.setup.key (body.Update n c.args.entries.now))
    (read-entry c.args.log.now.setup.key n c.args.entries.now c.bytes.result.now c.in-Ok-Some.signed (one-is c.args.entries.now c.bytes.result.now c.requires.one at) found.1
    (key-back c.args.log.now setup xs c.in-Ok-Some.signed.text c.in-Ok-Some.signed.message h found.0))
