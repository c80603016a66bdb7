use Rattle.std.proofs.Common.{◌∙◌, ap, subst}
use Rattle.std.specs.Option.{option_copied}
use Rattle.satp_chain.specs.Chained.{Chained, texts_in}
use Rattle.satp_sides.specs.Calls.{text_of}
use Rattle.satp_log.specs.Journals.{party_of}
use Rattle.satp_log.specs.Logged.{FoundIn}
use Rattle.satp_log.proofs.Places.{text-found}
use Rattle.satp_log.proofs.journal.Log.text.Goals as goal

pub returns-in-Some : goal.returns-in-Some
returns-in-Some c = λ setup xs h.
    text-found (party_of setup) c.args.session xs c.in-Some.state.now c.args.place (option_copied c.text_at.result) (c.text_at.ensures ∙ ap (λ (ch : Chained). text_of (texts_in ch) c.args.place) c.chain.ensures)
    (subst (λ r. FoundIn (party_of setup) c.args.session xs (option_copied r)) c.in-Some.is (c.find.ensures.found setup xs h))
