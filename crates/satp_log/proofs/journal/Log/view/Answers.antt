use Rattle.std.proofs.Common.{subst}
use Rattle.std.specs.Option.{option_copied}
use Rattle.satp_log.specs.Journals.{party_of}
use Rattle.satp_log.specs.Logged.{FoundIn}
use Rattle.satp_log.proofs.Places.{view-found}
use Rattle.satp_log.proofs.journal.Log.view.Goals as goal

pub returns-in-Some : goal.returns-in-Some
returns-in-Some c = λ setup xs h.
    view-found (party_of setup) c.args.session xs c.in-Some.state.now c.view.result.now c.view.ensures
    (subst (λ r. FoundIn (party_of setup) c.args.session xs (option_copied r)) c.in-Some.is (c.find.ensures.found setup xs h))
