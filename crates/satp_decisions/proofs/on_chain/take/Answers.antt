use Rattle.std.proofs.Common.{◌∙◌, sym}
use Rattle.satp_log.specs.Journals.{party_of}
use Rattle.satp_decisions.proofs.Found.{key-is}
use Rattle.satp_decisions.proofs.Naming.{peer-session}
use Rattle.satp_decisions.proofs.TakeLemmas.{not-proposed, take-first, take-named}
use Rattle.satp_decisions.proofs.on_chain.take.Goals as goal

pub unreachable-requires : goal.unreachable-requires
unreachable-requires c =
    let (setup, xs, h) = c.requires.holds in
    not-proposed (party_of setup) xs c.args.signed.message.session c.args.signed.message c.args.signed.text c.requires.own.0 (c.in-None.ensures.found setup xs h) (c.requires.next setup xs h) (sym c.terms_of.ensures ∙ c.in-None-terms_of.is)

pub returns-in-Some-clause-takes : goal.returns-in-Some-clause-takes
returns-in-Some-clause-takes c = λ setup xs h formed log peer.
    take-named (party_of setup) formed.2 xs log c.args.signed (key-is c.args.log.now setup xs c.args.signed.text c.args.signed.message h c.requires.own) (c.requires.next setup xs h) peer _ (c.in-Some.ensures.found setup xs h).slot

pub returns-in-Some-terms_of-clause-takes : goal.returns-in-Some-terms_of-clause-takes
returns-in-Some-terms_of-clause-takes c = λ setup xs h formed log peer.
    let none = c.in-None.ensures.found setup xs h in
    take-first (party_of setup) formed.2 xs log c.args.signed (key-is c.args.log.now setup xs c.args.signed.text c.args.signed.message h c.requires.own) (c.requires.next setup xs h) peer c.in-Some-terms_of.terms none (sym c.terms_of.ensures ∙ c.in-Some-terms_of.is) c.begin.result
    (c.begin.ensures.begins setup xs h formed log none (peer-session (party_of setup) xs c.args.signed.message.session peer.known none))
