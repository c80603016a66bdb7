use Rattle.std.proofs.Common.{subst}
use Rattle.satp_log.specs.Folding.{BeginAnswers}
use Rattle.satp_log.specs.Journals.{party_of}
use Rattle.satp_log.specs.Logged.{Reserves}
use Rattle.satp_log.proofs.AddLemmas.{counts-are, new-session, party-is, session-added, session-refused, too-many}
use Rattle.satp_log.proofs.journal.Log.add_session.Goals as goal

pub returns-in_default : goal.returns-in_default
returns-in_default c = λ setup xs log h.
    too-many setup xs c.args.self.now _ c.self.view_is c.args.session c.args.rec.now c.args.text.now log h c.counts_with.result c.counts_with.ensures (λ a b e. c.in_default.not-Some (a, b) e)

pub returns-in-Ok-reserve : goal.returns-in-Ok-reserve
returns-in-Ok-reserve c = λ setup xs log h.
    let s = c.args.session in
    let r = c.args.rec.now in
    let text = c.args.text.now in
    let now = c.args.self.now in
    let new = new-session setup xs now _ c.self.view_is s r text log h c.requires in
    let room = (counts-are setup xs now _ c.self.view_is s r text log h c.counts_with.result c.in-Some.started c.in-Some.accepted c.counts_with.ensures c.in-Some.is).room in
    let begun = c.begin.ensures (party_of setup) xs (party-is setup xs now _ c.self.view_is s r text log h c.self.inside.key c.self.invariant) new room in
    session-added setup xs now _ c.self.view_is s r text log h c.reserve.new.self c.enter.new.self c.counts_with.result c.in-Some.started c.in-Some.accepted c.in-Ok.state c.requires c.counts_with.ensures c.in-Some.is
    (subst (BeginAnswers (party_of setup) s xs r text) c.in-Ok.is begun) (subst (Reserves now c.reserve.new.self) c.in-Ok-reserve.is c.reserve.ensures).0 c.enter.ensures

pub returns-in-Err : goal.returns-in-Err
returns-in-Err c = λ setup xs log h.
    let s = c.args.session in
    let r = c.args.rec.now in
    let text = c.args.text.now in
    let now = c.args.self.now in
    let room = (counts-are setup xs now _ c.self.view_is s r text log h c.counts_with.result c.in-Some.started c.in-Some.accepted c.counts_with.ensures c.in-Some.is).room in
    let begun = c.begin.ensures (party_of setup) xs (party-is setup xs now _ c.self.view_is s r text log h c.self.inside.key c.self.invariant) (new-session setup xs now _ c.self.view_is s r text log h c.requires) room in
    session-refused setup xs now _ c.self.view_is s r text log h c.in-Err.misfit (subst (BeginAnswers (party_of setup) s xs r text) c.in-Err.is begun)
