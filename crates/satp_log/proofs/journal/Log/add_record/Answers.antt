use Rattle.std.proofs.Common.{◌∙◌, ap, refl, subst, None}
use Rattle.satp_log.specs.Journals.{party_of}
use Rattle.satp_log.specs.Logged.{IsPlaceOf, LogState}
use Rattle.satp_log.proofs.AddLemmas.{found-at, key-is, state-added, state-there}
use Rattle.satp_log.proofs.journal.Log.add_record.Goals as goal

pub add_session-requires : goal.add_session-requires
add_session-requires c =
    subst (λ es. IsPlaceOf es c.args.session None) (c.as_slice.ensures.value ∙ ap (λ (l : LogState). l.entries) c.self.view_is) (subst (IsPlaceOf c.as_slice.result.now c.args.session) c.in-None.is c.place_of.ensures)

pub returns-in-Some-get_mut : goal.returns-in-Some-get_mut
returns-in-Some-get_mut c = λ setup xs log h.
    let s = c.args.session in
    let r = c.args.rec.now in
    let text = c.args.text.now in
    let now = c.args.self.now in
    let held = c.in-Some-get_mut.held.now in
    let place = subst (IsPlaceOf c.as_slice.result.now s) c.in-Some.is c.place_of.ensures in
    let at = found-at setup xs now _ c.self.view_is s r text log h c.as_slice.result.now c.in-Some.index held c.as_slice.ensures.value place c.in-Some-get_mut.ensures.value in
    let there = state-there setup xs now _ c.self.view_is s r text log h c.in-Some.index held at.0 at.1 in
    let added = c.add.ensures (party_of setup) s xs (key-is setup xs now _ c.self.view_is s r text log h c.self.inside.key c.self.invariant) there in
    state-added setup xs now _ c.self.view_is s r text log h c.in-Some.index held (record { session = held.session; state = c.add.new.self }) c.add.result at.0 at.1 refl added
