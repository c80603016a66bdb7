use Rattle.std.proofs.Common.{◌∙◌, ap, subst, Some, None}
use Rattle.satp_log.specs.Logged.{IsPlaceOf, LogState}
use Rattle.satp_log.proofs.Places.{found-in, no-place-state, place-state}
use Rattle.satp_log.proofs.journal.Log.find.Goals as goal

pub returns-in-Some-get-clause-state : goal.returns-in-Some-get-clause-state
returns-in-Some-get-clause-state c =
    let entries = ap (λ (l : LogState). l.entries) c.self.view_is in
    place-state c.args.self.now c.as_slice.result.now c.deref.result.now c.in-Some.index c.in-Some-get.held.now c.args.session (c.as_slice.ensures.value ∙ entries) (c.deref.ensures.value ∙ entries)
    (subst (IsPlaceOf c.as_slice.result.now c.args.session) c.in-Some.is c.place_of.ensures) c.in-Some-get.ensures.lookup.1

pub returns-in-Some-get-clause-found : goal.returns-in-Some-get-clause-found
returns-in-Some-get-clause-found c = λ setup xs h.
    let entries = ap (λ (l : LogState). l.entries) c.self.view_is in
    found-in c.args.self.now setup xs c.args.session (Some c.in-Some-get.held.now.state)
    (place-state c.args.self.now c.as_slice.result.now c.deref.result.now c.in-Some.index c.in-Some-get.held.now c.args.session (c.as_slice.ensures.value ∙ entries) (c.deref.ensures.value ∙ entries)
    (subst (IsPlaceOf c.as_slice.result.now c.args.session) c.in-Some.is c.place_of.ensures) c.in-Some-get.ensures.lookup.1) h

pub returns-in-None-clause-state : goal.returns-in-None-clause-state
returns-in-None-clause-state c =
    no-place-state c.args.self.now c.as_slice.result.now c.args.session (c.as_slice.ensures.value ∙ ap (λ (l : LogState). l.entries) c.self.view_is) (subst (IsPlaceOf c.as_slice.result.now c.args.session) c.in-None.is c.place_of.ensures)

pub returns-in-None-clause-found : goal.returns-in-None-clause-found
returns-in-None-clause-found c = λ setup xs h.
    found-in c.args.self.now setup xs c.args.session None
    (no-place-state c.args.self.now c.as_slice.result.now c.args.session (c.as_slice.ensures.value ∙ ap (λ (l : LogState). l.entries) c.self.view_is) (subst (IsPlaceOf c.as_slice.result.now c.args.session) c.in-None.is c.place_of.ensures)) h
