use Rattle.std.proofs.Common.{◌∙◌, ap, refl, subst, Ok, arith}
use Rattle.satp_records.specs.declared.stored.Setup.{Setup}
use Rattle.satp_log.specs.Folding.{IsNextOf, text_with}
use Rattle.satp_log.specs.Journals.{party_of}
use Rattle.satp_log.specs.Logged.{IsPlaceOf, LogState}
use Rattle.satp_log.proofs.AddLemmas.{found-at, state-added, state-there}
use Rattle.satp_log.proofs.Places.{coming-next, none-coming, place-state, place-within, pushed-state}
use Rattle.satp_log.proofs.journal.Log.push.Goals as goal

pub push-requires : goal.push-requires
push-requires c =
    let entries = ap (λ (l : LogState). l.entries) c.self.view_is in (
      c.args.self.now.setup.key,
      coming-next c.args.self.now c.args.session c.args.rec c.args.message c.in-Some-get_mut.held.now.state
          (place-state c.args.self.now c.as_slice.result.now c.self.inside.entries.items c.in-Some.index c.in-Some-get_mut.held.now c.args.session (c.as_slice.ensures.value ∙ entries) entries
          (subst (IsPlaceOf c.as_slice.result.now c.args.session) c.in-Some.is c.place_of.ensures) c.in-Some-get_mut.ensures.value) c.requires,
    )

pub unreachable-requires : goal.unreachable-requires
unreachable-requires c =
    let within = place-within c.as_slice.result.now c.args.session c.in-Some.index (subst (IsPlaceOf c.as_slice.result.now c.args.session) c.in-Some.is c.place_of.ensures) in
    let no = c.in-None-get_mut.ensures.variant.1 (omega (arith, within, c.as_slice.ensures.len)) in
    cc no

pub unreachable-requires-in-None : goal.unreachable-requires-in-None
unreachable-requires-in-None c =
    none-coming c.args.self.now c.as_slice.result.now c.args.session c.args.rec c.args.message (c.as_slice.ensures.value ∙ ap (λ (l : LogState). l.entries) c.self.view_is)
    (subst (IsPlaceOf c.as_slice.result.now c.args.session) c.in-None.is c.place_of.ensures) c.requires

pub returns-clause-holds : goal.returns-clause-holds
returns-clause-holds c = λ setup xs log h.
    let entries = ap (λ (l : LogState). l.entries) c.self.view_is in
    let s = c.args.session in
    let r = c.args.rec in
    let text = text_with c.args.message in
    let now = c.args.self.now in
    let held = c.in-Some-get_mut.held.now in
    let next = coming-next now s r c.args.message held.state
    (place-state c.args.self.now c.as_slice.result.now c.self.inside.entries.items c.in-Some.index c.in-Some-get_mut.held.now c.args.session (c.as_slice.ensures.value ∙ entries) entries
    (subst (IsPlaceOf c.as_slice.result.now c.args.session) c.in-Some.is c.place_of.ensures) c.in-Some-get_mut.ensures.value) c.requires in
    let at = found-at setup xs now _ c.self.view_is s r text log h c.as_slice.result.now c.in-Some.index held c.as_slice.ensures.value (subst (IsPlaceOf c.as_slice.result.now c.args.session) c.in-Some.is c.place_of.ensures) c.in-Some-get_mut.ensures.value in
    let there = state-there setup xs now _ c.self.view_is s r text log h c.in-Some.index held at.0 at.1 in
    let one = c.push.ensures.more (party_of setup) s xs there (subst (λ (t : Setup). IsNextOf held.state t.key r c.args.message) h.setup_is next) in
    state-added setup xs now _ c.self.view_is s r text log h c.in-Some.index held (record { session = held.session; state = c.push.new.self }) (Ok tt) at.0 at.1 refl one

pub returns-clause-state : goal.returns-clause-state
returns-clause-state c =
    let entries = ap (λ (l : LogState). l.entries) c.self.view_is in
    pushed-state c.args.self.now c.as_slice.result.now c.self.inside.entries.items c.in-Some.index c.in-Some-get_mut.held.now (record { session = c.in-Some-get_mut.held.now.session; state = c.push.new.self }) c.args.session c.args.rec c.args.message
    c.as_slice.ensures.value entries (subst (IsPlaceOf c.as_slice.result.now c.args.session) c.in-Some.is c.place_of.ensures) c.in-Some-get_mut.ensures.value refl c.push.ensures.state
