use Rattle.std.proofs.Common.{◌∙◌, ap}
use Rattle.satp_base.specs.Views.{push}
use Rattle.satp_log.specs.Folding.{state_with}
use Rattle.satp_engine.proofs.Provisions.{chain-is, coming-of, coming-state, nothing-fits, provides-at, pushed-sound, record-fits, rule-at, session-of, some-state, sound-at, state-sound, taken-follows, tale-at}
use Rattle.satp_engine.proofs.StartLemmas.{ok-then}
use Rattle.satp_engine.proofs.records.Records.provide.Goals as goal

pub state-state-requires : goal.state-state-requires
state-state-requires c = some-state c.args.self.now.log c.args.session c.args.start.now c.in-Nothing.is c.requires.fits

pub provide_at-requires-clause-sound : goal.provide_at-requires-clause-sound
provide_at-requires-clause-sound c =
    let state = c.state-state.result.now in
    sound-at c.view.result.now c.chain.result.now state c.view.ensures c.chain.ensures (state-sound c.args.self.now c.args.session state c.requires.kept c.state-state.ensures)

pub state-state-requires-in-Record : goal.state-state-requires-in-Record
state-state-requires-in-Record c = coming-state c.args.self.now.log c.args.session c.args.start.now c.in-Record.rec c.in-Record.message c.in-Record.payload c.in-Record.is c.requires.fits

pub push-requires-clause-allowed : goal.push-requires-clause-allowed
push-requires-clause-allowed c =
    let log = c.args.self.now.log in
    let coming = coming-of log c.args.session c.args.start.now c.in-Record.rec c.in-Record.message c.in-Record.payload c.in-Record.is c.requires.fits in
    rule-at log c.args.session c.in-Record.rec c.in-Record.message c.state-state-in-Record.result.now coming c.state-state-in-Record.ensures c.view-in-Record.result.now c.view-in-Record.ensures

pub push-requires-clause-tale : goal.push-requires-clause-tale
push-requires-clause-tale c =
    let log = c.args.self.now.log in
    let state = c.state-state-in-Record.result.now in
    let coming = coming-of log c.args.session c.args.start.now c.in-Record.rec c.in-Record.message c.in-Record.payload c.in-Record.is c.requires.fits in
    tale-at log c.args.session c.in-Record.rec c.in-Record.message state coming c.state-state-in-Record.ensures c.view-in-Record.result.now c.view-in-Record.ensures
    (state-sound c.args.self.now c.args.session state c.requires.kept c.state-state-in-Record.ensures)

pub provide_at-requires-in-Record-clause-sound : goal.provide_at-requires-in-Record-clause-sound
provide_at-requires-in-Record-clause-sound c =
    let log = c.args.self.now.log in
    let state = c.state-state-in-Record.result.now in
    let coming = coming-of log c.args.session c.args.start.now c.in-Record.rec c.in-Record.message c.in-Record.payload c.in-Record.is c.requires.fits in
    pushed-sound log c.args.session c.in-Record.rec c.in-Record.message state coming c.state-state-in-Record.ensures c.push.new.self c.view-in-Record.result.now c.chain-in-Record.result.now _ c.view-in-Record.ensures c.push.ensures c.chain-in-Record.ensures c.as_ref.ensures.value
    (state-sound c.args.self.now c.args.session state c.requires.kept c.state-state-in-Record.ensures)

pub provide_at-requires-in-Record-clause-taken : goal.provide_at-requires-in-Record-clause-taken
provide_at-requires-in-Record-clause-taken c =
    let log = c.args.self.now.log in
    let coming = coming-of log c.args.session c.args.start.now c.in-Record.rec c.in-Record.message c.in-Record.payload c.in-Record.is c.requires.fits in
    taken-follows log c.args.session c.in-Record.rec c.in-Record.message c.state-state-in-Record.result.now coming c.state-state-in-Record.ensures c.chain-in-Record.result.now _ c.chain-in-Record.ensures c.as_ref.ensures.value

pub returns-in-Nothing : goal.returns-in-Nothing
returns-in-Nothing c =
    let log = c.args.self.now.log in
    let state = c.state-state.result.now in
    let fits = nothing-fits log c.args.session c.args.start.now state c.in-Nothing.is c.state-state.ensures in
    ok-then c.provide_at.result _ _
    (provides-at log c.args.session c.args.start.now c.args.replying state fits c.key-key.result.now c.view.result.now c.chain.result.now c.key-key.ensures c.view.ensures c.chain.ensures) c.provide_at.ensures

pub returns-in-Record : goal.returns-in-Record
returns-in-Record c =
    let log = c.args.self.now.log in
    let s = c.args.session in
    let rec = c.in-Record.rec in
    let message = c.in-Record.message in
    let state = c.state-state-in-Record.result.now in
    let coming = coming-of log s c.args.start.now rec message c.in-Record.payload c.in-Record.is c.requires.fits in
    let fits = record-fits log s c.args.start.now rec message c.in-Record.payload state c.in-Record.is c.state-state-in-Record.ensures c.requires.fits in
    ok-then c.provide_at-in-Record.result _ _
    (provides-at log s c.args.start.now c.args.replying (state_with state rec message) fits c.key-key.result.now c.push.new.self _ c.key-key.ensures (c.push.ensures ∙ ap (λ v. push v rec) c.view-in-Record.ensures)
    (chain-is log s rec message state coming c.state-state-in-Record.ensures c.chain-in-Record.result.now _ c.chain-in-Record.ensures c.as_ref.ensures.value)) c.provide_at-in-Record.ensures

pub returns-in-Session : goal.returns-in-Session
returns-in-Session c =
    let log = c.args.self.now.log in
    let s = c.args.session in
    let state = c.in-Session.state in
    let (fits, sound) = session-of log s c.args.start.now c.in-Session.role c.in-Session.terms state c.in-Session.payload c.in-Session.is c.requires.fits in
    ok-then c.provide_at-in-Session.result _ _
    (provides-at log s c.args.start.now c.args.replying state fits c.key-key.result.now c.view-in-Session.result.now c.chain-in-Session.result.now c.key-key.ensures c.view-in-Session.ensures c.chain-in-Session.ensures) c.provide_at-in-Session.ensures
