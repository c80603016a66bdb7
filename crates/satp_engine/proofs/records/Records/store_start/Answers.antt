use Rattle.std.proofs.Common.{map, sym, subst}
use Rattle.std.specs.Prelude.{OnErr, OnOk}
use Rattle.satp_log.specs.Folding.{State}
use Rattle.satp_log.specs.Journals.{party_of}
use Rattle.satp_sides.specs.Points.{Appends}
use Rattle.satp_points.specs.States.{tells}
use Rattle.satp_engine.specs.Starting.{StartFits, start_records}
use Rattle.satp_engine.specs.Working.{Fails, HasState, Makes}
use Rattle.satp_engine.proofs.StartLemmas.{on-ok-then, record-stored}
use Rattle.satp_engine.proofs.records.Records.store_start.Goals as goal

pub returns-in-Record-clause-makes : goal.returns-in-Record-clause-makes
returns-in-Record-clause-makes g c =
    let old = c.args.self.now in
    let before = tells (g.S.Device.told c.args.site.now) (g.S.Device.book c.args.site.now) in
    let after = tells (g.S.Device.told c.store.new.site) (g.S.Device.book c.store.new.site) in
    subst (λ x. OnOk c.store.result (Makes (map Appends (start_records (party_of old.log.setup) c.args.session x)) old.journal.held before c.store.new.self.journal.held after)) (sym c.in-Record.is) c.store.ensures.makes

pub returns-in-Record-clause-fails : goal.returns-in-Record-clause-fails
returns-in-Record-clause-fails g c =
    let old = c.args.self.now in
    let before = tells (g.S.Device.told c.args.site.now) (g.S.Device.book c.args.site.now) in
    let after = tells (g.S.Device.told c.store.new.site) (g.S.Device.book c.store.new.site) in
    subst (λ x. OnErr c.store.result (Fails (map Appends (start_records (party_of old.log.setup) c.args.session x)) old.journal.held before after)) (sym c.in-Record.is) c.store.ensures.fails

pub returns-in-Record-clause-state : goal.returns-in-Record-clause-state
returns-in-Record-clause-state g c =
    let old = c.args.self.now in
    let s = c.args.session in
    subst (λ x. OnOk c.store.result ((after : State) → StartFits old.log s x after → HasState c.store.new.self.log s after)) (sym c.in-Record.is)
    (on-ok-then c.store.result _ _ (record-stored old.log c.store.new.self.log s c.in-Record.rec c.in-Record.message c.in-Record.payload) c.store.ensures.state)

pub returns-in-Session-clause-makes : goal.returns-in-Session-clause-makes
returns-in-Session-clause-makes g c =
    let old = c.args.self.now in
    let before = tells (g.S.Device.told c.args.site.now) (g.S.Device.book c.args.site.now) in
    let after = tells (g.S.Device.told c.store_session.new.site) (g.S.Device.book c.store_session.new.site) in
    subst (λ x. OnOk c.store_session.result (Makes (map Appends (start_records (party_of old.log.setup) c.args.session x)) old.journal.held before c.store_session.new.self.journal.held after)) (sym c.in-Session.is) c.store_session.ensures.makes

pub returns-in-Session-clause-fails : goal.returns-in-Session-clause-fails
returns-in-Session-clause-fails g c =
    let old = c.args.self.now in
    let before = tells (g.S.Device.told c.args.site.now) (g.S.Device.book c.args.site.now) in
    let after = tells (g.S.Device.told c.store_session.new.site) (g.S.Device.book c.store_session.new.site) in
    subst (λ x. OnErr c.store_session.result (Fails (map Appends (start_records (party_of old.log.setup) c.args.session x)) old.journal.held before after)) (sym c.in-Session.is) c.store_session.ensures.fails
