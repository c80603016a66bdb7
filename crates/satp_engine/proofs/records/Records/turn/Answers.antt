use Rattle.std.proofs.Common.{◌∙◌, inl, inr, refl, sym, ap}
use Rattle.satp_base.specs.Roles.{next_of}
use Rattle.satp_base.specs.declared.view.View.{View}
use Rattle.satp_sides.specs.DueLaws.{Rests}
use Rattle.satp_engine.proofs.records.Records.turn.Goals as goal

pub append-requires-clause-planned : goal.append-requires-clause-planned
append-requires-clause-planned g c =
    let p = c.requires.planned in
    let view = c.view-view.ensures p.state p.there in
    let due = ap (λ (v : View). next_of v.role v) (sym view) ∙ sym c.next.ensures ∙ c.in-Append.is in
    record { state = p.state; there = p.there; way_is = ap (λ (v : View). v.way) view; due = due; has = (p.covers.append c.in-Append.rec due).0; made = p.made }

pub operate-requires-clause-planned : goal.operate-requires-clause-planned
operate-requires-clause-planned g c =
    let p = c.requires.planned in
    let view = c.view-view.ensures p.state p.there in
    let due = ap (λ (v : View). next_of v.role v) (sym view) ∙ sym c.next.ensures ∙ c.in-Act.is in
    record { state = p.state; there = p.there; view_is = view; due = due; has = λ a m. (p.covers.act c.in-Act.op a due m).0; made = p.made }

pub returns-in-Wait-clause-answers : goal.returns-in-Wait-clause-answers
returns-in-Wait-clause-answers g c =
    let p = c.requires.planned in
    let view = c.view-view.ensures p.state p.there in
    let due = ap (λ (v : View). next_of v.role v) (sym view) ∙ sym c.next.ensures in
    let rests : Rests (next_of p.state.view.role p.state.view) = elim c.in-Wait.is [ inl e ↦ inl (due ∙ e) | inr e ↦ inr (due ∙ e) ] in
    (p.state, p.there, rests, refl, refl)

pub returns-in-Wait-clause-beside : goal.returns-in-Wait-clause-beside
returns-in-Wait-clause-beside g c = g.S.Device.beside_same c.args.site.now
