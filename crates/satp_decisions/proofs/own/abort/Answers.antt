use Rattle.std.proofs.Common.{◌≡◌, ◌∙◌, Some, ap, sym, subst}
use Rattle.std.specs.Prelude.{Ok}
use Rattle.satp_base.specs.declared.record.Rec.{Rec}
use Rattle.satp_base.specs.Roles.{IsReached, RoleRule, abort_of}
use Rattle.satp_base.specs.declared.view.View.{View}
use Rattle.satp_chain.specs.Chained.{texts_in}
use Rattle.satp_log.specs.Journals.{party_of}
use Rattle.satp_sides.specs.Calls.{Aborts}
use Rattle.satp_sides.specs.Points.{slot}
use Rattle.satp_points.specs.Deciding.{Decided}
use Rattle.satp_points.specs.declared.decision.Decision.TheVariants.{Works}
use Rattle.satp_points.specs.declared.decision.Replying.TheVariants.{Nothing}
use Rattle.satp_decisions.proofs.OwnLemmas.{abort-decided, abort-late, abort-rule, abort-strange}
use Rattle.satp_decisions.proofs.own.abort.Goals as goal

pub returns-in-Ok-clause-decides : goal.returns-in-Ok-clause-decides
returns-in-Ok-clause-decides c = λ setup xs h formed log.
    let state = c.in-Some.ensures.found setup xs h in
    let l = slot c.in-Some.state.now.view (texts_in c.in-Some.state.now.chain) in
    let given = sym (ap (λ (v : View). abort_of v.role v) c.view.ensures) ∙ sym c.abort_of.ensures.same ∙ c.in-Ok.is in
    let reached = subst (λ (v : View). IsReached v.role v) (sym c.view.ensures) state.sound.reached in
    let rule = subst (λ (v : View). (r : Rec) → abort_of v.role v ≡ Ok (Some r) → RoleRule v.role v r) c.view.ensures (c.abort_of.ensures.allowed reached) in
    subst (λ f. Decided (party_of setup) xs (Aborts c.args.session) (Works c.args.session f Nothing)) (sym c.noted.ensures)
    (abort-decided (party_of setup) xs log c.args.session l c.in-Ok.rec state.slot given (abort-rule l c.in-Ok.rec given rule))

pub returns-in-Err-clause-decides : goal.returns-in-Err-clause-decides
returns-in-Err-clause-decides c = λ setup xs h formed log.
    let state = c.in-Some.ensures.found setup xs h in
    let l = slot c.in-Some.state.now.view (texts_in c.in-Some.state.now.chain) in
    let given = sym (ap (λ (v : View). abort_of v.role v) c.view.ensures) ∙ sym c.abort_of.ensures.same ∙ c.in-Err.is in
    abort-late (party_of setup) xs log c.args.session l c.in-Err.late state.slot given

pub returns-in-None-clause-decides : goal.returns-in-None-clause-decides
returns-in-None-clause-decides c = λ setup xs h formed log. abort-strange (party_of setup) xs log c.args.session (c.in-None.ensures.found setup xs h)
