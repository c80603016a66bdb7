use Rattle.std.proofs.Common.{◌≡◌, ◌∙◌, Some, ap}
use Rattle.std.specs.Option.{option_copied}
use Rattle.satp_base.specs.declared.view.View.{View}
use Rattle.satp_sides.specs.Calls.{own_at}
use Rattle.satp_sides.specs.Points.{Slot, slot_in}
use Rattle.satp_decisions.proofs.RecoverLemmas.{ok-more, own-absent, own-copied, unnamed-absent}
use Rattle.satp_decisions.proofs.recovering.standing.Goals as goal

pub returns-then-is_own : goal.returns-then-is_own
returns-then-is_own c = λ setup xs h.
    let s = c.args.session in
    ok-more c.copied.result (λ copy. copy ≡ option_copied c.text.result) (λ text. (k : Slot) → slot_in s xs ≡ Some k → text ≡ own_at c.args.place k) c.copied.ensures
    (λ t e. own-copied xs s _ c.args.place c.view.result.now.role c.is_own.result (c.in-Some.ensures.found setup xs h).slot (ap (λ (v : View). v.role) c.view.ensures) c.is_own.ensures t c.if-is_own.true (e ∙ c.text.ensures setup xs h))

pub returns-else-is_own : goal.returns-else-is_own
returns-else-is_own c = λ setup xs h.
    own-absent xs c.args.session _ c.args.place c.view.result.now.role c.is_own.result (c.in-Some.ensures.found setup xs h).slot (ap (λ (v : View). v.role) c.view.ensures) c.is_own.ensures c.if-is_own.false

pub returns-in-None : goal.returns-in-None
returns-in-None c = λ setup xs h. unnamed-absent xs c.args.session c.args.place (c.in-None.ensures.found setup xs h)
