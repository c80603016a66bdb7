use Rattle.std.proofs.Common.{sym, ap, ◌∙◌, arith, inl, inr, ◌≡◌}
use Rattle.std.specs.Prelude.{slice_get}
use Rattle.std.proofs.lemmas.Bool.{cases_lt}
use Rattle.satp_log.proofs.Entries.{get-within, entry-at}
use Rattle.satp_log.proofs.Folds.{not-both}
use Rattle.satp_log.proofs.held.place_of.Goals as goal

pub returns-then-is_of : goal.returns-then-is_of
returns-then-is_of c =
    let (h, e) = entry-at c.args.entries.now c.loop-index.index (omega (arith, c.loop-index-test.true, c.loop-index.auto.index-end)) in
    (h, e, (c.is_of.ensures h e).0 c.if-is_of.true, λ j k w at. c.loop-index.invariant j k w at)

pub loop-index-preserved : goal.loop-index-preserved
loop-index-preserved c = λ i h w e q. elim (cases_lt i c.loop-index.index) [
  | inl lt ↦ c.loop-index.invariant i h lt e q
  | inr past ↦ (
      let here : i ≡ c.loop-index.index = omega (arith, w, past) in
      not-both c.is_of.result c.if-is_of.false ((c.is_of.ensures h (ap (slice_get c.args.entries.now) (sym here) ∙ e)).1 q))
]

pub returns : goal.returns
returns c = λ i h e q. let w = get-within c.args.entries.now i h e in c.loop-index.invariant i h (omega (arith, w, c.loop-index-test.false, c.loop-index.auto.index-end)) e q
