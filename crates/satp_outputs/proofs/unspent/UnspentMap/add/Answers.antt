use Rattle.std.proofs.Common.{◌<◌, ◌∙◌, ◌+◌, All, List, ap, subst, sym}
use Rattle.satp_money.proofs.Steps.{from_ok}
use Rattle.satp_outputs.specs.Unspent.{Numbered}
use Rattle.satp_outputs.proofs.OutputLemmas.{below_more, insert_last}
use Rattle.satp_outputs.proofs.unspent.UnspentMap.add.Goals as goal

pub invariant_of-self-2 : goal.invariant_of-self-2
invariant_of-self-2 c = record {
  below = subst (λ (es : List Numbered). All (λ (e : Numbered). e.0 < c.args.self.now.next + 1) es)
      (sym (from_ok c.insert.result _ c.if-is_err.ensures.value c.insert.ensures.entries ∙ insert_last c.args.self.now.outputs.entries c.args.self.now.next c.args.output c.args.self.now.below))
      (below_more c.args.self.now.outputs.entries c.args.self.now.next c.args.output c.args.self.now.below);
}

pub returns-clause-ok : goal.returns-clause-ok
returns-clause-ok c =
    ap (λ (es : List Numbered). record { outputs = es; next = c.args.self.now.next + 1 })
    (from_ok c.insert.result _ c.if-is_err.ensures.value c.insert.ensures.entries ∙ insert_last c.args.self.now.outputs.entries c.args.self.now.next c.args.output c.args.self.now.below)
