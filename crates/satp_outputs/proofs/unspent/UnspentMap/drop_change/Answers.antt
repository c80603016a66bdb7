use Rattle.std.proofs.Common.{◌∙◌, sym}
use Rattle.satp_outputs.proofs.OutputLemmas.{popped}
use Rattle.satp_outputs.proofs.unspent.UnspentMap.drop_change.Goals as goal

pub overflow_sub-self : goal.overflow_sub-self
overflow_sub-self c = (popped c.args.self.now.outputs.entries c.pop_last.new.self.entries c.pop_last.result c.args.self.now.next c.pop_last.ensures.removal c.pop_last.ensures.all_below (sym c.if-is_some.true ∙ c.is_some.ensures) c.args.self.now.below).0

pub invariant_of-self : goal.invariant_of-self
invariant_of-self c = record {
  below = (popped c.args.self.now.outputs.entries c.pop_last.new.self.entries c.pop_last.result c.args.self.now.next c.pop_last.ensures.removal c.pop_last.ensures.all_below (sym c.if-is_some.true ∙ c.is_some.ensures) c.args.self.now.below).1;
}
