use Rattle.std.proofs.Common.{◌∙◌, arith, sym}
use Rattle.satp_money.proofs.Moves.{all_is}
use Rattle.satp_money.proofs.Steps.{sum_most}
use Rattle.satp_outputs.specs.States.{book_of}
use Rattle.satp_outputs.proofs.MoveLemmas.{pledged_fits}
use Rattle.satp_outputs.proofs.outputs.Outputs.total_of.Goals as goal

pub pledged_in-requires : goal.pledged_in-requires
pledged_in-requires c = record { fits = pledged_fits (book_of c.args.self.now) c.args.self.now.unspent.outputs.entries c.args.self.now.agrees c.args.asset }

pub overflow_add-result : goal.overflow_add-result
overflow_add-result c = omega (arith, c.free_sum_of.ensures ∙ sym (all_is _ _ _ c.args.self.now.agrees c.args.asset), c.pledged_in.ensures, sum_most _ _ _ c.args.asset c.args.self.now.agrees)
